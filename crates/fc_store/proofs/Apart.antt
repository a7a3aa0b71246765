-- Changes at different instances.
use Rattle.std.proofs.Common.{◌≡◌, ℕ, List, slice_get, refl, sym, ap, ◌∙◌, Option, Some, None, Result, Ok, Err}
use Rattle.fc_base.specs.Answers.{◌>>=◌}
use Rattle.fc_path.specs.declared.oper.Spot.{Spot}
use Rattle.fc_tree.specs.Finding.{no_component}
use Rattle.fc_types.specs.Components.{ComponentDecl}
use Rattle.fc_value.specs.declared.value.Value.{Value}
use Rattle.fc_store.specs.Scopes.{at_one}
use Rattle.fc_store.specs.Spots.{resolved}
use Rattle.fc_store.specs.Stores.{AreApart, Change, Stored, changed, changed_at, declared_in, then_changed, value_in, value_of, with_component, with_value}
use Rattle.fc_store.specs.declared.spots.Purpose.TheVariants as purpose
use Rattle.fc_store.proofs.Lists.{apart, get_other, some_is}
use Rattle.fc_store.proofs.Doing.{err_ok, leads, ok_is}

abbrev resolves : Spot → Stored → Result (ℕ × ℕ) ℕ
resolves a s = resolved purpose.Write s.library s.instances a.class a.instance a.steps

abbrev declares : Spot → Stored → ℕ × ℕ → Option ComponentDecl
declares a s place = slice_get (declared_in s.library a.class) place.1

abbrev goes : Change → Spot → Stored → ℕ × ℕ → Result Stored ℕ
goes f a s place = changed_at f s place (declares a s place)

abbrev makes : Change → Stored → ℕ × ℕ → ComponentDecl → Result (Option Value) ℕ
makes f s place d = f d (value_in s place)

abbrev puts : Stored → ℕ × ℕ → Option Value → Result Stored ℕ
puts s place v = Ok (with_value s place v)

-- a change that is made
pub record Made (f : Change) (a : Spot) (s t : Stored) : Type 0 where
  pub place : ℕ × ℕ
  pub d : ComponentDecl
  pub v : Option Value
  pub leads : resolves a s ≡ Ok place
  pub declared : declares a s place ≡ Some d
  pub gives : makes f s place d ≡ Ok v
  pub is : t ≡ with_value s place v

made_of : (f : Change) (a : Spot) (s t : Stored) (place : ℕ × ℕ) (d : ComponentDecl) (r : Result (Option Value) ℕ) → resolves a s ≡ Ok place → declares a s place ≡ Some d → makes f s place d ≡ r
    → (r >>= puts s place) ≡ Ok t → Made f a s t
made_of f a s t place d (Err code) l e m g = absurd (err_ok code t g)
made_of f a s t place d (Ok v) l e m g = record { place = place; d = d; v = v; leads = l; declared = e; gives = m; is = sym (ok_is (with_value s place v) t g) }

made_in : (f : Change) (a : Spot) (s t : Stored) (place : ℕ × ℕ) (o : Option ComponentDecl) → resolves a s ≡ Ok place → declares a s place ≡ o → changed_at f s place o ≡ Ok t → Made f a s t
made_in f a s t place None l e g = absurd (err_ok no_component t g)
made_in f a s t place (Some d) l e g = made_of f a s t place d (makes f s place d) l e refl g

made_at : (f : Change) (a : Spot) (s t : Stored) (r : Result (ℕ × ℕ) ℕ) → resolves a s ≡ r → (r >>= goes f a s) ≡ Ok t → Made f a s t
made_at f a s t (Err code) l g = absurd (err_ok code t g)
made_at f a s t (Ok place) l g = made_in f a s t place (declares a s place) l refl g

pub made : (f : Change) (a : Spot) (s t : Stored) → changed f a s ≡ Ok t → Made f a s t
made f a s t g = made_at f a s t (resolves a s) refl g

-- the places of spots at different instances differ
places_apart : (a b : Spot) (s : Stored) (i j : ℕ × ℕ) → AreApart a b → resolves a s ≡ Ok i → resolves b s ≡ Ok j → i.0 ≡ j.0 → ⊥
places_apart a b s i j ne e f same =
    let l = leads purpose.Write s.library s.instances a.class a.instance a.steps i e in
    let m = leads purpose.Write s.library s.instances b.class b.instance b.steps j f in
    let q : l.0 ≡ m.0 = some_is l.0 m.0 (sym l.1 ∙ ap (slice_get s.instances) same ∙ m.1) in
    ne (sym l.2.0 ∙ ap (λ (p : ℕ × ℕ). p.0) q ∙ m.2.0) (sym l.2.1 ∙ ap (λ (p : ℕ × ℕ). p.1) q ∙ m.2.1)

at_other : {A : Type 0} (f : A → A) (xs : List A) (i j : ℕ) (o : Option A) → (i ≡ j → ⊥) → slice_get (at_one f i xs o) j ≡ slice_get xs j
at_other f xs i j None ne = refl
at_other f xs i j (Some x) ne = get_other xs i j (f x) ne

pub value_apart : (s : Stored) (i j : ℕ × ℕ) (v : Option Value) → (i.0 ≡ j.0 → ⊥) → value_in (with_value s i v) j ≡ value_in s j
value_apart s i j v ne = ap (value_of j.1) (at_other (with_component i.1 v) s.trees i.0 j.0 (slice_get s.trees i.0) ne)

with_apart : (s : Stored) (i j : ℕ × ℕ) (v w : Option Value) → (i.0 ≡ j.0 → ⊥) → with_value (with_value s i v) j w ≡ with_value (with_value s j w) i v
with_apart s i j v w ne =
    let p = apart (with_component i.1 v) (with_component j.1 w) i.0 j.0 s.trees ne in
    λ k. record { library = s.library; instances = s.instances; trees = p k }

-- the first change, made after the other one
made_after : (f : Change) (a : Spot) (s t : Stored) (m : Made f a s t) (j : ℕ × ℕ) (w : Option Value) → (m.place.0 ≡ j.0 → ⊥) → changed f a (with_value s j w) ≡ Ok (with_value (with_value s j w) m.place m.v)
made_after f a s t m j w ne =
    ap (λ r. r >>= goes f a (with_value s j w)) m.leads ∙ ap (changed_at f (with_value s j w) m.place) m.declared
    ∙ ap (λ v. f m.d v >>= puts (with_value s j w) m.place) (value_apart s j m.place w (λ e. ne (sym e))) ∙ ap (λ r. r >>= puts (with_value s j w) m.place) m.gives

apart_of : (f g : Change) (a b : Spot) (s t : Stored) (m : Made f a s t) (j : ℕ × ℕ) (r : Result (Option Value) ℕ) → (m.place.0 ≡ j.0 → ⊥)
    → (r >>= puts (with_value s m.place m.v) j) ≡ then_changed f a (r >>= puts s j)
apart_of f g a b s t m j (Err code) ne = refl
apart_of f g a b s t m j (Ok w) ne = ap Ok (with_apart s m.place j m.v w ne) ∙ sym (made_after f a s t m j w ne)

apart_in : (f g : Change) (a b : Spot) (s t : Stored) (m : Made f a s t) (j : ℕ × ℕ) (o : Option ComponentDecl) → (m.place.0 ≡ j.0 → ⊥)
    → changed_at g (with_value s m.place m.v) j o ≡ then_changed f a (changed_at g s j o)
apart_in f g a b s t m j None ne = refl
apart_in f g a b s t m j (Some d) ne =
    ap (λ v. g d v >>= puts (with_value s m.place m.v) j) (value_apart s m.place j m.v ne) ∙ apart_of f g a b s t m j (makes g s j d) ne

apart_at : (f g : Change) (a b : Spot) (s t : Stored) (m : Made f a s t) (r : Result (ℕ × ℕ) ℕ) → AreApart a b → resolves b s ≡ r
    → (r >>= goes g b (with_value s m.place m.v)) ≡ then_changed f a (r >>= goes g b s)
apart_at f g a b s t m (Err code) ne e = refl
apart_at f g a b s t m (Ok j) ne e = apart_in f g a b s t m j (declares b s j) (places_apart a b s m.place j ne m.leads e)

pub changes_apart : (f g : Change) (a b : Spot) (s t : Stored) → AreApart a b → changed f a s ≡ Ok t → changed g b t ≡ then_changed f a (changed g b s)
changes_apart f g a b s t ne e =
    let m = made f a s t e in
    ap (changed g b) m.is ∙ apart_at f g a b s t m (resolves b s) ne refl
