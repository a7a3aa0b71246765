-- What a change at one instance leaves at another.
use Rattle.std.proofs.Common.{◌≡◌, ℕ, slice_get, refl, sym, ap, ◌∙◌, Option, Some, None, Result, Ok, Err}
use Rattle.fc_base.specs.Answers.{◌>>=◌}
use Rattle.fc_path.specs.declared.oper.Spot.{Spot}
use Rattle.fc_types.specs.Components.{ComponentDecl}
use Rattle.fc_value.specs.declared.value.Value.{Value}
use Rattle.fc_instance.specs.Cells.{look_cell}
use Rattle.fc_store.specs.Spots.{resolved}
use Rattle.fc_store.specs.Stores.{AreApart, Change, Stored, changed, changed_at, declared_in, further, seen, seen_at, then_changed, with_value}
use Rattle.fc_store.specs.declared.spots.Purpose.{Purpose}
use Rattle.fc_store.specs.declared.spots.Purpose.TheVariants as purpose
use Rattle.fc_store.proofs.Apart.{Made, changes_apart, made, value_apart}
use Rattle.fc_store.proofs.Doing.{leads}
use Rattle.fc_store.proofs.Lists.{some_is}

-- the places of spots at different instances differ
pub places_apart : (p q : Purpose) (a b : Spot) (s : Stored) (i j : ℕ × ℕ) → AreApart a b → resolved p s.library s.instances a.class a.instance a.steps ≡ Ok i
    → resolved q s.library s.instances b.class b.instance b.steps ≡ Ok j → i.0 ≡ j.0 → ⊥
places_apart p q a b s i j ne e f same =
    let l = leads p s.library s.instances a.class a.instance a.steps i e in
    let m = leads q s.library s.instances b.class b.instance b.steps j f in
    let k : l.0 ≡ m.0 = some_is l.0 m.0 (sym l.1 ∙ ap (slice_get s.instances) same ∙ m.1) in
    ne (sym l.2.0 ∙ ap (λ (n : ℕ × ℕ). n.0) k ∙ m.2.0) (sym l.2.1 ∙ ap (λ (n : ℕ × ℕ). n.1) k ∙ m.2.1)

-- what was done at the other instance may still be done
again : (g : Change) (b : Spot) (s u : Stored) (n : Made g b s u) (i : ℕ × ℕ) (v : Option Value) → (i.0 ≡ n.place.0 → ⊥) → changed g b (with_value s i v) ≡ Ok (with_value (with_value s i v) n.place n.v)
again g b s u n i v ne =
    ap (λ r. r >>= λ place. changed_at g (with_value s i v) place (slice_get (declared_in s.library b.class) place.1)) n.leads
    ∙ ap (changed_at g (with_value s i v) n.place) n.declared
    ∙ ap (λ o. g n.d o >>= λ w. Ok (with_value (with_value s i v) n.place w)) (value_apart s i n.place v ne)
    ∙ ap (λ r. r >>= λ w. Ok (with_value (with_value s i v) n.place w)) n.gives

pub may_still : (f g : Change) (a b : Spot) (s t u : Stored) → AreApart a b → changed f a s ≡ Ok t → changed g b s ≡ Ok u → (w : Stored) × (changed g b t ≡ Ok w)
may_still f g a b s t u ne e h =
    let m = made f a s t e in
    let n = made g b s u h in
    let d : m.place.0 ≡ n.place.0 → ⊥ = places_apart purpose.Write purpose.Write a b s m.place n.place ne m.leads n.leads in
    (with_value (with_value s m.place m.v) n.place n.v, ap (changed g b) m.is ∙ again g b s u n m.place m.v d)

pub refused_still : (f g : Change) (a b : Spot) (s t : Stored) (code : ℕ) → AreApart a b → changed f a s ≡ Ok t → changed g b s ≡ Err code → changed g b t ≡ Err code
refused_still f g a b s t code ne e h = changes_apart f g a b s t ne e ∙ ap (then_changed f a) h

-- what is seen at the other instance
seen_by : (b : Spot) (s : Stored) (i j : ℕ × ℕ) (v : Option Value) (o : Option ComponentDecl) → (i.0 ≡ j.0 → ⊥) → seen_at b (with_value s i v) j o ≡ seen_at b s j o
seen_by b s i j v None ne = refl
seen_by b s i j v (Some d) ne = ap (look_cell (further b.steps) d.ty) (value_apart s i j v ne)

seen_in : (p : Purpose) (a b : Spot) (s : Stored) (i : ℕ × ℕ) (v : Option Value) (r : Result (ℕ × ℕ) ℕ) → AreApart a b → resolved purpose.Write s.library s.instances a.class a.instance a.steps ≡ Ok i
    → resolved p s.library s.instances b.class b.instance b.steps ≡ r
    → (r >>= λ place. seen_at b (with_value s i v) place (slice_get (declared_in s.library b.class) place.1)) ≡ (r >>= λ place. seen_at b s place (slice_get (declared_in s.library b.class) place.1))
seen_in p a b s i v (Err code) ne e f = refl
seen_in p a b s i v (Ok j) ne e f = seen_by b s i j v (slice_get (declared_in s.library b.class) j.1) (places_apart purpose.Write p a b s i j ne e f)

pub seen_still : (f : Change) (p : Purpose) (a b : Spot) (s t : Stored) → AreApart a b → changed f a s ≡ Ok t → seen p b t ≡ seen p b s
seen_still f p a b s t ne e =
    let m = made f a s t e in
    ap (seen p b) m.is ∙ seen_in p a b s m.place m.v (resolved p s.library s.instances b.class b.instance b.steps) ne m.leads refl
