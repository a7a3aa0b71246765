-- What is seen in a component that was changed, and beside it.
use Rattle.std.proofs.Common.{◌≡◌, ℕ, ◌==◌, ◌&&◌, Bool, true, false, List, slice_get, refl, sym, ap, subst, ◌∙◌, arith, Option, Some, None, find, position, Result, Ok, Err, if◌then◌else◌}
use Rattle.std.proofs.lemmas.Bool.Decides.{nat_tests}
use Rattle.fc_base.specs.Answers.{◌>>=◌}
use Rattle.fc_path.specs.declared.oper.Spot.{Spot}
use Rattle.fc_path.specs.declared.oper.Step.{Step}
use Rattle.fc_tree.specs.Finding.{no_component, or_code}
use Rattle.fc_types.specs.Components.{ComponentDecl}
use Rattle.fc_types.specs.declared.class.Class.{Class}
use Rattle.fc_value.specs.declared.value.Value.{Value}
use Rattle.fc_instance.specs.Cells.{look_cell}
use Rattle.fc_store.specs.Scopes.{at_one}
use Rattle.fc_store.specs.Spots.{allowed_at, component_place, event_error, first_id, in_class, is_event_base, no_event, paired, place_in_class, placed, resolved, unknown_class, unknown_instance}
use Rattle.fc_store.specs.Stores.{Change, IsWhole, IsWholeTree, Stored, Tree, changed, components_of, declared_in, further, present, seen, seen_at, value_in, value_of, with_component, with_value}
use Rattle.fc_store.specs.declared.spots.Purpose.{Purpose}
use Rattle.fc_store.specs.declared.spots.Purpose.TheVariants as purpose
use Rattle.fc_store.proofs.Apart.{Made, made, value_apart}
use Rattle.fc_store.proofs.Doing.{err_ok, leads}
use Rattle.fc_store.proofs.Found.{by_component, by_pair}
use Rattle.fc_store.proofs.Lists.{at_position, get_other, get_set, pair_length, pair_weaker, some_is}
use Rattle.fc_store.proofs.PutFound.{value_put}
use Rattle.fc_configuration.specs.Fitting.{AreFitting, FitsComponent, IsFitting}
use Rattle.fc_configuration.specs.Sites.{AreElsewhere}

abbrev resolves : Purpose → Stored → Spot → Result (ℕ × ℕ) ℕ
resolves p s a = resolved p s.library s.instances a.class a.instance a.steps

is_same : (a b : ℕ) → (a == b) ≡ true → a ≡ b
is_same a b e = grind (arith, nat_tests, e)

not_same : (a b : ℕ) → (a == b) ≡ false → a ≡ b → ⊥
not_same a b e s = let t : (a == b) ≡ true = grind (arith, nat_tests, s) in cc

record Begins (components : List ComponentDecl) (r : Result ℕ ℕ) (c : ℕ) : Type 0 where
  id : ℕ
  first : r ≡ Ok id
  d : ComponentDecl
  there : slice_get components c ≡ Some d
  named : d.id ≡ id

begins_at : (p : Purpose) (class : Class) (id c : ℕ) (o : Option ℕ) → position (λ (d : ComponentDecl). d.id == id) class.components ≡ o
    → placed p class.id (find (λ (d : ComponentDecl). d.id == id) class.components) o ≡ Ok c → Begins class.components (Ok id) c
begins_at p class id c None f e = absurd (err_ok no_component c e)
begins_at p class id c (Some i) f e =
    let m = at_position (λ (d : ComponentDecl). d.id == id) class.components i f in
    let n = by_component p class.id (find (λ (d : ComponentDecl). d.id == id) class.components) i c e in
    record { id = id; first = refl; d = m.0; there = ap (slice_get class.components) (sym n) ∙ m.1; named = is_same m.0.id id m.2 }

begins_past : (p : Purpose) (class : Class) (id c : ℕ) (b : Bool) → (let r : Result ℕ ℕ = if b then Err event_error else Ok id in (r >>= component_place p class.id class.components) ≡ Ok c) → Begins class.components (Ok id) c
begins_past p class id c true e = absurd (err_ok event_error c e)
begins_past p class id c false e = begins_at p class id c (position (λ (d : ComponentDecl). d.id == id) class.components) refl e

begins_in : (p : Purpose) (class : Class) (r : Result ℕ ℕ) (c : ℕ) → ((r >>= no_event class.event_base) >>= component_place p class.id class.components) ≡ Ok c → Begins class.components r c
begins_in p class (Err code) c e = absurd (err_ok code c e)
begins_in p class (Ok id) c e = begins_past p class id c (is_event_base class.event_base id) e

begins_instance : (p : Purpose) (class : Class) (ss : List Step) (o : Option ℕ) (place : ℕ × ℕ) → (or_code unknown_instance o >>= λ i. paired i (place_in_class p class ss)) ≡ Ok place
    → Begins class.components (first_id ss) place.1
begins_instance p class ss None place e = absurd (err_ok unknown_instance place e)
begins_instance p class ss (Some i) place e = begins_in p class (first_id ss) place.1 (by_pair i (place_in_class p class ss) place e)

begins_class : (p : Purpose) (library : List Class) (pairs : List (ℕ × ℕ)) (k n : ℕ) (ss : List Step) (o : Option Class) (place : ℕ × ℕ) → find (λ (class : Class). class.id == k) library ≡ o
    → (or_code unknown_class o >>= in_class p pairs n ss) ≡ Ok place → Begins (declared_in library k) (first_id ss) place.1
begins_class p library pairs k n ss None place f e = absurd (err_ok unknown_class place e)
begins_class p library pairs k n ss (Some class) place f e =
    subst (λ o. Begins (components_of o) (first_id ss) place.1) (sym f) (begins_instance p class ss (position (λ (q : ℕ × ℕ). (q.0 == class.id) && (q.1 == n)) pairs) place e)

begins : (p : Purpose) (library : List Class) (pairs : List (ℕ × ℕ)) (k n : ℕ) (ss : List Step) (place : ℕ × ℕ) → resolved p library pairs k n ss ≡ Ok place → Begins (declared_in library k) (first_id ss) place.1
begins p library pairs k n ss place e = begins_class p library pairs k n ss (find (λ (class : Class). class.id == k) library) place refl e

-- by the first step alone
first_only : (p : Purpose) (library : List Class) (pairs : List (ℕ × ℕ)) (k n : ℕ) (ss ts : List Step) → first_id ss ≡ first_id ts → resolved p library pairs k n ss ≡ resolved p library pairs k n ts
first_only p library pairs k n ss ts e =
    ap (λ r. or_code unknown_class (find (λ (c : Class). c.id == k) library)
    >>= λ (class : Class). or_code unknown_instance (position (λ (q : ℕ × ℕ). (q.0 == class.id) && (q.1 == n)) pairs)
    >>= λ i. paired i ((r >>= no_event class.event_base) >>= component_place p class.id class.components)) e

-- ---- another component of the instance
component_other : (c d : ℕ) (v : Option Value) (trees : List Tree) (i : ℕ) (o : Option Tree) → (c ≡ d → ⊥) → slice_get trees i ≡ o
    → value_of d (slice_get (at_one (with_component c v) i trees o) i) ≡ value_of d o
component_other c d v trees i None ne e = ap (value_of d) e
component_other c d v trees i (Some t) ne e = ap (value_of d) (get_set trees i t (with_component c v t) e) ∙ ap present (get_other t.now c d v ne)

value_other : (s : Stored) (i : ℕ) (c d : ℕ) (v : Option Value) → (c ≡ d → ⊥) → value_in (with_value s (i, c) v) (i, d) ≡ value_in s (i, d)
value_other s i c d v ne = component_other c d v s.trees i (slice_get s.trees i) ne refl

-- ---- what is seen in the component that was changed
-- where two spots are at one component, what is seen behind the second stays
abbrev pub Stays : (f : Change) (a b : Spot) (s t : Stored) → Made f a s t → Type 0
Stays f a b s t m =
    a.class ≡ b.class → a.instance ≡ b.instance → first_id a.steps ≡ first_id b.steps
    → look_cell (further b.steps) m.d.ty (value_in (with_value s m.place m.v) m.place) ≡ look_cell (further b.steps) m.d.ty (value_in s m.place)

same_place : (f : Change) (p : Purpose) (a b : Spot) (s t : Stored) (m : Made f a s t) (d : ComponentDecl) → Stays f a b s t m → resolves p s b ≡ Ok m.place
    → slice_get (declared_in s.library b.class) m.place.1 ≡ Some d
    → look_cell (further b.steps) d.ty (value_in (with_value s m.place m.v) m.place) ≡ look_cell (further b.steps) d.ty (value_in s m.place)
same_place f p a b s t m d stays e g =
    let l = leads purpose.Write s.library s.instances a.class a.instance a.steps m.place m.leads in
    let k = leads p s.library s.instances b.class b.instance b.steps m.place e in
    let q : l.0 ≡ k.0 = some_is l.0 k.0 (sym l.1 ∙ k.1) in
    let class : a.class ≡ b.class = sym l.2.0 ∙ ap (λ (r : ℕ × ℕ). r.0) q ∙ k.2.0 in
    let instance : a.instance ≡ b.instance = sym l.2.1 ∙ ap (λ (r : ℕ × ℕ). r.1) q ∙ k.2.1 in
    let n = begins purpose.Write s.library s.instances a.class a.instance a.steps m.place m.leads in
    let o = begins p s.library s.instances b.class b.instance b.steps m.place e in
    let same : n.d ≡ o.d = some_is n.d o.d (sym n.there ∙ ap (λ c. slice_get (declared_in s.library c) m.place.1) class ∙ o.there) in
    let ids : n.id ≡ o.id = sym n.named ∙ ap (λ (x : ComponentDecl). x.id) same ∙ o.named in
    let first : first_id a.steps ≡ first_id b.steps = n.first ∙ ap Ok ids ∙ sym o.first in
    let md : m.d ≡ d = some_is m.d d (sym m.declared ∙ ap (λ c. slice_get (declared_in s.library c) m.place.1) class ∙ g) in
    subst (λ (x : ComponentDecl). look_cell (further b.steps) x.ty (value_in (with_value s m.place m.v) m.place) ≡ look_cell (further b.steps) x.ty (value_in s m.place)) md
    (stays class instance first)

by_places : (f : Change) (p : Purpose) (a b : Spot) (s t : Stored) (m : Made f a s t) (q : ℕ × ℕ) (d : ComponentDecl) (x y : Bool) → Stays f a b s t m → resolves p s b ≡ Ok q
    → slice_get (declared_in s.library b.class) q.1 ≡ Some d → (m.place.0 == q.0) ≡ x → (m.place.1 == q.1) ≡ y
    → look_cell (further b.steps) d.ty (value_in (with_value s m.place m.v) q) ≡ look_cell (further b.steps) d.ty (value_in s q)
by_places f p a b s t m q d false y stays e g h k = ap (look_cell (further b.steps) d.ty) (value_apart s m.place q m.v (not_same m.place.0 q.0 h))
by_places f p a b s t m q d true false stays e g h k =
    let i : m.place.0 ≡ q.0 = is_same m.place.0 q.0 h in
    ap (look_cell (further b.steps) d.ty)
    (subst (λ n. value_in (with_value s m.place m.v) (n, q.1) ≡ value_in s (n, q.1)) i (value_other s m.place.0 m.place.1 q.1 m.v (not_same m.place.1 q.1 k)))
by_places f p a b s t m q d true true stays e g h k =
    let i : m.place ≡ q = λ n. (is_same m.place.0 q.0 h n, is_same m.place.1 q.1 k n) in
    subst (λ (r : ℕ × ℕ). look_cell (further b.steps) d.ty (value_in (with_value s m.place m.v) r) ≡ look_cell (further b.steps) d.ty (value_in s r)) i
    (same_place f p a b s t m d stays (e ∙ sym (ap Ok i)) (ap (λ (r : ℕ × ℕ). slice_get (declared_in s.library b.class) r.1) i ∙ g))

by_declared : (f : Change) (p : Purpose) (a b : Spot) (s t : Stored) (m : Made f a s t) (q : ℕ × ℕ) (o : Option ComponentDecl) → Stays f a b s t m → resolves p s b ≡ Ok q
    → slice_get (declared_in s.library b.class) q.1 ≡ o → seen_at b (with_value s m.place m.v) q o ≡ seen_at b s q o
by_declared f p a b s t m q None stays e g = refl
by_declared f p a b s t m q (Some d) stays e g = by_places f p a b s t m q d (m.place.0 == q.0) (m.place.1 == q.1) stays e g refl refl

by_resolved : (f : Change) (p : Purpose) (a b : Spot) (s t : Stored) (m : Made f a s t) (r : Result (ℕ × ℕ) ℕ) → Stays f a b s t m → resolves p s b ≡ r
    → (r >>= λ (q : ℕ × ℕ). seen_at b (with_value s m.place m.v) q (slice_get (declared_in s.library b.class) q.1)) ≡ (r >>= λ (q : ℕ × ℕ). seen_at b s q (slice_get (declared_in s.library b.class) q.1))
by_resolved f p a b s t m (Err code) stays e = refl
by_resolved f p a b s t m (Ok q) stays e = by_declared f p a b s t m q (slice_get (declared_in s.library b.class) q.1) stays e refl

pub seen_stays : (f : Change) (p : Purpose) (a b : Spot) (s t : Stored) (m : Made f a s t) → Stays f a b s t m → seen p b t ≡ seen p b s
seen_stays f p a b s t m stays = ap (seen p b) m.is ∙ by_resolved f p a b s t m (resolves p s b) stays refl

pub seen_elsewhere : (f : Change) (p : Purpose) (a b : Spot) (s t : Stored) → AreElsewhere a b → changed f a s ≡ Ok t → seen p b t ≡ seen p b s
seen_elsewhere f p a b s t ne e = seen_stays f p a b s t (made f a s t e) (λ c i k. absurd (ne c i k))

-- ---- what may be read or written may be looked at
look_component : (p : Purpose) (class : ℕ) (o : Option ComponentDecl) (i c : ℕ) → allowed_at p class i o ≡ Ok c → allowed_at purpose.Look class i o ≡ Ok c
look_component p class None i c e = absurd (err_ok no_component c e)
look_component p class (Some component) i c e = ap Ok (by_component p class (Some component) i c e)

look_placed : (p : Purpose) (class : ℕ) (component : Option ComponentDecl) (o : Option ℕ) (c : ℕ) → placed p class component o ≡ Ok c → placed purpose.Look class component o ≡ Ok c
look_placed p class component None c e = absurd (err_ok no_component c e)
look_placed p class component (Some i) c e = look_component p class component i c e

look_id : (p : Purpose) (class : Class) (r : Result ℕ ℕ) (c : ℕ) → (r >>= component_place p class.id class.components) ≡ Ok c → (r >>= component_place purpose.Look class.id class.components) ≡ Ok c
look_id p class (Err code) c e = absurd (err_ok code c e)
look_id p class (Ok id) c e = look_placed p class.id (find (λ (d : ComponentDecl). d.id == id) class.components) (position (λ (d : ComponentDecl). d.id == id) class.components) c e

look_instance : (p : Purpose) (class : Class) (ss : List Step) (o : Option ℕ) (place : ℕ × ℕ) → (or_code unknown_instance o >>= λ i. paired i (place_in_class p class ss)) ≡ Ok place
    → (or_code unknown_instance o >>= λ i. paired i (place_in_class purpose.Look class ss)) ≡ Ok place
look_instance p class ss None place e = absurd (err_ok unknown_instance place e)
look_instance p class ss (Some i) place e =
    let w = by_pair i (place_in_class p class ss) place e in
    ap (paired i) (look_id p class (first_id ss >>= no_event class.event_base) place.1 w) ∙ sym (ap (paired i) w) ∙ e

look_class : (p : Purpose) (pairs : List (ℕ × ℕ)) (n : ℕ) (ss : List Step) (o : Option Class) (place : ℕ × ℕ) → (or_code unknown_class o >>= in_class p pairs n ss) ≡ Ok place
    → (or_code unknown_class o >>= in_class purpose.Look pairs n ss) ≡ Ok place
look_class p pairs n ss None place e = absurd (err_ok unknown_class place e)
look_class p pairs n ss (Some class) place e = look_instance p class ss (position (λ (q : ℕ × ℕ). (q.0 == class.id) && (q.1 == n)) pairs) place e

pub looks : (p : Purpose) (s : Stored) (a : Spot) (place : ℕ × ℕ) → resolves p s a ≡ Ok place → resolves purpose.Look s a ≡ Ok place
looks p s a place e = look_class p s.instances a.instance a.steps (find (λ (class : Class). class.id == a.class) s.library) place e

-- what is seen at a spot whose component is known
pub seen_there : (p : Purpose) (s : Stored) (b : Spot) (place : ℕ × ℕ) (d : ComponentDecl) → resolves p s b ≡ Ok place → slice_get (declared_in s.library b.class) place.1 ≡ Some d
    → seen p b s ≡ look_cell (further b.steps) d.ty (value_in s place)
seen_there p s b place d e f = ap (λ r. r >>= λ (q : ℕ × ℕ). seen_at b s q (slice_get (declared_in s.library b.class) q.1)) e ∙ ap (seen_at b s place) f

-- ---- where the store fits
whole_tree : (s : Stored) (pair : ℕ × ℕ) (t : Tree) → IsFitting s.library pair t → IsWholeTree s.library pair t
whole_tree s pair t h = pair_length FitsComponent (declared_in s.library pair.0) t.now h.0

pub fitting_is_whole : (s : Stored) → AreFitting s → IsWhole s
fitting_is_whole s h = pair_weaker (IsFitting s.library) (IsWholeTree s.library) s.instances s.trees (whole_tree s) h

-- the value that is put is there
pub now_there : (f : Change) (a : Spot) (s t : Stored) (m : Made f a s t) → AreFitting s → value_in (with_value s m.place m.v) m.place ≡ m.v
now_there f a s t m h =
    let l = leads purpose.Write s.library s.instances a.class a.instance a.steps m.place m.leads in
    value_put s m.place l.0 m.d m.v (fitting_is_whole s h) l.1 (ap (λ c. slice_get (declared_in s.library c) m.place.1) l.2.0 ∙ m.declared)

-- what is seen behind the first step before a change, and after it
pub seen_before : (f : Change) (a : Spot) (s t : Stored) (m : Made f a s t) → seen purpose.Look a s ≡ look_cell (further a.steps) m.d.ty (value_in s m.place)
seen_before f a s t m = seen_there purpose.Look s a m.place m.d (looks purpose.Write s a m.place m.leads) m.declared

pub seen_after : (f : Change) (a : Spot) (s t : Stored) (m : Made f a s t) → AreFitting s → seen purpose.Look a t ≡ look_cell (further a.steps) m.d.ty m.v
seen_after f a s t m h =
    ap (seen purpose.Look a) m.is ∙ seen_there purpose.Look (with_value s m.place m.v) a m.place m.d (looks purpose.Write s a m.place m.leads) m.declared
    ∙ ap (look_cell (further a.steps) m.d.ty) (now_there f a s t m h)
