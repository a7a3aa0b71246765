-- What stands beside a spot stays when something is put there.
use Rattle.std.proofs.Common.{◌≡◌, ℕ, ◌==◌, ◌&&◌, Bool, true, false, List, [], ◌∷◌, slice_get, refl, sym, ap, subst, ◌∙◌, arith, Option, Some, None, find, position, Result, Ok, Err, if◌then◌else◌}
use Rattle.std.proofs.lemmas.Bool.Decides.{nat_tests}
use Rattle.fc_base.specs.Answers.{◌>>=◌}
use Rattle.fc_path.specs.declared.oper.Spot.{Spot}
use Rattle.fc_path.specs.declared.oper.Step.{Step}
use Rattle.fc_path.specs.declared.oper.Step.TheVariants as step
use Rattle.fc_tree.specs.Finding.{invalid_path, no_component, or_code}
use Rattle.fc_types.specs.Components.{ComponentDecl}
use Rattle.fc_types.specs.declared.class.Class.{Class}
use Rattle.fc_value.specs.declared.value.Value.{Value}
use Rattle.fc_instance.specs.Cells.{look_cell}
use Rattle.fc_store.specs.Scopes.{at_one}
use Rattle.fc_store.specs.Spots.{component_place, event_error, in_class, is_event_base, paired, place_in_class, placed, resolved, unknown_class, unknown_instance}
use Rattle.fc_store.specs.Stores.{AreBeside, DoPart, IsWhole, Stored, Tree, components_of, declared_in, further, present, put_spot, seen, seen_at, value_in, value_of, with_component, with_value}
use Rattle.fc_store.specs.declared.spots.Purpose.{Purpose}
use Rattle.fc_store.specs.declared.spots.Purpose.TheVariants as purpose
use Rattle.fc_store.proofs.Apart.{Made, made, value_apart}
use Rattle.fc_store.proofs.Beside.{cell_beside}
use Rattle.fc_store.proofs.Doing.{err_ok, leads}
use Rattle.fc_store.proofs.Found.{by_component, by_pair}
use Rattle.fc_store.proofs.Lists.{at_position, get_other, get_set, some_is}
use Rattle.fc_store.proofs.PutFound.{puts_there, value_put}

-- ---- the component to which a spot leads has the ID of its first step
record Begins (components : List ComponentDecl) (ss : List Step) (c : ℕ) : Type 0 where
  id : ℕ
  rest : List Step
  first : ss ≡ step.Id id ∷ rest
  d : ComponentDecl
  there : slice_get components c ≡ Some d
  named : (d.id == id) ≡ true

begins_at : (p : Purpose) (class : Class) (ss rest : List Step) (id c : ℕ) (o : Option ℕ) → ss ≡ step.Id id ∷ rest → position (λ (d : ComponentDecl). d.id == id) class.components ≡ o
    → placed p class.id (find (λ (d : ComponentDecl). d.id == id) class.components) o ≡ Ok c → Begins class.components ss c
begins_at p class ss rest id c None s f e = absurd (err_ok no_component c e)
begins_at p class ss rest id c (Some i) s f e =
    let m = at_position (λ (d : ComponentDecl). d.id == id) class.components i f in
    let n = by_component p class.id (find (λ (d : ComponentDecl). d.id == id) class.components) i c e in
    record { id = id; rest = rest; first = s; d = m.0; there = ap (slice_get class.components) (sym n) ∙ m.1; named = m.2 }

begins_past : (p : Purpose) (class : Class) (ss rest : List Step) (id c : ℕ) (b : Bool) → ss ≡ step.Id id ∷ rest
    → (let r : Result ℕ ℕ = if b then Err event_error else Ok id in (r >>= component_place p class.id class.components) ≡ Ok c) → Begins class.components ss c
begins_past p class ss rest id c true s e = absurd (err_ok event_error c e)
begins_past p class ss rest id c false s e = begins_at p class ss rest id c (position (λ (d : ComponentDecl). d.id == id) class.components) s refl e

begins_in : (p : Purpose) (class : Class) (ss : List Step) (c : ℕ) → place_in_class p class ss ≡ Ok c → Begins class.components ss c
begins_in p class [] c e = absurd (err_ok invalid_path c e)
begins_in p class (step.Id id ∷ ss) c e = begins_past p class (step.Id id ∷ ss) ss id c (is_event_base class.event_base id) refl e
begins_in p class (step.Key id key ∷ ss) c e = absurd (err_ok invalid_path c e)

begins_instance : (p : Purpose) (class : Class) (ss : List Step) (o : Option ℕ) (place : ℕ × ℕ) → (or_code unknown_instance o >>= λ i. paired i (place_in_class p class ss)) ≡ Ok place
    → Begins class.components ss place.1
begins_instance p class ss None place e = absurd (err_ok unknown_instance place e)
begins_instance p class ss (Some i) place e = begins_in p class ss place.1 (by_pair i (place_in_class p class ss) place e)

begins_class : (p : Purpose) (library : List Class) (pairs : List (ℕ × ℕ)) (k n : ℕ) (ss : List Step) (o : Option Class) (place : ℕ × ℕ) → find (λ (class : Class). class.id == k) library ≡ o
    → (or_code unknown_class o >>= in_class p pairs n ss) ≡ Ok place → Begins (declared_in library k) ss place.1
begins_class p library pairs k n ss None place f e = absurd (err_ok unknown_class place e)
begins_class p library pairs k n ss (Some class) place f e =
    subst (λ o. Begins (components_of o) ss place.1) (sym f) (begins_instance p class ss (position (λ (q : ℕ × ℕ). (q.0 == class.id) && (q.1 == n)) pairs) place e)

begins : (p : Purpose) (library : List Class) (pairs : List (ℕ × ℕ)) (k n : ℕ) (ss : List Step) (place : ℕ × ℕ) → resolved p library pairs k n ss ≡ Ok place → Begins (declared_in library k) ss place.1
begins p library pairs k n ss place e = begins_class p library pairs k n ss (find (λ (class : Class). class.id == k) library) place refl e

-- ---- another component of the instance
component_other : (c d : ℕ) (v : Option Value) (trees : List Tree) (i : ℕ) (o : Option Tree) → (c ≡ d → ⊥) → slice_get trees i ≡ o
    → value_of d (slice_get (at_one (with_component c v) i trees o) i) ≡ value_of d o
component_other c d v trees i None ne e = ap (value_of d) e
component_other c d v trees i (Some t) ne e = ap (value_of d) (get_set trees i t (with_component c v t) e) ∙ ap present (get_other t.now c d v ne)

value_other : (s : Stored) (i : ℕ) (c d : ℕ) (v : Option Value) → (c ≡ d → ⊥) → value_in (with_value s (i, c) v) (i, d) ≡ value_in s (i, d)
value_other s i c d v ne = component_other c d v s.trees i (slice_get s.trees i) ne refl

not_same : (a b : ℕ) → (a == b) ≡ false → a ≡ b → ⊥
not_same a b e s = let t : (a == b) ≡ true = grind (arith, nat_tests, s) in cc

is_same : (a b : ℕ) → (a == b) ≡ true → a ≡ b
is_same a b e = grind (arith, nat_tests, e)

-- ---- the same component
further_part : (qs rs ss ts : List Step) (x y : ℕ) → qs ≡ step.Id x ∷ ss → rs ≡ step.Id y ∷ ts → x ≡ y → DoPart qs rs → DoPart (further qs) (further rs)
further_part qs rs ss ts x y p q e part =
    let f : x ≡ y → DoPart ss ts = subst (λ us. DoPart (step.Id x ∷ ss) us) q (subst (λ us. DoPart us rs) p part) in
    subst (λ us. DoPart (further us) (further rs)) (sym p) (subst (λ us. DoPart ss (further us)) (sym q) (f e))

same_place : (p : Purpose) (a b : Spot) (bytes : List ℕ) (s t : Stored) (m : Made (puts_there a bytes) a s t) (d : ComponentDecl) → AreBeside a b → IsWhole s
    → resolved p s.library s.instances b.class b.instance b.steps ≡ Ok m.place → slice_get (declared_in s.library b.class) m.place.1 ≡ Some d
    → look_cell (further b.steps) d.ty (value_in (with_value s m.place m.v) m.place) ≡ look_cell (further b.steps) d.ty (value_in s m.place)
same_place p a b bytes s t m d beside whole e f =
    let l = leads purpose.Write s.library s.instances a.class a.instance a.steps m.place m.leads in
    let k = leads p s.library s.instances b.class b.instance b.steps m.place e in
    let q : l.0 ≡ k.0 = some_is l.0 k.0 (sym l.1 ∙ k.1) in
    let class : a.class ≡ b.class = sym l.2.0 ∙ ap (λ (r : ℕ × ℕ). r.0) q ∙ k.2.0 in
    let instance : a.instance ≡ b.instance = sym l.2.1 ∙ ap (λ (r : ℕ × ℕ). r.1) q ∙ k.2.1 in
    let n = begins purpose.Write s.library s.instances a.class a.instance a.steps m.place m.leads in
    let o = begins p s.library s.instances b.class b.instance b.steps m.place e in
    let same : n.d ≡ o.d = some_is n.d o.d (sym n.there ∙ ap (λ c. slice_get (declared_in s.library c) m.place.1) class ∙ o.there) in
    let ids : n.id ≡ o.id = sym (is_same n.d.id n.id n.named) ∙ ap (λ (x : ComponentDecl). x.id) same ∙ is_same o.d.id o.id o.named in
    let part = further_part a.steps b.steps n.rest o.rest n.id o.id n.first o.first ids (beside class instance) in
    let md : m.d ≡ d = some_is m.d d (sym m.declared ∙ ap (λ c. slice_get (declared_in s.library c) m.place.1) class ∙ f) in
    let stays = cell_beside (further a.steps) (further b.steps) bytes m.d.ty (value_in s m.place) m.v part m.gives in
    let put = value_put s m.place l.0 m.d m.v whole l.1 (ap (λ c. slice_get (declared_in s.library c) m.place.1) l.2.0 ∙ m.declared) in
    ap (look_cell (further b.steps) d.ty) put
    ∙ subst (λ (x : ComponentDecl). look_cell (further b.steps) x.ty m.v ≡ look_cell (further b.steps) x.ty (value_in s m.place)) md stays

by_places : (p : Purpose) (a b : Spot) (bytes : List ℕ) (s t : Stored) (m : Made (puts_there a bytes) a s t) (q : ℕ × ℕ) (d : ComponentDecl) (x y : Bool) → AreBeside a b → IsWhole s
    → resolved p s.library s.instances b.class b.instance b.steps ≡ Ok q → slice_get (declared_in s.library b.class) q.1 ≡ Some d → (m.place.0 == q.0) ≡ x → (m.place.1 == q.1) ≡ y
    → look_cell (further b.steps) d.ty (value_in (with_value s m.place m.v) q) ≡ look_cell (further b.steps) d.ty (value_in s q)
by_places p a b bytes s t m q d false y beside whole e f g h = ap (look_cell (further b.steps) d.ty) (value_apart s m.place q m.v (not_same m.place.0 q.0 g))
by_places p a b bytes s t m q d true false beside whole e f g h =
    let i : m.place.0 ≡ q.0 = is_same m.place.0 q.0 g in
    ap (look_cell (further b.steps) d.ty)
    (subst (λ n. value_in (with_value s m.place m.v) (n, q.1) ≡ value_in s (n, q.1)) i (value_other s m.place.0 m.place.1 q.1 m.v (not_same m.place.1 q.1 h)))
by_places p a b bytes s t m q d true true beside whole e f g h =
    let i : m.place ≡ q = λ k. (is_same m.place.0 q.0 g k, is_same m.place.1 q.1 h k) in
    subst (λ (r : ℕ × ℕ). look_cell (further b.steps) d.ty (value_in (with_value s m.place m.v) r) ≡ look_cell (further b.steps) d.ty (value_in s r)) i
    (same_place p a b bytes s t m d beside whole (e ∙ sym (ap Ok i)) (ap (λ (r : ℕ × ℕ). slice_get (declared_in s.library b.class) r.1) i ∙ f))

by_declared : (p : Purpose) (a b : Spot) (bytes : List ℕ) (s t : Stored) (m : Made (puts_there a bytes) a s t) (q : ℕ × ℕ) (o : Option ComponentDecl) → AreBeside a b → IsWhole s
    → resolved p s.library s.instances b.class b.instance b.steps ≡ Ok q → slice_get (declared_in s.library b.class) q.1 ≡ o → seen_at b (with_value s m.place m.v) q o ≡ seen_at b s q o
by_declared p a b bytes s t m q None beside whole e f = refl
by_declared p a b bytes s t m q (Some d) beside whole e f = by_places p a b bytes s t m q d (m.place.0 == q.0) (m.place.1 == q.1) beside whole e f refl refl

by_resolved : (p : Purpose) (a b : Spot) (bytes : List ℕ) (s t : Stored) (m : Made (puts_there a bytes) a s t) (r : Result (ℕ × ℕ) ℕ) → AreBeside a b → IsWhole s
    → resolved p s.library s.instances b.class b.instance b.steps ≡ r
    → (r >>= λ (q : ℕ × ℕ). seen_at b (with_value s m.place m.v) q (slice_get (declared_in s.library b.class) q.1)) ≡ (r >>= λ (q : ℕ × ℕ). seen_at b s q (slice_get (declared_in s.library b.class) q.1))
by_resolved p a b bytes s t m (Err code) beside whole e = refl
by_resolved p a b bytes s t m (Ok q) beside whole e = by_declared p a b bytes s t m q (slice_get (declared_in s.library b.class) q.1) beside whole e refl

pub put_beside : (p : Purpose) (a b : Spot) (bytes : List ℕ) (s t : Stored) → AreBeside a b → IsWhole s → put_spot a bytes s ≡ Ok t → seen p b t ≡ seen p b s
put_beside p a b bytes s t beside whole e =
    let m = made (puts_there a bytes) a s t e in
    ap (seen p b) m.is ∙ by_resolved p a b bytes s t m (resolved p s.library s.instances b.class b.instance b.steps) beside whole refl
