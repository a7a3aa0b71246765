-- What is put at a spot is found there.
use Rattle.std.proofs.Common.{◌≡◌, ℕ, zero, suc, ◌<◌, ◌==◌, ◌&&◌, not, List, [], ◌∷◌, length, slice_get, slice_set, refl, sym, ap, subst, ◌∙◌, arith, Option, Some, None, find, position, Result, Ok, Err}
use Rattle.fc_base.specs.Answers.{◌>>=◌}
use Rattle.fc_path.specs.declared.oper.Spot.{Spot}
use Rattle.fc_path.specs.declared.oper.Step.{Step}
use Rattle.fc_path.specs.declared.oper.Step.TheVariants as step
use Rattle.fc_tree.specs.Finding.{no_component, or_code}
use Rattle.fc_types.specs.Components.{ComponentDecl}
use Rattle.fc_types.specs.declared.class.Class.{Class}
use Rattle.fc_value.specs.declared.value.Value.{Value}
use Rattle.fc_instance.specs.Cells.{look_cell, put_cell, valued}
use Rattle.fc_instance.specs.Histories.{Held}
use Rattle.fc_store.specs.Scopes.{at}
use Rattle.fc_store.specs.Spots.{allowed_at, component_place, first_id, in_class, may_write, mastership, no_event, paired, place_in_class, placed, read_only, unknown_class, unknown_instance}
use Rattle.fc_store.specs.Stores.{AreIds, Change, Found, IsWhole, IsWholeTree, Stored, declared_in, further, present, put_spot, seen, seen_at, value_in, value_of, with_component, with_value}
use Rattle.fc_store.specs.Trees.{AreShaped, AreTrees, IsOfType, IsTreeOf, plain, stored, tree_of}
use Rattle.fc_store.specs.declared.spots.Purpose.TheVariants as purpose
use Rattle.fc_store.proofs.Apart.{Made, made}
use Rattle.fc_store.proofs.Doing.{err_ok, leads}
use Rattle.fc_store.proofs.Found.{by_pair, if_ok}
use Rattle.fc_store.proofs.FoundAgain.{cell_again, found_same}
use Rattle.fc_store.proofs.Lists.{at_is, get_set, get_within, length_map, pair_get, pair_length, pair_map}

-- ---- what may be written may be looked at
look_component : (class : ℕ) (o : Option ComponentDecl) (i c : ℕ) → allowed_at purpose.Write class i o ≡ Ok c → allowed_at purpose.Look class i o ≡ Ok c
look_component class None i c e = absurd (err_ok no_component c e)
look_component class (Some component) i c e = ap Ok (if_ok (may_write component.access && not (class == mastership)) read_only i c e)

look_placed : (class : ℕ) (component : Option ComponentDecl) (o : Option ℕ) (c : ℕ) → placed purpose.Write class component o ≡ Ok c → placed purpose.Look class component o ≡ Ok c
look_placed class component None c e = absurd (err_ok no_component c e)
look_placed class component (Some i) c e = look_component class component i c e

look_id : (class : Class) (r : Result ℕ ℕ) (c : ℕ) → (r >>= component_place purpose.Write class.id class.components) ≡ Ok c → (r >>= component_place purpose.Look class.id class.components) ≡ Ok c
look_id class (Err code) c e = absurd (err_ok code c e)
look_id class (Ok id) c e = look_placed class.id (find (λ (d : ComponentDecl). d.id == id) class.components) (position (λ (d : ComponentDecl). d.id == id) class.components) c e

look_instance : (class : Class) (ss : List Step) (o : Option ℕ) (place : ℕ × ℕ) → (or_code unknown_instance o >>= λ i. paired i (place_in_class purpose.Write class ss)) ≡ Ok place
    → (or_code unknown_instance o >>= λ i. paired i (place_in_class purpose.Look class ss)) ≡ Ok place
look_instance class ss None place e = absurd (err_ok unknown_instance place e)
look_instance class ss (Some i) place e =
    let w = by_pair i (place_in_class purpose.Write class ss) place e in
    ap (paired i) (look_id class (first_id ss >>= no_event class.event_base) place.1 w) ∙ sym (ap (paired i) w) ∙ e

look_class : (pairs : List (ℕ × ℕ)) (n : ℕ) (ss : List Step) (o : Option Class) (place : ℕ × ℕ) → (or_code unknown_class o >>= in_class purpose.Write pairs n ss) ≡ Ok place
    → (or_code unknown_class o >>= in_class purpose.Look pairs n ss) ≡ Ok place
look_class pairs n ss None place e = absurd (err_ok unknown_class place e)
look_class pairs n ss (Some class) place e = look_instance class ss (position (λ (q : ℕ × ℕ). (q.0 == class.id) && (q.1 == n)) pairs) place e

-- ---- a value that is put
put_get : {A : Type 0} (xs : List A) (i : ℕ) (y : A) → i < length xs → slice_get (slice_set xs i y) i ≡ Some y
put_get [] i y lt = absurd (omega arith)
put_get (x ∷ xs) zero y lt = refl
put_get (x ∷ xs) (suc i) y lt = put_get xs i y (omega arith)

pub value_put : (s : Stored) (place q : ℕ × ℕ) (d : ComponentDecl) (v : Option Value) → IsWhole s → slice_get s.instances place.0 ≡ Some q → slice_get (declared_in s.library q.0) place.1 ≡ Some d
    → value_in (with_value s place v) place ≡ v
value_put s place q d v whole e f =
    let t = pair_get (IsWholeTree s.library) s.instances s.trees place.0 q whole e in
    let lt : place.1 < length (declared_in s.library q.0) = get_within (declared_in s.library q.0) place.1 d f in
    let within : place.1 < length t.0.now = omega (arith, lt, t.2) in
    let there : slice_get (at (with_component place.1 v) place.0 s.trees) place.0 ≡ Some (with_component place.1 v t.0) =
    ap (λ ts. slice_get ts place.0) (at_is (with_component place.1 v) s.trees place.0 t.0 t.1) ∙ get_set s.trees place.0 t.0 (with_component place.1 v t.0) t.1 in
    ap (value_of place.1) there ∙ ap present (put_get t.0.now place.1 v within)

ids_further : (ss : List Step) → AreIds ss → AreIds (further ss)
ids_further [] ids = tt
ids_further (step.Id id ∷ ss) ids = ids
ids_further (step.Key id key ∷ ss) ids = absurd ids

abbrev pub puts_there : Spot → List ℕ → Change
puts_there spot bytes = λ component v. put_cell (further spot.steps) bytes component.ty v

found_by : (spot : Spot) (bytes : List ℕ) (s t : Stored) (m : Made (puts_there spot bytes) spot s t) → AreIds spot.steps → IsWhole s → Found bytes (seen purpose.Look spot (with_value s m.place m.v))
found_by spot bytes s t m ids whole =
    let l = leads purpose.Write s.library s.instances spot.class spot.instance spot.steps m.place m.leads in
    let d : slice_get (declared_in s.library l.0.0) m.place.1 ≡ Some m.d = ap (λ class. slice_get (declared_in s.library class) m.place.1) l.2.0 ∙ m.declared in
    let k = look_class s.instances spot.instance spot.steps (find (λ (class : Class). class.id == spot.class) s.library) m.place m.leads in
    let u : Stored = with_value s m.place m.v in
    found_same bytes (seen purpose.Look spot u) (look_cell (further spot.steps) m.d.ty m.v)
    (ap (λ r. r >>= λ (p : ℕ × ℕ). seen_at spot u p (slice_get (declared_in s.library spot.class) p.1)) k
    ∙ ap (seen_at spot u m.place) m.declared ∙ ap (look_cell (further spot.steps) m.d.ty) (value_put s m.place l.0 m.d m.v whole l.1 d))
    (cell_again (further spot.steps) m.d.ty bytes (value_in s m.place) m.v (ids_further spot.steps ids) m.gives)

pub put_found : (spot : Spot) (bytes : List ℕ) (s t : Stored) → AreIds spot.steps → IsWhole s → put_spot spot bytes s ≡ Ok t → Found bytes (seen purpose.Look spot t)
put_found spot bytes s t ids whole e =
    let m = made (puts_there spot bytes) spot s t e in
    subst (λ u. Found bytes (seen purpose.Look spot u)) (sym m.is) (found_by spot bytes s t m ids whole)

-- ---- what is kept is whole
shaped_length : (ds : List ComponentDecl) (h : Held) → AreShaped ds h.now → length (plain h.now) ≡ length ds
shaped_length ds h a = length_map valued h.now ∙ pair_length IsOfType ds h.now a

pub whole : (library : List Class) (pairs : List (ℕ × ℕ)) (hs : List Held) → AreTrees library pairs hs → IsWhole (stored library pairs hs)
whole library pairs hs a = pair_map (IsTreeOf library) (IsWholeTree library) tree_of pairs hs (λ pair h t. shaped_length (declared_in library pair.0) h t.0) a
