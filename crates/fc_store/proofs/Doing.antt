-- Changes and looks at a spot: what is kept is there, and what is seen is what is meant.
use Rattle.std.proofs.Common.{◌≡◌, ℕ, zero, suc, ◌<◌, ◌==◌, ◌&&◌, true, List, [], ◌∷◌, length, slice_get, slice_set, slice_index_or, refl, sym, ap, subst, ◌∙◌, arith, Option, Some, None, option_map, find, position, Result, Ok, Err}
use Rattle.std.proofs.lemmas.Bool.Decides.{nat_tests}
use Rattle.fc_base.specs.Answers.{◌>>=◌}
use Rattle.fc_base.specs.declared.faults.OpFault.{OpFault}
use Rattle.fc_base.specs.declared.faults.OpFault.TheVariants as faults
use Rattle.fc_path.specs.declared.oper.Spot.{Spot}
use Rattle.fc_path.specs.declared.oper.Step.{Step}
use Rattle.fc_tree.specs.Finding.{or_code}
use Rattle.fc_types.specs.Components.{ComponentDecl}
use Rattle.fc_types.specs.declared.class.Class.{Class}
use Rattle.fc_types.specs.declared.ty.Ty.{Ty}
use Rattle.fc_value.specs.declared.value.Value.{Value}
use Rattle.fc_instance.specs.Cells.{Changed, IsShaped, look_cell, seen_at, value_at, valued}
use Rattle.fc_instance.specs.Histories.{Cell, Held}
use Rattle.fc_store.specs.Scopes.{at}
use Rattle.fc_store.specs.Spots.{in_class, paired, place_in_class, resolved, unknown_class, unknown_instance}
use Rattle.fc_store.specs.Stores.{Change, Did, Stored, Tree, changed, changed_at, declared_in, further, present, seen, value_in, value_of, with_component, with_value}
use Rattle.fc_store.specs.Stores as stores
use Rattle.fc_store.specs.Trees.{AreTrees, ChangedThere, HasCell, IsOfType, IsThere, IsTree, IsTreeOf, cell_of, stored, tree_of, value_there, with_cell}
use Rattle.fc_store.specs.declared.spots.Purpose.{Purpose}
use Rattle.fc_store.specs.declared.spots.Purpose.TheVariants as purpose
use Rattle.fc_store.proofs.Lists.{at_is, at_position, found_passes, get_map, get_read, get_within, map_at, map_set, pair_get, pair_set, set_same, some_is}
use Rattle.fc_store.proofs.Scoped.{same_held}

pub err_ok : {A E : Type 0} (e : E) (x : A) → Err e ≡ Ok x → ⊥
err_ok e x p = cc

pub ok_is : {A E : Type 0} (x y : A) → (let a : Result A E = Ok x in let b : Result A E = Ok y in a ≡ b) → x ≡ y
ok_is x y p = cc

-- ---- where a spot leads
same_class : (q : ℕ × ℕ) (c k n : ℕ) → ((q.0 == c) && (q.1 == n)) ≡ true → (c == k) ≡ true → (q.0 ≡ k) × (q.1 ≡ n)
same_class q c k n e f = (grind (arith, nat_tests, e, f), grind (arith, nat_tests, e, f))

by_place : (pairs : List (ℕ × ℕ)) (i : ℕ) (r : Result ℕ ℕ) (place : ℕ × ℕ) → paired i r ≡ Ok place → i ≡ place.0
by_place pairs i (Err e) place p = absurd (err_ok e place p)
by_place pairs i (Ok c) place p = ap (λ (x : ℕ × ℕ). x.0) (ok_is (i, c) place p)

by_instance : (p : Purpose) (pairs : List (ℕ × ℕ)) (n : ℕ) (ss : List Step) (class : Class) (k : ℕ) (o : Option ℕ) (place : ℕ × ℕ) → (class.id == k) ≡ true
    → position (λ (q : ℕ × ℕ). (q.0 == class.id) && (q.1 == n)) pairs ≡ o → (or_code unknown_instance o >>= λ i. paired i (place_in_class p class ss)) ≡ Ok place
    → (q : ℕ × ℕ) × (slice_get pairs place.0 ≡ Some q) × ((q.0 ≡ k) × (q.1 ≡ n))
by_instance p pairs n ss class k None place c f e = absurd (err_ok unknown_instance place e)
by_instance p pairs n ss class k (Some i) place c f e =
    let m = at_position (λ (q : ℕ × ℕ). (q.0 == class.id) && (q.1 == n)) pairs i f in
    (m.0, ap (slice_get pairs) (sym (by_place pairs i (place_in_class p class ss) place e)) ∙ m.1, same_class m.0 class.id k n m.2 c)

by_class : (p : Purpose) (library : List Class) (pairs : List (ℕ × ℕ)) (k n : ℕ) (ss : List Step) (o : Option Class) (place : ℕ × ℕ) → find (λ (class : Class). class.id == k) library ≡ o
    → (or_code unknown_class o >>= in_class p pairs n ss) ≡ Ok place → (q : ℕ × ℕ) × (slice_get pairs place.0 ≡ Some q) × ((q.0 ≡ k) × (q.1 ≡ n))
by_class p library pairs k n ss None place f e = absurd (err_ok unknown_class place e)
by_class p library pairs k n ss (Some class) place f e =
    by_instance p pairs n ss class k (position (λ (q : ℕ × ℕ). (q.0 == class.id) && (q.1 == n)) pairs) place (found_passes (λ (class : Class). class.id == k) library class f) refl e

-- the place of a spot is that of an instance of its class
pub leads : (p : Purpose) (library : List Class) (pairs : List (ℕ × ℕ)) (k n : ℕ) (ss : List Step) (place : ℕ × ℕ) → resolved p library pairs k n ss ≡ Ok place
    → (q : ℕ × ℕ) × (slice_get pairs place.0 ≡ Some q) × ((q.0 ≡ k) × (q.1 ≡ n))
leads p library pairs k n ss place e = by_class p library pairs k n ss (find (λ (class : Class). class.id == k) library) place refl e

-- ---- what is kept is there
record Leads (library : List Class) (hs : List Held) (pairs : List (ℕ × ℕ)) (place : ℕ × ℕ) (d : ComponentDecl) : Type 0 where
  q : ℕ × ℕ
  pair : slice_get pairs place.0 ≡ Some q
  declared : slice_get (declared_in library q.0) place.1 ≡ Some d
  h : Held
  tree : slice_get hs place.0 ≡ Some h
  fits : IsTree (declared_in library q.0) h

leading : (p : Purpose) (library : List Class) (pairs : List (ℕ × ℕ)) (k n : ℕ) (ss : List Step) (place : ℕ × ℕ) (d : ComponentDecl) (hs : List Held) → AreTrees library pairs hs
    → resolved p library pairs k n ss ≡ Ok place → slice_get (declared_in library k) place.1 ≡ Some d → Leads library hs pairs place d
leading p library pairs k n ss place d hs a e f =
    let l = leads p library pairs k n ss place e in
    let t = pair_get (IsTreeOf library) pairs hs place.0 l.0 a l.1 in
    record { q = l.0; pair = l.1; declared = ap (λ class. slice_get (declared_in library class) place.1) l.2.0 ∙ f; h = t.0; tree = t.1; fits = t.2 }

has_by : (d : ComponentDecl) (ds : List ComponentDecl) (c : ℕ) (h : Held) → IsTree ds h → slice_get ds c ≡ Some d → HasCell d.ty c (Some h)
has_by d ds c h t e =
    let m = pair_get IsOfType ds h.now c d t.0 e in
    (get_within h.now c m.0 m.1, subst (λ cell. IsShaped d.ty cell) (sym (ap seen_at m.1)) m.2)

pub there : (p : Purpose) (library : List Class) (pairs : List (ℕ × ℕ)) (k n : ℕ) (ss : List Step) (place : ℕ × ℕ) (d : ComponentDecl) (hs : List Held) → AreTrees library pairs hs
    → resolved p library pairs k n ss ≡ Ok place → slice_get (declared_in library k) place.1 ≡ Some d → IsThere d.ty place hs
there p library pairs k n ss place d hs a e f =
    let l = leading p library pairs k n ss place d hs a e f in
    subst (HasCell d.ty place.1) (sym l.tree) (has_by d (declared_in library l.q.0) place.1 l.h l.fits l.declared)

cell_fits : (d : ComponentDecl) (ds : List ComponentDecl) (c : ℕ) (h : Held) (cell : Option Cell) → IsTree ds h → slice_get ds c ≡ Some d → IsShaped d.ty cell → IsTree ds (with_cell c cell h)
cell_fits d ds c h cell t e s =
    (pair_set IsOfType ds h.now c cell t.0 (λ x g. subst (λ (y : ComponentDecl). IsShaped y.ty cell) (some_is d x (sym e ∙ g)) s), t.1)

set_kept : (library : List Class) (pairs : List (ℕ × ℕ)) (place : ℕ × ℕ) (d : ComponentDecl) (hs : List Held) (cell : Option Cell) → AreTrees library pairs hs → Leads library hs pairs place d
    → IsShaped d.ty cell → AreTrees library pairs (at (with_cell place.1 cell) place.0 hs)
set_kept library pairs place d hs cell a l s =
    subst (AreTrees library pairs) (sym (at_is (with_cell place.1 cell) hs place.0 l.h l.tree))
    (pair_set (IsTreeOf library) pairs hs place.0 (with_cell place.1 cell l.h) a
    (λ x g. subst (λ (y : ℕ × ℕ). IsTreeOf library y (with_cell place.1 cell l.h)) (some_is l.q x (sym l.pair ∙ g))
    (cell_fits d (declared_in library l.q.0) place.1 l.h cell l.fits l.declared s)))

kept_by : (result : Result (Unit {0}) OpFault) (outcome : Result (Option Value) ℕ) (library : List Class) (pairs : List (ℕ × ℕ)) (place : ℕ × ℕ) (d : ComponentDecl) (old new : List Held)
    → AreTrees library pairs old → Leads library old pairs place d → ChangedThere result outcome d.ty place old new → AreTrees library pairs new
kept_by (Ok x) outcome library pairs place d old new a l c = subst (AreTrees library pairs) (sym c.3) (set_kept library pairs place d old c.0 a l c.2)
kept_by (Err fault) outcome library pairs place d old new a l c = subst (AreTrees library pairs) (sym c.1) a

-- a change keeps what is kept
pub change_kept : (result : Result (Unit {0}) OpFault) (outcome : Result (Option Value) ℕ) (library : List Class) (pairs : List (ℕ × ℕ)) (k n : ℕ) (ss : List Step) (place : ℕ × ℕ) (d : ComponentDecl) (old new : List Held)
    → AreTrees library pairs old → resolved purpose.Write library pairs k n ss ≡ Ok place → slice_get (declared_in library k) place.1 ≡ Some d
    → ChangedThere result outcome d.ty place old new → AreTrees library pairs new
change_kept result outcome library pairs k n ss place d old new a e f c = kept_by result outcome library pairs place d old new a (leading purpose.Write library pairs k n ss place d old a e f) c

-- ---- what is seen
present_is : (o : Option (Option Cell)) → present (option_map valued o) ≡ valued (seen_at o)
present_is None = refl
present_is (Some cell) = refl

of_is : (c : ℕ) (o : Option Held) → value_of c (option_map tree_of o) ≡ valued (cell_of c o)
of_is c None = refl
of_is c (Some h) = ap present (get_map valued h.now c) ∙ present_is (slice_get h.now c)

pub value_seen : (library : List Class) (pairs : List (ℕ × ℕ)) (hs : List Held) (place : ℕ × ℕ) → value_in (stored library pairs hs) place ≡ value_there hs place
value_seen library pairs hs place = ap (value_of place.1) (get_map tree_of hs place.0) ∙ of_is place.1 (slice_get hs place.0)

pub same_tree : (s t : Tree) → s.now ≡ t.now → s.held ≡ t.held → s ≡ t
same_tree s t p q = λ i. record { now = p i; held = q i }

cell_seen : (c : ℕ) (cell : Option Cell) (h : Held) → tree_of (with_cell c cell h) ≡ with_component c (valued cell) (tree_of h)
cell_seen c cell h = same_tree (tree_of (with_cell c cell h)) (with_component c (valued cell) (tree_of h)) (map_set valued h.now c cell) refl

with_seen : (library : List Class) (pairs : List (ℕ × ℕ)) (hs : List Held) (place : ℕ × ℕ) (cell : Option Cell)
    → with_value (stored library pairs hs) place (valued cell) ≡ stored library pairs (at (with_cell place.1 cell) place.0 hs)
with_seen library pairs hs place cell =
    let p = map_at tree_of (with_cell place.1 cell) (with_component place.1 (valued cell)) hs place.0 (cell_seen place.1 cell) in
    sym (λ i. record { library = library; instances = pairs; trees = p i })

meant_by : (f : Change) (library : List Class) (pairs : List (ℕ × ℕ)) (spot : Spot) (hs : List Held) (place : ℕ × ℕ) (d : ComponentDecl)
    → resolved purpose.Write library pairs spot.class spot.instance spot.steps ≡ Ok place → slice_get (declared_in library spot.class) place.1 ≡ Some d
    → changed f spot (stored library pairs hs) ≡ (f d (value_there hs place) >>= λ v. Ok (with_value (stored library pairs hs) place v))
meant_by f library pairs spot hs place d e g =
    ap (λ r. r >>= λ (p : ℕ × ℕ). changed_at f (stored library pairs hs) p (slice_get (declared_in library spot.class) p.1)) e
    ∙ ap (changed_at f (stored library pairs hs) place) g
    ∙ ap (λ v. f d v >>= λ w. Ok (with_value (stored library pairs hs) place w)) (value_seen library pairs hs place)

seen_by : (result : Result (Unit {0}) OpFault) (f : Change) (library : List Class) (pairs : List (ℕ × ℕ)) (spot : Spot) (old new : List Held) (place : ℕ × ℕ) (d : ComponentDecl)
    → resolved purpose.Write library pairs spot.class spot.instance spot.steps ≡ Ok place → slice_get (declared_in library spot.class) place.1 ≡ Some d
    → ChangedThere result (f d (value_there old place)) d.ty place old new → Did result (changed f spot (stored library pairs old)) (stored library pairs old) (stored library pairs new)
seen_by (Ok x) f library pairs spot old new place d e g c =
    meant_by f library pairs spot old place d e g ∙ ap (λ r. r >>= λ v. Ok (with_value (stored library pairs old) place v)) c.1
    ∙ ap Ok (with_seen library pairs old place c.0 ∙ ap (stored library pairs) (sym c.3))
seen_by (Err (faults.Refused code)) f library pairs spot old new place d e g c =
    (meant_by f library pairs spot old place d e g ∙ ap (λ r. r >>= λ v. Ok (with_value (stored library pairs old) place v)) c.0, ap (stored library pairs) c.1)
seen_by (Err faults.Memory) f library pairs spot old new place d e g c = (tt, ap (stored library pairs) c.1)

-- a change at the place of a spot is what is meant
pub change_seen : (result : Result (Unit {0}) OpFault) (f : Change) (library : List Class) (pairs : List (ℕ × ℕ)) (spot : Spot) (old new : List Held) (place : ℕ × ℕ) (d : ComponentDecl) (outcome : Result (Option Value) ℕ)
    → resolved purpose.Write library pairs spot.class spot.instance spot.steps ≡ Ok place → slice_get (declared_in library spot.class) place.1 ≡ Some d → outcome ≡ f d (value_there old place)
    → ChangedThere result outcome d.ty place old new → Did result (changed f spot (stored library pairs old)) (stored library pairs old) (stored library pairs new)
change_seen result f library pairs spot old new place d outcome e g o c =
    seen_by result f library pairs spot old new place d e g (subst (λ r. ChangedThere result r d.ty place old new) o c)

-- what is found at the place of a spot is what is meant
pub look_seen : (p : Purpose) (library : List Class) (pairs : List (ℕ × ℕ)) (spot : Spot) (hs : List Held) (place : ℕ × ℕ) (d : ComponentDecl) (ss : List Step)
    → resolved p library pairs spot.class spot.instance spot.steps ≡ Ok place → slice_get (declared_in library spot.class) place.1 ≡ Some d → ss ≡ further spot.steps
    → look_cell ss d.ty (value_there hs place) ≡ seen p spot (stored library pairs hs)
look_seen p library pairs spot hs place d ss e g s =
    ap (λ ts. look_cell ts d.ty (value_there hs place)) s
    ∙ sym (ap (λ r. r >>= λ (q : ℕ × ℕ). stores.seen_at spot (stored library pairs hs) q (slice_get (declared_in library spot.class) q.1)) e
    ∙ ap (stores.seen_at spot (stored library pairs hs) place) g ∙ ap (look_cell (further spot.steps) d.ty) (value_seen library pairs hs place))

-- ---- one instance of the list
pub there_within : (ty : Ty) (place : ℕ × ℕ) (hs : List Held) → IsThere ty place hs → place.0 < length hs
there_within ty place hs t = by hs place.0 t
  where
    by : (hs : List Held) (i : ℕ) → HasCell ty place.1 (slice_get hs i) → i < length hs
    by [] i t = absurd t
    by (h ∷ hs) zero t = omega arith
    by (h ∷ hs) (suc i) t = let n : i < length hs = by hs i t in omega (arith, n)

pub there_has : (ty : Ty) (place : ℕ × ℕ) (hs : List Held) (h : Held) → IsThere ty place hs → h ≡ slice_index_or hs place.0 h → HasCell ty place.1 (Some h)
there_has ty place hs h t e = subst (HasCell ty place.1) (get_read hs place.0 h (there_within ty place hs t) e) t

cell_step : (result : Result (Unit {0}) OpFault) (outcome : Result (Option Value) ℕ) (ty : Ty) (place : ℕ × ℕ) (hs : List Held) (h g : Held) → slice_get hs place.0 ≡ Some h
    → Changed result outcome ty place.1 h.now g.now → g.held ≡ h.held → ChangedThere result outcome ty place hs (slice_set hs place.0 g)
cell_step (Ok x) outcome ty place hs h g e c held =
    (c.0, c.1, c.2, ap (slice_set hs place.0) (same_held (with_cell place.1 c.0 h) g c.3 held) ∙ sym (at_is (with_cell place.1 c.0) hs place.0 h e))
cell_step (Err fault) outcome ty place hs h g e c held = (c.0, ap (slice_set hs place.0) (same_held h g c.1 held) ∙ set_same hs place.0 h e)

-- a change of one instance, seen in the list
pub changes_there : (result : Result (Unit {0}) OpFault) (f : Option Value → Result (Option Value) ℕ) (ty : Ty) (place : ℕ × ℕ) (hs : List Held) (h g : Held) → IsThere ty place hs
    → h ≡ slice_index_or hs place.0 h → Changed result (f (value_at place.1 h.now)) ty place.1 h.now g.now → g.held ≡ h.held
    → ChangedThere result (f (value_there hs place)) ty place hs (slice_set hs place.0 g)
changes_there result f ty place hs h g t e c held =
    let i = get_read hs place.0 h (there_within ty place hs t) e in
    subst (λ v. ChangedThere result (f v) ty place hs (slice_set hs place.0 g)) (sym (ap (λ o. valued (cell_of place.1 o)) i))
    (cell_step result (f (value_at place.1 h.now)) ty place hs h g i c held)
