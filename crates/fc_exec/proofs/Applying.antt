-- What an operation does to a store on which marks stand.
use Rattle.std.proofs.Common.{◌≡◌, ℕ, zero, suc, ◌-◌, ◌<◌, Bool, true, false, not, ◌&&◌, ◌||◌, List, [], ◌∷◌, length, map, slice_get, slice_set, slice_index_or, refl, sym, ap, ◌∙◌, arith, Option, Some, None, option_map, Result, Ok, Err}
use Rattle.std.specs.List.{list_any}
use Rattle.fc_base.specs.Answers.{◌>>=◌}
use Rattle.fc_path.specs.declared.oper.OperKind.{OperKind}
use Rattle.fc_path.specs.declared.oper.OperKind.TheVariants as kinds
use Rattle.fc_path.specs.declared.oper.Spot.{Spot}
use Rattle.fc_path.specs.declared.path.Body.{Body, out-Body}
use Rattle.fc_path.specs.declared.path.Body.TheOpen.{Body-F}
use Rattle.fc_path.specs.declared.path.PathData.{PathData}
use Rattle.fc_instance.specs.Cells.{merge_cell, put_cell, remove_cell}
use Rattle.fc_types.specs.Components.{ComponentDecl}
use Rattle.fc_types.specs.Libraries.{same_instance}
use Rattle.fc_value.specs.declared.value.Value.{Value}
use Rattle.fc_store.specs.Scopes.{at, each_at}
use Rattle.fc_store.specs.Spots.{not_supported, resolved}
use Rattle.fc_store.specs.Stores.{Change, Components, Stored, Tree, changed, changed_at, declared_in, further, gone_back, is_in, over_mark, places_in, present, value_in, value_of, with_component, with_value, without_mark}
use Rattle.fc_store.specs.declared.spots.Purpose.TheVariants as purpose
use Rattle.fc_store.proofs.Apart.{made}
use Rattle.fc_store.proofs.Doing.{err_ok, leads, same_tree}
use Rattle.fc_store.proofs.Lists.{get_map, map_at, map_each, none_some, some_is}
use Rattle.fc_exec.specs.Operations.{applied, at_marks, coded, invalid_flags, leaf_made, set_spot}
use Rattle.fc_exec.specs.Operations as spec
use Rattle.fc_exec.specs.Running.{Named, all_marked, applied_to, is_marked, lies_in, unmarked}
use Rattle.fc_exec.specs.declared.operations.Operation.{Operation}
use Rattle.fc_exec.specs.declared.operations.Operation.TheVariants as operation
use Rattle.fc_exec.proofs.Places.{at_each, at_id, at_next, changed_if, each_id, over_scope, within}

-- ---- without a mark
abbrev less : List (ℕ × ℕ) → Stored → Stored
less mark s = over_mark without_mark mark s

abbrev values : Tree → Components
values t = t.now

abbrev value_from : ℕ → Option Components → Option Value
value_from c None = None
value_from c (Some vs) = present (slice_get vs c)

value_now : (c : ℕ) (o : Option Tree) → value_of c o ≡ value_from c (option_map values o)
value_now c None = refl
value_now c (Some t) = refl

values_kept : (mark : List (ℕ × ℕ)) (ts : List Tree) → map values (each_at without_mark mark ts) ≡ map values ts
values_kept mark ts = map_each values without_mark (λ vs. vs) mark ts (λ t. refl) ∙ each_id mark (map values ts)

value_read : (ts : List Tree) (place : ℕ × ℕ) → value_of place.1 (slice_get ts place.0) ≡ value_from place.1 (slice_get (map values ts) place.0)
value_read ts place = value_now place.1 (slice_get ts place.0) ∙ ap (value_from place.1) (sym (get_map values ts place.0))

value_kept : (mark : List (ℕ × ℕ)) (s : Stored) (place : ℕ × ℕ) → value_in (less mark s) place ≡ value_in s place
value_kept mark s place =
    value_read (each_at without_mark mark s.trees) place ∙ ap (λ vs. value_from place.1 (slice_get vs place.0)) (values_kept mark s.trees) ∙ sym (value_read s.trees place)

put_less : (mark : List (ℕ × ℕ)) (s : Stored) (place : ℕ × ℕ) (v : Option Value) → with_value (less mark s) place v ≡ less mark (with_value s place v)
put_less mark s place v =
    let p = at_each (with_component place.1 v) without_mark (λ t. refl) place.0 mark s.trees in
    λ i. record { library = s.library; instances = s.instances; trees = p i }

abbrev also : List (ℕ × ℕ) → Result Stored ℕ → Result Stored ℕ
also mark r = r >>= λ t. Ok (less mark t)

puts_less : (mark : List (ℕ × ℕ)) (s : Stored) (place : ℕ × ℕ) (r : Result (Option Value) ℕ) → (r >>= λ v. Ok (with_value (less mark s) place v)) ≡ also mark (r >>= λ v. Ok (with_value s place v))
puts_less mark s place (Err code) = refl
puts_less mark s place (Ok v) = ap Ok (put_less mark s place v)

there_less : (f : Change) (mark : List (ℕ × ℕ)) (s : Stored) (place : ℕ × ℕ) (o : Option ComponentDecl) → changed_at f (less mark s) place o ≡ also mark (changed_at f s place o)
there_less f mark s place None = refl
there_less f mark s place (Some d) = ap (λ v. f d v >>= λ w. Ok (with_value (less mark s) place w)) (value_kept mark s place) ∙ puts_less mark s place (f d (value_in s place))

spot_less : (f : Change) (spot : Spot) (mark : List (ℕ × ℕ)) (s : Stored) (r : Result (ℕ × ℕ) ℕ)
    → (r >>= λ place. changed_at f (less mark s) place (slice_get (declared_in s.library spot.class) place.1)) ≡ also mark (r >>= λ place. changed_at f s place (slice_get (declared_in s.library spot.class) place.1))
spot_less f spot mark s (Err code) = refl
spot_less f spot mark s (Ok place) = there_less f mark s place (slice_get (declared_in s.library spot.class) place.1)

-- a change does not look at a mark, and keeps it
changed_less : (f : Change) (spot : Spot) (mark : List (ℕ × ℕ)) (s : Stored) → changed f spot (less mark s) ≡ also mark (changed f spot s)
changed_less f spot mark s = spot_less f spot mark s (resolved purpose.Write s.library s.instances spot.class spot.instance spot.steps)

abbrev putting : Spot → List ℕ → Change
putting spot bytes component v = put_cell (further spot.steps) bytes component.ty v

set_less : (spot : Spot) (b : Body-F Body PathData) (mark : List (ℕ × ℕ)) (s : Stored) → set_spot spot b (less mark s) ≡ also mark (set_spot spot b s)
set_less spot Body-F.Nothing mark s = refl
set_less spot (Body-F.Full bytes) mark s = changed_less (putting spot bytes) spot mark s
set_less spot (Body-F.Sparse ilvs) mark s = changed_less (λ component v. merge_cell (further spot.steps) ilvs component.ty v) spot mark s
set_less spot (Body-F.Outcome code) mark s = refl
set_less spot (Body-F.Nested paths) mark s = refl

leaf_less : (kind : OperKind) (spot : Spot) (b : Body) (mark : List (ℕ × ℕ)) (s : Stored) → leaf_made kind spot b (less mark s) ≡ also mark (leaf_made kind spot b s)
leaf_less kinds.Set spot b mark s = set_less spot (out-Body b) mark s
leaf_less kinds.Del spot b mark s = changed_less (λ component v. remove_cell component.optional (further spot.steps) component.ty v) spot mark s
leaf_less kinds.SetProp spot b mark s = refl
leaf_less kinds.SetResponse spot b mark s = refl
leaf_less kinds.SetPropResponse spot b mark s = refl
leaf_less kinds.DelResponse spot b mark s = refl
leaf_less kinds.Get spot b mark s = refl
leaf_less kinds.GetProp spot b mark s = refl
leaf_less kinds.GetResponse spot b mark s = refl
leaf_less kinds.GetPropResponse spot b mark s = refl
leaf_less kinds.Report spot b mark s = refl

made_less : (op : Operation) (mark : List (ℕ × ℕ)) (s : Stored) → spec.made op (less mark s) ≡ also mark (spec.made op s)
made_less (operation.Leaf l) mark s = leaf_less l.kind l.spot l.body mark s
made_less operation.Commit mark s = refl
made_less operation.Trcomp mark s = refl

coded_less : (mark : List (ℕ × ℕ)) (s : Stored) (r : Result Stored ℕ) → coded (less mark s) (also mark r) ≡ (less mark (coded s r).0, (coded s r).1)
coded_less mark s (Ok t) = refl
coded_less mark s (Err code) = refl

-- an operation does not look at a mark, and keeps it
pub applied_less : (op : Operation) (mark : List (ℕ × ℕ)) (s : Stored) → applied (less mark s) op ≡ (less mark (applied s op).0, (applied s op).1)
applied_less op mark s = ap (coded (less mark s)) (made_less op mark s) ∙ coded_less mark s (spec.made op s)

applied_unmarked : (op : Operation) (mark : Option (List (ℕ × ℕ))) (s : Stored) → applied (unmarked mark s) op ≡ (unmarked mark (applied s op).0, (applied s op).1)
applied_unmarked op None s = refl
applied_unmarked op (Some mark) s = applied_less op mark s

-- what was done to a store with a mark was done to the store without it
pub effect_is : (n : ℕ) (mark : Option (List (ℕ × ℕ))) (old new : Stored) (op : Operation) (code : ℕ) → ◌≡◌ {A = Stored × ℕ} (new, code) (applied old op) → ◌≡◌ {A = Named × ℕ} ((n, unmarked mark new), code) (applied_to (n, unmarked mark old) op)
effect_is n mark old new op code e =
    let p : ◌≡◌ {A = Stored × ℕ} (unmarked mark new, code) (applied (unmarked mark old) op) = ap (λ (x : Stored × ℕ). (unmarked mark x.0, x.1)) e ∙ sym (applied_unmarked op mark old) in
    ap (λ (x : Stored × ℕ). ((n, x.0), x.1)) p

-- ---- what a change leaves
pub record Touched (spot : Spot) (s t : Stored) : Type 0 where
  pub place : ℕ × ℕ
  pub v : Option Value
  pub leads : resolved purpose.Write s.library s.instances spot.class spot.instance spot.steps ≡ Ok place
  pub is : t ≡ with_value s place v

touched_by : (f : Change) (spot : Spot) (s t : Stored) → changed f spot s ≡ Ok t → Touched spot s t
touched_by f spot s t e = let m = made f spot s t e in record { place = m.place; v = m.v; leads = m.leads; is = m.is }

set_touched : (spot : Spot) (b : Body-F Body PathData) (s t : Stored) → set_spot spot b s ≡ Ok t → Touched spot s t
set_touched spot Body-F.Nothing s t e = absurd (err_ok not_supported t e)
set_touched spot (Body-F.Full bytes) s t e = touched_by (putting spot bytes) spot s t e
set_touched spot (Body-F.Sparse ilvs) s t e = touched_by (λ component v. merge_cell (further spot.steps) ilvs component.ty v) spot s t e
set_touched spot (Body-F.Outcome code) s t e = absurd (err_ok not_supported t e)
set_touched spot (Body-F.Nested paths) s t e = absurd (err_ok not_supported t e)

-- what a leaf changes lies at its instance
pub leaf_touched : (kind : OperKind) (spot : Spot) (b : Body) (s t : Stored) → leaf_made kind spot b s ≡ Ok t → Touched spot s t
leaf_touched kinds.Set spot b s t e = set_touched spot (out-Body b) s t e
leaf_touched kinds.Del spot b s t e = touched_by (λ component v. remove_cell component.optional (further spot.steps) component.ty v) spot s t e
leaf_touched kinds.SetProp spot b s t e = absurd (err_ok not_supported t e)
leaf_touched kinds.SetResponse spot b s t e = absurd (err_ok not_supported t e)
leaf_touched kinds.SetPropResponse spot b s t e = absurd (err_ok not_supported t e)
leaf_touched kinds.DelResponse spot b s t e = absurd (err_ok not_supported t e)
leaf_touched kinds.Get spot b s t e = absurd (err_ok not_supported t e)
leaf_touched kinds.GetProp spot b s t e = absurd (err_ok not_supported t e)
leaf_touched kinds.GetResponse spot b s t e = absurd (err_ok not_supported t e)
leaf_touched kinds.GetPropResponse spot b s t e = absurd (err_ok not_supported t e)
leaf_touched kinds.Report spot b s t e = absurd (err_ok not_supported t e)

abbrev holds : Tree → List Components
holds t = t.held

marks_kept : (s : Stored) (place : ℕ × ℕ) (v : Option Value) → at_marks (with_value s place v) ≡ at_marks s
marks_kept s place v = map_at holds (with_component place.1 v) (λ h. h) s.trees place.0 (λ t. refl) ∙ at_id place.0 (map holds s.trees)

touched_marks : (spot : Spot) (s t : Stored) → Touched spot s t → at_marks t ≡ at_marks s
touched_marks spot s t m = ap at_marks m.is ∙ marks_kept s m.place m.v

coded_marks : (spot : Spot) (s : Stored) (r : Result Stored ℕ) → ((t : Stored) → r ≡ Ok t → Touched spot s t) → at_marks (coded s r).0 ≡ at_marks s
coded_marks spot s (Ok t) m = touched_marks spot s t (m t refl)
coded_marks spot s (Err code) m = refl

-- an operation changes nothing that is held at a mark
pub at_marks_stay : (s : Stored) (op : Operation) → at_marks (applied s op).0 ≡ at_marks s
at_marks_stay s (operation.Leaf l) = coded_marks l.spot s (leaf_made l.kind l.spot l.body s) (λ t e. leaf_touched l.kind l.spot l.body s t e)
at_marks_stay s operation.Commit = refl
at_marks_stay s operation.Trcomp = refl

-- ---- what a mark gives back
any_default : (hs : List Components) (d e : Components) → is_marked hs ≡ true → slice_index_or hs (length hs - 1) d ≡ slice_index_or hs (length hs - 1) e
any_default [] d e m = absurd cc
any_default (x ∷ hs) d e m = index_any (x ∷ hs) (length (x ∷ hs) - 1) d e (omega arith)
  where
    index_any : (hs : List Components) (i : ℕ) (d e : Components) → i < length hs → slice_index_or hs i d ≡ slice_index_or hs i e
    index_any [] i d e lt = absurd (omega (arith, lt))
    index_any (x ∷ hs) zero d e lt = refl
    index_any (x ∷ hs) (suc i) d e lt = index_any hs i d e (omega (arith, lt))

back_same : (c : ℕ) (v : Option Value) (t : Tree) → is_marked t.held ≡ true → gone_back (with_component c v t) ≡ gone_back t
back_same c v t m = same_tree (gone_back (with_component c v t)) (gone_back t) (any_default t.held (slice_set t.now c v) t.now m) refl

and_parts : (a b : Bool) → (a && b) ≡ true → (a ≡ true) × (b ≡ true)
and_parts true b e = (refl, e)
and_parts false b e = absurd cc

marked_one : (b m : Bool) → b ≡ true → (not b || m) ≡ true → m ≡ true
marked_one true m e f = f
marked_one false m e f = absurd cc

back_if : (b : Bool) (c : ℕ) (v : Option Value) (t : Tree) → b ≡ true → is_marked t.held ≡ true → changed_if gone_back b (with_component c v t) ≡ changed_if gone_back b t
back_if true c v t e m = back_same c v t m
back_if false c v t e m = absurd cc

-- what is given back to an instance of the scope does not depend on what it holds now
pub back_within : (scope pairs : List (ℕ × ℕ)) (ts : List Tree) (i c : ℕ) (v : Option Value) (p : ℕ × ℕ) → slice_get pairs i ≡ Some p → is_in scope p ≡ true → all_marked scope pairs (map holds ts) ≡ true
    → within gone_back scope pairs (at (with_component c v) i ts) ≡ within gone_back scope pairs ts
back_within scope [] ts i c v p e b a = absurd (none_some p e)
back_within scope (q ∷ pairs) [] i c v p e b a = refl
back_within scope (q ∷ pairs) (t ∷ ts) zero c v p e b a =
    let in_q : is_in scope q ≡ true = ap (is_in scope) (some_is q p e) ∙ b in
    let m : is_marked t.held ≡ true = marked_one (is_in scope q) (is_marked t.held) in_q (and_parts (not (is_in scope q) || is_marked t.held) (all_marked scope pairs (map holds ts)) a).0 in
    ap (λ u. u ∷ within gone_back scope pairs ts) (back_if (is_in scope q) c v t in_q m)
back_within scope (q ∷ pairs) (t ∷ ts) (suc i) c v p e b a =
    ap (within gone_back scope (q ∷ pairs)) (at_next (with_component c v) i t ts)
    ∙ ap (λ us. changed_if gone_back (is_in scope q) t ∷ us) (back_within scope pairs ts i c v p e b (and_parts (not (is_in scope q) || is_marked t.held) (all_marked scope pairs (map holds ts)) a).1)

in_scope : (scope : List (ℕ × ℕ)) (p : ℕ × ℕ) → list_any (same_instance p) scope ≡ true → is_in scope p ≡ true
in_scope [] p e = refl
in_scope (q ∷ qs) p e = e

same_pair : (q : ℕ × ℕ) (a b : ℕ) → q.0 ≡ a → q.1 ≡ b → q ≡ (a, b)
same_pair q a b e f = λ i. (e i, f i)

back_touched : (scope mark : List (ℕ × ℕ)) (spot : Spot) (s t : Stored) → Touched spot s t → list_any (same_instance (spot.class, spot.instance)) scope ≡ true
    → map (λ m. m.0) mark ≡ places_in scope 0 s.instances → all_marked scope s.instances (at_marks s) ≡ true → over_mark gone_back mark t ≡ over_mark gone_back mark s
back_touched scope mark spot s t m lies places a =
    let l = leads purpose.Write s.library s.instances spot.class spot.instance spot.steps m.place m.leads in
    let b : is_in scope l.0 ≡ true = ap (is_in scope) (same_pair l.0 spot.class spot.instance l.2.0 l.2.1) ∙ in_scope scope (spot.class, spot.instance) lies in
    let p : each_at gone_back mark (at (with_component m.place.1 m.v) m.place.0 s.trees) ≡ each_at gone_back mark s.trees =
    over_scope gone_back scope s.instances mark (at (with_component m.place.1 m.v) m.place.0 s.trees) places
    ∙ back_within scope s.instances s.trees m.place.0 m.place.1 m.v l.0 l.1 b a ∙ sym (over_scope gone_back scope s.instances mark s.trees places) in
    ap (over_mark gone_back mark) m.is ∙ λ i. record { library = s.library; instances = s.instances; trees = p i }

coded_back : (scope mark : List (ℕ × ℕ)) (spot : Spot) (s : Stored) (r : Result Stored ℕ) → ((t : Stored) → r ≡ Ok t → Touched spot s t) → list_any (same_instance (spot.class, spot.instance)) scope ≡ true
    → map (λ m. m.0) mark ≡ places_in scope 0 s.instances → all_marked scope s.instances (at_marks s) ≡ true → over_mark gone_back mark (coded s r).0 ≡ over_mark gone_back mark s
coded_back scope mark spot s (Ok t) m lies places a = back_touched scope mark spot s t (m t refl) lies places a
coded_back scope mark spot s (Err code) m lies places a = refl

-- an operation at an instance of the scope changes nothing that a mark over the scope gives back
pub back_stays : (scope mark : List (ℕ × ℕ)) (s : Stored) (op : Operation) → lies_in scope op ≡ true → map (λ m. m.0) mark ≡ places_in scope 0 s.instances → all_marked scope s.instances (at_marks s) ≡ true
    → over_mark gone_back mark (applied s op).0 ≡ over_mark gone_back mark s
back_stays scope mark s (operation.Leaf l) lies places a = coded_back scope mark l.spot s (leaf_made l.kind l.spot l.body s) (λ t e. leaf_touched l.kind l.spot l.body s t e) lies places a
back_stays scope mark s operation.Commit lies places a = refl
back_stays scope mark s operation.Trcomp lies places a = refl

-- the instances stay
coded_instances : (spot : Spot) (s : Stored) (r : Result Stored ℕ) → ((t : Stored) → r ≡ Ok t → Touched spot s t) → (coded s r).0.instances ≡ s.instances
coded_instances spot s (Ok t) m = let n = m t refl in ap (λ (u : Stored). u.instances) n.is
coded_instances spot s (Err code) m = refl

pub instances_stay : (s : Stored) (op : Operation) → (applied s op).0.instances ≡ s.instances
instances_stay s (operation.Leaf l) = coded_instances l.spot s (leaf_made l.kind l.spot l.body s) (λ t e. leaf_touched l.kind l.spot l.body s t e)
instances_stay s operation.Commit = refl
instances_stay s operation.Trcomp = refl
