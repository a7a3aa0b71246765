-- What stands in the first operation of a Config, and what has the shape of a floor.
use Rattle.std.proofs.Common.{◌≡◌, ℕ, ◌==◌, ◌&&◌, ◌||◌, not, Bool, true, false, if◌then◌else◌, List, [], ◌∷◌, length, Option, Some, None, option_and_then, refl, sym, ap, ap₂, ◌∙◌, arith, rules}
use Rattle.std.specs.Option.{is_some}
use Rattle.fc_path.specs.declared.oper.Oper.{Oper}
use Rattle.fc_path.specs.declared.oper.Oper.TheVariants as oper
use Rattle.fc_path.specs.declared.oper.OperKind.{OperKind}
use Rattle.fc_path.specs.declared.oper.OperKind.TheVariants as kinds
use Rattle.fc_path.specs.declared.oper.Select.{Select}
use Rattle.fc_path.specs.declared.path.Body.{Body, out-Body, the_lemmas}
use Rattle.fc_path.specs.declared.path.Body.TheOpen.{Body-F}
use Rattle.fc_path.specs.declared.path.Body.TheVariants as body
use Rattle.fc_path.specs.declared.path.Key.{Key}
use Rattle.fc_path.specs.declared.path.PathData.{PathData}
use Rattle.fc_phases.specs.Asking.{floor_bytes, floor_in}
use Rattle.fc_phases.specs.Shapes.{first_full, full_layer, is_id, keyless, kind_full, only_full, path_full, set_full, single}
use Rattle.fc_phases.specs.declared.values.Subject.{Subject}
use Rattle.fc_plans.specs.Changes.{change_fault, has_eight, has_no_key, is_floor, is_floor_id, is_floor_oper, is_floor_opers, is_floor_path, is_floor_paths, is_set, is_short}
use Rattle.fc_plans.specs.Mastership.{on_mastership, path, sets}
use Rattle.fc_plans.specs.declared.fault.ChangeFault.{ChangeFault}
use Rattle.fc_heeding.specs.Heeding.{IsChange}

-- ---- a SET of one component

out_full : (bytes : List ℕ) → out-Body (body.Full bytes) ≡ Body-F.Full bytes
out_full bytes = search (rules, the_lemmas)

itself : (n : ℕ) → (n == n) ≡ true
itself n = grind arith

set_is : (id : ℕ) (bytes : List ℕ) → path_full id (path (id ∷ []) None (body.Full bytes)) ≡ Some bytes
set_is id bytes = ap₂ (λ (b : Bool) (l : Body-F Body PathData). if b then full_layer l else None) (itself id) (out_full bytes)

pub first_is : (id : ℕ) (bytes : List ℕ) (more : List Oper) (rest : List Select) → first_full id (on_mastership (sets id bytes ∷ more) ∷ rest) ≡ Some bytes
first_is id bytes more rest = set_is id bytes

pub only_is : (id : ℕ) (bytes : List ℕ) → only_full id (on_mastership (sets id bytes ∷ []) ∷ []) ≡ Some bytes
only_is id bytes = set_is id bytes

-- ---- what an element takes for a floor is what is no change

and_false : (b : Bool) → (b && false) ≡ false
and_false true = refl
and_false false = refl

some_if : (x : Subject) (b : Bool) → is_some (if b then Some x else None) ≡ b
some_if x true = refl
some_if x false = refl

layer_floor : (l : Body-F Body PathData) → is_some (option_and_then floor_bytes (full_layer l)) ≡ has_eight l
layer_floor Body-F.Nothing = refl
layer_floor (Body-F.Full value) = some_if _ (length value == 8)
layer_floor (Body-F.Sparse ilvs) = refl
layer_floor (Body-F.Outcome code) = refl
layer_floor (Body-F.Nested paths) = refl

id_floor : (ids : List ℕ) → is_id 6 ids ≡ is_floor_id ids
id_floor [] = refl
id_floor (id ∷ []) = refl
id_floor (id ∷ other ∷ ids) = refl

body_floor : (b : Bool) (l : Body-F Body PathData) → is_some (option_and_then floor_bytes (if b then full_layer l else None)) ≡ (b && has_eight l)
body_floor true l = layer_floor l
body_floor false l = refl

path_floor : (p : PathData) (key : Option Key) → is_some (option_and_then floor_bytes (keyless 6 p key)) ≡ (is_floor_id p.ids && (has_no_key key && has_eight (out-Body p.body)))
path_floor p None = body_floor (is_id 6 p.ids) (out-Body p.body) ∙ ap (λ (b : Bool). b && has_eight (out-Body p.body)) (id_floor p.ids)
path_floor p (Some key) = sym (and_false (is_floor_id p.ids))

paths_floor : (ps : List PathData) → is_some (option_and_then floor_bytes (option_and_then (path_full 6) (single ps))) ≡ is_floor_paths ps
paths_floor [] = refl
paths_floor (p ∷ []) = path_floor p p.key
paths_floor (p ∷ q ∷ ps) = refl

kind_floor : (k : OperKind) (ps : List PathData) → is_some (option_and_then floor_bytes (kind_full k 6 ps)) ≡ (is_set k && is_floor_paths ps)
kind_floor kinds.Set ps = paths_floor ps
kind_floor kinds.SetProp ps = refl
kind_floor kinds.Del ps = refl
kind_floor kinds.SetResponse ps = refl
kind_floor kinds.SetPropResponse ps = refl
kind_floor kinds.DelResponse ps = refl
kind_floor kinds.Get ps = refl
kind_floor kinds.GetProp ps = refl
kind_floor kinds.GetResponse ps = refl
kind_floor kinds.GetPropResponse ps = refl
kind_floor kinds.Report ps = refl

oper_floor : (o : Oper) → is_some (option_and_then floor_bytes (set_full 6 o)) ≡ is_floor_oper o
oper_floor (oper.Paths kind paths) = kind_floor kind paths
oper_floor oper.Commit = refl
oper_floor oper.Trcomp = refl
oper_floor (oper.CommitResponse code) = refl

opers_floor : (os : List Oper) → is_some (option_and_then floor_bytes (option_and_then (set_full 6) (single os))) ≡ is_floor_opers os
opers_floor [] = refl
opers_floor (o ∷ []) = oper_floor o
opers_floor (o ∷ other ∷ os) = refl

select_floor : (b c : Bool) (os : List Oper) → is_some (option_and_then floor_bytes (if b && c then option_and_then (set_full 6) (single os) else None)) ≡ (b && (c && is_floor_opers os))
select_floor true true os = opers_floor os
select_floor true false os = refl
select_floor false c os = refl

floors_are : (selects : List Select) → is_some (floor_in selects) ≡ is_floor selects
floors_are [] = refl
floors_are (s ∷ []) = select_floor (s.class == 126977) (s.instance == 1) s.opers
floors_are (s ∷ t ∷ more) = refl

-- ---- so no change is taken for one

none_of : (o : Option Subject) → is_some o ≡ false → o ≡ None
none_of None h = refl
none_of (Some x) h = absurd cc

no_fault : (a b : Bool) (f : ChangeFault) (o : Option ChangeFault) → (if not a || b then Some f else o) ≡ None → b ≡ false
no_fault true true f o h = absurd cc
no_fault false true f o h = absurd cc
no_fault a false f o h = refl

pub no_floor : (selects : List Select) → IsChange selects → floor_in selects ≡ None
no_floor [] h = refl
no_floor (s ∷ ss) h = none_of (floor_in (s ∷ ss)) (floors_are (s ∷ ss) ∙ no_fault _ (is_floor (s ∷ ss)) _ _ h)
