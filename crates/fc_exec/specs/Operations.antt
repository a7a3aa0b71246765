-- The operations of a Config, what each does to a store, and what all of them do in an execution mode: RFC 5810, sections 4.3.1.1 and 7.1.6.
-- That a SET-PROP is not supported, that COMMIT and TRCOMP have invalid flags where no transaction takes them, and that a transaction changes
-- nothing outside its scope, is this profile's own.
use Rattle.std.specs.Prelude.{ℕ, Bool, true, List, [], ◌∷◌, map, Option, Some, None, Result, Ok, Err, if◌then◌else◌}
use Rattle.std.specs.List.{flat_map}
use Rattle.fc_modes.specs.Modes.{Outcome, outcome}
use Rattle.fc_modes.specs.declared.mode.Mode.{Mode}
use Rattle.fc_path.specs.Leaves.{oper_leaves}
use Rattle.fc_path.specs.declared.oper.Oper.{Oper}
use Rattle.fc_path.specs.declared.oper.Oper.TheVariants as oper
use Rattle.fc_path.specs.declared.oper.OperKind.{OperKind}
use Rattle.fc_path.specs.declared.oper.OperKind.TheVariants as kinds
use Rattle.fc_path.specs.declared.oper.Select.{Select}
use Rattle.fc_path.specs.declared.oper.Spot.{Spot}
use Rattle.fc_path.specs.declared.path.Body.{Body, out-Body}
use Rattle.fc_path.specs.declared.path.Body.TheOpen.{Body-F}
use Rattle.fc_path.specs.declared.path.PathData.{PathData}
use Rattle.fc_store.specs.Spots.{not_supported}
use Rattle.fc_store.specs.Stores.{Components, Stored, is_in, merge_spot, put_spot, remove_spot}
use Rattle.fc_value.specs.Outcomes.{invalid_parameters}
use Rattle.fc_exec.specs.declared.operations.Operation.{Operation}
use Rattle.fc_exec.specs.declared.operations.Operation.TheVariants as operation

-- the operation was done
abbrev pub success : ℕ
success = 0

-- there is no transaction that the operation would end
abbrev pub invalid_flags : ℕ
invalid_flags = 18

-- ---- the operations of selects
-- each leaf is an operation, and so are COMMIT and TRCOMP; a COMMIT-RESPONSE answers one and is none
abbrev pub oper_operations : ℕ → ℕ → Oper → List Operation
oper_operations class instance (oper.Paths kind paths) = map operation.Leaf (oper_leaves class instance (oper.Paths kind paths))
oper_operations class instance oper.Commit = operation.Commit ∷ []
oper_operations class instance oper.Trcomp = operation.Trcomp ∷ []
oper_operations class instance (oper.CommitResponse code) = []

abbrev pub select_operations : Select → List Operation
select_operations s = flat_map (oper_operations s.class s.instance) s.opers

-- the operations of selects, in reading order
abbrev pub operations : List Select → List Operation
operations selects = flat_map select_operations selects

-- ---- what an operation does
-- a SET puts a whole value, or changes the parts that are named
abbrev pub set_spot : Spot → Body-F Body PathData → Stored → Result Stored ℕ
set_spot spot (Body-F.Full bytes) s = put_spot spot bytes s
set_spot spot (Body-F.Sparse ilvs) s = merge_spot spot ilvs s
set_spot spot Body-F.Nothing s = Err not_supported
set_spot spot (Body-F.Outcome code) s = Err not_supported
set_spot spot (Body-F.Nested paths) s = Err not_supported

-- properties are not set here, and what is neither a SET nor a DEL stands in no Config
abbrev pub leaf_made : OperKind → Spot → Body → Stored → Result Stored ℕ
leaf_made kinds.Set spot body s = set_spot spot (out-Body body) s
leaf_made kinds.Del spot body s = remove_spot spot s
leaf_made kinds.SetProp spot body s = Err not_supported
leaf_made kinds.SetResponse spot body s = Err not_supported
leaf_made kinds.SetPropResponse spot body s = Err not_supported
leaf_made kinds.DelResponse spot body s = Err not_supported
leaf_made kinds.Get spot body s = Err not_supported
leaf_made kinds.GetProp spot body s = Err not_supported
leaf_made kinds.GetResponse spot body s = Err not_supported
leaf_made kinds.GetPropResponse spot body s = Err not_supported
leaf_made kinds.Report spot body s = Err not_supported

-- what an operation makes of a store, or the code by which it is refused
abbrev pub made : Operation → Stored → Result Stored ℕ
made (operation.Leaf l) s = leaf_made l.kind l.spot l.body s
made operation.Commit s = Err invalid_flags
made operation.Trcomp s = Err invalid_flags

-- the store afterwards, which is the same after a refusal, and the code
abbrev pub coded : Stored → Result Stored ℕ → Stored × ℕ
coded s (Ok t) = (t, success)
coded s (Err code) = (s, code)

abbrev pub applied : Stored → Operation → Stored × ℕ
applied s op = coded s (made op s)

-- ---- within a scope
-- the instance at which an operation lies, whatever it is; COMMIT and TRCOMP lie at none
abbrev pub place_of : Operation → Option (ℕ × ℕ)
place_of (operation.Leaf l) = Some (l.spot.class, l.spot.instance)
place_of operation.Commit = None
place_of operation.Trcomp = None

-- whether a scope has the instance; what lies at none is outside of no scope
abbrev pub is_inside : List (ℕ × ℕ) → Option (ℕ × ℕ) → Bool
is_inside scope None = true
is_inside scope (Some pair) = is_in scope pair

-- an operation outside a scope is refused in place of what it does
abbrev pub within : List (ℕ × ℕ) → Stored → Operation → Stored × ℕ
within scope s op = if is_inside scope (place_of op) then applied s op else (s, invalid_parameters)

-- ---- all operations
-- what the operations of selects do to a store in a mode, the code of each, and those of them that are done
abbrev pub executed : Mode → Stored → List Select → Outcome Stored Operation
executed mode s selects = outcome applied mode s (operations selects)

-- the same within a scope
abbrev pub executed_within : List (ℕ × ℕ) → Mode → Stored → List Select → Outcome Stored Operation
executed_within scope mode s selects = outcome (within scope) mode s (operations selects)

-- what each instance holds at the marks that stand there
abbrev pub at_marks : Stored → List (List Components)
at_marks s = map (λ t. t.held) s.trees
