-- What changes make of a component, told by its value: RFC 5810, section 7.1; the codes and their order are this profile's own.
use Rattle.std.specs.Prelude.{◌≡◌, ℕ, Bool, List, [], ◌∷◌, slice_get, slice_set, Option, Some, None, Result, Ok, Err, if◌then◌else◌}
use Rattle.fc_base.specs.Answers.{◌>>=◌}
use Rattle.fc_base.specs.declared.faults.OpFault.{OpFault}
use Rattle.fc_path.specs.declared.oper.Step.{Step}
use Rattle.fc_rows.specs.Rowed.{Shape}
use Rattle.fc_tree.specs.Finding.{not_found, walked}
use Rattle.fc_tree.specs.Merging.{merge_in}
use Rattle.fc_tree.specs.Putting.{put_in}
use Rattle.fc_tree.specs.Removing.{remove_in}
use Rattle.fc_types.specs.Types.{fields_of}
use Rattle.fc_types.specs.declared.ty.Field.{Field}
use Rattle.fc_types.specs.declared.ty.Ty.{Ty}
use Rattle.fc_types.specs.declared.ty.Ty.TheOpen.{Ty-F}
use Rattle.fc_types.specs.declared.ty.Ty.TheViews.{out-Ty}
use Rattle.fc_value.specs.Outcomes.{Fails, invalid_parameters}
use Rattle.fc_value.specs.Reading.{full_in}
use Rattle.fc_value.specs.declared.value.Value.{Value}
use Rattle.fc_wire.specs.declared.ilvs.Ilv.{Ilv}
use Rattle.fc_instance.specs.Histories.{Cell, Values}

-- the value of a component, of what is seen of it
abbrev pub valued : Option Cell → Option Value
valued None = None
valued (Some cell) = Some cell.0

abbrev pub seen_at : Option (Option Cell) → Option Cell
seen_at None = None
seen_at (Some cell) = cell

-- what is seen of the component at a place, and its value
abbrev pub cell_at : ℕ → Values → Option Cell
cell_at c vs = seen_at (slice_get vs c)

abbrev pub value_at : ℕ → Values → Option Value
value_at c vs = valued (cell_at c vs)

-- what tells the entries of an array type apart
abbrev pub shape_layer : Ty-F Ty Field → Option Shape
shape_layer (Ty-F.Array entry limit keys) = Some (fields_of entry, keys)
shape_layer _ = None

abbrev pub shape_of : Ty → Option Shape
shape_of ty = shape_layer (out-Ty ty)

abbrev pub HasShape : Ty → Option Shape → Type 0
HasShape ty None = Unit {0}
HasShape ty (Some shape) = shape_of ty ≡ Some shape

-- entries that are kept apart are kept by the fields and keys of their type
abbrev pub IsShaped : Ty → Option Cell → Type 0
IsShaped ty None = Unit {0}
IsShaped ty (Some cell) = HasShape ty cell.1

-- what a SET of FULLDATA makes of a component; the last step of all may give an absent one its value
abbrev pub put_cell : List Step → List ℕ → Ty → Option Value → Result (Option Value) ℕ
put_cell [] bytes ty o = full_in ty bytes >>= λ w. Ok (Some w)
put_cell (s ∷ ss) bytes ty None = Err not_found
put_cell (s ∷ ss) bytes ty (Some v) = put_in (s ∷ ss) bytes ty v >>= λ w. Ok (Some w)

-- a SET of SPARSEDATA
abbrev pub merge_cell : List Step → List Ilv → Ty → Option Value → Result (Option Value) ℕ
merge_cell ss ilvs ty None = Err not_found
merge_cell ss ilvs ty (Some v) = merge_in ss ilvs ty v >>= λ w. Ok (Some w)

-- a DEL: of an optional component, or of an entry within one
abbrev pub remove_cell : Bool → List Step → Ty → Option Value → Result (Option Value) ℕ
remove_cell optional ss ty None = Err not_found
remove_cell optional [] ty (Some v) = if optional then Ok None else Err invalid_parameters
remove_cell optional (s ∷ ss) ty (Some v) = remove_in (s ∷ ss) ty v >>= λ w. Ok (Some w)

-- the node to which steps lead from a component
abbrev pub look_cell : List Step → Ty → Option Value → Result (Ty × Value) ℕ
look_cell ss ty None = Err not_found
look_cell ss ty (Some v) = walked ss ty v

-- what a call answers and what stands then: another thing for the component, or after a fault what stood before
abbrev pub Changed : Result (Unit {0}) OpFault → Result (Option Value) ℕ → Ty → ℕ → Values → Values → Type 0
Changed (Ok x) outcome ty c old new = (cell : Option Cell) × (outcome ≡ Ok (valued cell)) × IsShaped ty cell × (new ≡ slice_set old c cell)
Changed (Err fault) outcome ty c old new = Fails fault outcome × (new ≡ old)
