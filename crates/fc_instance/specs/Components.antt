-- What a SET of FULLDATA and a DEL make of an array that is a component, told by its entries: RFC 5810, section 7.1; the codes and
-- their order are this profile's own.
use Rattle.std.specs.Prelude.{◌≡◌, ℕ, nat_le, List, [], ◌∷◌, Option, Some, None, Result, Ok, Err, if◌then◌else◌}
use Rattle.std.specs.FinMap.{entries, get, len}
use Rattle.fc_path.specs.declared.oper.Step.{Step}
use Rattle.fc_base.specs.declared.faults.OpFault.{OpFault}
use Rattle.fc_tree.specs.Finding.{invalid_path, not_found}
use Rattle.fc_tree.specs.Putting.{already_there, no_room, put_in}
use Rattle.fc_types.specs.Types.{fields_of}
use Rattle.fc_types.specs.declared.ty.Field.{Field}
use Rattle.fc_types.specs.declared.ty.KeyDecl.{KeyDecl}
use Rattle.fc_types.specs.declared.ty.Ty.{Ty}
use Rattle.fc_value.specs.Keys.{keys_differ}
use Rattle.fc_base.specs.Answers.{◌>>=◌}
use Rattle.fc_value.specs.Outcomes.{Fails}
use Rattle.fc_value.specs.Reading.{full_in}
use Rattle.fc_value.specs.declared.value.Value.{Value}
use Rattle.fc_value.specs.declared.value.Value.TheVariants as value
use Rattle.fc_instance.specs.Histories.{Cell, Values, rows_of, takes}
use Rattle.fc_rows.specs.Rowed.{RowMap, Shape, updated}

-- an entry, where there is room for one more
abbrev pub roomy : ℕ → RowMap → Value → Result Value ℕ
roomy limit m w = if nat_le limit (len m) then Err no_room else Ok w

-- a new entry, which only the last step of all makes
abbrev pub new_entry : List Step → List ℕ → Ty → ℕ → RowMap → Result Value ℕ
new_entry [] bytes entry limit m = full_in entry bytes >>= roomy limit m
new_entry (s ∷ ss) bytes entry limit m = Err not_found

-- the entry that is put, of what stands at its subscript: a new one, or that one with a part put anew
abbrev pub put_entry : List Step → List ℕ → Ty → ℕ → RowMap → Option Value → Result Value ℕ
put_entry ss bytes entry limit m None = new_entry ss bytes entry limit m
put_entry ss bytes entry limit m (Some v) = put_in ss bytes entry v

-- entries, no two of which may have an equal key
abbrev pub rekeyed : List Field → List KeyDecl → RowMap → Result RowMap ℕ
rekeyed fields keys m = if keys_differ fields keys (entries m) then Ok m else Err already_there

-- the entries with the one at a subscript put
abbrev pub put_rows : List Step → List ℕ → Ty → ℕ → List KeyDecl → RowMap → ℕ → Result RowMap ℕ
put_rows ss bytes entry limit keys m s = put_entry ss bytes entry limit m (get m s) >>= λ w. rekeyed (fields_of entry) keys (updated m s (Some w))

-- the entries without the one at a subscript
abbrev pub remove_row : RowMap → ℕ → Option Value → Result RowMap ℕ
remove_row m s None = Err not_found
remove_row m s (Some v) = Ok (updated m s None)

-- entries as the value of the component
abbrev pub table : RowMap → Result Value ℕ
table m = Ok (value.Table (entries m))

-- the same, where they are what a change gives
abbrev pub as_value : Result RowMap ℕ → Result Value ℕ
as_value r = r >>= table

-- ---- the same, of what is seen of a component
-- the entry that is put, and that the others leave it its keys
abbrev pub shaped_put : List Step → List ℕ → Ty → ℕ → ℕ → Value → Option Shape → Result Value ℕ
shaped_put ss bytes entry limit s v None = Err invalid_path
shaped_put ss bytes entry limit s v (Some shape) = put_entry ss bytes entry limit (rows_of v) (get (rows_of v) s)

abbrev pub cell_put : List Step → List ℕ → Ty → ℕ → ℕ → Option Cell → Result Value ℕ
cell_put ss bytes entry limit s None = Err invalid_path
cell_put ss bytes entry limit s (Some cell) = shaped_put ss bytes entry limit s cell.0 cell.1

abbrev pub entry_at_cell : List Step → List ℕ → Ty → ℕ → ℕ → Option (Option Cell) → Result Value ℕ
entry_at_cell ss bytes entry limit s None = Err invalid_path
entry_at_cell ss bytes entry limit s (Some cell) = cell_put ss bytes entry limit s cell

abbrev pub if_taken : ℕ → Option (Option Cell) → Value → Result Value ℕ
if_taken s cell w = if takes s (Some w) cell then Ok w else Err already_there

-- the entry that is put at a subscript of a component, or the code: it is no array, what putting gives, a key that is there
abbrev pub row_put : List Step → List ℕ → Ty → ℕ → ℕ → Option (Option Cell) → Result Value ℕ
row_put ss bytes entry limit s cell = entry_at_cell ss bytes entry limit s cell >>= if_taken s cell

-- what stands at a subscript of a component
abbrev pub shaped_entry : ℕ → Value → Option Shape → Option Value
shaped_entry s v None = None
shaped_entry s v (Some shape) = get (rows_of v) s

abbrev pub cell_entry : ℕ → Option Cell → Option Value
cell_entry s None = None
cell_entry s (Some cell) = shaped_entry s cell.0 cell.1

-- the entry at a subscript, and none where the component is no array
abbrev pub entry_at_subscript : ℕ → Option (Option Cell) → Option Value
entry_at_subscript s None = None
entry_at_subscript s (Some cell) = cell_entry s cell

-- what a call answers, and what stands then: the change that is meant, or after a refusal with its code, and for want of memory, what
-- stood before
abbrev pub Changes : Result (Unit {0}) OpFault → Result Value ℕ → (Value → Values) → Values → Values → Type 0
Changes (Ok x) outcome put old new = (w : Value) × (outcome ≡ Ok w) × (new ≡ put w)
Changes (Err fault) outcome put old new = Fails fault outcome × (new ≡ old)
