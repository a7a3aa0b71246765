-- Where the first step leads from a component that is an array and whose entries are kept apart. This profile's own.
use Rattle.std.specs.Prelude.{◌≡◌, ℕ, true, List, [], ◌∷◌, is_some, Option, Some, None, Result, Ok, Err}
use Rattle.std.specs.FinMap.{entries, get}
use Rattle.fc_base.specs.Answers.{◌>>=◌}
use Rattle.fc_base.specs.declared.faults.OpFault.{OpFault}
use Rattle.fc_path.specs.declared.oper.Step.{Step}
use Rattle.fc_path.specs.declared.oper.Step.TheVariants as step
use Rattle.fc_rows.specs.Rowed.{RowMap}
use Rattle.fc_tree.specs.Finding.{by_key, from_array, not_found, or_code, place_in}
use Rattle.fc_tree.specs.Merging.{merge_in}
use Rattle.fc_tree.specs.Removing.{remove_in}
use Rattle.fc_types.specs.Types.{fields_of}
use Rattle.fc_types.specs.declared.ty.Field.{Field}
use Rattle.fc_types.specs.declared.ty.KeyDecl.{KeyDecl}
use Rattle.fc_types.specs.declared.ty.Ty.{Ty}
use Rattle.fc_types.specs.declared.ty.Ty.TheOpen.{Ty-F}
use Rattle.fc_types.specs.declared.ty.Ty.TheViews.{out-Ty}
use Rattle.fc_value.specs.Outcomes.{Fails}
use Rattle.fc_value.specs.declared.value.Value.{Value}
use Rattle.fc_value.specs.declared.value.Value.TheVariants as value
use Rattle.fc_instance.specs.Cells.{seen_at, valued}
use Rattle.fc_wire.specs.declared.ilvs.Ilv.{Ilv}
use Rattle.fc_instance.specs.Components.{entry_at_subscript, if_taken}
use Rattle.fc_instance.specs.Histories.{Cell}
use Rattle.fc_instance.specs.declared.components.EntryPath.{EntryPath}

-- the type of the entries of an array type, how many there may be, and its keys
abbrev pub array_layer : Ty-F Ty Field → Option (Ty × ℕ × List KeyDecl)
array_layer (Ty-F.Array entry limit keys) = Some (entry, limit, keys)
array_layer _ = None

abbrev pub array_of : Ty → Option (Ty × ℕ × List KeyDecl)
array_of ty = array_layer (out-Ty ty)

-- a step by a subscript leads to that subscript, and one by a key to an entry that is there
abbrev pub IsThere : RowMap → Step → ℕ → Type 0
IsThere m (step.Id i) s = i ≡ s
IsThere m (step.Key id bytes) s = is_some (get m s) ≡ true

-- the value of a key leads to the entry to which a subscript leads, or it has a code
abbrev pub ReachedWith : List Field → RowMap → Option KeyDecl → List ℕ → Result ℕ OpFault → Type 0
ReachedWith fields m key bytes (Ok s) = (by_key fields (entries m) key bytes ≡ from_array fields [] (entries m) (step.Id s)) × (is_some (get m s) ≡ true)
ReachedWith fields m key bytes (Err fault) = Fails fault (by_key fields (entries m) key bytes)

-- a step leads to the entry to which a subscript leads, or it has a code
abbrev pub Reached : List Field → List KeyDecl → RowMap → Step → Result ℕ OpFault → Type 0
Reached fields keys m t (Ok s) = (from_array fields keys (entries m) t ≡ from_array fields keys (entries m) (step.Id s)) × IsThere m t s
Reached fields keys m t (Err fault) = Fails fault (from_array fields keys (entries m) t)

-- a component has these entries, kept apart by what its type says, and a step leads to the one at a subscript
pub record Leads (ty : Ty) (t : Step) (cell : Option (Option Cell)) (entry : Ty) (limit s : ℕ) : Type 0 where
  pub keys : List KeyDecl
  pub rows : RowMap
  pub array : out-Ty ty ≡ Ty-F.Array entry limit keys
  pub kept : cell ≡ Some (Some (value.Table (entries rows), Some (fields_of entry, keys)))
  pub same : place_in ty (value.Table (entries rows)) t ≡ place_in ty (value.Table (entries rows)) (step.Id s)
  pub there : IsThere rows t s

-- where a step leads from a component
abbrev pub first_place : Step → Ty → Option Value → Result (Option ℕ) ℕ
first_place t ty None = Err not_found
first_place t ty (Some v) = place_in ty v t

-- steps lead to an entry of a component, and on within it
abbrev pub IsPath : Ty → List Step → Option (Option Cell) → EntryPath → Type 0
IsPath ty [] cell path = ⊥
IsPath ty (t ∷ ts) cell path = Leads ty t cell path.entry.now path.limit path.subscript × (path.rest.now ≡ ts)

-- the path to an entry, or none where entries are not kept apart, or the code of the step
abbrev pub LeadsBy : Ty → Step → List Step → Option (Option Cell) → Result (Option EntryPath) OpFault → Type 0
LeadsBy ty t rest cell (Ok None) = Unit {0}
LeadsBy ty t rest cell (Ok (Some path)) = IsPath ty (t ∷ rest) cell path
LeadsBy ty t rest cell (Err fault) = Fails fault (first_place t ty (valued (seen_at cell)))

-- ---- changes of a value that is there
-- what becomes of the value of a component
abbrev pub through : (Value → Result Value ℕ) → Option Value → Result (Option Value) ℕ
through change o = (or_code not_found o >>= change) >>= λ w. Ok (Some w)

-- what becomes of an entry
abbrev pub at_entry : {A : Type 0} → (Value → Result A ℕ) → Option Value → Result A ℕ
at_entry change o = or_code not_found o >>= change

-- an entry without what steps lead to: none, where they lead to the entry itself
abbrev pub entry_less : List Step → Ty → Value → Result (Option Value) ℕ
entry_less [] entry v = Ok None
entry_less (t ∷ ts) entry v = remove_in (t ∷ ts) entry v >>= λ w. Ok (Some w)

-- the entry at a subscript of a component with changes, or the code: it is no entry, what merging gives, a key that is there
abbrev pub row_merge : List Step → List Ilv → Ty → ℕ → Option (Option Cell) → Result Value ℕ
row_merge ss ilvs entry s cell = at_entry (merge_in ss ilvs entry) (entry_at_subscript s cell) >>= if_taken s cell
