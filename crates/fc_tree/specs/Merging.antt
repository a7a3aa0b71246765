-- What a SET of SPARSEDATA makes of the value of a component: RFC 5810, section 7.1; the codes and their order are this profile's
-- own.
use Rattle.std.specs.Prelude.{◌≡◌, ◌<◌, ◌==◌, ℕ, zero, suc, nat_lt, List, [], ◌∷◌, length, position, Option, Some, None, Result, Ok, Err, if◌then◌else◌}
use Rattle.std.specs.Ordering.{nat_cmp}
use Rattle.std.specs.FinMap.Entries.{put}
use Rattle.fc_tree.specs.Places.{Belongs}
use Rattle.fc_path.specs.declared.oper.Step.{Step}
use Rattle.fc_types.specs.Types.{field_id, fields_of}
use Rattle.fc_types.specs.declared.ty.Field.{Field}
use Rattle.fc_types.specs.declared.ty.KeyDecl.{KeyDecl}
use Rattle.fc_types.specs.declared.ty.Ty.{Ty}
use Rattle.fc_types.specs.declared.ty.Ty.TheOpen.{Ty-F}
use Rattle.fc_types.specs.declared.ty.Ty.TheViews.{out-Ty}
use Rattle.fc_value.specs.Nodes.{put_at}
use Rattle.fc_base.specs.Answers.{◌>>=◌}
use Rattle.fc_value.specs.Outcomes.{invalid_tlv}
use Rattle.fc_value.specs.Sparse.{sparse_in}
use Rattle.fc_value.specs.declared.value.Value.{Value}
use Rattle.fc_wire.specs.declared.ilvs.Ilv.{Ilv}
use Rattle.fc_tree.specs.Finding.{entries_of, not_found, part_at, place_in}
use Rattle.fc_tree.specs.Putting.{keyed, no_room, put_part}

-- the entries with each of the changes: another value at a subscript, or a new entry; no two changes have one subscript
abbrev pub merged_rows : List (ℕ × Value) → List (ℕ × Value) → List (ℕ × Value)
merged_rows [] es = es
merged_rows (c ∷ cs) es = put nat_cmp c.0 c.1 (merged_rows cs es)

abbrev pub with_field : Option ℕ → Value → Value → Value
with_field None w v = v
with_field (Some i) w v = put_at v (i ∷ []) w

-- a struct with each of the changes: another value of a field
abbrev pub merged_fields : List Field → List (ℕ × Value) → Value → Value
merged_fields fields [] v = v
merged_fields fields (c ∷ cs) v = with_field (position (λ f. field_id f == c.0) fields) c.1 (merged_fields fields cs v)

-- an array with these entries, of which there may be so many, and no two may have an equal key
abbrev pub limited : ℕ → List Field → List KeyDecl → List (ℕ × Value) → Result Value ℕ
limited limit fields keys es = if nat_lt limit (length es) then Err no_room else keyed fields keys es

abbrev pub merged_layer : List (ℕ × Value) → Value → Ty-F Ty Field → Result Value ℕ
merged_layer cs v (Ty-F.Struct fields) = Ok (merged_fields fields cs v)
merged_layer cs v (Ty-F.Array entry limit keys) = limited limit (fields_of entry) keys (merged_rows cs (entries_of v))
merged_layer cs v _ = Err invalid_tlv

-- a value with changes of its fields or entries
unfoldable pub merged : Ty → List (ℕ × Value) → Value → Result Value ℕ
merged ty cs v = merged_layer cs v (out-Ty ty)

abbrev pub merge_at_place : (Ty → Value → Result Value ℕ) → Ty → Value → Option ℕ → Result Value ℕ
merge_at_place more ty v None = Err not_found
merge_at_place more ty v (Some i) = put_part more i ty v (part_at i ty v)

-- the value with changes where steps lead, or the first code: that of the step that leads nowhere, that of reading, that there is
-- no room, and that a key is there
abbrev pub merge_in : List Step → List Ilv → Ty → Value → Result Value ℕ
merge_in [] ilvs ty v = sparse_in ty ilvs >>= λ cs. merged ty cs v
merge_in (s ∷ ss) ilvs ty v = place_in ty v s >>= merge_at_place (merge_in ss ilvs) ty v

-- the entries before a place are below a subscript, and the one at it has it
abbrev pub IsHere : ℕ → ℕ → List (ℕ × Value) → Type 0
IsHere s i [] = ⊥
IsHere s zero (e ∷ es) = e.0 ≡ s
IsHere s (suc i) (e ∷ es) = (e.0 < s) × IsHere s i es

-- where a subscript stands, or else where it belongs
abbrev pub Reaches : List (ℕ × Value) → ℕ → Result ℕ ℕ → Type 0
Reaches es s (Ok i) = IsHere s i es
Reaches es s (Err i) = Belongs nat_cmp s i es
