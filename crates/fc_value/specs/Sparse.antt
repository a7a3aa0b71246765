-- What ILVs are read as: new values of the fields of a struct or of the entries of an array, in their order (RFC 5810, section
-- 7.1, on SPARSEDATA; the codes and their order are this profile's own).
use Rattle.std.specs.Prelude.{ℕ, ◌==◌, Bool, List, [], ◌∷◌, ◌++◌, option_map, find, Option, Some, None, Result, Ok, Err, if◌then◌else◌}
use Rattle.std.specs.List.{list_any}
use Rattle.fc_types.specs.Types.{is_atom, field_id, field_ty}
use Rattle.fc_types.specs.declared.ty.Field.{Field}
use Rattle.fc_types.specs.declared.ty.Ty.{Ty}
use Rattle.fc_types.specs.declared.ty.Ty.TheOpen.{Ty-F}
use Rattle.fc_types.specs.declared.ty.Ty.TheViews.{out-Ty}
use Rattle.fc_wire.specs.declared.ilvs.Ilv.{Ilv}
use Rattle.fc_base.specs.Answers.{◌>>=◌}
use Rattle.fc_value.specs.Outcomes.{invalid_tlv}
use Rattle.fc_value.specs.Reading.{full_in}
use Rattle.fc_value.specs.declared.value.Value.{Value}

abbrev pub part_layer : Ty-F Ty Field → ℕ → Option Ty
part_layer (Ty-F.Struct fields) ident = option_map field_ty (find (λ f. field_id f == ident) fields)
part_layer (Ty-F.Array entry entries keys) ident = Some entry
part_layer _ ident = None

-- the type of the field with an ID, or of an entry at a subscript
abbrev pub part_of : Ty → ℕ → Option Ty
part_of ty ident = part_layer (out-Ty ty) ident

abbrev pub value_of : Option Ty → List ℕ → Result Value ℕ
value_of None bytes = Err invalid_tlv
value_of (Some part) bytes = full_in part bytes

-- one of the changes has the identifier
abbrev pub is_named : List (ℕ × Value) → ℕ → Bool
is_named changes ident = list_any (λ c. ident == c.0) changes

abbrev pub change_in : Ty → List (ℕ × Value) → Ilv → Result Value ℕ
change_in ty changes ilv = if is_named changes ilv.ident then Err invalid_tlv else value_of (part_of ty ilv.ident) ilv.value

-- the changes, and those that the ILVs tell
abbrev pub changes_in : Ty → List (ℕ × Value) → List Ilv → Result (List (ℕ × Value)) ℕ
changes_in ty changes [] = Ok changes
changes_in ty changes (ilv ∷ ilvs) = change_in ty changes ilv >>= λ v. changes_in ty (changes ++ (ilv.ident, v) ∷ []) ilvs

unfoldable pub sparse_in : Ty → List Ilv → Result (List (ℕ × Value)) ℕ
sparse_in ty ilvs = if is_atom ty then Err invalid_tlv else changes_in ty [] ilvs
