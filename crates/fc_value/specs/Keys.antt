-- Keys of entries (RFC 5812, section 4.5.3; how a key's value is written is this profile's own).
use Rattle.std.specs.Prelude.{ℕ, ◌==◌, Bool, true, false, ◌&&◌, List, [], ◌∷◌, map, bytes_eq, Option, Some, None, if◌then◌else◌}
use Rattle.std.specs.List.{flat_map, list_all}
use Rattle.std.specs.Ordering.{nat_cmp, is_lt}
use Rattle.std.specs.Cmp.Lexicographic.{slice_cmp}
use Rattle.fc_types.specs.Ids.{is_distinct}
use Rattle.fc_types.specs.Types.{field_id, field_ty}
use Rattle.fc_types.specs.declared.ty.KeyDecl.{KeyDecl}
use Rattle.fc_types.specs.declared.ty.Field.{Field}
use Rattle.fc_types.specs.declared.ty.Ty.{Ty}
use Rattle.fc_types.specs.declared.ty.Ty.TheOpen.{Ty-F}
use Rattle.fc_types.specs.declared.ty.Ty.TheViews.{out-Ty}
use Rattle.fc_value.specs.Writing.{Writer, full_bytes, inside_bytes}
use Rattle.fc_value.specs.declared.value.Value.{Value, out-Value}
use Rattle.fc_value.specs.declared.value.Value.TheOpen.{Value-F}

-- the type and the value of the field with an ID
abbrev pub field_with : List Field → List Value → ℕ → Option (Ty × Value)
field_with [] vs id = None
field_with (f ∷ fs) [] id = None
field_with (f ∷ fs) (v ∷ vs) id = if field_id f == id then Some (field_ty f, v) else field_with fs vs id

abbrev pub some_bytes : (Ty → Writer) → Option (Ty × Value) → List ℕ
some_bytes write None = []
some_bytes write (Some x) = write x.0 x.1

-- the struct of the fields in the order of their IDs
abbrev pub fields_bytes : List Field → List ℕ → List Value → List ℕ
fields_bytes fields ids vs = flat_map (λ id. some_bytes inside_bytes (field_with fields vs id)) ids

-- one field alone, or the struct of the fields
abbrev pub key_of : List Field → List ℕ → List Value → List ℕ
key_of fields [] vs = []
key_of fields (id ∷ []) vs = some_bytes full_bytes (field_with fields vs id)
key_of fields (id ∷ other ∷ ids) vs = fields_bytes fields (id ∷ other ∷ ids) vs

abbrev pub key_layer : List Field → List ℕ → Value-F Value → List ℕ
key_layer fields ids (Value-F.Group vs) = key_of fields ids vs
key_layer fields ids _ = []

-- the value that a key has in an entry, whose struct has these fields
unfoldable pub key_value : List Field → KeyDecl → Value → List ℕ
key_value fields key entry = key_layer fields key.fields (out-Value entry)

-- the values of a key, in the order of the entries
abbrev pub key_values : List Field → KeyDecl → List (ℕ × Value) → List (List ℕ)
key_values fields key es = map (λ e. key_value fields key e.1) es

-- no two entries have the same value of a key
abbrev pub differ_in : List Field → List (ℕ × Value) → KeyDecl → Bool
differ_in fields es key = is_distinct bytes_eq (key_values fields key es)

abbrev pub keys_differ : List Field → List KeyDecl → List (ℕ × Value) → Bool
keys_differ fields keys es = list_all (differ_in fields es) keys

-- a type that is no array with keys
abbrev pub own_no_keys : Ty-F Ty Field → Bool
own_no_keys (Ty-F.Array entry limit []) = true
own_no_keys (Ty-F.Array entry limit (key ∷ keys)) = false
own_no_keys _ = true

abbrev pub has_no_keys : Ty → Bool
has_no_keys ty = own_no_keys (out-Ty ty)

-- the first of some bytes, if any, is above these
abbrev pub is_below : List ℕ → List (List ℕ) → Bool
is_below p [] = true
is_below p (q ∷ qs) = is_lt (slice_cmp nat_cmp p q)

-- each is below the next one
abbrev pub is_rising : List (List ℕ) → Bool
is_rising [] = true
is_rising (p ∷ ps) = is_below p ps && is_rising ps
