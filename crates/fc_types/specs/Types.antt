-- The types of the component model (RFC 5812, section 4.5), and the rules that a declared type keeps (this profile's own).
use Rattle.std.specs.Prelude.{ℕ, ℤ, pos, negsuc, zero, suc, ◌+◌, ◌-◌, ◌*◌, ◌/◌, ◌^◌, ◌==◌, nat_eq, nat_le, int_le, Bool, true, false, ◌&&◌, ◌||◌, List, [], ◌∷◌, map, sum, Option, Some, None, if◌then◌else◌}
use Rattle.std.specs.List.{list_all, find}
use Rattle.fc_types.specs.Ids.{is_distinct}
use Rattle.fc_types.specs.declared.ty.KeyDecl.{KeyDecl}
use Rattle.fc_types.specs.declared.ty.Field.{Field}
use Rattle.fc_types.specs.declared.ty.Ty.{Ty}
use Rattle.fc_types.specs.declared.ty.Ty.TheOpen.{Ty-F, Field-F}
use Rattle.fc_types.specs.declared.ty.Ty.TheViews.{out-Ty, out-Field}
use Rattle.fc_types.specs.declared.ty.Ty.TheFolds.{fold-Ty, fold-Field, para-Ty}

-- the number of a field
abbrev pub field_id : Field → ℕ
field_id f = (out-Field f).id

-- the type of a field
abbrev pub field_ty : Field → Ty
field_ty f = (out-Field f).ty

-- a type that is neither a struct nor an array (RFC 5812, section 4.5)
abbrev pub is_atom_layer : Ty-F Ty Field → Bool
is_atom_layer (Ty-F.Struct fields) = false
is_atom_layer (Ty-F.Array entry entries keys) = false
is_atom_layer _ = true

abbrev pub is_atom : Ty → Bool
is_atom ty = is_atom_layer (out-Ty ty)

-- the fields of a struct, and none of another type
abbrev pub fields_layer : Ty-F Ty Field → List Field
fields_layer (Ty-F.Struct fields) = fields
fields_layer _ = []

abbrev pub fields_of : Ty → List Field
fields_of ty = fields_layer (out-Ty ty)

-- whether each type that stands inside passes a test, where it is known for the types one level down
abbrev pub inside_step : (Ty → Bool) → Ty-F (Ty × Bool) (Field × Bool) → Bool
inside_step test (Ty-F.Struct fields) = list_all (λ f. f.1) fields
inside_step test (Ty-F.Array entry entries keys) = test entry.0 && entry.1
inside_step test _ = true

abbrev pub inside_field : (Ty → Bool) → Field-F (Ty × Bool) (Field × Bool) → Bool
inside_field test f = test f.ty.0 && f.ty.1

-- whether each type that stands inside a type, at any depth, passes a test
unfoldable pub inside : (Ty → Bool) → Ty → Bool
inside test = para-Ty Bool Bool (inside_step test) (inside_field test)

-- whether a type and each type that stands inside it, at any depth, pass a test
abbrev pub throughout : (Ty → Bool) → Ty → Bool
throughout test ty = test ty && inside test ty

-- The number of the fields in a type, at any depth.
abbrev pub fields_step : Ty-F ℕ ℕ → ℕ
fields_step (Ty-F.Struct fields) = sum fields
fields_step (Ty-F.Array entry entries keys) = entry
fields_step _ = 0

abbrev pub field_step : Field-F ℕ ℕ → ℕ
field_step f = 1 + f.ty

abbrev pub fields_within : Ty → ℕ
fields_within = fold-Ty ℕ ℕ fields_step field_step

abbrev pub fields_at : Field → ℕ
fields_at = fold-Field ℕ ℕ fields_step field_step

-- one level of `nests`, where it is known for the types inside
abbrev pub nests_layer : (Ty → Bool) → Ty-F Ty Field → Bool
nests_layer within (Ty-F.Struct fields) = list_all (λ f. within (field_ty f)) fields
nests_layer within (Ty-F.Array entry entries keys) = within entry
nests_layer within _ = true

-- whether a type nests at most so deep, a type with none inside it being one deep
unfoldable pub nests : ℕ → Ty → Bool
nests zero ty = false
nests (suc levels) ty = nests_layer (nests levels) (out-Ty ty)

-- Different IDs: the fields of a struct, and the keys of an array.
abbrev pub own_ids : Ty-F Ty Field → Bool
own_ids (Ty-F.Struct fields) = is_distinct nat_eq (map field_id fields)
own_ids (Ty-F.Array entry entries keys) = is_distinct nat_eq (map (λ (key : KeyDecl). key.id) keys)
own_ids _ = true

abbrev pub has_distinct_ids : Ty → Bool
has_distinct_ids ty = own_ids (out-Ty ty)

-- the least and the greatest number of so many bytes, none where no number has that many
abbrev pub span : ℕ → Bool → Option (ℤ × ℤ)
span bytes true = if (bytes == 1) || (bytes == 2) || (bytes == 4) || (bytes == 8) then Some (negsuc (2 ^ (8 * bytes - 1) - 1), pos (2 ^ (8 * bytes - 1) - 1)) else None
span bytes false = if (bytes == 1) || (bytes == 2) || (bytes == 4) || (bytes == 8) then Some (pos 0, pos (2 ^ (8 * bytes) - 1)) else None

-- min is not above max, and both are in the span
abbrev pub is_range : Option (ℤ × ℤ) → ℤ → ℤ → Bool
is_range None min max = false
is_range (Some ends) min max = int_le ends.0 min && int_le min max && int_le max ends.1

-- a number from 1 to a limit
abbrev pub is_upto : ℕ → ℕ → Bool
is_upto limit n = nat_le 1 n && nat_le n limit

-- The declared range, length or number of entries is one that the type can have.
abbrev pub own_range : Ty-F Ty Field → Bool
own_range Ty-F.Bool = true
own_range (Ty-F.Number bytes signed min max) = is_range (span bytes signed) min max
own_range (Ty-F.String length) = is_upto 32768 length
own_range (Ty-F.Octets length) = is_upto 32768 length
own_range (Ty-F.Bytes length) = is_upto 32768 length
own_range (Ty-F.Struct fields) = true
own_range (Ty-F.Array entry entries keys) = is_upto 65536 entries

abbrev pub is_in_range : Ty → Bool
is_in_range ty = own_range (out-Ty ty)

-- the length, rounded up to a multiple of 4
abbrev pub padded : ℕ → ℕ
padded n = 4 * ((n + 3) / 4)

-- The bytes of the full form inside a struct or an entry, where each text, octets and array is full: a text, octets or an
-- array stands in a TLV of its own, whose header has 4 bytes, and an entry follows its subscript, of 4 bytes.
abbrev pub size_step : Ty-F ℕ ℕ → ℕ
size_step Ty-F.Bool = 1
size_step (Ty-F.Number bytes signed min max) = bytes
size_step (Ty-F.String length) = padded (4 + length)
size_step (Ty-F.Octets length) = padded (4 + length)
size_step (Ty-F.Bytes length) = length
size_step (Ty-F.Struct fields) = sum fields
size_step (Ty-F.Array entry entries keys) = padded (4 + entries * (4 + entry))

abbrev pub size_field : Field-F ℕ ℕ → ℕ
size_field f = f.ty

abbrev pub full_size : Ty → ℕ
full_size = fold-Ty ℕ ℕ size_step size_field

abbrev pub full_size_at : Field → ℕ
full_size_at = fold-Field ℕ ℕ size_step size_field

-- an array whose full form, with all its entries, fits the value of a TLV, which is at most 65,531 bytes; another type fits
abbrev pub fits_layer : Ty-F Ty Field → Bool
fits_layer (Ty-F.Array entry entries keys) = nat_le (entries * (4 + full_size entry)) 65531
fits_layer _ = true

abbrev pub fits_inside : Ty → Bool
fits_inside ty = fits_layer (out-Ty ty)

-- a field with the ID, whose type is neither a struct nor an array
abbrev pub is_atom_field : Option Field → Bool
is_atom_field None = false
is_atom_field (Some f) = is_atom (field_ty f)

abbrev pub names_atom : List Field → ℕ → Bool
names_atom fields id = is_atom_field (find (λ f. field_id f == id) fields)

abbrev pub is_some_list : List ℕ → Bool
is_some_list [] = false
is_some_list (id ∷ ids) = true

-- a key has a field, none twice, and each is an atom of the entry's struct
abbrev pub is_key : List Field → KeyDecl → Bool
is_key fields key = is_some_list key.fields && is_distinct nat_eq key.fields && list_all (names_atom fields) key.fields

abbrev pub own_keys : Ty-F Ty Field → Bool
own_keys (Ty-F.Array entry entries keys) = list_all (is_key (fields_of entry)) keys
own_keys _ = true

abbrev pub has_atomic_keys : Ty → Bool
has_atomic_keys ty = own_keys (out-Ty ty)
