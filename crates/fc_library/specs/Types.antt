-- The type that a table declares, with the tables inside it (this profile's own).
use Rattle.std.specs.Prelude.{ℕ, zero, suc, List, [], ◌∷◌, codes, Result, Ok, Err}
use Rattle.toml.specs.Data.{table, Items, no_items, item, Members, members_depth}
use Rattle.fc_types.specs.declared.ty.KeyDecl.{KeyDecl}
use Rattle.fc_types.specs.declared.ty.Field.{Field, roll-Field}
use Rattle.fc_types.specs.declared.ty.Ty.{Ty}
use Rattle.fc_types.specs.declared.ty.Ty as v
use Rattle.fc_base.specs.Answers.{◌>>=◌}
use Rattle.fc_library.specs.Keys.{only, number_at, integer_or, text_at, tables_at, tables_or_none, table_at, numbers_at}
use Rattle.fc_library.specs.Names.{width, is_signed, least, greatest, named, type_at, type_keys}
use Rattle.fc_library.specs.declared.fault.LibFault.{LibFault}
use Rattle.fc_library.specs.declared.fault.LibFault.TheVariants.{WrongKind}
use Rattle.fc_library.specs.declared.names.NumberName.{NumberName}
use Rattle.fc_library.specs.declared.names.TypeName.{TypeName}
use Rattle.fc_library.specs.declared.names.TypeName.TheVariants as type

-- what the tables of an array mean, in their order
abbrev pub each : {A : Type 0} → (Members → Result A LibFault) → Items → Result (List A) LibFault
each read no_items = Ok []
each read (item (table ms) ds) = read ms >>= λ x. each read ds >>= λ xs. Ok (x ∷ xs)
each read (item _ ds) = each read ds

-- The types with no tables inside.
abbrev pub number_type : NumberName → Members → Result Ty LibFault
number_type name ms =
    integer_or (least name) (codes "min") ms >>= λ min.
    integer_or (greatest name) (codes "max") ms >>= λ max.
    Ok (v.Number (width name) (is_signed name) min max)

abbrev pub length_at : Members → Result ℕ LibFault
length_at ms = number_at (codes "length") 0 4294967295 ms

abbrev pub string_type : Members → Result Ty LibFault
string_type ms = length_at ms >>= λ length. Ok (v.String length)

abbrev pub octets_type : Members → Result Ty LibFault
octets_type ms = length_at ms >>= λ length. Ok (v.Octets length)

abbrev pub bytes_type : Members → Result Ty LibFault
bytes_type ms = length_at ms >>= λ length. Ok (v.Bytes length)

-- a key of an array
abbrev pub key : Members → Result KeyDecl LibFault
key ms =
    only (codes "id" ∷ codes "fields" ∷ []) ms >>= λ _.
    number_at (codes "id") 0 4294967295 ms >>= λ id.
    numbers_at (codes "fields") ms >>= λ fields.
    Ok (record { id = id; fields = fields })

-- The types with tables inside, where it is known what the types of those tables are.
module _ (inner : TypeName → Members → Result Ty LibFault) where
  abbrev pub field_in : Members → Result Field LibFault
  field_in ms =
      only (codes "id" ∷ codes "name" ∷ codes "type" ∷ type_keys (named ms)) ms >>= λ _.
      number_at (codes "id") 0 4294967295 ms >>= λ id.
      text_at (codes "name") ms >>= λ name.
      type_at ms >>= λ word.
      inner word ms >>= λ ty.
      Ok (roll-Field (record { id = id; name = name; ty = ty }))

  abbrev pub entry_in : Members → Result Ty LibFault
  entry_in ms =
      only (codes "type" ∷ type_keys (named ms)) ms >>= λ _.
      type_at ms >>= λ word.
      inner word ms

  abbrev pub struct_in : Members → Result Ty LibFault
  struct_in ms =
      tables_at (codes "fields") ms >>= λ tables.
      each field_in tables >>= λ fields.
      Ok (v.Struct fields)

  abbrev pub array_in : Members → Result Ty LibFault
  array_in ms =
      table_at (codes "entry") ms >>= λ inside.
      number_at (codes "entries") 0 4294967295 ms >>= λ entries.
      tables_or_none (codes "keys") ms >>= λ key_tables.
      entry_in inside >>= λ entry.
      each key key_tables >>= λ keys.
      Ok (v.Array entry entries keys)

abbrev pub type_in : (TypeName → Members → Result Ty LibFault) → TypeName → Members → Result Ty LibFault
type_in inner type.Bool ms = Ok v.Bool
type_in inner (type.Number name) ms = number_type name ms
type_in inner type.String ms = string_type ms
type_in inner type.Octets ms = octets_type ms
type_in inner type.Bytes ms = bytes_type ms
type_in inner type.Struct ms = struct_in inner ms
type_in inner type.Array ms = array_in inner ms

-- the same, for tables nested less deep than this
abbrev pub type_by : ℕ → TypeName → Members → Result Ty LibFault
type_by zero name ms = Err (WrongKind (codes "type"))
type_by (suc depth) name ms = type_in (type_by depth) name ms

-- the type that a table with this name of a type declares, at any depth
unfoldable pub type_of : TypeName → Members → Result Ty LibFault
type_of name ms = type_by (suc (members_depth ms)) name ms
