-- The words of a document that name a type or say when an event happens (this profile's own).
use Rattle.std.specs.Prelude.{ℕ, ℤ, pos, negsuc, Bool, true, false, List, [], ◌∷◌, codes, Option, Some, None, option_map, option_and_then, Result, if◌then◌else◌}
use Rattle.std.specs.Str.{bytes_eq}
use Rattle.toml.specs.Data.{Members, get_member, as_str}
use Rattle.fc_types.specs.declared.class.When.{When}
use Rattle.fc_types.specs.declared.class.When.TheVariants as when
use Rattle.fc_library.specs.Keys.{needed, found_or_wrong}
use Rattle.fc_library.specs.declared.fault.LibFault.{LibFault}
use Rattle.fc_library.specs.declared.names.NumberName.{NumberName}
use Rattle.fc_library.specs.declared.names.NumberName.TheVariants.{U8, U16, U32, U64, I8, I16, I32, I64}
use Rattle.fc_library.specs.declared.names.TypeName.{TypeName}
use Rattle.fc_library.specs.declared.names.TypeName.TheVariants as type

-- how many bytes a number has
abbrev pub width : NumberName → ℕ
width U8 = 1
width U16 = 2
width U32 = 4
width U64 = 8
width I8 = 1
width I16 = 2
width I32 = 4
width I64 = 8

-- whether a number may be below 0
abbrev pub is_signed : NumberName → Bool
is_signed U8 = false
is_signed U16 = false
is_signed U32 = false
is_signed U64 = false
is_signed I8 = true
is_signed I16 = true
is_signed I32 = true
is_signed I64 = true

-- the least and the greatest number
abbrev pub least : NumberName → ℤ
least U8 = pos 0
least U16 = pos 0
least U32 = pos 0
least U64 = pos 0
least I8 = negsuc 127
least I16 = negsuc 32767
least I32 = negsuc 2147483647
least I64 = negsuc 9223372036854775807

abbrev pub greatest : NumberName → ℤ
greatest U8 = pos 255
greatest U16 = pos 65535
greatest U32 = pos 4294967295
greatest U64 = pos 18446744073709551615
greatest I8 = pos 127
greatest I16 = pos 32767
greatest I32 = pos 2147483647
greatest I64 = pos 9223372036854775807

abbrev pub number_word : List ℕ → Option NumberName
number_word word =
    if bytes_eq word (codes "u8") then Some U8
    else if bytes_eq word (codes "u16") then Some U16
    else if bytes_eq word (codes "u32") then Some U32
    else if bytes_eq word (codes "u64") then Some U64
    else if bytes_eq word (codes "i8") then Some I8
    else if bytes_eq word (codes "i16") then Some I16
    else if bytes_eq word (codes "i32") then Some I32
    else if bytes_eq word (codes "i64") then Some I64
    else None

abbrev pub type_word : List ℕ → Option TypeName
type_word word =
    if bytes_eq word (codes "bool") then Some type.Bool
    else if bytes_eq word (codes "string") then Some type.String
    else if bytes_eq word (codes "octets") then Some type.Octets
    else if bytes_eq word (codes "bytes") then Some type.Bytes
    else if bytes_eq word (codes "struct") then Some type.Struct
    else if bytes_eq word (codes "array") then Some type.Array
    else option_map type.Number (number_word word)

-- the type that a table names, if it names one
abbrev pub named : Members → Option TypeName
named ms = option_and_then type_word (option_and_then as_str (get_member (codes "type") ms))

-- the type that a table has to name
abbrev pub type_at : Members → Result TypeName LibFault
type_at ms = needed (codes "type") (λ d. found_or_wrong (codes "type") (option_and_then type_word (as_str d))) (get_member (codes "type") ms)

-- the keys that belong to a type, or to any type where none is named
abbrev pub type_keys : Option TypeName → List (List ℕ)
type_keys (Some type.Bool) = []
type_keys (Some (type.Number number)) = codes "min" ∷ codes "max" ∷ []
type_keys (Some type.String) = codes "length" ∷ []
type_keys (Some type.Octets) = codes "length" ∷ []
type_keys (Some type.Bytes) = codes "length" ∷ []
type_keys (Some type.Struct) = codes "fields" ∷ []
type_keys (Some type.Array) = codes "entry" ∷ codes "entries" ∷ codes "keys" ∷ []
type_keys None = codes "min" ∷ codes "max" ∷ codes "length" ∷ codes "fields" ∷ codes "entry" ∷ codes "entries" ∷ codes "keys" ∷ []

abbrev pub when_word : List ℕ → Option When
when_word word =
    if bytes_eq word (codes "changed") then Some when.Changed
    else if bytes_eq word (codes "created") then Some when.Created
    else if bytes_eq word (codes "deleted") then Some when.Deleted
    else if bytes_eq word (codes "greater") then Some when.Greater
    else if bytes_eq word (codes "less") then Some when.Less
    else None

-- when the event of a table happens, which it has to say
abbrev pub when_at : Members → Result When LibFault
when_at ms = needed (codes "when") (λ d. found_or_wrong (codes "when") (option_and_then when_word (as_str d))) (get_member (codes "when") ms)
