-- The names of the result codes, RFC 5810, section 7.1.7, with the numbers of this profile.
use Rattle.std.specs.Prelude.{ℕ, ◌==◌, List, [], ◌∷◌, codes, Option, Some, None, if◌then◌else◌}

-- a code with its name
pub record Named : Type 0 where
  pub code : ℕ
  pub name : List ℕ

abbrev pub named : ℕ → List ℕ → Named
named code name = record { code = code; name = name }

-- the codes that have a name
abbrev pub named_codes : List Named
named_codes =
    named 0 (codes "SUCCESS")
    ∷ named 4 (codes "INVALID_DESTINATION_PID")
    ∷ named 5 (codes "LFB_UNKNOWN")
    ∷ named 7 (codes "LFB_INSTANCE_ID_NOT_FOUND")
    ∷ named 8 (codes "INVALID_PATH")
    ∷ named 9 (codes "COMPONENT_DOES_NOT_EXIST")
    ∷ named 10 (codes "EXISTS")
    ∷ named 11 (codes "NOT_FOUND")
    ∷ named 12 (codes "READ_ONLY")
    ∷ named 13 (codes "INVALID_ARRAY_CREATION")
    ∷ named 14 (codes "VALUE_OUT_OF_RANGE")
    ∷ named 15 (codes "CONTENTS_TOO_LONG")
    ∷ named 16 (codes "INVALID_PARAMETERS")
    ∷ named 18 (codes "INVALID_FLAGS")
    ∷ named 19 (codes "INVALID_TLV")
    ∷ named 20 (codes "EVENT_ERROR")
    ∷ named 21 (codes "NOT_SUPPORTED")
    ∷ named 255 (codes "UNSPECIFIED_ERROR")
    ∷ []

-- the name of a code in such a list
abbrev pub name_in : List Named → ℕ → Option (List ℕ)
name_in [] n = None
name_in (x ∷ xs) n = if x.code == n then Some x.name else name_in xs n

abbrev pub code_name : ℕ → Option (List ℕ)
code_name n = name_in named_codes n
