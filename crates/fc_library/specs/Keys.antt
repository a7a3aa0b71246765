-- What a table of a document has at its keys (this profile's own, over what TOML makes of the document).
use Rattle.std.specs.Prelude.{ℕ, ℤ, pos, nat_le, Bool, true, false, not, ◌&&◌, if◌then◌else◌, List, [], ◌∷◌, Option, Some, None, Result, Ok, Err}
use Rattle.std.specs.List.{filter, list_any}
use Rattle.std.specs.Ordering.{nat_cmp, is_gt}
use Rattle.std.specs.Cmp.Lexicographic.{slice_cmp}
use Rattle.std.specs.Str.{bytes_eq}
use Rattle.toml.specs.Data.{Data, string, array, boolean, table, Items, no_items, item, Members, no_members, member, get_member, as_integer, as_table}
use Rattle.fc_base.specs.Answers.{◌>>=◌}
use Rattle.fc_library.specs.declared.fault.LibFault.{LibFault}
use Rattle.fc_library.specs.declared.fault.LibFault.TheVariants.{Unknown, Missing, WrongKind}

-- the key is one of these
abbrev pub is_among : List ℕ → List (List ℕ) → Bool
is_among key known = list_any (bytes_eq key) known

-- the keys of a table
abbrev pub keys_of : Members → List (List ℕ)
keys_of no_members = []
keys_of (member key d ms) = key ∷ keys_of ms

-- the keys of a table that are not among the known ones
abbrev pub unknown_keys : List (List ℕ) → Members → List (List ℕ)
unknown_keys known ms = filter (λ key. not (is_among key known)) (keys_of ms)

-- the first of two keys by their bytes
abbrev pub lesser : List ℕ → List ℕ → List ℕ
lesser key other = if is_gt (slice_cmp nat_cmp key other) then other else key

-- the first by its bytes of a key and some others
abbrev pub least_from : List ℕ → List (List ℕ) → List ℕ
least_from key [] = key
least_from key (other ∷ keys) = least_from (lesser key other) keys

-- A table has no key but the known ones: else the least of the others, by its bytes, is told.
abbrev pub none_of : List (List ℕ) → Result Unit LibFault
none_of [] = Ok tt
none_of (key ∷ keys) = Err (Unknown (least_from key keys))

abbrev pub only : List (List ℕ) → Members → Result Unit LibFault
only known ms = none_of (unknown_keys known ms)

-- what stands at a key that has to be there
abbrev pub needed : {A : Type 0} → List ℕ → (Data → Result A LibFault) → Option Data → Result A LibFault
needed key read None = Err (Missing key)
needed key read (Some d) = read d

-- what stands at a key, or a default
abbrev pub given : {A : Type 0} → A → (Data → Result A LibFault) → Option Data → Result A LibFault
given default read None = Ok default
given default read (Some d) = read d

abbrev pub found_or_wrong : {A : Type 0} → List ℕ → Option A → Result A LibFault
found_or_wrong key (Some x) = Ok x
found_or_wrong key None = Err (WrongKind key)

-- a number from `least` to `most`
abbrev pub number_in : List ℕ → ℕ → ℕ → Option ℤ → Result ℕ LibFault
number_in key least most (Some (pos n)) = if nat_le least n && nat_le n most then Ok n else Err (WrongKind key)
number_in key least most _ = Err (WrongKind key)

abbrev pub number : List ℕ → ℕ → ℕ → Data → Result ℕ LibFault
number key least most d = number_in key least most (as_integer d)

abbrev pub number_at : List ℕ → ℕ → ℕ → Members → Result ℕ LibFault
number_at key least most ms = needed key (number key least most) (get_member key ms)

abbrev pub number_or : ℕ → List ℕ → ℕ → Members → Result ℕ LibFault
number_or default key most ms = given default (number key 0 most) (get_member key ms)

-- any whole number
abbrev pub integer_or : ℤ → List ℕ → Members → Result ℤ LibFault
integer_or default key ms = given default (λ d. found_or_wrong key (as_integer d)) (get_member key ms)

abbrev pub text : List ℕ → Data → Result (List ℕ) LibFault
text key (string s) = Ok s
text key _ = Err (WrongKind key)

abbrev pub text_at : List ℕ → Members → Result (List ℕ) LibFault
text_at key ms = needed key (text key) (get_member key ms)

abbrev pub truth : List ℕ → Data → Result Bool LibFault
truth key (boolean b) = Ok b
truth key _ = Err (WrongKind key)

abbrev pub truth_or : Bool → List ℕ → Members → Result Bool LibFault
truth_or default key ms = given default (truth key) (get_member key ms)

abbrev pub is_table : Data → Bool
is_table (table ms) = true
is_table _ = false

abbrev pub are_tables : Items → Bool
are_tables no_items = true
are_tables (item d ds) = is_table d && are_tables ds

-- an array of tables
abbrev pub tables : List ℕ → Data → Result Items LibFault
tables key (array ds) = if are_tables ds then Ok ds else Err (WrongKind key)
tables key _ = Err (WrongKind key)

abbrev pub tables_at : List ℕ → Members → Result Items LibFault
tables_at key ms = needed key (tables key) (get_member key ms)

abbrev pub tables_or_none : List ℕ → Members → Result Items LibFault
tables_or_none key ms = given no_items (tables key) (get_member key ms)

-- one table
abbrev pub one_table : List ℕ → Data → Result Members LibFault
one_table key d = found_or_wrong key (as_table d)

abbrev pub table_at : List ℕ → Members → Result Members LibFault
table_at key ms = needed key (one_table key) (get_member key ms)

-- an array of numbers of 32 bits
abbrev pub numbers_in : List ℕ → Items → Result (List ℕ) LibFault
numbers_in key no_items = Ok []
numbers_in key (item d ds) = number key 0 4294967295 d >>= λ n. numbers_in key ds >>= λ ns. Ok (n ∷ ns)

abbrev pub numbers : List ℕ → Data → Result (List ℕ) LibFault
numbers key (array ds) = numbers_in key ds
numbers key _ = Err (WrongKind key)

abbrev pub numbers_at : List ℕ → Members → Result (List ℕ) LibFault
numbers_at key ms = needed key (numbers key) (get_member key ms)

-- an array of texts
abbrev pub texts_in : List ℕ → Items → Result (List (List ℕ)) LibFault
texts_in key no_items = Ok []
texts_in key (item d ds) = text key d >>= λ t. texts_in key ds >>= λ ts. Ok (t ∷ ts)

abbrev pub texts : List ℕ → Data → Result (List (List ℕ)) LibFault
texts key (array ds) = texts_in key ds
texts key _ = Err (WrongKind key)

abbrev pub texts_at : List ℕ → Members → Result (List (List ℕ)) LibFault
texts_at key ms = needed key (texts key) (get_member key ms)
