-- The numbers that words spell (this profile's own).
use Rattle.std.specs.Prelude.{ℕ, ◌/◌, ◌%◌, ◌^◌, ◌==◌, ◌&&◌, nat_le, nat_lt, Bool, false, List, [], ◌∷◌, length, decimal, Option, Some, None, Result, Ok, Err, if◌then◌else◌}
use Rattle.std.specs.Char.{is_ascii_hexdigit}
use Rattle.std.specs.List.{list_all}
use Rattle.std.specs.Str.{bytes_eq}
use Rattle.std.specs.Str.Parse.{digits_value}

-- The number from 1 to `most` that a word spells in decimal: the word is what is written for that number, so digits without
-- a sign or a leading zero.
abbrev pub decimal_up_to : ℕ → List ℕ → Option ℕ
decimal_up_to most word =
    let n = digits_value 10 word in
    if bytes_eq word (decimal n) && (nat_le 1 n && nat_le n most) then Some n else None

-- whether each character is a hexadecimal digit, of either case
abbrev pub are_hexadecimal : List ℕ → Bool
are_hexadecimal = list_all is_ascii_hexdigit

-- whether the number is a control element's ID (RFC 5810, section 6.1), whose low 8 bits are not 0
abbrev pub is_ce : ℕ → Bool
is_ce n = (n / 2 ^ 30 == 1) && nat_lt 0 (n % 256)

-- the ID of a control element that a word spells in eight hexadecimal digits of either case
abbrev pub ce_of : List ℕ → Option ℕ
ce_of word =
    let n = digits_value 16 word in
    if (length word == 8) && (are_hexadecimal word && is_ce n) then Some n else None

-- whether the first character is a decimal digit other than 0
abbrev pub begins_without_zero : List ℕ → Bool
begins_without_zero [] = false
begins_without_zero (b ∷ bs) = nat_le 49 b && nat_le b 57

-- a number that was read, if it is not greater than `most`
abbrev pub at_most : {E : Type 0} → ℕ → Result ℕ E → Option ℕ
at_most most (Ok n) = if nat_le n most then Some n else None
at_most most (Err e) = None
