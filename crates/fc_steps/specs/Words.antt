-- The words of a step (this profile's own): all numbers are in decimal, without a sign or leading zeros.
use Rattle.std.specs.Prelude.{ℕ, ◌/◌, ◌%◌, ◌==◌, ◌&&◌, not, nat_le, nat_lt, Bool, true, false, if◌then◌else◌, List, [], ◌∷◌, length, decimal, Option, Some, None, Result, Ok, Err}
use Rattle.std.specs.List.{position_or_len, before_first, after_first}
use Rattle.std.specs.Str.{bytes_eq}
use Rattle.std.specs.Str.Parse.{digits_value}
use Rattle.fc_base.specs.Ids.{Txn}

-- with the value that is there
abbrev pub given : {A B : Type 0} → Option A → (A → Option B) → Option B
given None f = None
given (Some x) f = f x

-- what stands in front of the first mark, and what stands behind it
abbrev pub is_mark : ℕ → ℕ → Bool
is_mark mark b = b == mark

abbrev pub cut : ℕ → List ℕ → Option (List ℕ × List ℕ)
cut mark text =
    if position_or_len (is_mark mark) text == length text then None
    else Some (before_first (is_mark mark) text, after_first (is_mark mark) text)

-- the number from `low` to `most` for which the word is what is written
abbrev pub number : ℕ → ℕ → List ℕ → Option ℕ
number low most word =
    let n = digits_value 10 word in
    if bytes_eq word (decimal n) && (nat_le low n && nat_le n most) then Some n else None

-- a controller's number, an element's ID (RFC 5810, section 6.1), a round, and a moment or a place in the list of messages
abbrev pub controller : List ℕ → Option ℕ
controller = number 0 255

abbrev pub element : List ℕ → Option ℕ
element = number 1 1073741823

abbrev pub round : List ℕ → Option ℕ
round = number 1 16777215

abbrev pub long : List ℕ → Option ℕ
long = number 0 18446744073709551615

-- the life of a controller: a round and the controller's number, neither of them 0
abbrev pub if_epoch : ℕ → Option ℕ
if_epoch n = if nat_lt 0 (n / 256) && nat_lt 0 (n % 256) then Some n else None

abbrev pub epoch : List ℕ → Option ℕ
epoch word = given (number 0 4294967295 word) if_epoch

-- a transaction: its life and its number from 1, with a full stop between them
abbrev pub txn : List ℕ → Option Txn
txn word = given (cut 46 word) λ p. given (epoch p.0) λ e. given (number 1 4294967295 p.1) λ n. Some (record { epoch = e; number = n })

-- a name of a transaction: it is not empty, and has no space
abbrev pub is_none : {A : Type 0} → Option A → Bool
is_none None = true
is_none (Some x) = false

abbrev pub is_name : List ℕ → Bool
is_name word = not (length word == 0) && is_none (cut 32 word)

-- ---- what the code asks on the way
-- a digit, and 0 only where it is all of the word
abbrev pub begins_like_a_number : List ℕ → Bool
begins_like_a_number [] = false
begins_like_a_number (b ∷ []) = nat_le 48 b && nat_le b 57
begins_like_a_number (b ∷ c ∷ bs) = nat_le 49 b && nat_le b 57

abbrev pub in_range : {E : Type 0} → ℕ → ℕ → Result ℕ E → Option ℕ
in_range low most (Ok n) = if nat_le low n && nat_le n most then Some n else None
in_range low most (Err e) = None
