-- What the words for numbers and bytes mean. This profile's own.
use Rattle.std.specs.Prelude.{◌≡◌, Bool, ℕ, ◌+◌, ◌-◌, ◌*◌, ◌^◌, ◌==◌, ◌&&◌, not, nat_lt, if◌then◌else◌, List, [], ◌∷◌, length, codes, Option, Some, None}
use Rattle.std.specs.Str.{bytes_eq}

-- with the value that is there
abbrev pub given : {A B : Type 0} → Option A → (A → Option B) → Option B
given None f = None
given (Some x) f = f x

-- a hexadecimal digit of either case
abbrev pub digit_of : ℕ → Option ℕ
digit_of byte =
    if not (nat_lt byte 48) && not (nat_lt 57 byte) then Some (byte - 48)
    else (if not (nat_lt byte 65) && not (nat_lt 70 byte) then Some (byte - 55)
    else (if not (nat_lt byte 97) && not (nat_lt 102 byte) then Some (byte - 87) else None))

-- the value of a digit, and 255 where there is none
abbrev pub mark : Option ℕ → ℕ
mark None = 255
mark (Some d) = d

-- hexadecimal digits behind those of a number
abbrev pub hexadecimal : ℕ → List ℕ → Option ℕ
hexadecimal n [] = Some n
hexadecimal n (byte ∷ bytes) = given (digit_of byte) (λ d. hexadecimal (n * 16 + d) bytes)

-- exactly so many hexadecimal digits
unfoldable pub digits_of : ℕ → List ℕ → Option ℕ
digits_of count word = if length word == count then hexadecimal 0 word else None

-- decimal digits behind those of a number, which stays below 2^32
abbrev pub decimal_digit : ℕ → Option ℕ
decimal_digit byte = if not (nat_lt byte 48) && not (nat_lt 57 byte) then Some (byte - 48) else None

abbrev pub below : ℕ → ℕ → Option ℕ
below limit n = if nat_lt n limit then Some n else None

abbrev pub decimals : ℕ → List ℕ → Option ℕ
decimals n [] = Some n
decimals n (byte ∷ bytes) =
    given (decimal_digit byte) (λ d. given (below (2 ^ 32) (n * 10 + d)) (λ more. decimals more bytes))

-- a decimal number without leading zeros
unfoldable pub decimal_of : List ℕ → Option ℕ
decimal_of [] = None
decimal_of (byte ∷ []) = decimals 0 (byte ∷ [])
decimal_of (byte ∷ next ∷ bytes) = if byte == 48 then None else decimals 0 (byte ∷ next ∷ bytes)

-- two hexadecimal digits for each byte
abbrev pub pairs_of : List ℕ → Option (List ℕ)
pairs_of [] = Some []
pairs_of (byte ∷ []) = None
pairs_of (high ∷ low ∷ bytes) =
    given (digits_of 2 (high ∷ low ∷ [])) (λ b. given (pairs_of bytes) (λ bs. Some (b ∷ bs)))

-- bytes, or a hyphen for none
unfoldable pub octets_of : List ℕ → Option (List ℕ)
octets_of [] = None
octets_of (byte ∷ bytes) = if bytes_eq (byte ∷ bytes) (codes "-") then Some [] else pairs_of (byte ∷ bytes)

-- the bytes of pairs of digits, of which none is missing
abbrev pub byte_of : Option ℕ → ℕ
byte_of None = 0
byte_of (Some byte) = byte

abbrev pub paired : List ℕ → List ℕ
paired [] = []
paired (byte ∷ []) = []
paired (high ∷ low ∷ bytes) = byte_of (digits_of 2 (high ∷ low ∷ [])) ∷ paired bytes

-- a word is such pairs, or it is not
abbrev pub Pairs : List ℕ → Bool → Type 0
Pairs word whole = pairs_of word ≡ (if whole then Some (paired word) else None)
