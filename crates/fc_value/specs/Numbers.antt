-- Numbers in 1, 2, 4 or 8 bytes, the highest first: unsigned, or in two's complement (RFC 5812, section 4.5.1).
use Rattle.std.specs.Prelude.{ℕ, ℤ, pos, negsuc, zero, suc, ◌+◌, ◌-◌, ◌*◌, ◌/◌, ◌%◌, ◌^◌, ◌==◌, ◌&&◌, ◌||◌, not, nat_lt, Bool, List, [], ◌∷◌, ◌++◌, length, if◌then◌else◌}

-- a number has so many bytes
abbrev pub is_width : ℕ → Bool
is_width w = (w == 1) || (w == 2) || (w == 4) || (w == 8)

-- the number whose digits to the base 256 are the bytes, behind those of n
abbrev pub digits_from : ℕ → List ℕ → ℕ
digits_from n [] = n
digits_from n (b ∷ bytes) = digits_from (n * 256 + b) bytes

abbrev pub unsigned : List ℕ → ℕ
unsigned bytes = digits_from 0 bytes

-- the number that the bytes stand for: in two's complement the upper half of them are the negative ones
abbrev pub number_of : Bool → List ℕ → ℤ
number_of signed bytes =
    if signed && not (nat_lt (unsigned bytes) (2 ^ (8 * length bytes - 1))) then negsuc (2 ^ (8 * length bytes) - 1 - unsigned bytes)
    else pos (unsigned bytes)

-- the last w digits of n to the base 256
unfoldable pub digits : ℕ → ℕ → List ℕ
digits zero n = []
digits (suc w) n = digits w (n / 256) ++ n % 256 ∷ []

-- the 64 bits of a number in two's complement
abbrev pub bits_of : ℤ → ℕ
bits_of (pos n) = n % 2 ^ 64
bits_of (negsuc n) = 2 ^ 64 - 1 - n % 2 ^ 64

-- the bytes of a number
abbrev pub number_bytes : ℕ → ℤ → List ℕ
number_bytes w z = if is_width w then digits w (bits_of z) else []
