-- Numbers in bytes, the highest byte first, as all of RFC 5810 has them.
use Rattle.std.specs.Prelude.{ℕ, ◌+◌, ◌*◌, ◌^◌, ◌/◌, ◌%◌, ◌<◌, List, [], ◌∷◌, slice_index}
use Rattle.std.specs.List.{AllByRecursion}

-- the number in the two bytes at a place
abbrev pub u16_at : List ℕ → ℕ → ℕ
u16_at bytes i = 2 ^ 8 * slice_index bytes i + slice_index bytes (i + 1)

-- the number in the four bytes at a place
abbrev pub u32_at : List ℕ → ℕ → ℕ
u32_at bytes i =
    2 ^ 24 * slice_index bytes i + 2 ^ 16 * slice_index bytes (i + 1) + 2 ^ 8 * slice_index bytes (i + 2)
    + slice_index bytes (i + 3)

-- the number in the eight bytes at a place
abbrev pub u64_at : List ℕ → ℕ → ℕ
u64_at bytes i =
    2 ^ 56 * slice_index bytes i + 2 ^ 48 * slice_index bytes (i + 1) + 2 ^ 40 * slice_index bytes (i + 2)
    + 2 ^ 32 * slice_index bytes (i + 3) + 2 ^ 24 * slice_index bytes (i + 4) + 2 ^ 16 * slice_index bytes (i + 5)
    + 2 ^ 8 * slice_index bytes (i + 6) + slice_index bytes (i + 7)

-- a number in two bytes
abbrev pub u16_bytes : ℕ → List ℕ
u16_bytes n = n / 2 ^ 8 ∷ n % 2 ^ 8 ∷ []

-- a number in four bytes
abbrev pub u32_bytes : ℕ → List ℕ
u32_bytes n = n / 2 ^ 24 ∷ n / 2 ^ 16 % 2 ^ 8 ∷ n / 2 ^ 8 % 2 ^ 8 ∷ n % 2 ^ 8 ∷ []

-- each number is a byte
abbrev pub AreBytes : List ℕ → Type 0
AreBytes bytes = AllByRecursion (λ b. b < 256) bytes
