-- The lines of values of four and of eight bytes, one character by one.
use Rattle.std.proofs.Common.{◌≡◌, ◌/◌, ◌%◌, ◌++◌, ℕ, List, [], ◌∷◌, length, slice_index, refl, arith, ◌∙◌, append_assoc}
use Rattle.fc_base.specs.Hex.{hex, hex_digit}
use Rattle.fc_text.specs.Text.{full_text}

-- the line of a value of four bytes
pub full_4 : (xs : List ℕ) → length xs ≡ 4 → full_text 4 xs ≡ 32 ∷ 32 ∷ 32 ∷ 32 ∷ 32 ∷ 32 ∷ 32 ∷ 32 ∷ 102 ∷ 117 ∷ 108 ∷ 108 ∷ 32 ∷ hex_digit (slice_index xs 0 / 16 % 16) ∷ hex_digit (slice_index xs 0 % 16) ∷ hex_digit (slice_index xs 1 / 16 % 16) ∷ hex_digit (slice_index xs 1 % 16) ∷ hex_digit (slice_index xs 2 / 16 % 16) ∷ hex_digit (slice_index xs 2 % 16) ∷ hex_digit (slice_index xs 3 / 16 % 16) ∷ hex_digit (slice_index xs 3 % 16) ∷ 10 ∷ []
unfolding hex full_text
full_4 (x0 ∷ x1 ∷ x2 ∷ x3 ∷ []) e = refl
full_4 [] e = absurd (omega arith)
full_4 (x0 ∷ []) e = absurd (omega arith)
full_4 (x0 ∷ x1 ∷ []) e = absurd (omega arith)
full_4 (x0 ∷ x1 ∷ x2 ∷ []) e = absurd (omega arith)
full_4 (x0 ∷ x1 ∷ x2 ∷ x3 ∷ x4 ∷ xs) e = absurd (omega arith)

-- the line of a value of eight bytes
pub full_8 : (xs : List ℕ) → length xs ≡ 8 → full_text 4 xs ≡ 32 ∷ 32 ∷ 32 ∷ 32 ∷ 32 ∷ 32 ∷ 32 ∷ 32 ∷ 102 ∷ 117 ∷ 108 ∷ 108 ∷ 32 ∷ hex_digit (slice_index xs 0 / 16 % 16) ∷ hex_digit (slice_index xs 0 % 16) ∷ hex_digit (slice_index xs 1 / 16 % 16) ∷ hex_digit (slice_index xs 1 % 16) ∷ hex_digit (slice_index xs 2 / 16 % 16) ∷ hex_digit (slice_index xs 2 % 16) ∷ hex_digit (slice_index xs 3 / 16 % 16) ∷ hex_digit (slice_index xs 3 % 16) ∷ hex_digit (slice_index xs 4 / 16 % 16) ∷ hex_digit (slice_index xs 4 % 16) ∷ hex_digit (slice_index xs 5 / 16 % 16) ∷ hex_digit (slice_index xs 5 % 16) ∷ hex_digit (slice_index xs 6 / 16 % 16) ∷ hex_digit (slice_index xs 6 % 16) ∷ hex_digit (slice_index xs 7 / 16 % 16) ∷ hex_digit (slice_index xs 7 % 16) ∷ 10 ∷ []
unfolding hex full_text
full_8 (x0 ∷ x1 ∷ x2 ∷ x3 ∷ x4 ∷ x5 ∷ x6 ∷ x7 ∷ []) e = refl
full_8 ([]) e = absurd (omega arith)
full_8 (x0 ∷ []) e = absurd (omega arith)
full_8 (x0 ∷ x1 ∷ []) e = absurd (omega arith)
full_8 (x0 ∷ x1 ∷ x2 ∷ []) e = absurd (omega arith)
full_8 (x0 ∷ x1 ∷ x2 ∷ x3 ∷ []) e = absurd (omega arith)
full_8 (x0 ∷ x1 ∷ x2 ∷ x3 ∷ x4 ∷ []) e = absurd (omega arith)
full_8 (x0 ∷ x1 ∷ x2 ∷ x3 ∷ x4 ∷ x5 ∷ []) e = absurd (omega arith)
full_8 (x0 ∷ x1 ∷ x2 ∷ x3 ∷ x4 ∷ x5 ∷ x6 ∷ []) e = absurd (omega arith)
full_8 (x0 ∷ x1 ∷ x2 ∷ x3 ∷ x4 ∷ x5 ∷ x6 ∷ x7 ∷ x8 ∷ xs) e = absurd (omega arith)

-- three pieces, one appended after the other
pub three : (old a b c first second new : List ℕ) → first ≡ old ++ a → second ≡ first ++ b → new ≡ second ++ c → new ≡ old ++ (a ++ (b ++ c))
three old a b c first second new f s n = rw (n, s, f) (append_assoc (old ++ a) b c ∙ append_assoc old a (b ++ c))
