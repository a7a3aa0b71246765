-- The digits of a few bytes, one by one, and of one byte more.
use Rattle.std.proofs.Common.{◌≡◌, ◌/◌, ◌%◌, ◌++◌, ℕ, List, [], ◌∷◌, length, slice_index, refl, arith, sym, ap, ◌∙◌, append_assoc, ◌+◌, ◌<◌, drop, drop-cons}
use Rattle.fc_base.specs.Hex.{hex, hex_digit, hex_text}

pub hex_text_8 : (xs : List ℕ) → length xs ≡ 8 → hex_text xs ≡ hex_digit (slice_index xs 0 / 16 % 16) ∷ hex_digit (slice_index xs 0 % 16) ∷ hex_digit (slice_index xs 1 / 16 % 16) ∷ hex_digit (slice_index xs 1 % 16) ∷ hex_digit (slice_index xs 2 / 16 % 16) ∷ hex_digit (slice_index xs 2 % 16) ∷ hex_digit (slice_index xs 3 / 16 % 16) ∷ hex_digit (slice_index xs 3 % 16) ∷ hex_digit (slice_index xs 4 / 16 % 16) ∷ hex_digit (slice_index xs 4 % 16) ∷ hex_digit (slice_index xs 5 / 16 % 16) ∷ hex_digit (slice_index xs 5 % 16) ∷ hex_digit (slice_index xs 6 / 16 % 16) ∷ hex_digit (slice_index xs 6 % 16) ∷ hex_digit (slice_index xs 7 / 16 % 16) ∷ hex_digit (slice_index xs 7 % 16) ∷ []
unfolding hex
hex_text_8 (x0 ∷ x1 ∷ x2 ∷ x3 ∷ x4 ∷ x5 ∷ x6 ∷ x7 ∷ []) e = refl
hex_text_8 [] e = absurd (omega arith)
hex_text_8 (x0 ∷ []) e = absurd (omega arith)
hex_text_8 (x0 ∷ x1 ∷ []) e = absurd (omega arith)
hex_text_8 (x0 ∷ x1 ∷ x2 ∷ []) e = absurd (omega arith)
hex_text_8 (x0 ∷ x1 ∷ x2 ∷ x3 ∷ []) e = absurd (omega arith)
hex_text_8 (x0 ∷ x1 ∷ x2 ∷ x3 ∷ x4 ∷ []) e = absurd (omega arith)
hex_text_8 (x0 ∷ x1 ∷ x2 ∷ x3 ∷ x4 ∷ x5 ∷ []) e = absurd (omega arith)
hex_text_8 (x0 ∷ x1 ∷ x2 ∷ x3 ∷ x4 ∷ x5 ∷ x6 ∷ []) e = absurd (omega arith)
hex_text_8 (x0 ∷ x1 ∷ x2 ∷ x3 ∷ x4 ∷ x5 ∷ x6 ∷ x7 ∷ x8 ∷ xs) e = absurd (omega arith)

pub hex_text_4 : (xs : List ℕ) → length xs ≡ 4 → hex_text xs ≡ hex_digit (slice_index xs 0 / 16 % 16) ∷ hex_digit (slice_index xs 0 % 16) ∷ hex_digit (slice_index xs 1 / 16 % 16) ∷ hex_digit (slice_index xs 1 % 16) ∷ hex_digit (slice_index xs 2 / 16 % 16) ∷ hex_digit (slice_index xs 2 % 16) ∷ hex_digit (slice_index xs 3 / 16 % 16) ∷ hex_digit (slice_index xs 3 % 16) ∷ []
unfolding hex
hex_text_4 (x0 ∷ x1 ∷ x2 ∷ x3 ∷ []) e = refl
hex_text_4 [] e = absurd (omega arith)
hex_text_4 (x0 ∷ []) e = absurd (omega arith)
hex_text_4 (x0 ∷ x1 ∷ []) e = absurd (omega arith)
hex_text_4 (x0 ∷ x1 ∷ x2 ∷ []) e = absurd (omega arith)
hex_text_4 (x0 ∷ x1 ∷ x2 ∷ x3 ∷ x4 ∷ xs) e = absurd (omega arith)

-- the digits of one more byte
pub byte_on : (text xs whole : List ℕ) (i : ℕ) → i < length xs → text ++ hex_text (drop i xs) ≡ whole
    → (text ++ (hex_digit (slice_index xs i / 16 % 16) ∷ hex_digit (slice_index xs i % 16) ∷ [])) ++ hex_text (drop (i + 1) xs) ≡ whole
unfolding hex
byte_on text xs whole i lt e =
    let next : drop i xs ≡ slice_index xs i ∷ drop (i + 1) xs = search (arith, drop-cons) in
    rw append_assoc (ap (λ l. text ++ hex_text l) (sym next) ∙ e)
