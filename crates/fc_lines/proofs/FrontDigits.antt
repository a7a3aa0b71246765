-- Decimal digits in front of bytes.
use Rattle.std.proofs.Common.{◌≡◌, ◌≢◌, ◌+◌, ◌-◌, ◌*◌, ◌^◌, ◌<◌, ◌≤◌, ◌==◌, ◌&&◌, not, nat_lt, ℕ, zero, suc, List, [], ◌∷◌, ◌++◌, length, take, get_or, cond, Option, Some, None, refl, ap, ◌∙◌, arith, ne_eqb, add-one, lit<}
use Rattle.std.proofs.Math.Nat.{pow-le-pow_right}
use Rattle.std.proofs.lemmas.Bool.{lt-ltb, le-ltb}
use Rattle.fc_lines.specs.LineWords.{Digits}
use Rattle.fc_lines.specs.WordValues.{below, decimal_digit, decimal_of, decimals, given}
use Rattle.fc_lines.proofs.Cutting.{skip}
use Rattle.fc_lines.proofs.OpenLines.{plain_more, take_more}

digit_by : (byte : ℕ) → 48 ≤ byte → byte ≤ 57 → decimal_digit byte ≡ Some (byte - 48)
digit_by byte low high = ap (λ t. cond (not t && not (nat_lt 57 byte)) (Some (byte - 48)) None) (le-ltb byte 48 low) ∙ ap (λ t. cond (not t) (Some (byte - 48)) None) (le-ltb 57 byte high)

below_by : (n : ℕ) → n < 2 ^ 32 → below (2 ^ 32) n ≡ Some n
below_by n small = ap (λ t. cond t (Some n) None) (lt-ltb n (2 ^ 32) small)

-- one more digit
one_digit : (n byte : ℕ) → 48 ≤ byte → byte ≤ 57 → n * 10 + (byte - 48) < 2 ^ 32 → decimals n (byte ∷ []) ≡ Some (n * 10 + (byte - 48))
one_digit n byte low high small =
    ap (λ o. given o (λ d. given (below (2 ^ 32) (n * 10 + d)) (λ more. decimals more []))) (digit_by byte low high)
    ∙ ap (λ o. given o (λ more. decimals more [])) (below_by (n * 10 + (byte - 48)) small)

digits_end : (n m byte : ℕ) (bytes : List ℕ) → decimals n bytes ≡ Some m → 48 ≤ byte → byte ≤ 57 → m * 10 + (byte - 48) < 2 ^ 32 → decimals n (bytes ++ byte ∷ []) ≡ Some (m * 10 + (byte - 48))
digits_end n m byte [] e low high small =
    let same : n ≡ m = some_is n m e in ap (λ k. decimals k (byte ∷ [])) same ∙ one_digit m byte low high small
  where
    some_is : (a b : ℕ) → Some a ≡ Some b → a ≡ b
    some_is a b e = cc
digits_end n m byte (b ∷ bs) e low high small = by (decimal_digit b) e (λ k f. digits_end k m byte bs f low high small)
  where
    then : (o : Option ℕ) → given o (λ more. decimals more bs) ≡ Some m → ((k : ℕ) → decimals k bs ≡ Some m → decimals k (bs ++ byte ∷ []) ≡ Some (m * 10 + (byte - 48)))
        → given o (λ more. decimals more (bs ++ byte ∷ [])) ≡ Some (m * 10 + (byte - 48))
    then None e more = cc
    then (Some k) e more = more k e

    by : (o : Option ℕ) → given o (λ d. given (below (2 ^ 32) (n * 10 + d)) (λ more. decimals more bs)) ≡ Some m → ((k : ℕ) → decimals k bs ≡ Some m → decimals k (bs ++ byte ∷ []) ≡ Some (m * 10 + (byte - 48)))
        → given o (λ d. given (below (2 ^ 32) (n * 10 + d)) (λ more. decimals more (bs ++ byte ∷ []))) ≡ Some (m * 10 + (byte - 48))
    by None e more = cc
    by (Some d) e more = then (below (2 ^ 32) (n * 10 + d)) e more

pub no_digits : (bytes : List ℕ) → Digits bytes 0 0
no_digits bytes = record { within = omega arith; few = omega arith; plain = tt; value = refl; small = omega arith }

pub room : (number len : ℕ) → number < 10 ^ len → len < 9 → number < 10 ^ 8
room number len small few =
    let most : 10 ^ len ≤ 10 ^ 8 = pow-le-pow_right {n = 10} (lit< tt) {i = len} {j = 8} (omega arith) in omega arith

pub more_digits : (bytes : List ℕ) (number len : ℕ) → Digits bytes number len → len < length bytes → len < 9 → 48 ≤ get_or bytes len 0 → get_or bytes len 0 ≤ 57 → Digits bytes (number * 10 + (get_or bytes len 0 - 48)) (len + 1)
more_digits bytes number len d less few low high =
    let byte = get_or bytes len 0 in
    let most = room number len d.small few in
    record {
      within = omega (arith, less);
      few = omega (arith, few);
      plain = plain_more len bytes less d.plain (λ e. omega (arith, low, e)) (λ e. omega (arith, low, e));
      value = rw add-one (ap (decimals 0) (take_more len bytes less) ∙ digits_end 0 number byte (take len bytes) d.value low high (omega (arith, most, high)));
      small = rw add-one (omega (arith, d.small, high));
    }

-- the word of such digits
pub decimal_word : (bytes : List ℕ) (number len : ℕ) → Digits bytes number len → len ≢ 0 → (1 < len → get_or bytes 0 0 ≢ 48) → decimal_of (take len bytes) ≡ Some number
unfolding decimal_of
decimal_word [] number zero d some first = absurd (some refl)
decimal_word [] number (suc n) d some first = absurd (omega (arith, d.within))
decimal_word (b ∷ bs) number zero d some first = absurd (some refl)
decimal_word (b ∷ bs) number (suc zero) d some first = d.value
decimal_word (b ∷ []) number (suc (suc n)) d some first = absurd (omega (arith, d.within))
decimal_word (b ∷ c ∷ bs) number (suc (suc n)) d some first = skip (b == 48) _ _ (ne_eqb b 48 (first (omega arith))) ∙ d.value
