-- Where the first code stands that is not 00.
use Rattle.std.proofs.Common.{◌≡◌, ℕ, zero, suc, ◌+◌, ◌<◌, ◌≤◌, Bool, true, false, cond, not, eqb, List, [], ◌∷◌, ◌++◌, length, replicate, refl, ap, ◌∙◌, arith, Some, None, length-append}
use Rattle.std.proofs.lemmas.List.{length-replicate}
use Rattle.std.specs.List.{position, position_or_len}
use Rattle.std.proofs.lemmas.Bool.{lt-ltb, le-ltb, ltb-false, ne_eqb, eqb-true, eqb-false}

abbrev pub is_refused : ℕ → Bool
is_refused code = not (eqb code 0)

refused_is : (code : ℕ) → (code ≡ 0 → ⊥) → eqb code 0 ≡ false
refused_is code bad = ne_eqb code 0 bad

place_among : (n code : ℕ) (rest : List ℕ) → (code ≡ 0 → ⊥) → position_or_len is_refused (replicate n 0 ++ code ∷ rest) ≡ n
place_among zero code rest bad = rw (refused_is code bad) refl
place_among (suc n) code rest bad = omega (arith, place_among n code rest bad)

pub position_among : (n code : ℕ) (rest : List ℕ) → (code ≡ 0 → ⊥) → position is_refused (replicate n 0 ++ code ∷ rest) ≡ Some n
position_among n code rest bad =
    let at : position_or_len is_refused (replicate n 0 ++ code ∷ rest) ≡ n = place_among n code rest bad in
    let long : n < length (replicate n 0 ++ code ∷ rest) = grind (arith, length-append, length-replicate) in
    rw (at, lt-ltb n (length (replicate n 0 ++ code ∷ rest)) long) refl

place_of_none : (n : ℕ) → position_or_len is_refused (replicate n 0) ≡ n
place_of_none zero = refl
place_of_none (suc n) = omega (arith, place_of_none n)

pub position_none : (n : ℕ) → position is_refused (replicate n 0) ≡ None
position_none n =
    rw (place_of_none n, length-replicate {A = ℕ} n 0, le-ltb n n (omega arith)) refl

all_zero : (codes : List ℕ) → length codes ≤ position_or_len is_refused codes → codes ≡ replicate (length codes) 0
all_zero [] le = refl
all_zero (code ∷ codes) le =
    elim (eqb code 0) as (λ b. eqb code 0 ≡ b → suc (length codes) ≤ cond (not (not b)) (1 + position_or_len is_refused codes) 0 → code ∷ codes ≡ 0 ∷ replicate (length codes) 0) [
      | true ↦ λ e l. ap (λ (n : ℕ). n ∷ codes) (eqb-true code 0 e) ∙ ap (λ (xs : List ℕ). 0 ∷ xs) (all_zero codes (omega arith))
      | false ↦ λ e l. absurd (omega arith)
    ] refl le

none_zero : (codes : List ℕ) (b : Bool) (at : ℕ) → cond b (Some at) None ≡ None → b ≡ false
none_zero codes true at e = absurd {A = true ≡ false} cc
none_zero codes false at e = refl

pub zeros : (codes : List ℕ) → position is_refused codes ≡ None → codes ≡ replicate (length codes) 0
zeros codes none =
    all_zero codes (ltb-false (position_or_len is_refused codes) (length codes) (none_zero codes _ (position_or_len is_refused codes) none))

turned : (b : Bool) → not b ≡ true → b ≡ false
turned true e = absurd {A = true ≡ false} cc
turned false e = refl

kept : (b : Bool) → not b ≡ false → b ≡ true
kept true e = refl
kept false e = absurd {A = false ≡ true} cc

-- what the test of a code says
pub bad : (code : ℕ) → not (eqb code 0) ≡ true → code ≡ 0 → ⊥
bad code e zero_is = eqb-false code 0 (turned _ e) zero_is

pub good : (code : ℕ) → not (eqb code 0) ≡ false → code ≡ 0
good code e = eqb-true code 0 (kept _ e)
