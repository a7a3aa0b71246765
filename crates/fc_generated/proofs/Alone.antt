-- One item alone can be moved nowhere.
use Rattle.std.proofs.Common.{◌≡◌, ◌<◌, ◌∙◌, ℕ, zero, suc, List, [], ◌∷◌, refl, ap, arith}
use Rattle.std.specs.List.{swap}
use Rattle.std.specs.List.Sorted.{IsPermutation, SwapsInRange, apply_swaps}

swapped : {X : Type 0} (x : X) (i j : ℕ) → i < 1 → j < 1 → swap (x ∷ []) i j ≡ x ∷ []
swapped x zero zero first second = refl
swapped x (suc i) j first second = absurd (omega (arith, first))
swapped x zero (suc j) first second = absurd (omega (arith, second))

unmoved : {X : Type 0} (x : X) (moves : List (ℕ × ℕ)) → SwapsInRange 1 moves → apply_swaps (x ∷ []) moves ≡ x ∷ []
unmoved x [] below = refl
unmoved x (p ∷ ps) (first, second, more) = ap (λ ys. swap ys p.0 p.1) (unmoved x ps more) ∙ swapped x p.0 p.1 first second

pub alone : {X : Type 0} (x : X) (ys : List X) → IsPermutation (x ∷ []) ys → ys ≡ x ∷ []
alone x ys moved = moved.is ∙ unmoved x moved.moves moved.below
