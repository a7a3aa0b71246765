-- Where a key stands among pairs whose keys rise, or else where it belongs.
use Rattle.std.specs.Prelude.{◌≡◌, ℕ, ◌<◌, List, [], ◌∷◌, ◌++◌, length, ⊤, Result, Ok, Err}
use Rattle.std.specs.List.{AllByRecursion}
use Rattle.fc_assoc.specs.declared.heard.Heard.{Heard}

-- all keys are below this one
abbrev pub AreBelow : ℕ → List (ℕ × Heard) → Type 0
AreBelow ce pairs = AllByRecursion (λ pair. pair.0 < ce) pairs

-- the first key, if there is one, is above this one
abbrev pub BeginsAbove : ℕ → List (ℕ × Heard) → Type 0
BeginsAbove ce [] = ⊤
BeginsAbove ce (pair ∷ pairs) = ce < pair.0

-- the key stands at this place
pub record StandsAt (pairs : List (ℕ × Heard)) (ce place : ℕ) : Type 0 where
  pub front : List (ℕ × Heard)
  pub heard : Heard
  pub back : List (ℕ × Heard)
  pub split : pairs ≡ front ++ (ce, heard) ∷ back
  pub at : length front ≡ place
  pub below : AreBelow ce front

-- the key does not stand there, and belongs at this place
pub record BelongsAt (pairs : List (ℕ × Heard)) (ce place : ℕ) : Type 0 where
  pub front : List (ℕ × Heard)
  pub back : List (ℕ × Heard)
  pub split : pairs ≡ front ++ back
  pub at : length front ≡ place
  pub below : AreBelow ce front
  pub above : BeginsAbove ce back

abbrev pub IsPlace : List (ℕ × Heard) → ℕ → Result ℕ ℕ → Type 0
IsPlace pairs ce (Ok place) = StandsAt pairs ce place
IsPlace pairs ce (Err place) = BelongsAt pairs ce place
