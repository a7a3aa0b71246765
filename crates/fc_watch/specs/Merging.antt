-- Two rising lists gone along side by side.
use Rattle.std.specs.Prelude.{ℕ, ◌==◌, nat_lt, Bool, false, List, [], ◌∷◌, if◌then◌else◌}

-- a list without those in front that are below a number
abbrev pub from_one_on : ℕ → List ℕ → List ℕ
from_one_on x [] = []
from_one_on x (y ∷ ys) = if nat_lt y x then from_one_on x ys else y ∷ ys

abbrev pub begins_with : ℕ → List ℕ → Bool
begins_with x [] = false
begins_with x (y ∷ ys) = y == x
