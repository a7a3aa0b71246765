-- The elements that a Config names as participants of a transaction, one after the other. This profile's own.
use Rattle.std.specs.Prelude.{ℕ, ◌^◌, ◌&&◌, nat_lt, List, [], ◌∷◌, Option, Some, None, option_map, option_and_then, if◌then◌else◌}

-- an element's ID above this number
abbrev pub next_id : ℕ → ℕ → Option ℕ
next_id last n = if nat_lt last n && nat_lt n (2 ^ 30) then Some n else None

-- the IDs of elements that are these numbers, each above the one before
abbrev pub ids_from : ℕ → List ℕ → Option (List ℕ)
ids_from last [] = Some []
ids_from last (w ∷ ws) = option_and_then (λ n. option_map (λ ns. n ∷ ns) (ids_from n ws)) (next_id last w)
