-- IDs that tell the members of a list apart.
use Rattle.std.specs.Prelude.{Bool, true, not, ◌&&◌, List, [], ◌∷◌}
use Rattle.std.specs.List.{list_any}
use Rattle.std.specs.Ordering.{is_lt}
use Rattle.std.specs.declared.cmp.Ordering.{Ordering}

-- no two members are the same
abbrev pub is_distinct : {X : Type 0} → (X → X → Bool) → List X → Bool
is_distinct same [] = true
is_distinct same (x ∷ xs) = not (list_any (same x) xs) && is_distinct same xs

-- the first of the members, if any, is above one
abbrev pub is_below : {X : Type 0} → (X → X → Ordering) → X → List X → Bool
is_below cmp p [] = true
is_below cmp p (q ∷ qs) = is_lt (cmp p q)

-- each member is below the next one
abbrev pub is_rising : {X : Type 0} → (X → X → Ordering) → List X → Bool
is_rising cmp [] = true
is_rising cmp (p ∷ ps) = is_below cmp p ps && is_rising cmp ps
