-- The classes that each element has of itself: FE Object 1 (RFC 5812, section 5), FE Protocol 2 (RFC 5810, appendix B), and
-- Mastership 0001F001, which is this profile's own.
use Rattle.std.specs.Prelude.{ℕ, ◌==◌, Bool, ◌&&◌, List, [], ◌∷◌}
use Rattle.std.specs.List.{list_any}

abbrev pub built_in_ids : List ℕ
built_in_ids = 1 ∷ 2 ∷ 126977 ∷ []

-- an element has one instance of each, with ID 1
abbrev pub built_in_instances : List (ℕ × ℕ)
built_in_instances = (1, 1) ∷ (2, 1) ∷ (126977, 1) ∷ []

abbrev pub is_built_in : ℕ → Bool
is_built_in id = list_any (λ taken. id == taken) built_in_ids

-- The components, each as its class and its ID, whose values the element tells itself, and which stand in no configuration.
abbrev pub live_components : List (ℕ × ℕ)
live_components =
    (1, 1) ∷ (1, 2) ∷ (1, 4) ∷ (1, 5) ∷ (1, 6) ∷ (1, 8)
    ∷ (2, 1) ∷ (2, 2) ∷ (2, 3) ∷ (2, 8) ∷ (2, 13)
    ∷ (126977, 1) ∷ (126977, 2) ∷ (126977, 3) ∷ (126977, 7) ∷ []

abbrev pub is_live : ℕ → ℕ → Bool
is_live class id = list_any (λ live. (class == live.0) && (id == live.1)) live_components
