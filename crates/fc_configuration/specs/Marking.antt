-- Marks that were set one by one, each over a scope of a store as it stood then (this profile's own).
use Rattle.std.specs.Prelude.{◌≡◌, ℕ, false, List, [], map, slice_get, Some}
use Rattle.fc_store.specs.Stores.{Stored, Tree, is_in, mark_of}

-- a scope, and the store when a mark over it was set
pub record Marking : Type 0 where
  pub scope : List (ℕ × ℕ)
  pub store : Stored

abbrev pub marks_of_all : List Marking → List (List (ℕ × ℕ))
marks_of_all markings = map (λ (m : Marking). mark_of m.scope m.store) markings

-- the mark is not over the instance at a place
abbrev pub IsBeside : ℕ → ℕ × ℕ → Marking → Type 0
IsBeside i pair m = (slice_get m.store.instances i ≡ Some pair) × (is_in m.scope pair ≡ false)

-- what a tree holds now, without marks
abbrev pub bare : Tree → Tree
bare t = record { now = t.now; held = [] }

abbrev pub HasNoMarks : Tree → Type 0
HasNoMarks t = t.held ≡ []
