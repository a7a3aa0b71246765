-- What a run of `show` and one of `make` keep. This profile's own.
-- `Unread` and `Unwritten` stand for a fault of the source and of the sink: that its count rose.
use Rattle.std.specs.Prelude.{◌≡◌, ◌⊎◌, ℕ, List, Option, Result}
use Rattle.fc_tool.specs.declared.make.Made.{Made}
use Rattle.fc_tool.specs.declared.show.Shown.{Shown}
use Rattle.fc_endings.specs.declared.stops.Stop.{Stop}
use Rattle.fc_tool.specs.Make.{MakeEnds, make_status}
use Rattle.fc_tool.specs.Show.{ShowEnds, status_of}

-- a run of `show`
pub record ShowRuns (limit status : ℕ) (before left old new : Option (List ℕ)) (Unread Unwritten : Type 0) : Type 0 where
  -- what was read, what was written of it, and the status
  pub ends : (how : Result Shown Stop) × (status ≡ status_of how) × ShowEnds limit how before left old new
  -- without a fault the input alone decides, or it is out of memory
  pub complete : (Unread → ⊥) → (Unwritten → ⊥) → (status ≡ 0) ⊎ ((status ≡ 6) ⊎ ((status ≡ 12) ⊎ (status ≡ 9)))

-- a run of `make`
pub record MakeRuns (limit status : ℕ) (before left old new : Option (List ℕ)) (Unread Unwritten : Type 0) : Type 0 where
  pub ends : (how : Result Made Stop) × (status ≡ make_status how) × MakeEnds limit how before left old new
  pub complete : (Unread → ⊥) → (Unwritten → ⊥) → (status ≡ 0) ⊎ ((status ≡ 5) ⊎ ((status ≡ 12) ⊎ (status ≡ 9)))
