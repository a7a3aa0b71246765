-- What a run of `world` keeps. This profile's own.
-- `Unread` and `Unwritten` stand for a fault of the source and of the sink: that its count rose.
use Rattle.std.specs.Prelude.{◌≡◌, ◌⊎◌, ◌≤◌, ℕ, List, length, Option, Result}
use Rattle.fc_endings.specs.declared.stops.Stop.{Stop}
use Rattle.fc_playing.specs.WorldRun.{PlayEnds, play_status}
use Rattle.fc_playing.specs.declared.end.PlayEnd.{PlayEnd}

pub record PlayRuns (limit status : ℕ) (before left old new : Option (List ℕ)) (Unread Unwritten : Type 0) : Type 0 where
  -- what was read, what was written, and the status
  pub ends : (how : Result PlayEnd Stop) × (status ≡ play_status how) × PlayEnds limit Unread how before left old new
  -- without a fault the input alone decides, or it is out of memory
  pub complete : (Unread → ⊥) → (Unwritten → ⊥) → (status ≡ 0) ⊎ ((status ≡ 5) ⊎ ((status ≡ 12) ⊎ (status ≡ 9)))

-- A script that a document means was played, up to a step that can't be made where there is one: the status tells of that, or that what was to be written
-- of it can't be, where the document is as short as is looked at and the source did not fail.
abbrev pub WasPlayed : ℕ → ℕ → List ℕ → Type 0 → Type 0
WasPlayed limit status document Unread = (status ≡ 0) ⊎ ((status ≡ 5) ⊎ ((status ≡ 3) × (length document ≤ limit) × (Unread → ⊥)))
