-- How a large run ends, and what it keeps. This profile's own.
-- `Unwritten` stands for a fault of the sink: that its count rose.
use Rattle.std.specs.Prelude.{◌≡◌, ◌⊎◌, ℕ, List, Option, Result, Ok, Err}
use Rattle.std.specs.Io.KnownBytes.{Appends}
use Rattle.fc_base.specs.Content.{AppendsFront}
use Rattle.fc_endings.specs.Stops.{stop_status}
use Rattle.fc_endings.specs.declared.stops.Stop.{Stop}
use Rattle.fc_generating.specs.Summaries.{summary}
use Rattle.fc_generating.specs.Trying.{world_of_run}

-- what is written of a run of so many transactions
abbrev pub told : ℕ → List ℕ
told n = summary n (world_of_run n)

-- All of a text was written, or a front where the writing stopped or memory was wanting.
abbrev pub TextEnds : List ℕ → Result (Unit {0}) Stop → Option (List ℕ) → Option (List ℕ) → Type 0
TextEnds text (Ok x) old new = Appends old new text
TextEnds text (Err stop) old new = AppendsFront old new text

abbrev pub GenEnds : ℕ → Result (Unit {0}) Stop → Option (List ℕ) → Option (List ℕ) → Type 0
GenEnds n = TextEnds (told n)

abbrev pub gen_status : Result (Unit {0}) Stop → ℕ
gen_status (Ok x) = 0
gen_status (Err stop) = stop_status stop

pub record GenRuns (n status : ℕ) (old new : Option (List ℕ)) (Unwritten : Type 0) : Type 0 where
  -- what was written, and the status
  pub ends : (how : Result (Unit {0}) Stop) × (status ≡ gen_status how) × GenEnds n how old new
  -- without a fault all of it was written, or it is out of memory
  pub complete : (Unwritten → ⊥) → (status ≡ 0) ⊎ (status ≡ 9)
