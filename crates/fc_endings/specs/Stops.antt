-- What holds of the sink where the writing has stopped, and where it has not. This profile's own.
use Rattle.std.specs.Prelude.{◌≡◌, ℕ, List, Option, Result, Ok, Err}
use Rattle.fc_base.specs.Causes.{Rose}
use Rattle.fc_base.specs.Content.{IsFlushed}
use Rattle.fc_endings.specs.declared.stops.Stop.{Stop}
use Rattle.fc_endings.specs.declared.stops.Stop.TheVariants.{WriteFault, NoMemory}

-- the count of the sink where the writing stopped: it rose exactly where the sink failed
abbrev pub StopCount : Stop → ℕ → ℕ → Type 0
StopCount WriteFault before now = Rose before now
StopCount NoMemory before now = now ≡ before

-- the count of the sink
abbrev pub SinkCount : {T : Type 0} → Result T Stop → ℕ → ℕ → Type 0
SinkCount (Ok x) before now = now ≡ before
SinkCount (Err stop) before now = StopCount stop before now

-- all that was written is flushed; where the writing stopped, so much is flushed as was before
abbrev pub FlushedAt : {T : Type 0} → Result T Stop → Option (List ℕ) → ℕ → ℕ → Type 0
FlushedAt (Ok x) written before flushed = IsFlushed written flushed
FlushedAt (Err stop) written before flushed = flushed ≡ before

-- the status of a stop
abbrev pub stop_status : Stop → ℕ
stop_status WriteFault = 3
stop_status NoMemory = 9
