-- What the words of a command line mean. This profile's own.
use Rattle.std.specs.Prelude.{ℕ, List, length, Option, Result, Ok, Err}
use Rattle.std.specs.Io.KnownBytes.{Appends}
use Rattle.fc_base.specs.Content.{AppendsFront}
use Rattle.fc_endings.specs.declared.stops.Stop.{Stop}
use Rattle.fc_endings.specs.Stops.{stop_status}
use Rattle.fc_controlling.specs.declared.asked.Asked.{Asked}
use Rattle.fc_tool.specs.Text.{usage_text}

-- what is written where the words are no command
abbrev pub UsageEnds : Result (Unit {0}) Stop → Option (List ℕ) → Option (List ℕ) → Type 0
UsageEnds (Ok x) old new = Appends old new usage_text
UsageEnds (Err stop) old new = AppendsFront old new usage_text

-- the status where the words are no command
abbrev pub usage_status : Result (Unit {0}) Stop → ℕ
usage_status (Ok x) = 1
usage_status (Err stop) = stop_status stop

-- what the words of `control` ask for
abbrev pub asked_for : ℕ → ℕ → List (List ℕ) → Asked
asked_for ce turns addresses = record { ce = ce; turns = turns; addresses = length addresses }
