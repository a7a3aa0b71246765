-- What a run of `control` keeps. This profile's own.
-- `source`, `sink`, `hub` and `rounds` stand for the count of failures of each, before and now.
use Rattle.std.specs.Prelude.{◌≡◌, ◌⊎◌, ℕ, List, Option, Result}
use Rattle.fc_base.specs.Causes.{Rose}
use Rattle.fc_hub.specs.Hubs.{Held}
use Rattle.fc_hub.specs.Rounds.{Given}
use Rattle.fc_endings.specs.declared.stops.Stop.{Stop}
use Rattle.fc_controlling.specs.ControlRun.{ControlEnds, control_status}
use Rattle.fc_controlling.specs.declared.asked.Asked.{Asked}
use Rattle.fc_controlling.specs.declared.asked.ControlEnd.{ControlEnd}

pub record ControlRuns (limit : ℕ) (asked : Asked) (status : ℕ) (before left : Option (List ℕ)) (given gave : Given) (done now : Option Held) (old new : Option (List ℕ)) (source sink hub rounds : ℕ × ℕ) : Type 0 where
  -- what was read, which round was taken, what was done on the hub, what was written, and the status; the source, the hub and the rounds failed before it
  -- exactly where their counts rose
  pub ends : (how : Result ControlEnd Stop) × (status ≡ control_status how) × ControlEnds limit asked source hub rounds how before left given gave done now old new
  -- without a fault the input, the round and the events decide, or it is out of memory
  pub complete : (Rose source.0 source.1 → ⊥) → (Rose sink.0 sink.1 → ⊥) → (Rose hub.0 hub.1 → ⊥) → (Rose rounds.0 rounds.1 → ⊥)
      → (status ≡ 0) ⊎ ((status ≡ 7) ⊎ ((status ≡ 8) ⊎ ((status ≡ 10) ⊎ ((status ≡ 5) ⊎ ((status ≡ 11) ⊎ ((status ≡ 12) ⊎ (status ≡ 9)))))))
