-- Two runs of `control` that differ in how the bytes of a peer were cut alone. This profile's own.
use Rattle.std.specs.Prelude.{◌≡◌, ℕ, List, Option, Ok}
use Rattle.fc_hub.specs.Hubs.{Held}
use Rattle.fc_controlling.specs.ControlRun.{control_status}
use Rattle.fc_controlling.specs.Outcomes.{acts_held}
use Rattle.fc_controlling.specs.declared.asked.ControlEnd.{ControlEnd}

-- two runs have one end and so one status, did the same acts in the same order but for their numbers, and wrote the same
pub record EndAlike (one other : ControlEnd) (first second : Option Held) (written rewritten : Option (List ℕ)) : Type 0 where
  pub end : one ≡ other
  pub status : control_status (Ok one) ≡ control_status (Ok other)
  pub acts : acts_held first ≡ acts_held second
  pub text : written ≡ rewritten
