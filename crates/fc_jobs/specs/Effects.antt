-- What a response does to the jobs of its transaction. This profile's own.
use Rattle.std.specs.Prelude.{ℕ, Option, Some, None, if◌then◌else◌}
use Rattle.fc_base.specs.Ids.{Txn}
use Rattle.fc_protocol.specs.Jobs.{Job, answered_by, went_on, settled_at, stuck_at, decided_job}
use Rattle.fc_protocol.specs.Messages.{same}
use Rattle.fc_jobs.specs.declared.effects.Effect.{Effect}
use Rattle.fc_jobs.specs.declared.effects.Effect.TheVariants as effect

abbrev pub effected : ℕ → Effect → Job → Job
effected p effect.GoOn = went_on p
effected p (effect.Answers a) = answered_by p a
effected p effect.Settles = settled_at p
effected p effect.Sticks = stuck_at p

-- a job after an effect on those of a transaction, if any
abbrev pub affected : ℕ → Option (Txn × Effect) → Job → Job
affected p None j = j
affected p (Some x) j = if same x.0 j.txn then effected p x.1 j else j

-- the same, and decided where it can be
abbrev pub carried : ℕ → ℕ → Option (Txn × Effect) → Job → Job
carried e p o j = decided_job e (affected p o j).decision (affected p o j)
