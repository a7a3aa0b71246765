use Rattle.std.proofs.Common.{◌≡◌, drop}
use Rattle.fc_protocol.specs.Jobs.{discover}
use Rattle.fc_jobs.specs.JobViews.{jobs_of}
use Rattle.fc_jobs.proofs.recovery.discover.Given as goal

abbrev pub invariant-loop-entry : goal.invariant-loop-entry
invariant-loop-entry l = discover (drop l.entry-index l.entries) (jobs_of l.jobs) ≡ discover l.entries (jobs_of l.fn.jobs)
