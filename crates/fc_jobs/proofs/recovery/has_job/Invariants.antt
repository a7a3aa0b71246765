use Rattle.std.proofs.Common.{◌≡◌, drop, is_some}
use Rattle.fc_protocol.specs.Jobs.{find}
use Rattle.fc_jobs.specs.JobViews.{jobs_of}
use Rattle.fc_jobs.proofs.recovery.has_job.Given as goal

abbrev pub invariant-loop-job : goal.invariant-loop-job
invariant-loop-job l = is_some (find l.txn (jobs_of (drop l.job-index l.jobs))) ≡ is_some (find l.txn (jobs_of l.jobs))
