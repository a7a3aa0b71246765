use Rattle.std.proofs.Common.{◌≡◌, ◌+◌, ◌<◌, ◌^◌, drop}
use Rattle.fc_protocol.specs.MasterMachine.{reserved}
use Rattle.fc_jobs.specs.JobViews.{jobs_of}
use Rattle.fc_master.proofs.spending.is_passed.Given as goal

abbrev pub invariant-loop-job : goal.invariant-loop-job
invariant-loop-job l = (l.sum + reserved l.element (jobs_of (drop l.job-index l.jobs)) ≡ l.sequence + reserved l.element (jobs_of l.jobs)) × (l.sum < 2 ^ 41)
