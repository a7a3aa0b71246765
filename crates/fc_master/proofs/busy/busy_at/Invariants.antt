use Rattle.std.proofs.Common.{◌≡◌, drop}
use Rattle.fc_protocol.specs.MasterMachine.{busy_at}
use Rattle.fc_jobs.specs.JobViews.{jobs_of}
use Rattle.fc_master.proofs.busy.busy_at.Given as goal

abbrev pub invariant-loop-job : goal.invariant-loop-job
invariant-loop-job l = busy_at l.element l.scope (jobs_of (drop l.job-index l.jobs)) ≡ busy_at l.element l.scope (jobs_of l.jobs)
