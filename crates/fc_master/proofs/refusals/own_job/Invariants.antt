use Rattle.std.proofs.Common.{◌≡◌, drop}
use Rattle.fc_protocol.specs.MasterMachine.{own_job}
use Rattle.fc_jobs.specs.JobViews.{jobs_of}
use Rattle.fc_master.proofs.refusals.own_job.Given as goal

abbrev pub invariant-loop-job : goal.invariant-loop-job
invariant-loop-job l = own_job l.txn (jobs_of (drop l.job-index l.jobs)) ≡ own_job l.txn (jobs_of l.jobs)
