use Rattle.std.proofs.Common.{◌≡◌, drop}
use Rattle.fc_protocol.specs.MasterMachine.{unsettled}
use Rattle.fc_jobs.specs.JobViews.{jobs_of}
use Rattle.fc_master.proofs.forgetting.unsettled_fault.Given as goal

abbrev pub invariant-loop-job : goal.invariant-loop-job
invariant-loop-job l = unsettled (jobs_of (drop l.job-index l.jobs)) ≡ unsettled (jobs_of l.jobs)
