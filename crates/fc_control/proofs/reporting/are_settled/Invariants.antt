use Rattle.std.proofs.Common.{◌≡◌, drop}
use Rattle.std.specs.List.{list_all}
use Rattle.fc_protocol.specs.Jobs.{is_settled}
use Rattle.fc_jobs.specs.JobViews.{jobs_of}
use Rattle.fc_control.proofs.reporting.are_settled.Given as goal

abbrev pub invariant-loop-job : goal.invariant-loop-job
invariant-loop-job l = list_all is_settled (jobs_of (drop l.job-index l.jobs)) ≡ list_all is_settled (jobs_of l.jobs)
