use Rattle.std.proofs.Common.{◌≡◌, drop}
use Rattle.fc_protocol.specs.Jobs.{first_need as first_needed}
use Rattle.fc_jobs.specs.JobViews.{jobs_of}
use Rattle.fc_jobs.proofs.needs.first_need.Given as goal

abbrev pub invariant-loop-job : goal.invariant-loop-job
invariant-loop-job l = first_needed (jobs_of (drop l.job-index l.jobs)) l.element ≡ first_needed (jobs_of l.jobs) l.element
