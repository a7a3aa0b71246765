use Rattle.std.proofs.Common.{◌≡◌, ◌++◌, take}
use Rattle.std.specs.List.{flat_map}
use Rattle.fc_jobs.specs.JobViews.{jobs_of}
use Rattle.fc_master.specs.Reports.{job_line}
use Rattle.fc_master.proofs.reporting.put_jobs.Given as goal

abbrev pub invariant-loop-job : goal.invariant-loop-job
invariant-loop-job l = l.lines.items ≡ l.fn.lines.items ++ flat_map job_line (jobs_of (take l.job-index l.jobs))
