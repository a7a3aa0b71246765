use Rattle.std.proofs.Common.{◌≡◌, ◌≤◌, ◌+◌, drop}
use Rattle.fc_jobs.specs.JobViews.{jobs_of}
use Rattle.fc_generating.specs.Summaries.{count_of}
use Rattle.fc_generating.proofs.counting.count_of.Given as goal

abbrev pub invariant-loop-job : goal.invariant-loop-job
invariant-loop-job l = record {
  sum : l.count + count_of l.decision (jobs_of (drop l.job-index l.jobs)) ≡ count_of l.decision (jobs_of l.jobs);
  few : l.count ≤ l.job-index;
}
