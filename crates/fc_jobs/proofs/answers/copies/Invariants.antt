use Rattle.std.proofs.Common.{◌≡◌, take}
use Rattle.fc_jobs.proofs.answers.copies.Given as goal

abbrev pub invariant-loop-job : goal.invariant-loop-job
invariant-loop-job l = l.others ≡ take l.job-index l.jobs
