use Rattle.std.proofs.Common.{◌≡◌, map, take}
use Rattle.fc_protocol.specs.Jobs.{Job, decided_job}
use Rattle.fc_jobs.specs.JobViews.{jobs_of}
use Rattle.fc_jobs.proofs.effects.decided.Given as goal

abbrev pub invariant-loop-job : goal.invariant-loop-job
invariant-loop-job l = jobs_of l.others ≡ map (λ (j : Job). decided_job l.epoch j.decision j) (jobs_of (take l.job-index l.jobs))
