use Rattle.std.proofs.Common.{◌≡◌, map, take}
use Rattle.fc_jobs.specs.Effects.{carried}
use Rattle.fc_jobs.specs.JobViews.{jobs_of}
use Rattle.fc_jobs.proofs.effects.carry_all.Given as goal

abbrev pub invariant-loop-job : goal.invariant-loop-job
invariant-loop-job l = jobs_of l.others ≡ map (carried l.epoch l.element l.change) (jobs_of (take l.job-index l.jobs))
