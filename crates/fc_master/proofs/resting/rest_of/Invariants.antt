use Rattle.std.proofs.Common.{◌≡◌, true, take}
use Rattle.std.specs.List.{list_all}
use Rattle.fc_jobs.specs.JobViews.{jobs_of}
use Rattle.fc_master.specs.Resting.{rests}
use Rattle.fc_master.proofs.resting.rest_of.Given as goal

abbrev pub invariant-loop-at : goal.invariant-loop-at
invariant-loop-at l = list_all (rests l.epoch l.passed) (jobs_of (take l.at l.jobs)) ≡ true
