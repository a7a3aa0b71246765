use Rattle.std.proofs.Common.{◌≡◌, map, take}
use Rattle.fc_asks.specs.Tables.{table}
use Rattle.fc_jobs.proofs.progress.answers_of.Given as goal

abbrev pub invariant-loop-participant : goal.invariant-loop-participant
invariant-loop-participant l = l.answers.items ≡ map (table l.job.answers) (take l.participant-index l.job.participants)
