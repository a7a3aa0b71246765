use Rattle.std.proofs.Common.{◌≡◌, drop}
use Rattle.fc_protocol.specs.Decide.{decide as decided}
use Rattle.fc_jobs.proofs.Tallies.{tallied}
use Rattle.fc_jobs.proofs.deciding.decide.Given as goal

abbrev pub invariant-loop-answer : goal.invariant-loop-answer
invariant-loop-answer l = tallied l.epoch l.completed l.aborted l.prepared (drop l.answer-index l.answers) ≡ decided l.epoch l.answers
