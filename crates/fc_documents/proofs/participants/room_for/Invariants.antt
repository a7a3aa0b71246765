use Rattle.std.proofs.Common.{◌≡◌, ◌++◌, take, drop}
use Rattle.fc_documents.specs.Rules.{entered}
use Rattle.fc_documents.proofs.participants.room_for.Given as goal

abbrev pub invariant-loop-at : goal.invariant-loop-at
invariant-loop-at l = entered l.element l.others ≡ take l.at l.others ++ entered l.element (drop l.at l.others)
