use Rattle.std.proofs.Common.{◌≡◌, drop}
use Rattle.fc_documents.specs.Rules.{entered_by, participants}
use Rattle.fc_documents.proofs.participants.participants_of.Given as goal

abbrev pub invariant-loop-change : goal.invariant-loop-change
invariant-loop-change l = entered_by (drop l.change-index l.changes) l.elements.items ≡ participants l.changes
