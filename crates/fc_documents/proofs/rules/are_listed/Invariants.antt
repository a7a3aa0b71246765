use Rattle.std.proofs.Common.{◌≡◌, drop}
use Rattle.fc_documents.specs.Rules.{are_listed}
use Rattle.fc_documents.proofs.rules.are_listed.Given as goal

abbrev pub invariant-loop-change : goal.invariant-loop-change
invariant-loop-change l = are_listed l.elements (drop l.change-index l.changes) ≡ are_listed l.elements l.changes
