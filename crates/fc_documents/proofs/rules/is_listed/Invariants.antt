use Rattle.std.proofs.Common.{◌≡◌, drop}
use Rattle.fc_documents.specs.Rules.{is_listed}
use Rattle.fc_documents.proofs.rules.is_listed.Given as goal

abbrev pub invariant-loop-other : goal.invariant-loop-other
invariant-loop-other l = is_listed (drop l.other-index l.elements) l.element ≡ is_listed l.elements l.element
