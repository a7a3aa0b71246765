use Rattle.std.proofs.Common.{◌≡◌, drop}
use Rattle.std.specs.List.{list_all}
use Rattle.fc_documents.specs.Rules.{is_few}
use Rattle.fc_documents.proofs.participants.all_have_few.Given as goal

abbrev pub invariant-loop-element : goal.invariant-loop-element
invariant-loop-element l = list_all (is_few l.changes) (drop l.element-index l.elements) ≡ list_all (is_few l.changes) l.elements
