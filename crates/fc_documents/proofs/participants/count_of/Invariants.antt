use Rattle.std.proofs.Common.{◌≡◌, ◌+◌, ◌≤◌, drop, length}
use Rattle.fc_documents.specs.Rules.{bodies_at}
use Rattle.fc_documents.proofs.participants.count_of.Given as goal

abbrev pub invariant-loop-change : goal.invariant-loop-change
invariant-loop-change l = (l.count + length (bodies_at l.element (drop l.change-index l.changes)) ≡ length (bodies_at l.element l.changes)) × (l.count ≤ l.change-index)
