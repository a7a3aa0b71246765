use Rattle.std.proofs.Common.{◌≡◌, nat_eq, length}
use Rattle.fc_types.specs.Ids.{is_distinct}
use Rattle.fc_documents.proofs.rules.are_apart.Given as goal

abbrev pub invariant-loop-rest : goal.invariant-loop-rest
invariant-loop-rest l = is_distinct nat_eq l.rest ≡ is_distinct nat_eq l.elements

abbrev pub decreases-loop-rest : goal.decreases-loop-rest
decreases-loop-rest l = length l.rest
