use Rattle.std.proofs.Common.{◌≡◌, nat_eq, map, length}
use Rattle.fc_types.specs.Ids.{is_distinct}
use Rattle.fc_types.proofs.ids.are_distinct.Given as goal

abbrev pub invariant-loop-rest : goal.invariant-loop-rest
invariant-loop-rest g l = is_distinct nat_eq (map g.T.Identified.id_of l.rest) ≡ is_distinct nat_eq (map g.T.Identified.id_of l.items)

abbrev pub decreases-loop-rest : goal.decreases-loop-rest
decreases-loop-rest g l = length l.rest
