use Rattle.std.proofs.Common.{◌≡◌, nat_eq, map, length}
use Rattle.fc_types.specs.Ids.{is_distinct}
use Rattle.fc_scripts.specs.Rules.{number_of}
use Rattle.fc_scripts.proofs.rules.differ_in_numbers.Given as goal

abbrev pub invariant-loop-rest : goal.invariant-loop-rest
invariant-loop-rest l = is_distinct nat_eq (map number_of l.rest) ≡ is_distinct nat_eq (map number_of l.controllers)

abbrev pub decreases-loop-rest : goal.decreases-loop-rest
decreases-loop-rest l = length l.rest
