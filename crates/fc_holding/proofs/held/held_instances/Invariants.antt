use Rattle.std.proofs.Common.{◌≡◌, ◌++◌, drop}
use Rattle.fc_holding.specs.Held.{held_instances}
use Rattle.fc_holding.proofs.held.held_instances.Given as goal

abbrev pub invariant-loop-at : goal.invariant-loop-at
invariant-loop-at l = l.held.items ++ held_instances l.all l.but (drop l.at l.records.entries) ≡ held_instances l.all l.but l.records.entries
