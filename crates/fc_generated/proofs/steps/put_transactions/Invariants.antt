use Rattle.std.proofs.Common.{◌≡◌, ◌≤◌, ◌-◌, ◌++◌}
use Rattle.std.specs.List.{flat_map}
use Rattle.fc_generated.specs.Generated.{steps_of}
use Rattle.fc_scripts.specs.Steps.{numbers_from}
use Rattle.fc_generated.proofs.steps.put_transactions.Given as goal

abbrev pub invariant-loop-number : goal.invariant-loop-number
invariant-loop-number l = record {
  same : l.steps.items ++ flat_map steps_of (numbers_from l.number (l.behind - l.number)) ≡ l.fn.steps.items ++ flat_map steps_of (numbers_from 1 (l.behind - 1));
  some : 1 ≤ l.number;
}
