use Rattle.std.proofs.Common.{◌≡◌, ◌≤◌, ◌-◌, ◌++◌, map}
use Rattle.fc_generated.specs.Generated.{connect}
use Rattle.fc_generated.specs.Transactions.{ids}
use Rattle.fc_scripts.specs.Steps.{numbers_from}
use Rattle.fc_generated.proofs.steps.put_connections.Given as goal

abbrev pub invariant-loop-element : goal.invariant-loop-element
invariant-loop-element l = record {
  same : l.steps.items ++ map connect (numbers_from l.element (9 - l.element)) ≡ l.fn.steps.items ++ map connect ids;
  some : 1 ≤ l.element;
}
