use Rattle.std.proofs.Common.{◌≡◌, ◌≤◌, ◌-◌, ◌++◌, map}
use Rattle.fc_generated.specs.Generated.{element}
use Rattle.fc_generated.specs.Transactions.{ids}
use Rattle.fc_scripts.specs.Steps.{numbers_from}
use Rattle.fc_generated.proofs.script.elements.Given as goal

abbrev pub invariant-loop-number : goal.invariant-loop-number
invariant-loop-number l = record {
  same : l.elements ++ map element (numbers_from l.number (9 - l.number)) ≡ map element ids;
  some : 1 ≤ l.number;
}
