use Rattle.std.proofs.Common.{◌≡◌, ◌≤◌, ◌-◌, ◌++◌, map}
use Rattle.fc_generated.specs.Transactions.{ids, part}
use Rattle.fc_scripts.specs.Steps.{numbers_from}
use Rattle.fc_generated.proofs.transactions.parts.Given as goal

abbrev pub invariant-loop-element : goal.invariant-loop-element
invariant-loop-element l = record {
  same : l.parts ++ map (part l.number) (numbers_from l.element (9 - l.element)) ≡ map (part l.number) ids;
  some : 1 ≤ l.element;
}
