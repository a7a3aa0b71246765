use Rattle.std.proofs.Common.{◌≡◌, ◌≤◌, ◌-◌, ◌++◌, map}
use Rattle.fc_generated.specs.Transactions.{transaction}
use Rattle.fc_scripts.specs.Steps.{numbers_from}
use Rattle.fc_generated.proofs.transactions.transactions.Given as goal

abbrev pub invariant-loop-number : goal.invariant-loop-number
invariant-loop-number l = record {
  same : l.transactions ++ map transaction (numbers_from l.number (l.behind - l.number)) ≡ map transaction (numbers_from 1 (l.behind - 1));
  some : 1 ≤ l.number;
}
