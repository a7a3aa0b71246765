use Rattle.std.proofs.Common.{◌≡◌, ◌-◌, ◌++◌, map}
use Rattle.fc_scripts.specs.Steps.{numbers_from}
use Rattle.fc_generated.specs.Transactions.{row_path}
use Rattle.fc_generated.proofs.transactions.paths.Given as goal

abbrev pub invariant-loop-row : goal.invariant-loop-row
invariant-loop-row l = l.paths ++ map (row_path l.element) (numbers_from l.row (l.behind - l.row)) ≡ map (row_path l.element) (numbers_from l.first (l.behind - l.first))
