use Rattle.std.proofs.Common.{◌≡◌, drop}
use Rattle.fc_generating.specs.Summaries.{rows_in}
use Rattle.fc_generating.proofs.counting.rows_in.Given as goal

abbrev pub invariant-loop-component : goal.invariant-loop-component
invariant-loop-component l = rows_in (drop l.component-index l.configured) ≡ rows_in l.configured
