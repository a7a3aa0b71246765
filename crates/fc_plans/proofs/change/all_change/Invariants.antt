use Rattle.std.proofs.Common.{◌≡◌, drop}
use Rattle.fc_plans.specs.Changes.{all_change}
use Rattle.fc_plans.proofs.change.all_change.Given as goal

abbrev pub invariant-loop-select : goal.invariant-loop-select
invariant-loop-select l = all_change (drop l.select-index l.selects) ≡ all_change l.selects
