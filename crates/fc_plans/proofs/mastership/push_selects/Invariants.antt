use Rattle.std.proofs.Common.{◌≡◌, ◌++◌, take}
use Rattle.fc_plans.proofs.mastership.push_selects.Given as goal

abbrev pub invariant-loop-select : goal.invariant-loop-select
invariant-loop-select l = l.selects ≡ l.fn.selects ++ take l.select-index l.more
