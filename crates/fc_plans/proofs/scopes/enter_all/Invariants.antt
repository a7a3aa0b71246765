use Rattle.std.proofs.Common.{◌≡◌, drop}
use Rattle.fc_plans.specs.Plans.{entered_all}
use Rattle.fc_plans.proofs.scopes.enter_all.Given as goal

abbrev pub invariant-loop-select : goal.invariant-loop-select
invariant-loop-select l = entered_all (drop l.select-index l.selects) l.scope.items ≡ entered_all l.selects l.fn.scope.items
