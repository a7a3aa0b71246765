use Rattle.std.proofs.Common.{◌≡◌, drop}
use Rattle.fc_plans.specs.Plans.{entered_by, named}
use Rattle.fc_plans.proofs.scopes.named.Given as goal

abbrev pub invariant-loop-change : goal.invariant-loop-change
invariant-loop-change l = entered_by (drop l.change-index l.changes) l.scope.items ≡ named l.changes
