use Rattle.std.proofs.Common.{◌≡◌, ◌++◌, take, drop}
use Rattle.fc_plans.specs.Plans.{entered}
use Rattle.fc_plans.proofs.scopes.room_for.Given as goal

abbrev pub invariant-loop-at : goal.invariant-loop-at
invariant-loop-at l = entered l.instance l.scope ≡ take l.at l.scope ++ entered l.instance (drop l.at l.scope)
