use Rattle.std.proofs.Common.{◌≡◌, ◌-◌, ◌++◌, map}
use Rattle.fc_scripts.specs.Steps.{delivery, numbers_from}
use Rattle.fc_generated.proofs.steps.put_deliveries.Given as goal

abbrev pub invariant-loop-message : goal.invariant-loop-message
invariant-loop-message l =
    l.steps.items ++ map (delivery l.place) (numbers_from l.message (l.behind - l.message)) ≡ l.fn.steps.items ++ map (delivery l.place) (numbers_from l.first (l.behind - l.first))
