use Rattle.std.proofs.Common.{◌≡◌, drop}
use Rattle.fc_plans.specs.Plans.{rises_after}
use Rattle.fc_plans.proofs.plan.rises_after.Given as goal

abbrev pub invariant-loop-part : goal.invariant-loop-part
invariant-loop-part l = rises_after l.last (drop l.part-index l.parts) ≡ rises_after l.fn.element l.parts
