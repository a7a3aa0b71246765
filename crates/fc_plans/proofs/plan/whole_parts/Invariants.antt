use Rattle.std.proofs.Common.{◌≡◌, ◌++◌, map, length}
use Rattle.fc_plans.specs.Plans.{whole}
use Rattle.fc_plans.proofs.plan.whole_parts.Given as goal

abbrev pub invariant-loop-element : goal.invariant-loop-element
invariant-loop-element l = l.others ++ map whole l.element-iterator.rest.items ≡ map whole l.fn.parts

abbrev pub decreases-loop-element : goal.decreases-loop-element
decreases-loop-element l = length l.element-iterator.rest.items
