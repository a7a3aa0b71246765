use Rattle.std.proofs.Common.{◌≡◌, ◌++◌, map, length}
use Rattle.std.specs.List.{list_all}
use Rattle.fc_plans.specs.Plans.{has_scope, rescoped}
use Rattle.fc_plans.proofs.scopes.scoped_parts.Given as goal

abbrev pub invariant-loop-part : goal.invariant-loop-part
invariant-loop-part l = (l.others ++ map rescoped l.part-iterator.rest.items ≡ map rescoped l.fn.parts) × (list_all has_scope (map rescoped l.part-iterator.rest.items) ≡ list_all has_scope (map rescoped l.fn.parts))

abbrev pub decreases-loop-part : goal.decreases-loop-part
decreases-loop-part l = length l.part-iterator.rest.items
