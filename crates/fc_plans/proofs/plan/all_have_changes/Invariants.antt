use Rattle.std.proofs.Common.{◌≡◌, drop}
use Rattle.std.specs.List.{list_all}
use Rattle.fc_plans.specs.Plans.{has_changes}
use Rattle.fc_plans.proofs.plan.all_have_changes.Given as goal

abbrev pub invariant-loop-part : goal.invariant-loop-part
invariant-loop-part l = list_all has_changes (drop l.part-index l.parts) ≡ list_all has_changes l.parts
