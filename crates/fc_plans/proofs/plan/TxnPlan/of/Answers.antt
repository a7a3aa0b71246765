use Rattle.std.proofs.Common.{None, ap, ◌∙◌}
use Rattle.fc_plans.specs.Plans.{plan_fault}
use Rattle.fc_plans.proofs.Scoping.{tested_whole, whole_is_plan}
use Rattle.fc_plans.proofs.plan.TxnPlan.of.Goals as goal

pub invariant_of-result : goal.invariant_of-result
invariant_of-result c =
    ap plan_fault c.in_ok-parts.ensures ∙ whole_is_plan c.args.parts (tested_whole c.args.parts c.in_ok-parts.parts c.as_slice.result.now c.fault_of.result None c.in_ok-parts.ensures c.as_slice.ensures c.fault_of.ensures c.in-None.is)

pub returns-in-None-clause-accepted : goal.returns-in-None-clause-accepted
returns-in-None-clause-accepted c = whole_is_plan c.args.parts (tested_whole c.args.parts c.in_ok-parts.parts c.as_slice.result.now c.fault_of.result None c.in_ok-parts.ensures c.as_slice.ensures c.fault_of.ensures c.in-None.is)
