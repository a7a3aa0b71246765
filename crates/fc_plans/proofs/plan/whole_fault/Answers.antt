use Rattle.std.proofs.Common.{◌∙◌}
use Rattle.fc_plans.proofs.Scoping.{whole_fault_is}
use Rattle.fc_plans.proofs.plan.whole_fault.Goals as goal

pub returns : goal.returns
returns c = c.whole_order.ensures ∙ whole_fault_is c.args.parts.now
