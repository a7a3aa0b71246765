use Rattle.std.proofs.Common.{rules}
use Rattle.fc_controlling.specs.Meanings.{plan_for}
use Rattle.fc_controlling.proofs.Ending.{fault_meant, plan_ends, refused_ends}
use Rattle.fc_controlling.proofs.command.declared_control.Goals as goal

pub returns-in-Ok-clause-ends : goal.returns-in-Ok-clause-ends
returns-in-Ok-clause-ends g c = plan_ends c.planned_control.result c.args.asked.now _ c.in-Ok.plan _ _ _ _ _ _ _ _ c.in-Ok.ensures c.planned_control.ensures.ends

pub returns-in-Err-clause-ends : goal.returns-in-Err-clause-ends
returns-in-Err-clause-ends g c =
    let meant = plan_for c.args.asked.now.addresses c.args.document.now in
    refused_ends c.refuse.result c.in-Err.fault c.args.asked.now meant _ _ _ _ _ _ (fault_meant c.in-Err.fault meant (search rules) c.in-Err.ensures) c.refuse.ensures.end c.refuse.ensures.ok c.refuse.ensures.err
