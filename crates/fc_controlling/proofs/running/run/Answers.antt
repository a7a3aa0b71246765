use Rattle.std.proofs.Common.{◌∙◌, ap, inl, refl}
use Rattle.fc_control.specs.Controls.{control_of, node_of}
use Rattle.fc_controlling.specs.ControlRun.{end_by}
use Rattle.fc_controlling.proofs.Ending.{begins_going, begun_lacks, served_ends, unserved_ends, unserved_lacks}
use Rattle.fc_controlling.proofs.running.run.Goals as goal

pub serve-requires : goal.serve-requires
serve-requires g c = begins_going (node_of c.in-Ok.node) c.args.asked.now.ce c.args.epoch _ c.in-Ok.ensures

pub returns-in_default-clause-ends : goal.returns-in_default-clause-ends
returns-in_default-clause-ends g c = begun_lacks _ _ _ _ _

pub returns-in-Ok-serve-clause-ends : goal.returns-in-Ok-serve-clause-ends
returns-in-Ok-serve-clause-ends g c =
    served_ends c.report.result c.in-Ok-serve.served _ _ _ _ _ _ _ _ _ _ _ _ c.in-Ok-serve.ensures.ends c.in-Ok-serve.ensures.count c.in-Ok.ensures (c.ended.ensures ∙ ap (end_by c.in-Ok-serve.served) (ap control_of c.control-control.ensures)) (ap control_of c.control-control.ensures) c.report.ensures.end c.report.ensures.ok c.report.ensures.err

pub returns-in-Err-HubFault-clause-ends : goal.returns-in-Err-HubFault-clause-ends
returns-in-Err-HubFault-clause-ends g c = unserved_ends c.in-Err-HubFault.field-0 _ _ _ _ _ (node_of c.serve.new.node) _ _ _ c.in-Err-HubFault.ensures.ends c.in-Err-HubFault.ensures.count c.in-Err-HubFault.field-0-is c.in-Ok.ensures

pub returns-clause-ends : goal.returns-clause-ends
returns-clause-ends g c = unserved_lacks c.in-Err-NoMemory.field-0 _ _ _ _ _ (node_of c.serve.new.node) _ _ _ c.in-Err-NoMemory.ensures.ends c.in-Err-NoMemory.ensures.count c.in-Err-NoMemory.field-0-is c.in-Ok.ensures
