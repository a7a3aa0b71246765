use Rattle.fc_serving.proofs.Ending.{begun_lacks, served_ends, unserved_ends, unserved_lacks}
use Rattle.fc_serving.proofs.running.run_element.Goals as goal

pub returns-in_default-clause-ends : goal.returns-in_default-clause-ends
returns-in_default-clause-ends g c = begun_lacks _ _ _ _ _

pub returns-in-Ok-serve-clause-ends : goal.returns-in-Ok-serve-clause-ends
returns-in-Ok-serve-clause-ends g c =
    served_ends c.report.result c.in-Ok-serve.served _ _ _ _ _ _ _ _ _ _ _ _ c.in-Ok-serve.ensures.ends c.in-Ok-serve.ensures.count c.in-Ok.ensures c.ended.ensures c.element.ensures c.report.ensures.end c.report.ensures.ok c.report.ensures.err

pub returns-in-Err-HubFault-clause-ends : goal.returns-in-Err-HubFault-clause-ends
returns-in-Err-HubFault-clause-ends g c = unserved_ends c.in-Err-HubFault.field-0 _ _ _ _ _ c.serve.new.node _ _ _ c.in-Err-HubFault.ensures.ends c.in-Err-HubFault.ensures.count c.in-Err-HubFault.field-0-is c.in-Ok.ensures

pub returns-clause-ends : goal.returns-clause-ends
returns-clause-ends g c = unserved_lacks c.in-Err-NoMemory.field-0 _ _ _ _ _ c.serve.new.node _ _ _ c.in-Err-NoMemory.ensures.ends c.in-Err-NoMemory.ensures.count c.in-Err-NoMemory.field-0-is c.in-Ok.ensures
