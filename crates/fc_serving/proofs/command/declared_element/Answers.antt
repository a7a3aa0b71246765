use Rattle.std.proofs.Common.{rules}
use Rattle.fc_serving.proofs.Ending.{fault_meant, library_ends, refused_ends}
use Rattle.fc_serving.proofs.command.declared_element.Goals as goal

pub returns-in-Ok-clause-ends : goal.returns-in-Ok-clause-ends
returns-in-Ok-clause-ends g c = library_ends c.run_element.result c.args.fe c.args.ce c.args.turns c.args.document.now c.in-Ok.library c.in-Ok.instances _ _ _ _ _ c.in-Ok.ensures.exact c.run_element.ensures.ends

pub returns-in-Err-clause-ends : goal.returns-in-Err-clause-ends
returns-in-Err-clause-ends g c =
    refused_ends c.refuse.result c.in-Err.fault c.args.fe c.args.ce c.args.turns _ _ _ _ _ (fault_meant c.in-Err.fault c.args.document.now (search rules) c.in-Err.ensures.exact)
    c.refuse.ensures.end c.refuse.ensures.ok c.refuse.ensures.err
