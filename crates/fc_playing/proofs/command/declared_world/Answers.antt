use Rattle.std.proofs.Common.{rules}
use Rattle.fc_playing.proofs.Ending.{fault_meant, refused_ends, script_ends}
use Rattle.fc_playing.proofs.command.declared_world.Goals as goal

pub returns-in-Ok-clause-ends : goal.returns-in-Ok-clause-ends
returns-in-Ok-clause-ends g c = script_ends c.scripted_world.result c.args.document.now c.in-Ok.script _ _ c.in-Ok.ensures c.scripted_world.ensures.ends

pub returns-in-Err-clause-ends : goal.returns-in-Err-clause-ends
returns-in-Err-clause-ends g c =
    refused_ends c.refuse.result c.in-Err.fault c.args.document.now _ _ (fault_meant c.in-Err.fault c.args.document.now (search rules) c.in-Err.ensures)
    c.refuse.ensures.end c.refuse.ensures.ok c.refuse.ensures.err
