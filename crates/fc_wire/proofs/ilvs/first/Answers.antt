use Rattle.std.proofs.Common.{arith}
use Rattle.fc_wire.proofs.IlvSpelled.{one_ilv_cut}
use Rattle.fc_wire.proofs.ilvs.first.Goals as goal

pub returns-clause-exact : goal.returns-clause-exact
returns-clause-exact c =
    one_ilv_cut c.args.place c.read_u32.result c.read_u32-len.result c.args.bytes.now c.read_u32.ensures c.read_u32-len.ensures (omega arith) (omega arith)
