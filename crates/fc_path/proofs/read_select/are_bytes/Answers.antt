use Rattle.std.proofs.Common.{arith}
use Rattle.fc_wire.proofs.Spelled.{bytes_all}
use Rattle.fc_path.proofs.read_select.are_bytes.Goals as goal

pub returns : goal.returns
returns c = bytes_all c.args.bytes.now (λ i. omega (arith, c.type_inv.bytes i))
