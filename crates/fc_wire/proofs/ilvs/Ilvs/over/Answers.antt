use Rattle.std.proofs.Common.{arith}
use Rattle.fc_wire.specs.Ilvs.{IsIlvAt, ilv_fault, one_ilv}
use Rattle.fc_wire.proofs.Tiled.{described}
use Rattle.fc_wire.proofs.IlvSpelled.{one_ilv_falls, ilv_spells, ilv_names}
use Rattle.fc_wire.proofs.Spelled.{bytes_all}
use Rattle.fc_wire.proofs.ilvs.Ilvs.over.Goals as goal

pub returns-clause-described : goal.returns-clause-described
returns-clause-described c = described IsIlvAt ilv_fault one_ilv one_ilv_falls ilv_spells ilv_names c.args.place c.args.bytes.now (bytes_all c.args.bytes.now (λ i. omega (arith, c.type_inv.bytes i))) c.requires.whole
