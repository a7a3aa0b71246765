use Rattle.std.proofs.Common.{arith}
use Rattle.fc_wire.specs.Tlvs.{IsTlvAt, tlv_fault, one_tlv}
use Rattle.fc_wire.proofs.Stepping.{one_tlv_falls}
use Rattle.fc_wire.proofs.Tiled.{described}
use Rattle.fc_wire.proofs.Spelled.{tlv_spells, tlv_names, bytes_all}
use Rattle.fc_wire.proofs.tlvs.Tlvs.over.Goals as goal

pub returns-clause-described : goal.returns-clause-described
returns-clause-described c = described IsTlvAt tlv_fault one_tlv one_tlv_falls tlv_spells tlv_names c.args.place c.args.bytes.now (bytes_all c.args.bytes.now (λ i. omega (arith, c.type_inv.bytes i))) c.requires.whole
