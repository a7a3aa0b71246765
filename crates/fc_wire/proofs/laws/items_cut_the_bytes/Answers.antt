use Rattle.fc_wire.specs.Tlvs.{IsTlvAt, tlv_fault}
use Rattle.fc_wire.specs.Ilvs.{IsIlvAt, ilv_fault}
use Rattle.fc_wire.proofs.ItemLaws.{cut_items}
use Rattle.fc_wire.proofs.laws.items_cut_the_bytes.Goals as goal

pub returns-clause-tlvs : goal.returns-clause-tlvs
returns-clause-tlvs c = cut_items IsTlvAt tlv_fault

pub returns-clause-ilvs : goal.returns-clause-ilvs
returns-clause-ilvs c = cut_items IsIlvAt ilv_fault
