use Rattle.fc_wire.proofs.ItemLaws.{tlvs_written, ilvs_written, tlvs_whole, ilvs_whole, no_padding}
use Rattle.fc_wire.proofs.laws.written_items_are_read.Goals as goal

pub returns-clause-tlvs : goal.returns-clause-tlvs
returns-clause-tlvs c = tlvs_written

pub returns-clause-ilvs : goal.returns-clause-ilvs
returns-clause-ilvs c = ilvs_written

pub returns-clause-whole_tlvs : goal.returns-clause-whole_tlvs
returns-clause-whole_tlvs c = tlvs_whole

pub returns-clause-whole_ilvs : goal.returns-clause-whole_ilvs
returns-clause-whole_ilvs c = ilvs_whole

pub returns-clause-unpadded : goal.returns-clause-unpadded
returns-clause-unpadded c = no_padding
