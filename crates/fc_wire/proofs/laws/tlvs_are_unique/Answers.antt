use Rattle.fc_wire.proofs.ItemLaws.{tlvs_once, tlvs_described}
use Rattle.fc_wire.proofs.laws.tlvs_are_unique.Goals as goal

pub returns-clause-one : goal.returns-clause-one
returns-clause-one c = tlvs_once

pub returns-clause-some : goal.returns-clause-some
returns-clause-some c = tlvs_described
