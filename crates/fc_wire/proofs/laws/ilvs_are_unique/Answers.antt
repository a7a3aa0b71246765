use Rattle.fc_wire.proofs.ItemLaws.{ilvs_once, ilvs_described}
use Rattle.fc_wire.proofs.laws.ilvs_are_unique.Goals as goal

pub returns-clause-one : goal.returns-clause-one
returns-clause-one c = ilvs_once

pub returns-clause-some : goal.returns-clause-some
returns-clause-some c = ilvs_described
