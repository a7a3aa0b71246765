use Rattle.fc_wire.proofs.Cutting.{cut_once, cut_exists}
use Rattle.fc_wire.proofs.laws.frames_are_unique.Goals as goal

pub returns-clause-one : goal.returns-clause-one
returns-clause-one c = cut_once

pub returns-clause-some : goal.returns-clause-some
returns-clause-some c = cut_exists
