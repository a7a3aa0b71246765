use Rattle.fc_wire.proofs.Unique.{header_exists, same_header}
use Rattle.fc_wire.proofs.laws.header_is_unique.Goals as goal

pub returns-clause-one : goal.returns-clause-one
returns-clause-one c = same_header

pub returns-clause-some : goal.returns-clause-some
returns-clause-some c = header_exists
