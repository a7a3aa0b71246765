use Rattle.fc_wellformed.proofs.Said.{first_clear}
use Rattle.fc_wellformed.proofs.laws.masters_begin_clear.Goals as goal

pub returns : goal.returns
returns c life es keeps = first_clear life life.epoch es keeps
