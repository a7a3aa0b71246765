use Rattle.fc_wire.proofs.Again.{again}
use Rattle.fc_wire.proofs.laws.header_is_read_again.Goals as goal

pub returns : goal.returns
returns c = again
