use Rattle.fc_abiding.proofs.Naming.{named_stay}
use Rattle.fc_abiding.proofs.laws.names_stay.Goals as goal

pub returns : goal.returns
returns c = named_stay
