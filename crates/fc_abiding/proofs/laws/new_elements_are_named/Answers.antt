use Rattle.fc_abiding.proofs.Naming.{new_named}
use Rattle.fc_abiding.proofs.laws.new_elements_are_named.Goals as goal

pub returns : goal.returns
returns c = new_named
