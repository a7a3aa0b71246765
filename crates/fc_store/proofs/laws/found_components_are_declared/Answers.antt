use Rattle.fc_store.proofs.Found.{found_declared}
use Rattle.fc_store.proofs.laws.found_components_are_declared.Goals as goal

pub returns : goal.returns
returns c = found_declared
