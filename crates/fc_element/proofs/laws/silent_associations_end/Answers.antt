use Rattle.fc_element.proofs.Runs.{silent_end}
use Rattle.fc_element.proofs.laws.silent_associations_end.Goals as goal

pub returns : goal.returns
returns c = silent_end
