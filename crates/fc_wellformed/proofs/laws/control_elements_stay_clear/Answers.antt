use Rattle.fc_wellformed.proofs.Controlled.{stays_clear}
use Rattle.fc_wellformed.proofs.laws.control_elements_stay_clear.Goals as goal

pub returns : goal.returns
returns c = stays_clear
