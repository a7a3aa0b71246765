use Rattle.fc_wellformed.proofs.Controlled.{planned_hold}
use Rattle.fc_wellformed.proofs.laws.planned_changes_are_changes.Goals as goal

pub returns : goal.returns
returns c = planned_hold
