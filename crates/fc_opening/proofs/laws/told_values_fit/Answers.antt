use Rattle.fc_opening.proofs.Tells.{told_fit}
use Rattle.fc_opening.proofs.laws.told_values_fit.Goals as goal

pub returns : goal.returns
returns c = told_fit
