use Rattle.fc_serving.proofs.Outcomes.{one_outcome}
use Rattle.fc_serving.proofs.laws.element_ends_once.Goals as goal

pub returns : goal.returns
returns c = one_outcome
