use Rattle.fc_ops.proofs.Responses.{answers_fit}
use Rattle.fc_ops.proofs.laws.answers_fit.Goals as goal

pub returns : goal.returns
returns c = answers_fit
