use Rattle.fc_agreement.proofs.Stale.{fenced_law}
use Rattle.fc_agreement.proofs.laws.fenced.Goals as goal

pub returns : goal.returns
returns c = fenced_law
