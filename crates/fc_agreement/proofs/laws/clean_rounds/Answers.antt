use Rattle.fc_agreement.proofs.RoundStart.{clean_round_law}
use Rattle.fc_agreement.proofs.laws.clean_rounds.Goals as goal

pub returns : goal.returns
returns c = clean_round_law
