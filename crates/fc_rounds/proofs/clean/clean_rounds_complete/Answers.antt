use Rattle.fc_rounds.proofs.Rounds.{clean_rounds}
use Rattle.fc_rounds.proofs.clean.clean_rounds_complete.Goals as goal

pub returns : goal.returns
returns c = clean_rounds
