use Rattle.fc_rounds.proofs.Runs.{goes}
use Rattle.fc_rounds.proofs.laws.networks_follow_the_protocol.Goals as goal

pub returns : goal.returns
returns c = goes
