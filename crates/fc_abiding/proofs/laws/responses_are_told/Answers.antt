use Rattle.fc_abiding.proofs.Responding.{responds}
use Rattle.fc_abiding.proofs.laws.responses_are_told.Goals as goal

pub returns : goal.returns
returns c = responds
