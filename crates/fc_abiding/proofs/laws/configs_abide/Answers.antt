use Rattle.fc_abiding.proofs.Following.{abides}
use Rattle.fc_abiding.proofs.laws.configs_abide.Goals as goal

pub returns : goal.returns
returns c = abides
