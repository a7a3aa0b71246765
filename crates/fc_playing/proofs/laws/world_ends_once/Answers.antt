use Rattle.fc_base.specs.Causes.{Rose}
use Rattle.fc_playing.proofs.Deciding.{decided}
use Rattle.fc_playing.proofs.laws.world_ends_once.Goals as goal

pub returns : goal.returns
returns c = λ e limit before now. decided e limit (Rose before now)
