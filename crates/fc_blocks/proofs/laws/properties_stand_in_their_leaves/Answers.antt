use Rattle.fc_blocks.proofs.Owning.{each_own}
use Rattle.fc_blocks.proofs.laws.properties_stand_in_their_leaves.Goals as goal

pub returns : goal.returns
returns c = λ told store subs asked. each_own told store subs asked
