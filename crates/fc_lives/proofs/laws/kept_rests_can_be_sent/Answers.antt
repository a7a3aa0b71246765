use Rattle.fc_lives.proofs.Rests.{always_kept}
use Rattle.fc_lives.proofs.laws.kept_rests_can_be_sent.Goals as goal

pub returns : goal.returns
returns c = always_kept
