use Rattle.fc_controlling.proofs.Cutting.{cut_alike}
use Rattle.fc_controlling.proofs.laws.bytes_may_be_cut.Goals as goal

pub returns : goal.returns
returns c = cut_alike
