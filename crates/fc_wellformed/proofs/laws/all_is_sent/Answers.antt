use Rattle.fc_wellformed.proofs.Controlled.{whole_sent}
use Rattle.fc_wellformed.proofs.laws.all_is_sent.Goals as goal

pub returns : goal.returns
returns c = whole_sent
