use Rattle.fc_tool.proofs.Making.{one_made}
use Rattle.fc_tool.proofs.laws.make_ends_once.Goals as goal

pub returns : goal.returns
returns c = one_made
