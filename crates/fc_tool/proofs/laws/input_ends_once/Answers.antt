use Rattle.fc_tool.proofs.Verdicts.{one_verdict}
use Rattle.fc_tool.proofs.laws.input_ends_once.Goals as goal

pub returns : goal.returns
returns c = one_verdict
