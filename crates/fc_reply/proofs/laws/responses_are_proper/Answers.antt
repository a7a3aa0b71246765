use Rattle.fc_reply.proofs.Grammar.{reply_proper}
use Rattle.fc_reply.proofs.laws.responses_are_proper.Goals as goal

pub returns : goal.returns
returns c = reply_proper
