use Rattle.fc_reply.proofs.Grammar.{filled_proper, refused_proper}
use Rattle.fc_reply.proofs.laws.answers_are_proper.Goals as goal

pub returns-clause-filled : goal.returns-clause-filled
returns-clause-filled c = filled_proper

pub returns-clause-refused : goal.returns-clause-refused
returns-clause-refused c = refused_proper
