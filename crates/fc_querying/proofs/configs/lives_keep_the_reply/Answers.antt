use Rattle.fc_querying.proofs.Answering.{heard_whole}
use Rattle.fc_querying.proofs.configs.lives_keep_the_reply.Goals as goal

pub returns : goal.returns
returns c = heard_whole
