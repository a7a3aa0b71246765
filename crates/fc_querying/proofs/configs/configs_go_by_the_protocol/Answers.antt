use Rattle.fc_querying.proofs.Answering.{goes}
use Rattle.fc_querying.proofs.configs.configs_go_by_the_protocol.Goals as goal

pub returns : goal.returns
returns c s before peer m selects named same = goes s before peer m selects named same
