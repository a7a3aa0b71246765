use Rattle.fc_heeding.proofs.Asking.{asks_what_was_said, is_sent}
use Rattle.fc_heeding.proofs.laws.configs_ask_what_was_said.Goals as goal

pub returns-clause-read : goal.returns-clause-read
returns-clause-read c = asks_what_was_said

pub returns-clause-sent : goal.returns-clause-sent
returns-clause-sent c = is_sent
