use Rattle.fc_hearing.proofs.Responded.{goes_heard}
use Rattle.fc_hearing.proofs.laws.configs_are_heard.Goals as goal

pub returns : goal.returns
returns c = goes_heard
