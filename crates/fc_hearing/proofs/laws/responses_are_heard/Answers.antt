use Rattle.fc_hearing.proofs.Responded.{answers_heard}
use Rattle.fc_hearing.proofs.laws.responses_are_heard.Goals as goal

pub returns : goal.returns
returns c = answers_heard
