use Rattle.fc_element.proofs.Sent.{answered}
use Rattle.fc_element.proofs.laws.heartbeats_are_answered.Goals as goal

pub returns : goal.returns
returns c = answered
