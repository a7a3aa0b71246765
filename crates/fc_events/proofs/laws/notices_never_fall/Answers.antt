use Rattle.fc_events.proofs.Order.{never_fall}
use Rattle.fc_events.proofs.laws.notices_never_fall.Goals as goal

pub returns : goal.returns
returns c = never_fall
