use Rattle.fc_events.proofs.Again.{all_settled}
use Rattle.fc_events.proofs.laws.held_events_tell_nothing.Goals as goal

pub returns : goal.returns
returns c = all_settled
