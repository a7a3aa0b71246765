use Rattle.fc_events.proofs.Order.{entered_rises, left_rises, set_rises, reported_rises}
use Rattle.fc_events.proofs.laws.registered_events_rise.Goals as goal

pub returns : goal.returns
returns c = record { entered = entered_rises; left = left_rises; set = set_rises; reported = reported_rises }
