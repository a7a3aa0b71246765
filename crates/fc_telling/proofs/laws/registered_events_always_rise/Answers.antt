use Rattle.fc_telling.proofs.Life.{always_rises}
use Rattle.fc_telling.proofs.Registered.{each_rises, whole_rises}
use Rattle.fc_telling.proofs.laws.registered_events_always_rise.Goals as goal

pub returns : goal.returns
returns c = record { first = tt; each = each_rises; whole = whole_rises; always = always_rises }
