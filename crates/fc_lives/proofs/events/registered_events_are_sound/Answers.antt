use Rattle.fc_lives.proofs.Inputs.{always_sound}
use Rattle.fc_lives.proofs.events.registered_events_are_sound.Goals as goal

pub returns : goal.returns
returns c = always_sound
