use Rattle.fc_lives.proofs.Inputs.{always_passes}
use Rattle.fc_lives.proofs.events.registered_events_pass.Goals as goal

pub returns : goal.returns
returns c = always_passes
