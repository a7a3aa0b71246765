use Rattle.fc_lives.proofs.Inputs.{always_premised, always_quiet}
use Rattle.fc_lives.proofs.events.registered_events_are_settled.Goals as goal

pub returns : goal.returns
returns c = record { quiet = always_quiet; premise = always_premised }
