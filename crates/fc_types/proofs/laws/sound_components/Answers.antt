use Rattle.fc_types.proofs.Sounds.{components_are_sound}
use Rattle.fc_types.proofs.laws.sound_components.Goals as goal

pub returns : goal.returns
returns c = components_are_sound
