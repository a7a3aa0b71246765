use Rattle.fc_types.proofs.Sounds.{level_is_sound}
use Rattle.fc_types.proofs.laws.sound_level.Goals as goal

pub returns : goal.returns
returns c = level_is_sound
