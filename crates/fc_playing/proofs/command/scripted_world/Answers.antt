use Rattle.fc_world.specs.Played.{setting_of}
use Rattle.fc_playing.proofs.Ending.{unplayed_ends}
use Rattle.fc_playing.proofs.command.scripted_world.Goals as goal

pub returns-in_default-clause-ends : goal.returns-in_default-clause-ends
returns-in_default-clause-ends g c = unplayed_ends (setting_of c.args.script.now) c.args.script.now.steps _
