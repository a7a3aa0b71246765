use Rattle.fc_world.proofs.Growing.{sends_behind}
use Rattle.fc_world.proofs.laws.messages_stay.Goals as goal

pub returns : goal.returns
returns c ts w x = sends_behind ts w x
