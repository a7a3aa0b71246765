use Rattle.fc_msg.proofs.Reading.{no_front}
use Rattle.fc_msg.proofs.laws.no_spelling_is_a_front_of_another.Goals as goal

pub returns : goal.returns
returns c = no_front
