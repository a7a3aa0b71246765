use Rattle.fc_lives.proofs.Inputs.{always_tells}
use Rattle.fc_lives.proofs.events.an_element_tells_of_its_settled_configuration.Goals as goal

pub returns : goal.returns
returns c = always_tells
