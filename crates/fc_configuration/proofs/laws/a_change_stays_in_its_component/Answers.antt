use Rattle.fc_configuration.proofs.Here.{seen_elsewhere}
use Rattle.fc_configuration.proofs.laws.a_change_stays_in_its_component.Goals as goal

pub returns : goal.returns
returns c = seen_elsewhere
