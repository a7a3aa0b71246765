use Rattle.fc_configuration.proofs.Mapped.{cells_tell_all}
use Rattle.fc_configuration.proofs.laws.the_configuration_is_a_map.Goals as goal

pub returns : goal.returns
returns c = cells_tell_all
