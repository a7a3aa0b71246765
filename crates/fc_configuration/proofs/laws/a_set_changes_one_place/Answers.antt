use Rattle.fc_configuration.proofs.Changing.{set_above, set_found, set_other}
use Rattle.fc_configuration.proofs.Keyed.{set_path}
use Rattle.fc_configuration.proofs.laws.a_set_changes_one_place.Goals as goal

pub returns-clause-put : goal.returns-clause-put
returns-clause-put c = set_found

pub returns-clause-other : goal.returns-clause-other
returns-clause-other c = set_other

pub returns-clause-above : goal.returns-clause-above
returns-clause-above c = set_above

pub returns-clause-path : goal.returns-clause-path
returns-clause-path c = set_path
