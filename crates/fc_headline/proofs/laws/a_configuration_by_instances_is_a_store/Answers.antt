use Rattle.fc_headline.proofs.Instances.{instances_lawful}
use Rattle.fc_machine.proofs.Instances.{apart_commute, refused_keeps, nowhere_refused}
use Rattle.fc_headline.proofs.laws.a_configuration_by_instances_is_a_store.Goals as goal

pub returns-clause-apart : goal.returns-clause-apart
returns-clause-apart g c place_of local nowhere no_instance = apart_commute place_of local nowhere no_instance

pub returns-clause-refused : goal.returns-clause-refused
returns-clause-refused g c place_of local nowhere no_instance = refused_keeps place_of local nowhere no_instance

pub returns-clause-placeless : goal.returns-clause-placeless
returns-clause-placeless g c place_of local nowhere no_instance = nowhere_refused place_of local nowhere no_instance

pub returns-clause-lawful : goal.returns-clause-lawful
returns-clause-lawful g c = instances_lawful
