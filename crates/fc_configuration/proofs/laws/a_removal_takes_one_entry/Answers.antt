use Rattle.fc_configuration.proofs.Changing.{removal_above, removal_frees, removal_gone, removal_other}
use Rattle.fc_configuration.proofs.Keyed.{removal_path}
use Rattle.fc_configuration.proofs.laws.a_removal_takes_one_entry.Goals as goal

pub returns-clause-gone : goal.returns-clause-gone
returns-clause-gone c = removal_gone

pub returns-clause-free : goal.returns-clause-free
returns-clause-free c = removal_frees

pub returns-clause-other : goal.returns-clause-other
returns-clause-other c = removal_other

pub returns-clause-above : goal.returns-clause-above
returns-clause-above c = removal_above

pub returns-clause-path : goal.returns-clause-path
returns-clause-path c = removal_path
