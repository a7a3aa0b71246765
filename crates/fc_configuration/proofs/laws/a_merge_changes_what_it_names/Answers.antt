use Rattle.fc_configuration.proofs.Changing.{merge_above, merge_is_found, merge_leaves, merge_other}
use Rattle.fc_configuration.proofs.Keyed.{merge_path}
use Rattle.fc_configuration.proofs.laws.a_merge_changes_what_it_names.Goals as goal

pub returns-clause-put : goal.returns-clause-put
returns-clause-put c = merge_is_found

pub returns-clause-unnamed : goal.returns-clause-unnamed
returns-clause-unnamed c = merge_leaves

pub returns-clause-other : goal.returns-clause-other
returns-clause-other c = merge_other

pub returns-clause-above : goal.returns-clause-above
returns-clause-above c = merge_above

pub returns-clause-path : goal.returns-clause-path
returns-clause-path c = merge_path
