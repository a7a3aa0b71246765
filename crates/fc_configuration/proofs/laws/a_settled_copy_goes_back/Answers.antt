use Rattle.fc_configuration.proofs.Settling.{copy_goes_back, copy_is_bare, copy_leaves}
use Rattle.fc_configuration.proofs.laws.a_settled_copy_goes_back.Goals as goal

pub returns-clause-given : goal.returns-clause-given
returns-clause-given c = copy_goes_back

pub returns-clause-left : goal.returns-clause-left
returns-clause-left c = copy_leaves

pub returns-clause-unmarked : goal.returns-clause-unmarked
returns-clause-unmarked c = copy_is_bare
