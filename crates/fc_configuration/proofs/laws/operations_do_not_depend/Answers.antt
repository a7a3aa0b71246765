use Rattle.fc_configuration.proofs.Elsewhere.{may_still, refused_still, seen_still}
use Rattle.fc_configuration.proofs.laws.operations_do_not_depend.Goals as goal

pub returns-clause-same : goal.returns-clause-same
returns-clause-same c = may_still

pub returns-clause-refused : goal.returns-clause-refused
returns-clause-refused c = refused_still

pub returns-clause-read : goal.returns-clause-read
returns-clause-read c = seen_still
