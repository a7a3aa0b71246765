use Rattle.fc_path.proofs.Opening.{oper_is, select_is}
use Rattle.fc_path.proofs.laws.selects_and_operations_are_their_heads_and_what_they_hold.Goals as goal

pub returns-clause-selects : goal.returns-clause-selects
returns-clause-selects c = select_is

pub returns-clause-operations : goal.returns-clause-operations
returns-clause-operations c = oper_is
