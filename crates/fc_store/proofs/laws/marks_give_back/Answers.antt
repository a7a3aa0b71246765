use Rattle.fc_store.proofs.Returning.{gives_back, leaves}
use Rattle.fc_store.proofs.laws.marks_give_back.Goals as goal

pub returns-clause-given : goal.returns-clause-given
returns-clause-given c = gives_back

pub returns-clause-left : goal.returns-clause-left
returns-clause-left c = leaves
