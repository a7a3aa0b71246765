use Rattle.fc_rows.proofs.IndexKeys.{index_tells}
use Rattle.fc_rows.proofs.laws.an_index_tells.Goals as goal

pub returns : goal.returns
returns c = λ key m index s w old h e. index_tells key m index s w old h e
