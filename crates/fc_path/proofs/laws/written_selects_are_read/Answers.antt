use Rattle.fc_path.proofs.InGrammar.{select_in}
use Rattle.fc_path.proofs.SelectLaws.{again}
use Rattle.fc_path.proofs.laws.written_selects_are_read.Goals as goal

pub returns-clause-spelled : goal.returns-clause-spelled
returns-clause-spelled c = select_in

pub returns-clause-again : goal.returns-clause-again
returns-clause-again c = again
