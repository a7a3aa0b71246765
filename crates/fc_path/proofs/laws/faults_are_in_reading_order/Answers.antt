use Rattle.fc_path.proofs.Rising.{select_rises}
use Rattle.fc_path.proofs.Visiting.{first, read}
use Rattle.fc_path.proofs.laws.faults_are_in_reading_order.Goals as goal

pub returns-clause-first : goal.returns-clause-first
returns-clause-first c = first

pub returns-clause-rising : goal.returns-clause-rising
returns-clause-rising c = select_rises

pub returns-clause-read : goal.returns-clause-read
returns-clause-read c = read
