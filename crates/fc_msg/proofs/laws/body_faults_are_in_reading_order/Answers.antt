use Rattle.fc_msg.proofs.BodyOrder.{all_read, first_fault}
use Rattle.fc_msg.proofs.BodyRising.{body_rises}
use Rattle.fc_msg.proofs.laws.body_faults_are_in_reading_order.Goals as goal

pub returns-clause-first : goal.returns-clause-first
returns-clause-first c = first_fault

pub returns-clause-rising : goal.returns-clause-rising
returns-clause-rising c = body_rises

pub returns-clause-read : goal.returns-clause-read
returns-clause-read c = all_read
