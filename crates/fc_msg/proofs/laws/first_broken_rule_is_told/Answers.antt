use Rattle.fc_msg.proofs.FaultPlaces.{fault_low}
use Rattle.fc_msg.proofs.Told.{first_told, message_rises, spelled_passed}
use Rattle.fc_msg.proofs.laws.first_broken_rule_is_told.Goals as goal

pub returns-clause-first : goal.returns-clause-first
returns-clause-first c = first_told

pub returns-clause-rising : goal.returns-clause-rising
returns-clause-rising c = message_rises

pub returns-clause-spelled : goal.returns-clause-spelled
returns-clause-spelled c = spelled_passed

pub returns-clause-within : goal.returns-clause-within
returns-clause-within c = fault_low
