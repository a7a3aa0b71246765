use Rattle.fc_controlling.proofs.Deciding.{decided, never_turns}
use Rattle.fc_controlling.proofs.laws.control_ends_once.Goals as goal

pub returns-clause-outcome : goal.returns-clause-outcome
returns-clause-outcome c = decided

pub returns-clause-turns : goal.returns-clause-turns
returns-clause-turns c = never_turns
