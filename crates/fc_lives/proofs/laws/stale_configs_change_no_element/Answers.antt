use Rattle.fc_lives.proofs.Lives.{stale_nothing}
use Rattle.fc_lives.proofs.laws.stale_configs_change_no_element.Goals as goal

pub returns-clause-state : goal.returns-clause-state
returns-clause-state c s peer m selects is stale = (stale_nothing s peer m selects is stale).0

pub returns-clause-facts : goal.returns-clause-facts
returns-clause-facts c s peer m selects is stale = (stale_nothing s peer m selects is stale).1
