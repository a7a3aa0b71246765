use Rattle.fc_element.proofs.Ledgered.{after_ledgered, facts_ledgered}
use Rattle.fc_element.proofs.laws.configs_alone_configure.Goals as goal

pub returns-clause-state : goal.returns-clause-state
returns-clause-state c = after_ledgered

pub returns-clause-facts : goal.returns-clause-facts
returns-clause-facts c = facts_ledgered
