use Rattle.fc_abiding.proofs.Following.{stale_facts, stale_heard, stale_state}
use Rattle.fc_abiding.proofs.laws.stale_configs_do_nothing.Goals as goal

pub returns-clause-state : goal.returns-clause-state
returns-clause-state c = stale_state

pub returns-clause-heard : goal.returns-clause-heard
returns-clause-heard c = stale_heard

pub returns-clause-facts : goal.returns-clause-facts
returns-clause-facts c = stale_facts
