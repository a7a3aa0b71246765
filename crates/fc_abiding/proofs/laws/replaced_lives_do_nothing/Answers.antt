use Rattle.fc_abiding.proofs.Hearing.{replaced_facts, replaced_heard, replaced_state}
use Rattle.fc_abiding.proofs.laws.replaced_lives_do_nothing.Goals as goal

pub returns-clause-state : goal.returns-clause-state
returns-clause-state c = replaced_state

pub returns-clause-heard : goal.returns-clause-heard
returns-clause-heard c = replaced_heard

pub returns-clause-facts : goal.returns-clause-facts
returns-clause-facts c = replaced_facts
