use Rattle.fc_lives.proofs.Lives.{replaced_nothing}
use Rattle.fc_lives.proofs.laws.replaced_lives_change_no_element.Goals as goal

pub returns-clause-state : goal.returns-clause-state
returns-clause-state c s peer m selects is below = (replaced_nothing s peer m selects below is).0

pub returns-clause-facts : goal.returns-clause-facts
returns-clause-facts c s peer m selects is below = (replaced_nothing s peer m selects below is).1
