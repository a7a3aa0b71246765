use Rattle.fc_library.proofs.Judged.{not_toml, refused, accepted, no_rule_broken, no_step_told, no_want_of_memory}
use Rattle.fc_library.proofs.laws.documents_are_judged_once.Goals as goal

pub returns-clause-not_toml : goal.returns-clause-not_toml
returns-clause-not_toml c = not_toml

pub returns-clause-refused : goal.returns-clause-refused
returns-clause-refused c = refused

pub returns-clause-accepted : goal.returns-clause-accepted
returns-clause-accepted c = accepted

pub returns-clause-rule : goal.returns-clause-rule
returns-clause-rule c = no_rule_broken

pub returns-clause-step : goal.returns-clause-step
returns-clause-step c = no_step_told

pub returns-clause-memory : goal.returns-clause-memory
returns-clause-memory c = no_want_of_memory
