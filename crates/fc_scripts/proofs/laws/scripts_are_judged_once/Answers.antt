use Rattle.fc_scripts.proofs.Judging.{by_toml, by_key, by_check, by_rule, by_step, by_script, by_no_memory}
use Rattle.fc_scripts.proofs.laws.scripts_are_judged_once.Goals as goal

pub returns-clause-not_toml : goal.returns-clause-not_toml
returns-clause-not_toml c = by_toml

pub returns-clause-key : goal.returns-clause-key
returns-clause-key c = by_key

pub returns-clause-check : goal.returns-clause-check
returns-clause-check c = by_check

pub returns-clause-rule : goal.returns-clause-rule
returns-clause-rule c = by_rule

pub returns-clause-step : goal.returns-clause-step
returns-clause-step c = by_step

pub returns-clause-accepted : goal.returns-clause-accepted
returns-clause-accepted c = by_script

pub returns-clause-memory : goal.returns-clause-memory
returns-clause-memory c = by_no_memory
