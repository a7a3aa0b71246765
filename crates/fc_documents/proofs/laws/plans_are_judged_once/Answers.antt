use Rattle.fc_documents.proofs.Judging.{by_toml, by_key, by_rule, by_plan, by_no_step, by_no_other}
use Rattle.fc_documents.proofs.laws.plans_are_judged_once.Goals as goal

pub returns-clause-not_toml : goal.returns-clause-not_toml
returns-clause-not_toml c = by_toml

pub returns-clause-key : goal.returns-clause-key
returns-clause-key c = by_key

pub returns-clause-rule : goal.returns-clause-rule
returns-clause-rule c = by_rule

pub returns-clause-accepted : goal.returns-clause-accepted
returns-clause-accepted c = by_plan

pub returns-clause-step : goal.returns-clause-step
returns-clause-step c = by_no_step

pub returns-clause-other : goal.returns-clause-other
returns-clause-other c = by_no_other
