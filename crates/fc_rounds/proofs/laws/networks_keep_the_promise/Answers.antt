use Rattle.fc_rounds.proofs.Runs.{agrees, fenced, folds_all, has_one_plan, is_ready, settles, settles_once}
use Rattle.fc_rounds.proofs.Reports.{one_word, report_tells}
use Rattle.fc_rounds.proofs.Telling.{tells_all}
use Rattle.fc_rounds.proofs.laws.networks_keep_the_promise.Goals as goal

pub returns-clause-agree : goal.returns-clause-agree
returns-clause-agree c = agrees

pub returns-clause-once : goal.returns-clause-once
returns-clause-once c = settles_once

pub returns-clause-ready : goal.returns-clause-ready
returns-clause-ready c = is_ready

pub returns-clause-one_plan : goal.returns-clause-one_plan
returns-clause-one_plan c = has_one_plan

pub returns-clause-folded : goal.returns-clause-folded
returns-clause-folded c = folds_all

pub returns-clause-fenced : goal.returns-clause-fenced
returns-clause-fenced c = fenced

pub returns-clause-settled : goal.returns-clause-settled
returns-clause-settled c = settles

pub returns-clause-told : goal.returns-clause-told
returns-clause-told c = tells_all

pub returns-clause-reported : goal.returns-clause-reported
returns-clause-reported c = report_tells

pub returns-clause-one_word : goal.returns-clause-one_word
returns-clause-one_word c s done is numbered made = one_word s done is made numbered
