use Rattle.fc_agreement.proofs.Numbers.{agree_law, once_law, ready_law, one_plan_law, settled_law, settled_whole_law, begun_once_law, says_once_law, says_decision_law, follows_core_law, at_rest_law, floors_settle_law, floors_reach_law, floors_answered_law, bounded_law}
use Rattle.fc_agreement.proofs.laws.agreement.Goals as goal

pub returns-clause-agree : goal.returns-clause-agree
returns-clause-agree c = agree_law

pub returns-clause-once : goal.returns-clause-once
returns-clause-once c = once_law

pub returns-clause-ready : goal.returns-clause-ready
returns-clause-ready c = ready_law

pub returns-clause-one_plan : goal.returns-clause-one_plan
returns-clause-one_plan c = one_plan_law

pub returns-clause-settled : goal.returns-clause-settled
returns-clause-settled c = settled_law

pub returns-clause-settled_whole : goal.returns-clause-settled_whole
returns-clause-settled_whole c = settled_whole_law

pub returns-clause-begun_once : goal.returns-clause-begun_once
returns-clause-begun_once c = begun_once_law

pub returns-clause-says_once : goal.returns-clause-says_once
returns-clause-says_once c = says_once_law

pub returns-clause-says_decision : goal.returns-clause-says_decision
returns-clause-says_decision c = says_decision_law

pub returns-clause-follows_core : goal.returns-clause-follows_core
returns-clause-follows_core c n steps more = follows_core_law n steps more

pub returns-clause-at_rest : goal.returns-clause-at_rest
returns-clause-at_rest c = at_rest_law

pub returns-clause-bounded : goal.returns-clause-bounded
returns-clause-bounded c = bounded_law

pub returns-clause-floors_settle : goal.returns-clause-floors_settle
returns-clause-floors_settle c = floors_settle_law

pub returns-clause-floors_reach : goal.returns-clause-floors_reach
returns-clause-floors_reach c = floors_reach_law

pub returns-clause-floors_answered : goal.returns-clause-floors_answered
returns-clause-floors_answered c = floors_answered_law
