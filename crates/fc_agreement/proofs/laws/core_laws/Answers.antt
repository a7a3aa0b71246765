use Rattle.fc_agreement.proofs.Keeps.{agree, ready, reached, all_had_prepared, later_complete}
use Rattle.fc_agreement.proofs.Lasting.{completed_lasts, aborted_lasts, decision_lasts}
use Rattle.fc_agreement.proofs.Still.{answer_stays}
use Rattle.fc_agreement.proofs.laws.core_laws.Goals as goal

pub returns-clause-one_end : goal.returns-clause-one_end
returns-clause-one_end c = agree

pub returns-clause-prepared_before : goal.returns-clause-prepared_before
returns-clause-prepared_before c = ready

pub returns-clause-prepared_decided : goal.returns-clause-prepared_decided
returns-clause-prepared_decided c = all_had_prepared

pub returns-clause-reached_decided : goal.returns-clause-reached_decided
returns-clause-reached_decided c = reached

pub returns-clause-no_later_abort : goal.returns-clause-no_later_abort
returns-clause-no_later_abort c = later_complete

pub returns-clause-answers_stay : goal.returns-clause-answers_stay
returns-clause-answers_stay c = answer_stays

pub returns-clause-ends_stay : goal.returns-clause-ends_stay
returns-clause-ends_stay c = λ own parts ms d. (completed_lasts own parts ms d, aborted_lasts own parts ms d)

pub returns-clause-decisions_stay : goal.returns-clause-decisions_stay
returns-clause-decisions_stay c = decision_lasts
