use Rattle.fc_agreement.proofs.OneElement.{first_law, settles_law, tell_law, distinct_law, limited_law, apart_law, few_law, clear_law, rising_law}
use Rattle.fc_agreement.proofs.Ownership.{owned_law}
use Rattle.fc_agreement.proofs.laws.one_element.Goals as goal

pub returns-clause-prepared_first : goal.returns-clause-prepared_first
returns-clause-prepared_first c = first_law

pub returns-clause-settles_once : goal.returns-clause-settles_once
returns-clause-settles_once c = settles_law

pub returns-clause-records_tell : goal.returns-clause-records_tell
returns-clause-records_tell c = tell_law

pub returns-clause-distinct : goal.returns-clause-distinct
returns-clause-distinct c = distinct_law

pub returns-clause-limited : goal.returns-clause-limited
returns-clause-limited c = limited_law

pub returns-clause-apart : goal.returns-clause-apart
returns-clause-apart c = apart_law

pub returns-clause-floor_clear : goal.returns-clause-floor_clear
returns-clause-floor_clear c = clear_law

pub returns-clause-few : goal.returns-clause-few
returns-clause-few c = few_law

pub returns-clause-rising : goal.returns-clause-rising
returns-clause-rising c = rising_law

pub returns-clause-owned : goal.returns-clause-owned
returns-clause-owned c p ce runs = owned_law ce p runs
