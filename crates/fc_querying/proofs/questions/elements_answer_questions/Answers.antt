use Rattle.fc_element.specs.ElementState.{opened}
use Rattle.fc_element.specs.Runs.{after}
use Rattle.fc_querying.proofs.Lives.{askable}
use Rattle.fc_querying.proofs.Sent.{held_sent, record_sent}
use Rattle.fc_querying.proofs.questions.elements_answer_questions.Goals as goal

pub returns-clause-held : goal.returns-clause-held
returns-clause-held c id ce library instances is own = held_sent (after (opened id ce library instances) is) (askable id ce library instances is own)

pub returns-clause-record : goal.returns-clause-record
returns-clause-record c id ce library instances is own = record_sent (after (opened id ce library instances) is) (askable id ce library instances is own)
