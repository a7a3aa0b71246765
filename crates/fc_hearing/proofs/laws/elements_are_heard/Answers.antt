use Rattle.fc_element.specs.ElementState.{opened}
use Rattle.fc_element.specs.Runs.{after}
use Rattle.fc_hearing.proofs.Asked.{held_answers, record_answers}
use Rattle.fc_querying.proofs.Lives.{askable}
use Rattle.fc_hearing.proofs.laws.elements_are_heard.Goals as goal

pub returns-clause-held : goal.returns-clause-held
returns-clause-held c id ce library instances is own = held_answers (after (opened id ce library instances) is) (askable id ce library instances is own)

pub returns-clause-record : goal.returns-clause-record
returns-clause-record c id ce library instances is own = record_answers (after (opened id ce library instances) is) (askable id ce library instances is own)
