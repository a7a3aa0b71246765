use Rattle.fc_querying.proofs.Lives.{askable}
use Rattle.fc_querying.proofs.questions.elements_can_be_asked.Goals as goal

pub returns : goal.returns
returns c = askable
