use Rattle.fc_hearing.proofs.Asked.{held_answers, record_answers}
use Rattle.fc_hearing.proofs.laws.questions_are_heard.Goals as goal

pub returns-clause-held : goal.returns-clause-held
returns-clause-held c = held_answers

pub returns-clause-record : goal.returns-clause-record
returns-clause-record c = record_answers
