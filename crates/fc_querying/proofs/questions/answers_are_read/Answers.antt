use Rattle.fc_querying.proofs.Answered.{held_answered, record_answered}
use Rattle.fc_querying.proofs.questions.answers_are_read.Goals as goal

pub returns-clause-held : goal.returns-clause-held
returns-clause-held c = held_answered

pub returns-clause-record : goal.returns-clause-record
returns-clause-record c = record_answered
