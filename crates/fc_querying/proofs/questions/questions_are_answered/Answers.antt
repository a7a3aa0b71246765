use Rattle.fc_querying.proofs.Sent.{held_sent, record_sent}
use Rattle.fc_querying.proofs.questions.questions_are_answered.Goals as goal

pub returns-clause-held : goal.returns-clause-held
returns-clause-held c = held_sent

pub returns-clause-record : goal.returns-clause-record
returns-clause-record c = record_sent
