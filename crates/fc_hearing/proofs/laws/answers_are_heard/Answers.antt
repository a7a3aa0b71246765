use Rattle.fc_hearing.proofs.Asked.{held_is_heard, record_is_heard}
use Rattle.fc_hearing.proofs.laws.answers_are_heard.Goals as goal

pub returns-clause-held : goal.returns-clause-held
returns-clause-held c = held_is_heard

pub returns-clause-record : goal.returns-clause-record
returns-clause-record c = record_is_heard
