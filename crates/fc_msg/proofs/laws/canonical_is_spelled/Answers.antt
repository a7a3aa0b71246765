use Rattle.fc_msg.specs.Messages.{canonical}
use Rattle.fc_msg.proofs.Canonical.{spelled}
use Rattle.fc_msg.proofs.Reading.{read}
use Rattle.fc_msg.proofs.laws.canonical_is_spelled.Goals as goal

pub returns-clause-spelled : goal.returns-clause-spelled
returns-clause-spelled c = spelled

pub returns-clause-read : goal.returns-clause-read
returns-clause-read c = λ m proper fits. read m (canonical m) (spelled m proper fits)
