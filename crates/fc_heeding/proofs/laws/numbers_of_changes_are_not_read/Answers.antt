use Rattle.fc_heeding.proofs.Changing.{heard_as_read}
use Rattle.fc_heeding.proofs.laws.numbers_of_changes_are_not_read.Goals as goal

pub returns : goal.returns
returns c = heard_as_read
