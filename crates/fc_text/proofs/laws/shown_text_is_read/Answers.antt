use Rattle.fc_text.proofs.TextLaws.{one_read, shown_read}
use Rattle.fc_text.proofs.laws.shown_text_is_read.Goals as goal

pub returns-clause-one : goal.returns-clause-one
returns-clause-one c = one_read

pub returns-clause-all : goal.returns-clause-all
returns-clause-all c = shown_read
