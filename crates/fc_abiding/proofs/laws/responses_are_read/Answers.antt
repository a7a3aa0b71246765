use Rattle.fc_abiding.proofs.Reading.{all_read}
use Rattle.fc_abiding.proofs.laws.responses_are_read.Goals as goal

pub returns : goal.returns
returns c = all_read
