use Rattle.fc_numbering.proofs.Keeping.{new_numbered}
use Rattle.fc_numbering.proofs.laws.masters_begin_in_numbers.Goals as goal

pub returns : goal.returns
returns c = new_numbered
