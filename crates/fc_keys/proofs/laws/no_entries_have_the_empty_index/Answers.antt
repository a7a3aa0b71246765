use Rattle.fc_keys.proofs.Indexed.{none_indexed}
use Rattle.fc_keys.proofs.laws.no_entries_have_the_empty_index.Goals as goal

pub returns : goal.returns
returns g c = λ key. none_indexed key
