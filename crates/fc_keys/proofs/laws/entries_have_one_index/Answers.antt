use Rattle.fc_keys.proofs.Indexed.{one_index}
use Rattle.fc_keys.proofs.laws.entries_have_one_index.Goals as goal

pub returns : goal.returns
returns g c = λ key. one_index key
