use Rattle.fc_keys.proofs.Indexed.{one_key}
use Rattle.fc_keys.proofs.laws.indexed_entries_have_different_keys.Goals as goal

pub returns : goal.returns
returns g c = λ key. one_key key
