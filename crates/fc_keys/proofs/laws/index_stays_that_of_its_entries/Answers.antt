use Rattle.fc_keys.proofs.Indexed.{reindexed_kept}
use Rattle.fc_keys.proofs.laws.index_stays_that_of_its_entries.Goals as goal

pub returns : goal.returns
returns g c = λ key. reindexed_kept key
