use Rattle.fc_store.proofs.PutBeside.{put_beside}
use Rattle.fc_store.proofs.laws.what_is_beside_stays.Goals as goal

pub returns : goal.returns
returns c = put_beside
