use Rattle.fc_store.proofs.PutFound.{put_found}
use Rattle.fc_store.proofs.laws.what_is_put_is_found.Goals as goal

pub returns : goal.returns
returns c = put_found
