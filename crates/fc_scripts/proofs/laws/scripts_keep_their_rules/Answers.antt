use Rattle.fc_scripts.proofs.Keeping.{kept_by}
use Rattle.fc_scripts.proofs.laws.scripts_keep_their_rules.Goals as goal

pub returns : goal.returns
returns c = kept_by
