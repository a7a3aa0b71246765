use Rattle.fc_querying.proofs.Lasting.{has_after}
use Rattle.fc_querying.proofs.configs.elements_have_mastership.Goals as goal

pub returns : goal.returns
returns c = has_after
