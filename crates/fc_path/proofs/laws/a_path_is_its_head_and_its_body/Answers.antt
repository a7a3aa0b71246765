use Rattle.fc_path.proofs.Heading.{path_is}
use Rattle.fc_path.proofs.laws.a_path_is_its_head_and_its_body.Goals as goal

pub returns : goal.returns
returns c = path_is
