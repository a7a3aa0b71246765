use Rattle.fc_msg.proofs.Opening.{body_is}
use Rattle.fc_msg.proofs.laws.a_body_is_its_head_and_its_selects.Goals as goal

pub returns : goal.returns
returns c = body_is
