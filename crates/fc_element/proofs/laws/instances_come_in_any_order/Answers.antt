use Rattle.fc_element.proofs.Openings.{opened_same}
use Rattle.fc_element.proofs.laws.instances_come_in_any_order.Goals as goal

pub returns : goal.returns
returns c = opened_same
