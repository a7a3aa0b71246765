use Rattle.std.proofs.Common.{◌∙◌, ap}
use Rattle.std.specs.FinMap.{empty}
use Rattle.fc_control.specs.ControlNode.{node}
use Rattle.fc_control.specs.Controls.{control_of}
use Rattle.fc_control.proofs.node.ControlNode.new.Goals as goal

pub returns-clause-node : goal.returns-clause-node
returns-clause-node c = ap (node (control_of c.in_ok-new.field-0)) c.new-2.ensures ∙ ap (λ n. node n empty) c.in_ok-new.ensures.control
