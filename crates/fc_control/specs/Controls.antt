-- The node of a control element as what it is. This profile's own.
use Rattle.fc_master.specs.Masters.{core_of}
use Rattle.fc_control.specs.ControlNode.{ControlState, NodeState, node}
use Rattle.fc_control.specs.declared.control.Control.{Control}
use Rattle.fc_control.specs.declared.node.ControlNode.{ControlNode}

abbrev pub control_of : Control → ControlState
control_of c = record { ce = c.ce; life = c.master.life; core = core_of c.master; elements = c.plan.elements; plan = c.plan.transactions; begun = c.begun; forgot = c.forgot }

abbrev pub node_of : ControlNode → NodeState
node_of n = node (control_of n.control) n.peers
