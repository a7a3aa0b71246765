-- How a call of the master that begins a transaction ends. This profile's own.
use Rattle.std.specs.Prelude.{Bool, true, false, List, [], Option, Some, None}
use Rattle.fc_hub.specs.Hubs.{Held}
use Rattle.fc_hub.specs.declared.event.Act.{Act}
use Rattle.fc_plans.specs.declared.plan.Part.{Part}
use Rattle.fc_protocol.specs.MasterMachine.{Refusal}
use Rattle.fc_peers.specs.Acting.{ActsUntil}
use Rattle.fc_peers.specs.declared.acting.NodeStop.{NodeStop}
use Rattle.fc_control.specs.ControlNode.{ControlState, Turn, begins_one, turn}

-- it was begun, or not
abbrev pub begins_if : Bool → List Part → ControlState → Turn
begins_if true parts n = begins_one parts n
begins_if false parts n = turn n []

-- where it is refused nothing was done; else a front of these acts
abbrev pub Stops : NodeStop → Option Held → Option Held → Option Refusal → List Act → Type 0
Stops stop old new (Some r) acts = ActsUntil stop old new []
Stops stop old new None acts = ActsUntil stop old new acts
