-- What a hub holds after the events that a node has taken, and how a node ends. This profile's own.
use Rattle.std.specs.Prelude.{◌≡◌, ◌⊎◌, ℕ, ◌<◌, ◌+◌, List, ◌∷◌, ◌++◌, length, ⊤, Option, Some, None, Result, Ok, Err}
use Rattle.fc_hub.specs.Hubs.{Held, holds}
use Rattle.fc_hub.specs.declared.event.HubEvent.{HubEvent}
use Rattle.fc_hub.specs.declared.event.Act.{Act}
use Rattle.fc_peers.specs.Acting.{AreLeft, numbered}
use Rattle.fc_peers.specs.declared.acting.NodeStop.{NodeStop}
use Rattle.fc_serving.specs.declared.serve.Served.{Served}
use Rattle.fc_serving.specs.declared.serve.Served.TheVariants.{Over, Turns}
use Rattle.fc_serving.specs.ElementNode.{NodeState, acts_of, node_after, node_step}

-- Exactly these events were taken, and exactly the acts of a node that begins so were done.
abbrev pub Went : Option Held → Option Held → NodeState → List HubEvent → Type 0
Went None new n events = new ≡ None
Went (Some held) new n events =
    (coming : List HubEvent) × (held.coming ≡ events ++ coming)
    × (new ≡ Some (holds coming (held.taken + length events) (held.acts ++ acts_of held.taken n events)))

-- Those events and one more were taken, and of its acts a front was done until the node stopped.
abbrev pub WentInto : NodeStop → Option Held → Option Held → NodeState → List HubEvent → HubEvent → Type 0
WentInto stop None new n events last = new ≡ None
WentInto stop (Some held) new n events last =
    (coming : List HubEvent) × (front : List Act) × (left : List Act)
    × (held.coming ≡ events ++ last ∷ coming) × ((node_step (node_after n events) last).acts ≡ front ++ left) × AreLeft stop left
    × (new ≡ Some (holds coming (held.taken + length events + 1) (held.acts ++ acts_of held.taken n events ++ numbered (held.taken + length events + 1) front)))

-- a node stopped so: where it was to take the next event, or within the acts of one
abbrev pub Broke : NodeStop → Option Held → Option Held → NodeState → List HubEvent → Type 0
Broke stop old new n events = Went old new n events ⊎ ((last : HubEvent) × WentInto stop old new n events last)

-- the events that were taken are all that the hub told
abbrev pub AreAll : Option Held → List HubEvent → Type 0
AreAll None events = ⊤
AreAll (Some held) events = held.coming ≡ events

-- How a node ends that takes at most so many events: the hub has no more, so many were taken, or it stopped. The node is
-- then what those events made of it.
abbrev pub ServeEnds : Result Served NodeStop → ℕ → NodeState → NodeState → Option Held → Option Held → Type 0
ServeEnds (Ok Over) turns n last old new =
    (events : List HubEvent) × (length events < turns) × Went old new n events × AreAll old events × (last ≡ node_after n events)
ServeEnds (Ok Turns) turns n last old new =
    (events : List HubEvent) × (length events ≡ turns) × Went old new n events × (last ≡ node_after n events)
ServeEnds (Err stop) turns n last old new = (events : List HubEvent) × (length events < turns) × Broke stop old new n events
