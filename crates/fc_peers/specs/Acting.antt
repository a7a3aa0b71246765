-- What a hub holds after acts: they follow those that were done, each with the number of events that were taken before it. This
-- profile's own.
use Rattle.std.specs.Prelude.{◌≡◌, ◌≢◌, ℕ, List, [], ◌∷◌, ◌++◌, map, ⊤, Option, Result, Ok, Err, option_map, if◌then◌else◌}
use Rattle.fc_base.specs.Causes.{Rose}
use Rattle.fc_hub.specs.Hubs.{Held, holds}
use Rattle.fc_hub.specs.declared.event.Act.{Act}
use Rattle.fc_hub.specs.declared.event.Act.TheVariants.{Sent}
use Rattle.fc_msg.specs.declared.message.Message.{Message}
use Rattle.fc_msg.specs.Messages.{canonical, message_fits}
use Rattle.fc_peers.specs.declared.acting.NodeStop.{NodeStop}
use Rattle.fc_peers.specs.declared.acting.NodeStop.TheVariants.{HubFault, NoMemory}

-- a message to a peer, as its canonical bytes; one that passes a length field is not sent
abbrev pub sending : ℕ → Message → List Act
sending peer m = if message_fits m then Sent peer (canonical m) ∷ [] else []

-- acts with the number of events that were taken before each
abbrev pub numbered : ℕ → List Act → List (ℕ × Act)
numbered taken acts = map (λ act. (taken, act)) acts

-- with these acts done
abbrev pub acted : List Act → Held → Held
acted acts held = holds held.coming held.taken (held.acts ++ numbered held.taken acts)

-- exactly these acts were done
abbrev pub Acts : Option Held → Option Held → List Act → Type 0
Acts old new acts = new ≡ option_map (acted acts) old

-- The acts that were not done where a node stopped within acts. Where the hub failed these are the act that failed and all
-- that follow it, so there is one.
abbrev pub AreLeft : NodeStop → List Act → Type 0
AreLeft HubFault left = left ≢ []
AreLeft NoMemory left = ⊤

-- a front of these acts was done, and then the node stopped
abbrev pub ActsUntil : NodeStop → Option Held → Option Held → List Act → Type 0
ActsUntil stop old new acts =
    (front : List Act) × (left : List Act) × (acts ≡ front ++ left) × AreLeft stop left × Acts old new front

-- the count of the hub: it rose exactly where the hub failed
abbrev pub HubCount : {T : Type 0} → Result T NodeStop → ℕ → ℕ → Type 0
HubCount (Ok x) before now = now ≡ before
HubCount (Err HubFault) before now = Rose before now
HubCount (Err NoMemory) before now = now ≡ before
