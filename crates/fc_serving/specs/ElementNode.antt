-- A forwarding element behind a hub: which acts it makes of the events that it takes, in which order. This profile's own,
-- over RFC 5810, section 6.1, on the frames of a stream.
use Rattle.std.specs.Prelude.{ℕ, ◌+◌, Bool, true, false, nat_lt, if◌then◌else◌, List, [], ◌∷◌, ◌++◌, map, Option, Some, None, Result, Ok, Err, refl}
use Rattle.std.specs.Coded.{Coded, code_by, coded×}
use Rattle.std.specs.FinMap.{empty, get, insert, len, remove}
use Rattle.fc_hub.specs.declared.event.HubEvent.{HubEvent}
use Rattle.fc_hub.specs.declared.event.HubEvent.TheVariants as event
use Rattle.fc_hub.specs.declared.event.Act.{Act}
use Rattle.fc_hub.specs.declared.event.Act.TheVariants.{Sent, Shut}
use Rattle.fc_msg.specs.declared.message.Message.{Message}
use Rattle.fc_msg.specs.Messages.{canonical}
use Rattle.fc_msg.specs.Reading.{message_in}
use Rattle.fc_element.specs.declared.input.ElIn.TheVariants.{Opened, Arrived, Closed, Moment}
use Rattle.fc_performing.specs.declared.out.Out.{Out}
use Rattle.fc_element.specs.ElementMachine.{Turn, step}
use Rattle.fc_element.specs.ElementState.{ElementState, opened, state_code}
use Rattle.fc_library.specs.Documents.{library_of}
use Rattle.fc_library.specs.declared.fault.LibFault.{LibFault}
use Rattle.fc_types.specs.declared.class.Class.{Class}
use Rattle.fc_peers.specs.Acting.{numbered}
use Rattle.fc_peers.specs.OpenPeers.{PeerMap, peer_map_code}
use Rattle.fc_peers.specs.Streams.{frames, rest}

-- what goes out becomes the acts of the hub
abbrev pub sent : List Out → List Act
sent outs = map (λ o. Sent o.peer (canonical o.message)) outs

-- what the frames of a peer make of an element: the acts, and whether the peer stays open
pub record Heard : Type 0 where
  pub element : ElementState
  pub acts : List Act
  pub stays : Bool

abbrev pub heard : ElementState → List Act → Bool → Heard
heard e acts stays = record { element = e; acts = acts; stays = stays }

abbrev pub first_heard : Turn → Heard → Heard
first_heard turn later = heard later.element (sent turn.outs ++ later.acts) later.stays

-- Each frame that spells a message is an input; the first that spells none shuts the peer, and is the last of it.
abbrev pub by_message : Option Message → ElementState → ℕ → (ElementState → Heard) → Heard
by_message None e peer later = heard e (Shut peer ∷ []) false
by_message (Some m) e peer later = first_heard (step e (Arrived peer m)) (later (step e (Arrived peer m)).state)

abbrev pub hears : ElementState → ℕ → List (List ℕ) → Heard
hears e peer [] = heard e [] true
hears e peer (frame ∷ frames) = by_message (message_in frame) e peer (λ next. hears next peer frames)

-- the node: the element, and the peers that are open, each with the bytes of it that are left
pub record NodeState : Type 0 where
  pub element : ElementState
  pub peers : PeerMap

abbrev pub node : ElementState → PeerMap → NodeState
node element peers = record { element = element; peers = peers }

abbrev pub node_code : Coded NodeState
node_code = code_by (ElementState × PeerMap) (coded× state_code peer_map_code) (λ n. (n.element, n.peers)) (λ p. node p.0 p.1) (λ _. refl)

-- what the node is after an event, and the acts that it makes, in this order
pub record Move : Type 0 where
  pub state : NodeState
  pub acts : List Act

abbrev pub move : NodeState → List Act → Move
move state acts = record { state = state; acts = acts }

-- an input of the element that goes with these peers
abbrev pub after_turn : Turn → PeerMap → Move
after_turn turn peers = move (node turn.state peers) (sent turn.outs)

abbrev pub after_heard : Heard → ℕ → List ℕ → PeerMap → Move
after_heard h peer left peers = move (node h.element (if h.stays then insert peers peer left else remove peers peer)) h.acts

-- a peer that is open begins anew; at most 64 are open, and one more is shut at once
abbrev pub on_opened : NodeState → ℕ → Option (List ℕ) → Move
on_opened n peer (Some left) = after_turn (step n.element (Opened peer)) (insert n.peers peer [])
on_opened n peer None =
    if nat_lt (len n.peers) 64 then after_turn (step n.element (Opened peer)) (insert n.peers peer []) else move n (Shut peer ∷ [])

-- bytes of a peer that is not open give nothing
abbrev pub on_bytes : NodeState → ℕ → List ℕ → Option (List ℕ) → Move
on_bytes n peer piece (Some left) =
    after_heard (hears n.element peer (frames (left ++ piece))) peer (rest (left ++ piece)) n.peers
on_bytes n peer piece None = move n []

abbrev pub on_closed : NodeState → ℕ → Option (List ℕ) → Move
on_closed n peer (Some left) = after_turn (step n.element (Closed peer)) (remove n.peers peer)
on_closed n peer None = move n []

-- one event
abbrev pub node_step : NodeState → HubEvent → Move
node_step n (event.Opened peer) = on_opened n peer (get n.peers peer)
node_step n (event.Bytes peer piece) = on_bytes n peer piece (get n.peers peer)
node_step n (event.Closed peer) = on_closed n peer (get n.peers peer)
node_step n (event.Moment moment) = after_turn (step n.element (Moment moment)) n.peers
node_step n event.Over = move n []

-- all events, in their order
abbrev pub node_after : NodeState → List HubEvent → NodeState
node_after n [] = n
node_after n (e ∷ es) = node_after (node_step n e).state es

-- the acts of all events, where so many were taken before the first
abbrev pub acts_of : ℕ → NodeState → List HubEvent → List (ℕ × Act)
acts_of taken n [] = []
acts_of taken n (e ∷ es) = numbered (taken + 1) (node_step n e).acts ++ acts_of (taken + 1) (node_step n e).state es

-- the node of an element that was just made
abbrev pub first_node : ℕ → ℕ → List Class → List (ℕ × ℕ) → NodeState
first_node id ce library instances = node (opened id ce library instances) empty

-- the same, with a library and instances as they are given; where none are given, without any
abbrev pub node_given : ℕ → ℕ → Result (List Class × List (ℕ × ℕ)) LibFault → NodeState
node_given id ce (Ok given) = first_node id ce given.0 given.1
node_given id ce (Err fault) = first_node id ce [] []

-- the same, with the library that the bytes of a document mean
abbrev pub node_by : ℕ → ℕ → List ℕ → NodeState
node_by id ce bytes = node_given id ce (library_of bytes)
