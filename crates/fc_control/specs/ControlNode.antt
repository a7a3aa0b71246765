-- A control element behind a hub: which acts it makes of the events that it takes, in which order, and what it does of its plan after each
-- input of its master. This profile's own, over RFC 5810, section 6.1, on the frames of a stream.
use Rattle.std.specs.Prelude.{ℕ, ◌+◌, ◌-◌, ◌%◌, ◌==◌, ◌&&◌, Bool, true, false, not, nat_le, if◌then◌else◌, List, [], ◌∷◌, ◌++◌, length, drop, slice_get, Option, Some, None, is_some}
use Rattle.std.specs.List.{flat_map}
use Rattle.std.specs.FinMap.{empty, get, insert, remove}
use Rattle.fc_base.specs.Ids.{Txn}
use Rattle.fc_hub.specs.declared.event.HubEvent.{HubEvent}
use Rattle.fc_hub.specs.declared.event.HubEvent.TheVariants as event
use Rattle.fc_hub.specs.declared.event.Act.{Act}
use Rattle.fc_hub.specs.declared.event.Act.TheVariants.{Shut}
use Rattle.fc_msg.specs.declared.message.Message.{Message}
use Rattle.fc_msg.specs.declared.message.MsgBody.{MsgBody}
use Rattle.fc_msg.specs.declared.message.MsgBody.TheVariants as body
use Rattle.fc_msg.specs.Reading.{message_in}
use Rattle.fc_protocol.specs.MasterMachine.{Master as Core, Refusal, Speaks, begin_refusal, begins, finish, forget_refusal, forgets, give_up_refusal, gives_up, new_master, next_txn}
use Rattle.fc_plans.specs.Plans.{plan_fault}
use Rattle.fc_documents.specs.Parts.{begun as parts_of}
use Rattle.fc_plans.specs.declared.fault.PlanFault.{PlanFault}
use Rattle.fc_plans.specs.declared.plan.Part.{Part}
use Rattle.fc_asks.specs.declared.life.Life.{Life}
use Rattle.fc_jobs.specs.Plans.{changes_in, participants_of, scopes_in}
use Rattle.fc_jobs.specs.Sending.{spelled}
use Rattle.fc_jobs.specs.declared.sending.CeOut.{CeOut}
use Rattle.fc_master.specs.Steps.{quiet, said, stepped}
use Rattle.fc_master.specs.declared.input.CeIn.{CeIn}
use Rattle.fc_master.specs.declared.input.CeIn.TheVariants.{Arrived, Moment}
use Rattle.fc_peers.specs.Acting.{numbered, sending}
use Rattle.fc_peers.specs.OpenPeers.{PeerMap}
use Rattle.fc_peers.specs.Streams.{frames, rest}
use Rattle.fc_documents.specs.declared.transaction.PlanTxn.{PlanTxn}

-- ---- elements and peers

-- the peer of an element: the number of its place, from 1; of one that is none of these the number behind the last
abbrev pub peer_of : ℕ → List ℕ → ℕ
peer_of p [] = 1
peer_of p (q ∷ qs) = if p == q then 1 else peer_of p qs + 1

-- the element of a peer, if it is the peer of one
abbrev pub element_of : List ℕ → ℕ → Option ℕ
element_of elements peer = if peer == 0 then None else slice_get elements (peer - 1)

-- what goes out becomes the acts of the hub
abbrev pub sent : List ℕ → List CeOut → List Act
sent elements outs = flat_map (λ (o : CeOut). sending (peer_of o.to elements) o.message) outs

-- ---- the control element with its plan

pub record ControlState : Type 0 where
  pub ce : ℕ  -- its ID
  pub life : Life
  pub core : Core  -- its master
  pub elements : List ℕ
  pub plan : List PlanTxn
  pub begun : List Txn  -- the first transactions of the plan, as they were begun
  pub forgot : Bool  -- whether the elements were told to forget

-- the number of the control element
abbrev pub number_of : ControlState → ℕ
number_of n = n.ce % 256

-- it has ended: an answer has held a greater epoch
abbrev pub has_ended : ControlState → Bool
has_ended n = is_some n.core.deposed

-- what it is afterwards, and the acts that it makes, in this order
pub record Turn : Type 0 where
  pub state : ControlState
  pub acts : List Act

abbrev pub turn : ControlState → List Act → Turn
turn state acts = record { state = state; acts = acts }

-- one after the other
abbrev pub and_then : Turn → (ControlState → Turn) → Turn
and_then t f = turn (f t.state).state (t.acts ++ (f t.state).acts)

-- ---- calls of the master

-- an input
abbrev pub takes : CeIn → ControlState → Turn
takes i n = turn (record n { core = (stepped (number_of n) n.core i).master }) (sent n.elements (said n.life (number_of n) n.core i))

-- what the master says
abbrev pub says : ControlState → Speaks → List Act
says n s = sent n.elements (spelled n.life s.says)

-- a transaction is given up, unless the master refuses that, as where it is decided
abbrev pub gives_up_by : Option Refusal → ControlState → Speaks → Turn
gives_up_by (Some r) n s = turn n []
gives_up_by None n s = turn (record n { core = s.master }) (says n s)

abbrev pub gives_up_one : Txn → ControlState → Turn
gives_up_one x n = gives_up_by (give_up_refusal n.core x) n (finish (number_of n) (gives_up n.core x))

-- Why it is not begun: it is no plan of a transaction, or the master refuses it. A document that is a plan has none of the first kind.
abbrev pub is_refused_by : Option PlanFault → Option Refusal → Bool
is_refused_by (Some fault) r = true
is_refused_by None r = is_some r

abbrev pub refusal_of : List Part → ControlState → Option Refusal
refusal_of parts n = begin_refusal n.core (participants_of parts) (changes_in parts) (scopes_in parts)

abbrev pub is_refused : List Part → ControlState → Bool
is_refused parts n = is_refused_by (plan_fault parts) (refusal_of parts n)

-- the master, once it has begun it, and what it says
abbrev pub beginning : List Part → ControlState → Speaks
beginning parts n = finish (number_of n) (begins n.core (participants_of parts) (changes_in parts) (scopes_in parts))

abbrev pub begun_with : List Part → ControlState → ControlState
begun_with parts n = record n {
  life = record n.life { plans = n.life.plans ++ parts ∷ [] };
  core = (beginning parts n).master;
  begun = n.begun ++ next_txn n.core ∷ [];
}

abbrev pub begins_one : List Part → ControlState → Turn
begins_one parts n = turn (begun_with parts n) (says n (beginning parts n))

-- these transactions are begun, until one is refused
abbrev pub begins_by : Bool → List Part → ControlState → (ControlState → Turn) → Turn
begins_by true parts n later = turn n []
begins_by false parts n later = and_then (begins_one parts n) later

abbrev pub begins_all : List PlanTxn → ControlState → Turn
begins_all [] n = turn n []
begins_all (t ∷ ts) n = begins_by (is_refused (parts_of t) n) (parts_of t) n (begins_all ts)

-- the transactions of the plan that are next, until one is refused
abbrev pub begins_next : ControlState → Turn
begins_next n = begins_all (drop (length n.begun) n.plan) n

-- the elements are told to forget, unless the master refuses that
abbrev pub forgets_by : Option Refusal → ControlState → Speaks → Turn
forgets_by (Some r) n s = turn n []
forgets_by None n s = turn (record n { core = s.master; forgot = true }) (says n s)

-- there is a plan, all of it is begun, and the elements were not told to forget yet
abbrev pub may_forget : ControlState → Bool
may_forget n = nat_le 1 (length n.plan) && (nat_le (length n.plan) (length n.begun) && not n.forgot)

abbrev pub tells_to_forget : ControlState → Turn
tells_to_forget n = forgets_by (forget_refusal n.core) n (finish (number_of n) (forgets n.core))

abbrev pub forgets_last : ControlState → Turn
forgets_last n = if may_forget n then tells_to_forget n else turn n []

-- ---- inputs

-- after an input of the master and before the next: of the plan what can be begun; then the elements are told to forget
abbrev pub goes_on : ControlState → Turn
goes_on n = and_then (begins_next n) forgets_last

-- a message of an element
abbrev pub arrives : ℕ → Message → ControlState → Turn
arrives p m n = and_then (takes (Arrived p m) n) goes_on

-- the moment has come, at which a transaction is to be given up
abbrev pub has_come : ℕ → Option ℕ → Bool
has_come now None = false
has_come now (Some give_up) = nat_le give_up now

-- the transactions begun whose moment has come, in the order of the plan
abbrev pub come : ℕ → List PlanTxn → List Txn → List Txn
come now [] xs = []
come now (t ∷ ts) [] = []
come now (t ∷ ts) (x ∷ xs) = if has_come now t.give_up then x ∷ come now ts xs else come now ts xs

abbrev pub gives_up_all : List Txn → ControlState → Turn
gives_up_all [] n = turn n []
gives_up_all (x ∷ xs) n = and_then (gives_up_one x n) (gives_up_all xs)

abbrev pub gives_up_come : ℕ → ControlState → Turn
gives_up_come now n = gives_up_all (come now n.plan n.begun) n

-- a moment: what is begun and undecided is given up where its moment has come
abbrev pub passes : ℕ → ControlState → Turn
passes now n = and_then (and_then (takes (Moment now) n) (gives_up_come now)) goes_on

-- ---- messages of a peer

-- another sender than the element of the peer gets no association, and is ignored else
abbrev pub refused_setup : ℕ → Message → Message
refused_setup ce m = record { source = ce; dest = m.source; corr = m.corr; flags = quiet; body = body.SetupResponse 1 }

abbrev pub refusing : ℕ → ℕ → Message → MsgBody → List Act
refusing ce peer m (body.Setup selects) = sending peer (refused_setup ce m)
refusing ce peer m (body.SetupResponse result) = []
refusing ce peer m (body.Teardown reason) = []
refusing ce peer m (body.Config selects) = []
refusing ce peer m (body.ConfigResponse selects) = []
refusing ce peer m (body.Query selects) = []
refusing ce peer m (body.QueryResponse selects) = []
refusing ce peer m (body.Event selects) = []
refusing ce peer m body.Heartbeat = []

-- a message of the peer of the element p
abbrev pub comes : ℕ → ℕ → Message → ControlState → Turn
comes peer p m n = if m.source == p then arrives p m n else turn n (refusing n.ce peer m m.body)

-- what the frames of a peer make of the node: the acts, and what is left of the peer, if it stays open
pub record Heard : Type 0 where
  pub state : ControlState
  pub acts : List Act
  pub left : Option (List ℕ)

abbrev pub heard : ControlState → List Act → Option (List ℕ) → Heard
heard state acts left = record { state = state; acts = acts; left = left }

abbrev pub first_heard : List Act → Heard → Heard
first_heard acts later = heard later.state (acts ++ later.acts) later.left

-- the frames behind a message, unless that was the last input
abbrev pub unless_ended : Bool → Turn → (ControlState → Heard) → Heard
unless_ended true t later = heard t.state t.acts (Some [])
unless_ended false t later = first_heard t.acts (later t.state)

-- each frame that spells a message is one; the first that spells none shuts the peer, and is the last of it
abbrev pub by_message : Option Message → ℕ → ℕ → ControlState → (ControlState → Heard) → Heard
by_message None peer p n later = heard n (Shut peer ∷ []) None
by_message (Some m) peer p n later = unless_ended (has_ended (comes peer p m n).state) (comes peer p m n) later

abbrev pub hears : ℕ → ℕ → List (List ℕ) → List ℕ → ControlState → Heard
hears peer p [] left n = heard n [] (Some left)
hears peer p (frame ∷ frames) left n = by_message (message_in frame) peer p n (λ next. hears peer p frames left next)

-- ---- events

-- the node: the control element, and the peers that are open, each with the bytes of it that are left
pub record NodeState : Type 0 where
  pub control : ControlState
  pub peers : PeerMap

abbrev pub node : ControlState → PeerMap → NodeState
node control peers = record { control = control; peers = peers }

-- what the node is after an event, and the acts that it makes, in this order
pub record Move : Type 0 where
  pub state : NodeState
  pub acts : List Act

abbrev pub move : NodeState → List Act → Move
move state acts = record { state = state; acts = acts }

abbrev pub put_left : Option (List ℕ) → ℕ → PeerMap → PeerMap
put_left None peer peers = remove peers peer
put_left (Some left) peer peers = insert peers peer left

abbrev pub after_heard : Heard → ℕ → PeerMap → Move
after_heard h peer peers = move (node h.state (put_left h.left peer peers)) h.acts

-- a peer that is open begins anew; only the peers of elements can be open
abbrev pub on_opened : Option ℕ → ℕ → NodeState → Move
on_opened None peer n = move n []
on_opened (Some p) peer n = move (node n.control (insert n.peers peer [])) []

-- bytes of a peer that is not open give nothing
abbrev pub on_bytes_of : Option ℕ → Option (List ℕ) → ℕ → List ℕ → NodeState → Move
on_bytes_of None left peer piece n = move n []
on_bytes_of (Some p) None peer piece n = move n []
on_bytes_of (Some p) (Some left) peer piece n = after_heard (hears peer p (frames (left ++ piece)) (rest (left ++ piece)) n.control) peer n.peers

abbrev pub on_bytes : ℕ → List ℕ → NodeState → Move
on_bytes peer piece n = on_bytes_of (element_of n.control.elements peer) (get n.peers peer) peer piece n

abbrev pub after_turn : Turn → PeerMap → Move
after_turn t peers = move (node t.state peers) t.acts

abbrev pub on_event : HubEvent → NodeState → Move
on_event (event.Opened peer) n = on_opened (element_of n.control.elements peer) peer n
on_event (event.Bytes peer piece) n = on_bytes peer piece n
on_event (event.Closed peer) n = move (node n.control (remove n.peers peer)) []
on_event (event.Moment now) n = after_turn (passes now n.control) n.peers
on_event event.Over n = move n []

-- one event; a node that has ended takes none
abbrev pub node_step : NodeState → HubEvent → Move
node_step n e = if has_ended n.control then move n [] else on_event e n

-- all events, in their order
abbrev pub node_after : NodeState → List HubEvent → NodeState
node_after n [] = n
node_after n (e ∷ es) = node_after (node_step n e).state es

-- the acts of all events, where so many were taken before the first
abbrev pub acts_of : ℕ → NodeState → List HubEvent → List (ℕ × Act)
acts_of taken n [] = []
acts_of taken n (e ∷ es) = numbered (taken + 1) (node_step n e).acts ++ acts_of (taken + 1) (node_step n e).state es

-- a life of this control element that begins, over these elements and with this plan
abbrev pub first_control : ℕ → Life → List ℕ → List PlanTxn → ControlState
first_control ce life elements plan = record { ce = ce; life = life; core = new_master life.epoch elements; elements = elements; plan = plan; begun = []; forgot = false }

abbrev pub first_node : ℕ → Life → List ℕ → List PlanTxn → NodeState
first_node ce life elements plan = node (first_control ce life elements plan) empty
