-- A network element as the network of the protocol sees it: each element is one of the protocol's, each life of a control element its master,
-- and each message that was sent the protocol's at the same place. This profile's own.
use Rattle.std.specs.Prelude.{◌≡◌, ℕ, Bool, true, false, ⊤, List, map, Option, Some, None}
use Rattle.std.specs.List.{AllByRecursion}
use Rattle.fc_abiding.specs.Abiding.{IsLike}
use Rattle.fc_abiding.specs.Runs.{Came, life_of}
use Rattle.fc_querying.specs.Answering.{AreSame}
use Rattle.fc_asks.specs.Requests.{request_of}
use Rattle.fc_asks.specs.declared.life.Life.{Life}
use Rattle.fc_base.specs.Ids.{Txn}
use Rattle.fc_blocks.specs.Opening.{opened_store}
use Rattle.fc_exec.specs.declared.operations.Operation.{Operation}
use Rattle.fc_folding.specs.Folding.{OfControls}
use Rattle.fc_hearing.specs.Hearing.{AreHeardAs, IsAnswerable, IsHeardAs}
use Rattle.fc_heeding.specs.Heeding.{AsksFor}
use Rattle.fc_machine.specs.Trace.{Fact, added, bare_facts, completed}
use Rattle.fc_msg.specs.declared.message.Message.{Message}
use Rattle.fc_msg.specs.declared.message.MsgBody.TheVariants.{SetupResponse}
use Rattle.fc_numbering.specs.Numbering.{IsInNumbers, TellsNumbers}
use Rattle.fc_protocol.specs.Collections.{among}
use Rattle.fc_protocol.specs.ElementMachine.{ElementState}
use Rattle.fc_protocol.specs.MasterMachine.{Master}
use Rattle.fc_protocol.specs.Messages as said
use Rattle.fc_protocol.specs.Messages.{Body, Ask_record, Sent, Stamp, is_query, stamp}
use Rattle.fc_protocol.specs.WorldSteps.{World, first_world, run}
use Rattle.fc_protocol.specs.WorldSteps as network
use Rattle.fc_querying.specs.Asking.{IsTxn}
use Rattle.fc_store.specs.Stores.{Pairwise}
use Rattle.fc_wellformed.specs.WellFormed.{SpeaksClearly}
use Rattle.fc_world.specs.Lookups.{controller_in, ids_of}
use Rattle.fc_world.specs.Settings.{node_id}
use Rattle.fc_world.specs.Worlds.{Ruling, Standing, WorldState}
use Rattle.fc_world.specs.declared.nodes.Node.{Node}
use Rattle.fc_world.specs.declared.sent.Parcel.{Parcel}
use Rattle.fc_world.specs.declared.sent.Parcel.TheVariants.{Upward, Downward}
use Rattle.fc_world.specs.declared.setting.Setting.{Setting}
use Rattle.fc_rounds.specs.Networks.{ce_of, network_of}

-- ---- what has happened
-- two lists of facts tell the same of one element
pub record TellSame (p : ℕ) (fs gs : List (Fact Operation)) : Type 0 where
  pub completes : completed p fs ≡ completed p gs
  pub adds : (x : Txn) → added p x fs ≡ added p x gs

-- ---- elements
-- An element whose transactions are what some Configs of control elements made of a new one, of which all that has happened tells the same as
-- what happened at these; it is the protocol's element, and what it keeps to answer the last of them again is heard as what that one keeps.
pub record IsElement (s : Setting) (fs : List (Fact Operation)) (el : ElementState) (n : Node) : Type 0 where
  pub ce : ℕ
  pub came : List Came
  pub of_controls : OfControls came
  pub life : n.element.transactions ≡ (life_of n.id ce (opened_store s.library s.instances) came).state
  pub facts : TellSame n.id fs (life_of n.id ce (opened_store s.library s.instances) came).facts
  pub like : IsLike n.element.transactions el
  pub kept : AreSame n.element.transactions.kept el.kept
  pub heard : AreHeardAs n.element.transactions.kept el.kept

-- ---- control elements
-- a life of the control element of this ID, which says nothing but what can be encoded, in numbers that fit
pub record IsLife (ce : ℕ) (r : Ruling) : Type 0 where
  pub own : r.life.ce ≡ ce
  pub clear : SpeaksClearly r.life r.core
  pub numbers : IsInNumbers r.core

abbrev pub RunsSo : ℕ → Option Ruling → Type 0
RunsSo ce None = ⊤
RunsSo ce (Some r) = IsLife ce r

abbrev pub core_in : Option Ruling → Option Master
core_in None = None
core_in (Some r) = Some r.core

-- a control element, where there is one, by its master and the rounds that were used
abbrev pub IsController : Option Standing → Option Master → List ℕ → Type 0
IsController None m used = (m ≡ None)
IsController (Some c) m used = (m ≡ core_in c.running) × ((r : ℕ) → among r used ≡ among r c.used) × RunsSo c.ce c.running

-- ---- messages
-- a Config that asks for this, in an execution mode, whose response shows a code
pub record AsksConfig (m : Message) (st : Stamp) (b : Body) : Type 0 where
  pub asks : AsksFor m st b
  pub answerable : IsAnswerable asks.selects
  pub mode : m.flags.em ≡ 1

-- what a life asks: such a Config, or one of its questions
abbrev pub AsksSo : Bool → Message → Stamp → Body → Type 0
AsksSo false m st b = AsksConfig m st b
AsksSo true m st b = (life : Life) × (m ≡ request_of life m.dest m.corr b)

-- the transaction that it asks of has a name
abbrev pub NamesTxn : Body → Type 0
NamesTxn (Ask_record x) = IsTxn x
NamesTxn b = ⊤

pub record IsRequest (s : Setting) (c f : ℕ) (m : Message) (st : Stamp) (b : Body) : Type 0 where
  pub source : m.source ≡ ce_of s c
  pub dest : m.dest ≡ f
  pub stamped : stamp m.corr ≡ st
  pub asks : AsksSo (is_query b) m st b
  pub named : NamesTxn b

-- what goes down to an element is a request of a life, or the answer to a wish for an association
abbrev pub GoesDownAs : Setting → ℕ → ℕ → Message → said.Message → Type 0
GoesDownAs s c f m said.Setup = ⊥
GoesDownAs s c f m said.Beat = ⊥
GoesDownAs s c f m (said.Request st b) = IsRequest s c f m st b
GoesDownAs s c f m (said.Reply st code) = ⊥
GoesDownAs s c f m (said.Holds st e ns) = ⊥
GoesDownAs s c f m (said.Tells st x e t) = ⊥
GoesDownAs s c f m (said.Unread st e) = ⊥
GoesDownAs s c f m said.Other_up = ⊥
GoesDownAs s c f m said.Other_down = (result : ℕ) × (m.body ≡ SetupResponse result)

-- what an element says to a control element
abbrev pub IsUpward : said.Message → Type 0
IsUpward said.Setup = ⊤
IsUpward said.Beat = ⊤
IsUpward (said.Request st b) = ⊥
IsUpward (said.Reply st code) = ⊤
IsUpward (said.Holds st e ns) = ⊤
IsUpward (said.Tells st x e t) = ⊤
IsUpward (said.Unread st e) = ⊤
IsUpward said.Other_up = ⊤
IsUpward said.Other_down = ⊥

-- what goes up is heard as what the protocol says
abbrev pub GoesUpAs : Message → said.Message → Type 0
GoesUpAs m x = IsHeardAs m x × IsUpward x × TellsNumbers x

abbrev pub IsSent : Setting → Parcel → Sent → Type 0
IsSent s (Upward f c m) t = (t.element ≡ f) × (t.controller ≡ c) × GoesUpAs m t.message
IsSent s (Downward c f m) t = (t.element ≡ f) × (t.controller ≡ c) × GoesDownAs s c f m t.message

-- ---- all together
-- a network element with all that has happened there, the newest first, and a world of the protocol
pub record Follows (s : Setting) (w : WorldState) (fs : List (Fact Operation)) (a : World) : Type 0 where
  pub network : a.network ≡ network_of s
  pub ids : ids_of w.nodes ≡ map node_id s.elements
  pub ces : map (λ (c : Standing). c.ce) w.controllers ≡ s.controllers
  pub elements : AllByRecursion (λ (n : Node). IsElement s fs (a.at n.id) n) w.nodes
  pub controllers : (c : ℕ) → IsController (controller_in c w.controllers) (a.masters c) (a.used c)
  pub sent : Pairwise (IsSent s) w.sent a.sent
  pub facts : bare_facts fs ≡ a.facts

-- it is a run of the protocol's network
pub record IsRun (s : Setting) (w : WorldState) (fs : List (Fact Operation)) : Type 0 where
  pub steps : List network.Step
  pub follows : Follows s w fs (run steps (first_world (network_of s)))

-- ---- one step
-- what follows a network goes on to: some steps of the network lead on
pub record GoesOn (s : Setting) (w : WorldState) (fs : List (Fact Operation)) (a : World) : Type 0 where
  pub steps : List network.Step
  pub follows : Follows s w fs (run steps a)
