-- What an element is and sends over a whole list of inputs, in the words of the field (RFC 5810, sections 4.4 and 7.10; the silence
-- that is allowed is this profile's own).
use Rattle.std.specs.Prelude.{◌≡◌, ◌⊎◌, ⊤, ℕ, ◌==◌, ◌&&◌, not, max, Bool, true, false, if◌then◌else◌, List, [], ◌∷◌, ◌++◌, Option, Some, None}
use Rattle.std.specs.FinMap.{contains_key, entries, get, remove}
use Rattle.fc_assoc.specs.declared.heard.Heard.{Heard}
use Rattle.fc_assoc.specs.Associations.{AssociationMap}
use Rattle.fc_events.specs.Telling.{primary_down}
use Rattle.fc_events.specs.declared.subscriptions.Notice.{Notice}
use Rattle.fc_blocks.specs.Settings.{fe_policy}
use Rattle.fc_exec.specs.declared.operations.Operation.{Operation}
use Rattle.fc_machine.specs.Trace.{Fact}
use Rattle.fc_msg.specs.Messages.{message_fits}
use Rattle.fc_msg.specs.declared.message.Message.{Message}
use Rattle.fc_msg.specs.declared.message.MsgBody.{MsgBody}
use Rattle.fc_msg.specs.declared.message.MsgBody.TheVariants.{SetupResponse, Teardown, Config, Query, Heartbeat}
use Rattle.fc_path.specs.Results.{results_fit}
use Rattle.fc_path.specs.declared.oper.Select.{Select}
use Rattle.fc_performing.specs.Notices.{notice_message, route}
use Rattle.fc_performing.specs.Sending.{out}
use Rattle.fc_performing.specs.declared.out.Out.{Out}
use Rattle.fc_phases.specs.declared.asked.Asked.{Asked}
use Rattle.fc_protocol.specs.declared.verdict.Verdict.{Verdict}
use Rattle.fc_protocol.specs.declared.verdict.Verdict.TheVariants as verdict
use Rattle.fc_reply.specs.Replies.{reply}
use Rattle.fc_transactions.specs.Order.{asked_of, configured, judged, unclaimed}
use Rattle.fc_transactions.specs.Phases.{Did, acts}
use Rattle.fc_transactions.specs.State.{TransactionState}
use Rattle.fc_element.specs.declared.input.ElIn.{ElIn}
use Rattle.fc_element.specs.declared.input.ElIn.TheVariants.{Opened, Arrived, Closed, Moment}
use Rattle.fc_element.specs.ElementState.{ElementState}
use Rattle.fc_element.specs.ElementMachine.{step, setup_of, answer_to, ce_of, has_lost, heartbeat_of, id_of, is_associated, is_ce, is_own, ledger_of, query_answer, remaining_of, settled_in}

-- what the element is after inputs
abbrev pub after : ElementState → List ElIn → ElementState
after s [] = s
after s (i ∷ is) = after (step s i).state is

-- what it sends at them
abbrev pub sent : ElementState → List ElIn → List Out
sent s [] = []
sent s (i ∷ is) = (step s i).outs ++ sent (step s i).state is

-- what has happened at them to what Configs may change, the newest first
abbrev pub facts : ElementState → List ElIn → List (Fact Operation)
facts s [] = []
facts s (i ∷ is) = facts (step s i).state is ++ (step s i).facts

-- ---- Configs
-- a Config that is taken: its peer, and the message with its selects
pub record Taken : Type 0 where
  pub peer : ℕ
  pub message : Message
  pub selects : List Select

abbrev pub taken_if : Bool → Taken → List Taken
taken_if true t = t ∷ []
taken_if false t = []

-- whether a Config is for the element, has an execution mode, comes from a control element that has an association, and can be answered
abbrev pub is_taken : ElementState → Message → List Select → Bool
is_taken s m selects = is_associated s m && ((results_fit selects && message_fits m) && (is_own s m && not (m.flags.em == 0)))

abbrev pub taken_body : ElementState → ℕ → Message → MsgBody → List Taken
taken_body s peer m (Config selects) = taken_if (is_taken s m selects) (record { peer = peer; message = m; selects = selects })
taken_body s peer m _ = []

-- the Config that is taken at an input, if one is
abbrev pub taken_at : ElementState → ElIn → List Taken
taken_at s (Opened peer) = []
taken_at s (Arrived peer m) = if is_ce m.source then taken_body s peer m m.body else []
taken_at s (Closed peer) = []
taken_at s (Moment moment) = []

-- those that are taken at inputs, in their order
abbrev pub taken : ElementState → List ElIn → List Taken
taken s [] = []
taken s (i ∷ is) = taken_at s i ++ taken (step s i).state is

-- what Configs make, one after the other, of what they may change, and what happens to it, the newest first
pub record Ledgered : Type 0 where
  pub state : TransactionState
  pub facts : List (Fact Operation)

abbrev pub then_happens : Ledgered → List (Fact Operation) → Ledgered
then_happens l before = record { state = l.state; facts = l.facts ++ before }

abbrev pub ledgered : TransactionState → List Taken → Ledgered
ledgered t [] = record { state = t; facts = [] }
ledgered t (c ∷ cs) = then_happens (ledgered (configured t c.peer c.message c.selects).state cs) (configured t c.peer c.message c.selects).facts

-- the control element has an association
abbrev pub IsAssociated : ElementState → ℕ → Type 0
IsAssociated s ce = contains_key s.associations ce ≡ true

-- a response by which the control element accepts an association with the element
abbrev pub Accepts : ℕ → ℕ → Message → Type 0
Accepts id ce m = (m.source ≡ ce) × (m.dest ≡ id) × (m.body ≡ SetupResponse 0)

-- among the inputs is a response by which the control element accepts an association
abbrev pub WasAccepted : ElementState → ℕ → List ElIn → Type 0
WasAccepted s ce is =
    (before : List ElIn) × (peer : ℕ) × (m : Message) × (behind : List ElIn) × (is ≡ before ++ Arrived peer m ∷ behind) × Accepts (id_of s) ce m

-- a message of the control element came over this peer, and it was that moment then
abbrev pub WasHeard : ElementState → ℕ → Heard → List ElIn → Type 0
WasHeard s ce h is =
    (before : List ElIn) × (m : Message) × (behind : List ElIn) × (is ≡ before ++ Arrived h.peer m ∷ behind) × (m.source ≡ ce)
    × (h.last ≡ (after s before).clock)

-- the control element was heard last at this moment and over this peer
abbrev pub WasLast : ElementState → ℕ → Heard → Type 0
WasLast s ce h = get s.associations ce ≡ Some h

-- inputs that tell no moment
abbrev pub IsNoMoment : ElIn → Type 0
IsNoMoment (Opened peer) = ⊤
IsNoMoment (Arrived peer m) = ⊤
IsNoMoment (Closed peer) = ⊤
IsNoMoment (Moment moment) = ⊥

-- a heartbeat that asks to be answered always
abbrev pub Asks : Message → Type 0
Asks m = (m.body ≡ Heartbeat) × (m.flags.ack ≡ 3)

-- the answer to a heartbeat, to a query and to a Config
abbrev pub AnswersHeartbeat : ℕ → Message → Out → Type 0
AnswersHeartbeat peer m o = Asks m × (o ≡ out peer (answer_to m))

abbrev pub AnswersQuery : ElementState → ℕ → Message → Out → Type 0
AnswersQuery s peer m o = (selects : List Select) × (m.body ≡ Query selects) × (o ≡ out peer (query_answer s m selects))

abbrev pub AnswersConfig : ℕ → Message → Out → Type 0
AnswersConfig peer m o =
    (selects : List Select) × (codes : List ℕ) × (m.body ≡ Config selects) × (reply m selects codes ≡ Some o.message) × (o.peer ≡ peer)

-- the kept response, once more, to a Config of the control element that has claimed the element
abbrev pub Repeats : ElementState → ℕ → Message → Out → Type 0
Repeats s peer m o =
    (selects : List Select) × (r : Message) × (m.body ≡ Config selects) × (m.source ≡ s.transactions.master) × (s.transactions.kept ≡ Some r) × (o ≡ out peer r)

-- what a Config has done, where it was the next one, or no life has claimed the element
abbrev pub did_by : TransactionState → Message → List Select → Asked → Verdict → Option Did
did_by t m selects a (verdict.Claim e) = None
did_by t m selects a verdict.Unclaimed = Some (unclaimed t m selects)
did_by t m selects a verdict.Stale = None
did_by t m selects a verdict.Again = None
did_by t m selects a verdict.Gap = None
did_by t m selects a verdict.Next = Some (acts t.id t.epoch t.ledger m selects a)

abbrev pub did_at : TransactionState → Message → List Select → Option Did
did_at t m selects = did_by t m selects (asked_of m selects) (judged t m (asked_of m selects))

-- the control element that may configure the element: that of the life that has claimed it, and while none has, the one that it began with
abbrev pub may_configure : ElementState → ℕ
may_configure s = if s.transactions.epoch == 0 then ce_of s else s.transactions.master

-- a notice of an event that happened when a Config of the control element that may configure the element was done
abbrev pub TellsEvent : ElementState → ℕ → Message → Out → Type 0
TellsEvent s peer m o =
    (selects : List Select) × (d : Did) × (n : Notice) × (front : List Notice) × (back : List Notice) × (m.body ≡ Config selects) × (m.source ≡ may_configure s)
    × (did_at s.transactions m selects ≡ Some d) × (d.notices ≡ front ++ n ∷ back)
    × (o ≡ out peer (notice_message d.ledger.store.library (route (id_of s) m.source peer) n))

-- a notice that the association of the control element that may configure the element has ended, to one of those that remain, where that event is registered
abbrev pub TellsDown : ElementState → AssociationMap → Out → Type 0
TellsDown s remaining o =
    (ce : ℕ) × (h : Heard) × (n : Notice) × (front : List (ℕ × Heard)) × (back : List (ℕ × Heard)) × (entries remaining ≡ front ++ (ce, h) ∷ back)
    × (has_lost s remaining ≡ true) × (primary_down ce (ledger_of s).subscriptions ≡ Some n) × (o ≡ out h.peer (notice_message (ledger_of s).store.library (route (id_of s) ce h.peer) n))

-- the same at a teardown
abbrev pub TellsTeardown : ElementState → Message → Out → Type 0
TellsTeardown s m o = (reason : ℕ) × (m.body ≡ Teardown reason) × TellsDown s (remove s.associations m.source) o

-- a heartbeat to one of those that are associated now
abbrev pub Beats : ElementState → AssociationMap → Out → Type 0
Beats s remaining o =
    (fe_policy (settled_in s) ≡ 1) × (ce : ℕ) × (h : Heard) × (front : List (ℕ × Heard)) × (back : List (ℕ × Heard)) × (entries remaining ≡ front ++ (ce, h) ∷ back)
    × (o ≡ out h.peer (heartbeat_of (id_of s) ce))

-- What is sent at an input: a peer that opens is asked for an association; a heartbeat of an associated control element that asks is
-- answered, and so are a query and a Config of it, one that comes again with the response that was kept; a Config of the control element that
-- may configure the element brings notices of events; its end, by a teardown or by silence, is told to those that remain; and at a moment an element that sends heartbeats sends them to the control elements that are
-- associated then.
abbrev pub IsCalledFor : ElementState → ElIn → Out → Type 0
IsCalledFor s (Opened peer) o = o ≡ out peer (setup_of (id_of s))
IsCalledFor s (Arrived peer m) o =
    IsAssociated s m.source
    × (AnswersHeartbeat peer m o ⊎ (AnswersQuery s peer m o ⊎ (AnswersConfig peer m o ⊎ (Repeats s peer m o ⊎ (TellsEvent s peer m o ⊎ TellsTeardown s m o)))))
IsCalledFor s (Closed peer) o = ⊥
IsCalledFor s (Moment moment) o =
    TellsDown s (remaining_of s (max s.clock moment)) o ⊎ Beats s (remaining_of s (max s.clock moment)) o

-- a message is called for at one of the inputs
abbrev pub WasCalledFor : ElementState → List ElIn → Out → Type 0
WasCalledFor s is o =
    (before : List ElIn) × (i : ElIn) × (behind : List ElIn) × (is ≡ before ++ i ∷ behind) × IsCalledFor (after s before) i o
