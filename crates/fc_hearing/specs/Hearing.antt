-- What a control element hears in what an element sends it: each message as one of those that the protocol of transactions says. RFC 5810, sections 7.5 to 7.8 and 7.10; the protocol is this profile's own.
use Rattle.std.specs.Prelude.{◌≡◌, ◌≢◌, ℕ, Bool, true, false, List, [], ◌∷◌, ◌++◌, Option, Some, None}
use Rattle.std.specs.List.{AllByRecursion, flat_map, list_any}
use Rattle.fc_abiding.specs.Abiding.{seen}
use Rattle.fc_querying.specs.Answering.{IsReply, heard_of as says_at, is_by_store}
use Rattle.fc_querying.specs.Mastership.{HasMastership}
use Rattle.fc_asks.specs.Codes.{select_codes}
use Rattle.fc_asks.specs.Requests.{request_of}
use Rattle.fc_asks.specs.declared.life.Life.{Life}
use Rattle.fc_base.specs.Ids.{Txn}
use Rattle.fc_element.specs.ElementMachine.{id_of, step}
use Rattle.fc_element.specs.ElementState.{ElementState}
use Rattle.fc_element.specs.declared.input.ElIn.TheVariants.{Arrived}
use Rattle.fc_master.specs.Steps.{at_once_to, heard_of}
use Rattle.fc_msg.specs.MessageTypes as types
use Rattle.fc_msg.specs.Messages.{ProperSelects}
use Rattle.fc_msg.specs.declared.message.Message.{Message}
use Rattle.fc_msg.specs.declared.message.MsgBody.{MsgBody}
use Rattle.fc_msg.specs.declared.message.MsgBody.TheVariants as body
use Rattle.fc_path.specs.declared.oper.Oper.{Oper}
use Rattle.fc_path.specs.declared.oper.Oper.TheVariants as oper
use Rattle.fc_path.specs.declared.oper.Select.{Select}
use Rattle.fc_performing.specs.Sending.{out, responses}
use Rattle.fc_performing.specs.declared.out.Out.{Out}
use Rattle.fc_protocol.specs.ElementMachine.{hears, only_says}
use Rattle.fc_protocol.specs.MasterMachine.{Master as Core, at_once, heard}
use Rattle.fc_protocol.specs.Messages as said
use Rattle.fc_protocol.specs.Messages.{stamp}
use Rattle.fc_protocol.specs.Records as records
use Rattle.fc_protocol.specs.Records.{listed, state_of}
use Rattle.fc_querying.specs.Asking.{IsAssociated, IsTxn, heeded}
use Rattle.fc_transactions.specs.Order.{configured}
use Rattle.fc_transactions.specs.State.{TransactionState}

-- ---- one message
-- whether it is a wish for an association, as it is sent and as the protocol says it
abbrev pub is_wish : MsgBody → Bool
is_wish (body.Setup selects) = true
is_wish (body.SetupResponse result) = false
is_wish (body.Teardown reason) = false
is_wish (body.Config selects) = false
is_wish (body.ConfigResponse selects) = false
is_wish (body.Query selects) = false
is_wish (body.QueryResponse selects) = false
is_wish (body.Event selects) = false
is_wish body.Heartbeat = false

abbrev pub is_setup : said.Message → Bool
is_setup said.Setup = true
is_setup said.Beat = false
is_setup (said.Request s b) = false
is_setup (said.Reply s code) = false
is_setup (said.Holds s e ns) = false
is_setup (said.Tells s x e t) = false
is_setup (said.Unread s e) = false
is_setup said.Other_up = false
is_setup said.Other_down = false

-- Whatever a master has asked, and whoever it is: what it makes of the message m of an element is what the protocol's master makes of x. What it says at
-- once is of the same kind: something where the message is a wish for an association, and else nothing.
pub record IsHeardAs (m : Message) (x : said.Message) : Type 0 where
  pub core : (c : Core) (p : ℕ) → heard_of c p m.corr m.body ≡ heard c p x
  pub wish : is_wish m.body ≡ is_setup x
  pub calm : is_wish m.body ≡ false → (life : Life) (c : Core) (p : ℕ) → at_once_to life c p m m.body ≡ []
  pub silent : is_setup x ≡ false → (k : ℕ) (c : Core) (p : ℕ) → at_once k c p x ≡ []

-- all of them are heard as messages that are none of the protocol's
abbrev pub AreOthers : List Out → Type 0
AreOthers outs = AllByRecursion (λ (o : Out). IsHeardAs o.message said.Other_up) outs

-- ---- responses
-- whether a response shows a code for the operation: a TRCOMP has none there, and a COMMIT-RESPONSE is none of a Config
abbrev pub is_shown : Oper → Bool
is_shown (oper.Paths kind paths) = true
is_shown oper.Commit = true
is_shown oper.Trcomp = false
is_shown (oper.CommitResponse code) = false

-- The selects of a Config as a control element sends it: the grammar has them, and a response to some operation of them shows a code. RFC 5810, sections 7.1.5 and 7.6.1.
pub record IsAnswerable (selects : List Select) : Type 0 where
  pub proper : ProperSelects types.config selects
  pub shown : list_any (λ (s : Select). list_any is_shown s.opers) selects ≡ true

-- it is a response to a Config, and shows a code
abbrev pub ShowsCode : Message → Type 0
ShowsCode r = (selects : List Select) × (r.body ≡ body.ConfigResponse selects) × (flat_map select_codes selects ≢ [])

-- the response, if there is one, is the one that the protocol says and is heard as it, and there is none where the protocol says none
abbrev pub AreHeardAs : Option Message → Option said.Message → Type 0
AreHeardAs None None = Unit {0}
AreHeardAs None (Some x) = ⊥
AreHeardAs (Some r) None = ⊥
AreHeardAs (Some r) (Some x) = IsHeardAs r x × IsReply r x × ShowsCode r

-- What an element with this kept reply keeps and sends at a Config is heard as what the protocol says: first the response, and then what is none of its messages. The codes
-- are those of the operations.
pub record AnswersAreHeard (s : TransactionState) (before : Option said.Message) (peer : ℕ) (m : Message) (selects : List Select) (codes : List ℕ) : Type 0 where
  pub kept : AreHeardAs (configured s peer m selects).state.kept (says_at s before m selects codes).element.kept
  pub response : Option Message
  pub notices : List Out
  pub outs : (configured s peer m selects).outs ≡ responses peer response ++ notices
  pub others : AreOthers notices
  pub says : (is_by_store s m selects ≡ true → HasMastership s.ledger.store) → AreHeardAs response (says_at s before m selects codes).says

-- ---- answers to the two questions
-- The element answers the message, in which this is asked, at once and by one message; of what Configs change nothing is changed; and the answer is heard
-- as what the protocol says, this message.
pub record IsAnsweredAs (s : ElementState) (peer : ℕ) (m : Message) (b : said.Body) (x : said.Message) : Type 0 where
  pub answer : Message
  pub outs : (step s (Arrived peer m)).outs ≡ out peer answer ∷ []
  pub stays : (step s (Arrived peer m)).state.transactions ≡ s.transactions
  pub heard : IsHeardAs answer x
  pub said : hears (id_of s) (seen s.transactions) m.source heeded (stamp m.corr) b ≡ only_says (seen s.transactions) (Some x)

-- the questions of any life of an associated control element, over any peer
abbrev pub HeldIsHeard : ElementState → Type 0
HeldIsHeard s =
    (peer corr : ℕ) (life : Life) → IsAssociated s life.ce
    → IsAnsweredAs s peer (request_of life (id_of s) corr said.Ask) said.Ask (said.Holds (stamp corr) s.transactions.epoch (listed s.transactions.ledger.records.entries))

abbrev pub RecordsAreHeard : ElementState → Type 0
RecordsAreHeard s =
    (peer corr : ℕ) (life : Life) (x : Txn) → IsAssociated s life.ce → IsTxn x
    → IsAnsweredAs s peer (request_of life (id_of s) corr (said.Ask_record x)) (said.Ask_record x) (said.Tells (stamp corr) x s.transactions.epoch (records.seen (state_of x s.transactions.ledger.records.entries)))
