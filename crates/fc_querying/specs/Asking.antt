-- What an element answers to the two questions of a master: RFC 5810, section 7.7. The questions, and what the answers say, are this profile's own.
use Rattle.std.specs.Prelude.{◌≡◌, ◌<◌, ◌≤◌, ◌^◌, ℕ, true, false, List, [], ◌∷◌, length, Some}
use Rattle.std.specs.FinMap.{contains_key}
use Rattle.std.specs.List.{AllByRecursion}
use Rattle.fc_abiding.specs.Abiding.{seen}
use Rattle.fc_querying.specs.Mastership.{HasMastership}
use Rattle.fc_asks.specs.Queries.{query_meaning}
use Rattle.fc_asks.specs.Requests.{asks_held, asks_record, request_of}
use Rattle.fc_asks.specs.declared.life.Life.{Life}
use Rattle.fc_base.specs.Ids.{Txn}
use Rattle.fc_blocks.specs.Queries.{told_selects}
use Rattle.fc_element.specs.declared.input.ElIn.TheVariants.{Arrived}
use Rattle.fc_element.specs.ElementMachine.{answer_with, id_of, is_ce, step}
use Rattle.fc_element.specs.ElementState.{ElementState, told_of}
use Rattle.fc_lfbs.specs.LiveValues.{told_value}
use Rattle.fc_msg.specs.declared.message.Message.{Message}
use Rattle.fc_msg.specs.declared.message.MsgBody.TheVariants.{QueryResponse}
use Rattle.fc_path.specs.declared.oper.Oper.TheVariants as oper
use Rattle.fc_path.specs.declared.oper.OperKind.TheVariants as kinds
use Rattle.fc_path.specs.declared.oper.Select.{Select}
use Rattle.fc_path.specs.declared.path.PathData.{PathData}
use Rattle.fc_performing.specs.Sending.{out}
use Rattle.fc_plans.specs.Mastership.{on_mastership}
use Rattle.fc_protocol.specs.ElementMachine.{Circumstance, hears, only_says, rises_above}
use Rattle.fc_protocol.specs.Messages.{is_name, stamp}
use Rattle.fc_protocol.specs.Messages as said
use Rattle.fc_protocol.specs.OneElement.{Distinct, Limited}
use Rattle.fc_protocol.specs.Records as records
use Rattle.fc_protocol.specs.Records.{listed, state_of}
use Rattle.fc_protocol.specs.declared.answers.TxnEntry.{TxnEntry}
use Rattle.fc_transactions.specs.State.{TransactionState}

-- ---- what is asked
-- a Query of these at the instance 1 of Mastership
abbrev pub gets : List PathData → List Select
gets paths = on_mastership (oper.Paths kinds.Get paths ∷ []) ∷ []

-- the question for the epoch and for what is held, and that for the epoch and for one record
abbrev pub held_query : List Select
held_query = gets asks_held

abbrev pub record_query : Txn → List Select
record_query x = gets (asks_record x)

-- ---- who can be asked
-- a transaction that a master can have begun, in numbers of 32 bits
pub record IsTxn (x : Txn) : Type 0 where
  pub name : is_name x ≡ true
  pub number : x.number < 2 ^ 32

-- a record of one: at most 64 participants, rising IDs of elements
pub record IsTold (n : TxnEntry) : Type 0 where
  pub txn : IsTxn n.txn
  pub few : length n.participants ≤ 64
  pub rising : rises_above 0 n.participants ≡ true

-- the records of an element, each of one transaction, no two of the same, and no more than there may be
pub record AreTold (ns : List TxnEntry) : Type 0 where
  pub each : AllByRecursion IsTold ns
  pub distinct : Distinct ns
  pub limited : Limited ns

-- An element that can be asked: its store has class Mastership as each element has it, its epoch is a number of 32 bits, and its records are such.
pub record IsAskable (s : TransactionState) : Type 0 where
  pub mastership : HasMastership s.ledger.store
  pub epoch : s.epoch < 2 ^ 32
  pub records : AreTold s.ledger.records.entries

-- a control element with which it is associated
pub record IsAssociated (s : ElementState) (ce : ℕ) : Type 0 where
  pub control : is_ce ce ≡ true
  pub associated : contains_key s.associations ce ≡ true

-- ---- what it answers
-- the selects of its answer to a Query
abbrev pub answer_to : TransactionState → List Select → List Select
answer_to s selects = told_selects (told_value (told_of s)) s.ledger.store s.ledger.subscriptions selects

-- a message that is heard and fits, and of which nothing else is to be said
abbrev pub heeded : Circumstance
heeded = record { unheard = false; misfit = 0; quiet = false; rest = 0; shown = 0; plain = 0; touches = []; strange = false; shape = 0; others = [] }

-- The element answers the message, in which this is asked, at once and by one message; of what Configs change nothing is changed; and the
-- answer is read as what the protocol says, this message.
pub record IsAnswered (s : ElementState) (peer : ℕ) (m : Message) (b : said.Body) (x : said.Message) : Type 0 where
  pub selects : List Select
  pub outs : (step s (Arrived peer m)).outs ≡ out peer (answer_with m (QueryResponse selects)) ∷ []
  pub stays : (step s (Arrived peer m)).state.transactions ≡ s.transactions
  pub read : query_meaning b (stamp m.corr) selects ≡ x
  pub said : hears (id_of s) (seen s.transactions) m.source heeded (stamp m.corr) b ≡ only_says (seen s.transactions) (Some x)

-- the questions of any life of an associated control element, over any peer
abbrev pub AnswersHeld : ElementState → Type 0
AnswersHeld s =
    (peer corr : ℕ) (life : Life) → IsAssociated s life.ce
    → IsAnswered s peer (request_of life (id_of s) corr said.Ask) said.Ask (said.Holds (stamp corr) s.transactions.epoch (listed s.transactions.ledger.records.entries))

abbrev pub AnswersRecords : ElementState → Type 0
AnswersRecords s =
    (peer corr : ℕ) (life : Life) (x : Txn) → IsAssociated s life.ce → IsTxn x
    → IsAnswered s peer (request_of life (id_of s) corr (said.Ask_record x)) (said.Ask_record x) (said.Tells (stamp corr) x s.transactions.epoch (records.seen (state_of x s.transactions.ledger.records.entries)))
