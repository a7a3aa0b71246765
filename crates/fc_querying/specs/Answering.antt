-- An element that goes by its fence as the protocol of transactions sees it, its kept response too: RFC 5810, sections 6.1 and 7.6.2. Fence, claims and the kept response are this profile's own.
use Rattle.std.specs.Prelude.{◌≡◌, ◌≢◌, ◌⊎◌, ℕ, ◌==◌, ◌&&◌, Bool, true, false, List, [], ◌++◌, Option, Some, None}
use Rattle.std.specs.List.{flat_map}
use Rattle.fc_abiding.specs.Abiding.{IsLike}
use Rattle.fc_abiding.specs.Responses.{telling}
use Rattle.fc_abiding.specs.Runs.{Life}
use Rattle.fc_asks.specs.Codes.{code_of, select_codes}
use Rattle.fc_machine.specs.Trace.{bare_facts}
use Rattle.fc_msg.specs.declared.message.Message.{Message}
use Rattle.fc_msg.specs.declared.message.MsgBody.{MsgBody}
use Rattle.fc_msg.specs.declared.message.MsgBody.TheVariants as body
use Rattle.fc_path.specs.declared.oper.Select.{Select}
use Rattle.fc_events.specs.declared.subscriptions.Notice.{Notice}
use Rattle.fc_performing.specs.Notices.{notice_outs, route}
use Rattle.fc_performing.specs.Sending.{responses}
use Rattle.fc_performing.specs.declared.out.Out.{Out}
use Rattle.fc_phases.specs.Asking.{body_of}
use Rattle.fc_phases.specs.declared.asked.Asked.{Asked}
use Rattle.fc_phases.specs.declared.asked.Asked.TheVariants.{Claim, Floor, Plain, Start, Change, Commit, Complete as Completing, Abort as Aborting, Malformed}
use Rattle.fc_protocol.specs.ElementMachine.{Circumstance, Heard, hears, new_element}
use Rattle.fc_protocol.specs.ElementMachine as protocol
use Rattle.fc_protocol.specs.Messages as said
use Rattle.fc_protocol.specs.Messages.{stamp}
use Rattle.fc_protocol.specs.OneElement.{Arrival, hears_all}
use Rattle.fc_protocol.specs.declared.verdict.Verdict.{Verdict}
use Rattle.fc_protocol.specs.declared.verdict.Verdict.TheVariants.{Claim as Claims, Unclaimed, Stale, Again, Gap, Next}
use Rattle.fc_reply.specs.Replies.{reply}
use Rattle.fc_transactions.specs.Order.{asked_of, configured, judged}
use Rattle.fc_transactions.specs.State.{TransactionState}
use Rattle.fc_types.specs.declared.class.Class.{Class}
use Rattle.fc_querying.specs.Mastership.{HasMastership}

-- the codes that a control element reads in a message
abbrev pub codes_in : MsgBody → List ℕ
codes_in (body.Setup selects) = []
codes_in (body.SetupResponse result) = []
codes_in (body.Teardown reason) = []
codes_in (body.Config selects) = []
codes_in (body.ConfigResponse selects) = flat_map select_codes selects
codes_in (body.Query selects) = []
codes_in (body.QueryResponse selects) = []
codes_in (body.Event selects) = []
codes_in body.Heartbeat = []

-- a response as the protocol says it: its correlator and, where it shows a code, the one that counts
abbrev pub IsReply : Message → said.Message → Type 0
IsReply r x = (code : ℕ) × (x ≡ said.Reply (stamp r.corr) code) × (codes_in r.body ≢ [] → code ≡ code_of (codes_in r.body))

-- and so that none is sent
abbrev pub AreSame : Option Message → Option said.Message → Type 0
AreSame None None = Unit {0}
AreSame None (Some x) = ⊥
AreSame (Some r) None = ⊥
AreSame (Some r) (Some x) = IsReply r x

-- the element with this kept reply
abbrev pub keeping : TransactionState → Option said.Message → protocol.ElementState
keeping s kept = record {
  epoch = s.epoch;
  master = s.master;
  sequence = s.sequence;
  kept = kept;
  records = s.ledger.records.entries;
  floor = s.ledger.records.floor;
  ce = s.ce;
  last_ce = s.last_ce;
}

-- Whether it is a Config, of the control element of an element that no life has claimed, that writes the epoch or the floor and is no claim: what has the shape of a claim or of a floor. Its code is that of the store.
abbrev pub is_shaped : Bool → Asked → Bool
is_shaped first (Claim word) = first
is_shaped first (Floor f) = true
is_shaped first Plain = false
is_shaped first (Start o) = false
is_shaped first (Change x) = false
is_shaped first (Commit x) = false
is_shaped first (Completing x) = false
is_shaped first (Aborting x) = false
is_shaped first Malformed = false

abbrev pub is_unclaimed : Verdict → Bool
is_unclaimed (Claims e) = false
is_unclaimed Unclaimed = true
is_unclaimed Stale = false
is_unclaimed Again = false
is_unclaimed Gap = false
is_unclaimed Next = false

abbrev pub is_by_store : TransactionState → Message → List Select → Bool
is_by_store s m selects = is_unclaimed (judged s m (asked_of m selects)) && (m.source == s.ce && is_shaped ((stamp m.corr).count == 0) (asked_of m selects))

-- what the protocol says of it at an element with this kept reply, in the circumstance that the state, the message and the codes of its operations make
abbrev pub heard_of : TransactionState → Option said.Message → Message → List Select → List ℕ → Heard
heard_of s before m selects codes = hears s.id (keeping s before) m.source (telling s.ledger m selects (asked_of m selects) codes) (stamp m.corr) (body_of (stamp m.corr).count (asked_of m selects))

-- what tells of events to the sender of a message, and nothing else
abbrev pub AreNotices : TransactionState → ℕ → Message → List Out → Type 0
AreNotices s peer m outs = (library : List Class) × (notices : List Notice) × (outs ≡ notice_outs library (route s.id m.source peer) notices)

-- what an element with this kept reply becomes and says at a Config is what the protocol says: first the response, and then notices of events alone. The reply that it keeps, and the response, are the one with
-- these codes, or the one that it kept before.
pub record Answers (s : TransactionState) (before : Option said.Message) (peer : ℕ) (m : Message) (selects : List Select) (codes : List ℕ) : Type 0 where
  pub state : IsLike (configured s peer m selects).state (heard_of s before m selects codes).element
  pub kept : AreSame (configured s peer m selects).state.kept (heard_of s before m selects codes).element.kept
  pub keeps : ((configured s peer m selects).state.kept ≡ reply m selects codes) ⊎ ((configured s peer m selects).state.kept ≡ s.kept)
  pub facts : bare_facts (configured s peer m selects).facts ≡ (heard_of s before m selects codes).facts
  pub response : Option Message
  pub sends : (response ≡ reply m selects codes) ⊎ (response ≡ s.kept)
  pub notices : List Out
  pub outs : (configured s peer m selects).outs ≡ responses peer response ++ notices
  pub told : AreNotices s peer m notices
  pub says : (is_by_store s m selects ≡ true → HasMastership s.ledger.store) → AreSame response (heard_of s before m selects codes).says

-- the life is that of an element of the protocol which hears some requests, and keeps the same reply
abbrev pub IsHeardWhole : ℕ → ℕ → Life → Type 0
IsHeardWhole id ce life =
    (arrivals : List Arrival) × IsLike life.state (hears_all id arrivals (new_element ce) []).element × AreSame life.state.kept (hears_all id arrivals (new_element ce) []).element.kept
    × (bare_facts life.facts ≡ (hears_all id arrivals (new_element ce) []).facts)
