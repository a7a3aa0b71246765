-- The epoch of an element and its records name what can be.
use Rattle.std.proofs.Common.{◌≡◌, ℕ, zero, suc, ◌+◌, Bool, true, false, cond, ◌&&◌, ◌==◌, ◌%◌, nat_lt, not, List, [], ◌∷◌, Option, Some, None, refl, sym, ap, ◌∙◌}
use Rattle.std.proofs.lemmas.Bool.{and_parts, eqb-true}
use Rattle.std.specs.Option.{is_some}
use Rattle.fc_base.specs.Ids.{Txn}
use Rattle.fc_holding.specs.Held.{has_all, scope_of, state_at, waits}
use Rattle.fc_machine.specs.ElementState.{first_code}
use Rattle.fc_machine.specs.Transactions.{is_completed}
use Rattle.fc_modes.specs.Modes.{Outcome}
use Rattle.fc_exec.specs.declared.operations.Operation.{Operation}
use Rattle.fc_events.specs.declared.subscriptions.Notice.{Notice}
use Rattle.fc_events.specs.declared.subscriptions.Subscription.{Subscription}
use Rattle.fc_msg.specs.declared.message.Message.{Message}
use Rattle.fc_path.specs.declared.oper.Select.{Select}
use Rattle.fc_phases.specs.Asking.{txn_of}
use Rattle.fc_phases.specs.Shapes.{rest_of}
use Rattle.fc_phases.specs.declared.asked.Asked.{Asked}
use Rattle.fc_phases.specs.declared.asked.Asked.TheVariants.{Claim, Floor, Plain, Start, Change, Commit, Complete as Completing, Abort as Aborting, Malformed}
use Rattle.fc_phases.specs.declared.values.Opening.{Opening}
use Rattle.fc_protocol.specs.ElementMachine.{admits}
use Rattle.fc_protocol.specs.Fence.{claims, judge}
use Rattle.fc_protocol.specs.Floors.{forgotten, is_below, is_under}
use Rattle.fc_protocol.specs.Messages.{Stamp, is_epoch, is_name, same, stamp}
use Rattle.fc_protocol.specs.Phases.{Turn, adding, aborting, preparing, settling}
use Rattle.fc_protocol.specs.Records.{all_undone, is_full, noted, state_of, write}
use Rattle.fc_protocol.specs.Scopes.{Scope}
use Rattle.fc_protocol.specs.declared.answers.TxnEntry.{TxnEntry}
use Rattle.fc_protocol.specs.declared.states.Decision.TheVariants.{Complete}
use Rattle.fc_protocol.specs.declared.states.TxnState.{TxnState}
use Rattle.fc_protocol.specs.declared.verdict.Verdict.{Verdict}
use Rattle.fc_protocol.specs.declared.verdict.Verdict.TheVariants.{Claim as Claims, Unclaimed, Stale, Again, Gap, Next}
use Rattle.fc_store.specs.Stores.{Stored}
use Rattle.fc_tx.specs.Records.{TxnRecords, with_floor}
use Rattle.fc_transactions.specs.Order.{asked_of, by_verdict, claim_in, configured, judged}
use Rattle.fc_transactions.specs.Phases.{Did, acts, abort_turn, aborted_by, all_get, code_of_floor, continued, executes, extends, extends_failed, is_admitted, is_held_in, marked, opened_txn, opens, opens_failed, refuses, rest_outcome, settles, start_turn_by, started, turns, both_codes}
use Rattle.fc_transactions.specs.State.{TransactionState, opened}
use Rattle.fc_transactions.specs.declared.ledger.Ledger.{Ledger}
use Rattle.fc_abiding.specs.Abiding.{IsNamed}
use Rattle.fc_abiding.proofs.Following.{AreNamed}

pub new_named : (id ce : ℕ) (store : Stored) → IsNamed (opened id ce store)
new_named id ce store = record { epoch = λ e. absurd cc; records = tt }

-- ---- records
undone_named : (ms : List TxnEntry) → AreNamed ms → AreNamed (all_undone ms)
undone_named [] h = tt
undone_named (n ∷ ms) h = (h.0, undone_named ms h.1)

from_by : (f : Txn) (n : TxnEntry) (ms : List TxnEntry) (b : Bool) → is_name n.txn ≡ true → AreNamed (forgotten f ms) → AreNamed (cond b (n ∷ forgotten f ms) (forgotten f ms))
from_by f n ms true h hs = (h, hs)
from_by f n ms false h hs = hs

from_named : (f : Txn) (ms : List TxnEntry) → AreNamed ms → AreNamed (forgotten f ms)
from_named f [] h = tt
from_named f (n ∷ ms) h = from_by f n ms (not (is_under n.txn f)) h.0 (from_named f ms h.1)

floor_named : (code : ℕ) (f : Txn) (r : TxnRecords) → AreNamed r.entries → AreNamed (with_floor code f r).entries
floor_named zero f r h = from_named f r.entries h
floor_named (suc code) f r h = h

write_by : (x : Txn) (ps : List ℕ) (sc : Scope) (s : TxnState) (n : TxnEntry) (ms : List TxnEntry) (b : Bool) → is_name n.txn ≡ true → AreNamed ms → AreNamed (write x ps sc s ms)
    → AreNamed (cond b (record { txn = n.txn; state = s; participants = n.participants; scope = n.scope } ∷ ms) (n ∷ write x ps sc s ms))
write_by x ps sc s n ms true h hs ws = (h, hs)
write_by x ps sc s n ms false h hs ws = (h, ws)

write_named : (x : Txn) (ps : List ℕ) (sc : Scope) (s : TxnState) (ms : List TxnEntry) → is_name x ≡ true → AreNamed ms → AreNamed (write x ps sc s ms)
write_named x ps sc s [] e h = (e, tt)
write_named x ps sc s (n ∷ ms) e h = write_by x ps sc s n ms (same x n.txn) h.0 h.1 (write_named x ps sc s ms e h.1)

noted_named : (x : Txn) (ps : List ℕ) (sc : Scope) (o : Option TxnState) (ms : List TxnEntry) → (is_some o ≡ true → is_name x ≡ true) → AreNamed ms → AreNamed (noted x ps sc o ms)
noted_named x ps sc None ms e h = h
noted_named x ps sc (Some s) ms e h = write_named x ps sc s ms (e refl) h

-- ---- one with a name
-- a turn that is none without a record changes no record of what names no transaction
by_name : (x : Txn) (ms : List TxnEntry) (turn : Option TxnState → Turn) (b : Bool) → is_name x ≡ b → (turn None).new ≡ None → is_some (turn (cond b (state_of x ms) None)).new ≡ true → is_name x ≡ true
by_name x ms turn true e f h = e
by_name x ms turn false e f h = absurd (let k : false ≡ true = sym (ap is_some f) ∙ h in cc)

named_turn : (x : Txn) (ms : List TxnEntry) (turn : Option TxnState → Turn) → (turn None).new ≡ None → is_some (turn (state_at x ms)).new ≡ true → is_name x ≡ true
named_turn x ms turn f h = by_name x ms turn (is_name x) refl f h

abort_by : (x : Txn) (ms : List TxnEntry) (low full b : Bool) → is_name x ≡ b → is_some (aborting (b && low) full (cond b (state_of x ms) None)).new ≡ true → is_name x ≡ true
abort_by x ms low full true e h = e
abort_by x ms low full false e h = absurd cc

-- ---- what the next Config leaves
module _ (p epoch : ℕ) (l : Ledger) (m : Message) (selects : List Select) (named : AreNamed l.records.entries) where
  plain_named : (b : Bool) → AreNamed (cond {A = Did} b (all_get l selects 18) (executes p l m selects)).ledger.records.entries
  plain_named true = named
  plain_named false = named

  opened_by : (o : Opening) (rest : List Select) (done : Outcome Stored Operation) (code : ℕ) (b : Bool) → is_name (opened_txn o) ≡ true → AreNamed (cond b (opens p l o rest done) (opens_failed p l o done.codes code)).ledger.records.entries
  opened_by o rest done code true e = noted_named (opened_txn o) o.participants o.instances (start_turn_by true l.records o 0).new l.records.entries (λ _. e) named
  opened_by o rest done code false e = noted_named (opened_txn o) o.participants o.instances (start_turn_by true l.records o code).new l.records.entries (λ _. e) named

  starts_named : (fits : Bool) (o : Opening) (rest : List Select) (b : Bool) → (fits ≡ true → is_name (opened_txn o) ≡ true) → ((start_turn_by fits l.records o 0).code == 0) ≡ b
      → AreNamed (cond b (started p l o rest) (refuses l rest (start_turn_by fits l.records o 0).code)).ledger.records.entries
  starts_named fits o rest false n e = named
  starts_named true o rest true n e = let done = rest_outcome o.instances (marked o.instances l.store) rest in opened_by o rest done (first_code done.codes) (first_code done.codes == 0) (n refl)
  starts_named false o rest true n e = absurd cc

  continued_named : (x : Txn) (rest : List Select) (done : Outcome Stored Operation) (code : ℕ) (b : Bool) → AreNamed (cond b (extends p l x rest done) (extends_failed p l x done.codes code)).ledger.records.entries
  continued_named x rest done code true = noted_named x [] [] (adding 0 (state_at x l.records.entries)).new l.records.entries (named_turn x l.records.entries (adding 0) refl) named
  continued_named x rest done code false = noted_named x [] [] (adding code (state_at x l.records.entries)).new l.records.entries (named_turn x l.records.entries (adding code) refl) named

  continues_named : (x : Txn) (rest : List Select) (code : ℕ) (b : Bool) → AreNamed (cond b (continued p l x rest) (refuses l rest code)).ledger.records.entries
  continues_named x rest code true = let done = rest_outcome (scope_of x l.records.entries) l.store rest in continued_named x rest done (first_code done.codes) (first_code done.codes == 0)
  continues_named x rest code false = named

  completed_named : (x : Txn) (b : Bool) (told : List Subscription × List Notice)
      → AreNamed (cond b (settles p l x (settling Complete (state_at x l.records.entries)) told) (turns p l x [] [] (settling Complete (state_at x l.records.entries)) l.holdings l.store (both_codes (settling Complete (state_at x l.records.entries)).code))).ledger.records.entries
  completed_named x true told = noted_named x [] [] (settling Complete (state_at x l.records.entries)).new l.records.entries (named_turn x l.records.entries (settling Complete) refl) named
  completed_named x false told = noted_named x [] [] (settling Complete (state_at x l.records.entries)).new l.records.entries (named_turn x l.records.entries (settling Complete) refl) named

  aborted_named : (x : Txn) (b : Bool) → AreNamed (aborted_by p l x b (abort_turn l.records x)).ledger.records.entries
  aborted_named x true = noted_named x [] [] (abort_turn l.records x).new l.records.entries (abort_by x l.records.entries (not (is_below x l.records.floor)) (is_full l.records.entries) (is_name x) refl) named
  aborted_named x false = noted_named x [] [] (abort_turn l.records x).new l.records.entries (abort_by x l.records.entries (not (is_below x l.records.floor)) (is_full l.records.entries) (is_name x) refl) named

  acts_named : (a : Asked) → AreNamed (acts p epoch l m selects a).ledger.records.entries
  acts_named (Claim w) = plain_named (waits l.records.entries selects)
  acts_named (Floor f) = floor_named (code_of_floor epoch l.records (txn_of f)) (txn_of f) l.records named
  acts_named Plain = plain_named (waits l.records.entries selects)
  acts_named (Start o) =
      starts_named (is_admitted p epoch l.store.instances o) o (rest_of selects) ((start_turn_by (is_admitted p epoch l.store.instances o) l.records o 0).code == 0)
      (λ e. (and_parts (is_name (opened_txn o)) (admits p epoch (opened_txn o) o.participants (not (has_all l.store.instances o.instances)) o.instances) e).0) refl
  acts_named (Change x) = continues_named (txn_of x) (rest_of selects) (adding 0 (state_at (txn_of x) l.records.entries)).code ((adding 0 (state_at (txn_of x) l.records.entries)).code == 0)
  acts_named (Commit x) = noted_named (txn_of x) [] [] (preparing (state_at (txn_of x) l.records.entries)).new l.records.entries (named_turn (txn_of x) l.records.entries preparing refl) named
  acts_named (Completing x) = completed_named (txn_of x) (is_completed (settling Complete (state_at (txn_of x) l.records.entries)).new) _
  acts_named (Aborting x) = aborted_named (txn_of x) (is_held_in (state_at (txn_of x) l.records.entries))
  acts_named Malformed = named

-- ---- the epoch of a claim
module _ (epoch master sequence sender : ℕ) (x : Stamp) where
  word_epoch : (w : ℕ) → claims epoch sender x (Some w) ≡ true → is_epoch x.life ≡ true
  word_epoch w h =
      let k = and_parts (x.life == w && x.count == 0) (is_epoch w && (nat_lt epoch w && w % 256 == sender % 256)) h in
      ap is_epoch (eqb-true x.life w (and_parts (x.life == w) (x.count == 0) k.0).0) ∙ (and_parts (is_epoch w) (nat_lt epoch w && w % 256 == sender % 256) k.1).0

  option_epoch : (claim : Option ℕ) → claims epoch sender x claim ≡ true → is_epoch x.life ≡ true
  option_epoch None h = absurd cc
  option_epoch (Some w) h = word_epoch w h

  claim_by : (e : ℕ) (a b c d f : Bool) → Claims e ≡ cond a (Claims x.life) (cond b Unclaimed (cond c (cond d Again (cond f Next Gap)) Stale)) → (a ≡ true) × (e ≡ x.life)
  claim_by e true b c d f h = (refl, cc)
  claim_by e false true c d f h = absurd cc
  claim_by e false false true true f h = absurd cc
  claim_by e false false true false true h = absurd cc
  claim_by e false false true false false h = absurd cc
  claim_by e false false false d f h = absurd cc

  claim_epoch : (e : ℕ) (claim : Option ℕ) → Claims e ≡ judge epoch master sequence sender x claim → is_epoch e ≡ true
  claim_epoch e claim h =
      let k = claim_by e (claims epoch sender x claim) (epoch == 0) (x.life == epoch && sender == master) (x.count == sequence) (x.count == sequence + 1) h in
      ap is_epoch k.1 ∙ option_epoch claim k.0

-- ---- each verdict
unclaimed_named : (s : TransactionState) (m : Message) (selects : List Select) (b c : Bool) → AreNamed s.ledger.records.entries
    → AreNamed (cond (not b) (all_get s.ledger selects 12) (cond c (all_get s.ledger selects 21) (executes s.id s.ledger m selects))).ledger.records.entries
unclaimed_named s m selects false c h = h
unclaimed_named s m selects true true h = h
unclaimed_named s m selects true false h = h

verdict_named : (s : TransactionState) (peer : ℕ) (m : Message) (selects : List Select) (a : Asked) (v : Verdict) → v ≡ judged s m a → IsNamed s → IsNamed (by_verdict s peer m selects a v).state
verdict_named s peer m selects a (Claims e) is n = record { epoch = λ _. claim_epoch s.epoch s.master s.sequence m.source (stamp m.corr) e (claim_in a) is; records = undone_named s.ledger.records.entries n.records }
verdict_named s peer m selects a Unclaimed is n = record { epoch = n.epoch; records = unclaimed_named s m selects (m.source == s.ce) m.flags.at n.records }
verdict_named s peer m selects a Stale is n = record { epoch = n.epoch; records = n.records }
verdict_named s peer m selects a Again is n = n
verdict_named s peer m selects a Gap is n = record { epoch = n.epoch; records = n.records }
verdict_named s peer m selects a Next is n = record { epoch = n.epoch; records = acts_named s.id s.epoch s.ledger m selects n.records a }

pub named_stay : (s : TransactionState) (peer : ℕ) (m : Message) (selects : List Select) → IsNamed s → IsNamed (configured s peer m selects).state
unfolding configured
named_stay s peer m selects n = verdict_named s peer m selects (asked_of m selects) (judged s m (asked_of m selects)) refl n
