-- What each Config does, and what the protocol says of it.
use Rattle.std.proofs.Common.{◌≡◌, ℕ, zero, suc, ◌+◌, Bool, true, false, cond, ◌&&◌, ◌==◌, ◌%◌, nat_lt, not, List, [], ◌∷◌, Option, Some, None, ⊎_elim, refl, sym, ap, ap₂, subst, ◌∙◌, arith}
use Rattle.std.proofs.lemmas.Bool.{and_parts, eqb-true}
use Rattle.std.specs.List.{AllByRecursion}
use Rattle.fc_base.specs.Ids.{Txn}
use Rattle.fc_events.specs.declared.subscriptions.Notice.{Notice}
use Rattle.fc_events.specs.declared.subscriptions.Subscription.{Subscription}
use Rattle.fc_exec.specs.declared.operations.Operation.{Operation}
use Rattle.fc_holding.specs.Held.{has_all, scope_of, state_at, waits}
use Rattle.fc_machine.specs.ElementState.{first_code}
use Rattle.fc_machine.specs.Trace.{Fact, Plain_at, bare_facts, of_protocol}
use Rattle.fc_machine.specs.Transactions.{is_completed}
use Rattle.fc_modes.specs.Modes.{Outcome}
use Rattle.fc_msg.specs.declared.message.Message.{Message}
use Rattle.fc_path.specs.declared.oper.Select.{Select}
use Rattle.fc_phases.specs.Asking.{body_of, txn_of}
use Rattle.fc_phases.specs.Shapes.{rest_of}
use Rattle.fc_phases.specs.declared.asked.Asked.{Asked}
use Rattle.fc_phases.specs.declared.asked.Asked.TheVariants.{Claim, Floor, Plain, Start, Change, Commit, Complete as Completing, Abort as Aborting, Malformed}
use Rattle.fc_phases.specs.declared.values.Opening.{Opening}
use Rattle.fc_protocol.proofs.Basics.{both}
use Rattle.fc_protocol.specs.ElementMachine.{Acts, Circumstance, Heard, admits, floored, hears, takes_part}
use Rattle.fc_protocol.specs.ElementMachine as protocol
use Rattle.fc_protocol.specs.Fence.{claims, judge}
use Rattle.fc_protocol.specs.Floors.{floor_code, forget_code, is_below}
use Rattle.fc_protocol.specs.Messages.{Stamp, claim_of, is_epoch, is_name, same, stamp}
use Rattle.fc_protocol.specs.Messages as said
use Rattle.fc_protocol.specs.Phases.{Turn, adding, aborting, keeps, failed, opening, preparing, settling, starting, with_rest}
use Rattle.fc_protocol.specs.Records.{clashes, is_full, is_packed, noted, state_of}
use Rattle.fc_protocol.specs.Scopes.{Scope, is_scope}
use Rattle.fc_protocol.specs.Trace.{Claimed_at, facts_of, undone_facts}
use Rattle.fc_protocol.specs.Trace as trace
use Rattle.fc_protocol.specs.declared.answers.TxnEntry.{TxnEntry}
use Rattle.fc_protocol.specs.declared.states.Decision.TheVariants.{Complete}
use Rattle.fc_protocol.specs.declared.states.TxnState.{TxnState}
use Rattle.fc_protocol.specs.declared.states.TxnState.TheVariants.{Started, Prepared, Completed, Aborted}
use Rattle.fc_protocol.specs.declared.verdict.Verdict.{Verdict}
use Rattle.fc_protocol.specs.declared.verdict.Verdict.TheVariants.{Claim as Claims, Unclaimed, Stale, Again, Gap, Next}
use Rattle.fc_reply.specs.Counting.{each_gets}
use Rattle.fc_store.specs.Stores.{Stored}
use Rattle.fc_tx.specs.Records.{TxnRecords, turned}
use Rattle.fc_performing.specs.Performing.{Performed, are_props, done_by}
use Rattle.fc_transactions.specs.Order.{Step, asked_of, by_verdict, claim_in, configured, configured_by, judged, unclaimed}
use Rattle.fc_transactions.specs.Phases.{Did, acts, all_get, abort_turn, aborted_by, code_of_floor, completed_by, continues_by, executes, floors_by, is_admitted, is_held_in, marked, opened_txn, plain, prepared_by, refuses, rest_outcome, start_turn_by, starts_by, started, continued, extends, extends_failed, opens, opens_failed, settles, turns, both_codes, idles}
use Rattle.fc_transactions.specs.State.{TransactionState}
use Rattle.fc_transactions.specs.declared.ledger.Ledger.{Ledger}
use Rattle.fc_abiding.specs.Abiding.{Abides, IsLike, IsNamed, circumstance, heard, seen}

bare_of : (fs : List trace.Fact) → bare_facts {Op = Operation} (of_protocol fs) ≡ fs
bare_of [] = refl
bare_of (f ∷ fs) = ap (λ gs. f ∷ gs) (bare_of fs)

pub above_zero : (n : ℕ) → (suc n == 0) ≡ false
above_zero n = ⊎_elim (λ u. let z : suc n ≡ 0 = eqb-true (suc n) 0 u in absurd (omega arith)) (λ u. u) (both (suc n == 0))

-- ---- one Config that is next
-- what was done has these records, this floor and these facts
record Does (d : Did) (r : Acts) : Type 0 where
  records : d.ledger.records.entries ≡ r.records
  floor : d.ledger.records.floor ≡ r.floor
  facts : bare_facts d.facts ≡ r.facts

-- the codes that the protocol tells do not matter
pub record Same (r t : Acts) : Type 0 where
  pub records : r.records ≡ t.records
  pub floor : r.floor ≡ t.floor
  pub facts : r.facts ≡ t.facts

does_same : (d : Did) (r t : Acts) → Does d r → Same r t → Does d t
does_same d r t x y = record { records = x.records ∙ y.records; floor = x.floor ∙ y.floor; facts = x.facts ∙ y.facts }

module _ (p epoch : ℕ) (l : Ledger) where
  abbrev ns : List TxnEntry
  ns = l.records.entries

  abbrev fl : Option Txn
  fl = l.records.floor

  -- ---- plain changes
  bare_plain : (b : Bool) (done : Performed) → bare_facts (cond {A = List (Fact Operation)} b [] (Plain_at p done.done ∷ [])) ≡ []
  bare_plain true done = refl
  bare_plain false done = refl

  plain_by : (m : Message) (selects : List Select) (b : Bool) (code : ℕ) → Does (cond {A = Did} b (all_get l selects 18) (executes p l m selects)) (protocol.idles fl ns code)
  plain_by m selects true code = record { records = refl; floor = refl; facts = refl }
  plain_by m selects false code = record { records = refl; floor = refl; facts = bare_plain (are_props selects) (done_by m selects l.store l.subscriptions) }

  claim_by : (m : Message) (selects : List Select) (c : Circumstance) (w : ℕ) (b : Bool) → Does (plain p l m selects) (protocol.acts p epoch c (cond b (said.Claim w) said.Plain) fl ns)
  claim_by m selects c w true = plain_by m selects (waits ns selects) _
  claim_by m selects c w false = plain_by m selects (waits ns selects) _

  -- ---- floors
  floors_does : (selects : List Select) (f : Txn) (code : ℕ) → Does (floors_by l selects f code) (floored fl f ns code)
  floors_does selects f zero = record { records = refl; floor = refl; facts = refl }
  floors_does selects f (suc code) =
      subst (λ b. Does (floors_by l selects f (suc code)) (cond {A = Acts} b (floored fl f ns 0) (protocol.idles fl ns (suc code)))) (sym (above_zero code)) (record { records = refl; floor = refl; facts = refl })

  floor_by : (a e n : Bool) (code : ℕ) → (a ≡ true → e ≡ true) → cond (e && n) (cond (a && n) code 16) 16 ≡ cond (a && n) code 16
  floor_by true true true code h = refl
  floor_by true true false code h = refl
  floor_by true false n code h = absurd (let k : false ≡ true = h refl in cc)
  floor_by false true true code h = refl
  floor_by false true false code h = refl
  floor_by false false n code h = refl

  is_one : (n : ℕ) → is_epoch epoch ≡ true → (n == epoch) ≡ true → is_epoch n ≡ true
  is_one n e f = ap is_epoch (eqb-true n epoch f) ∙ e

  pub floor_is : (f : Txn) → is_epoch epoch ≡ true → code_of_floor epoch l.records f ≡ floor_code epoch fl f ns
  floor_is f e = floor_by (f.epoch == epoch) (is_epoch f.epoch) (not (f.number == 0)) (forget_code fl f ns) (is_one f.epoch e)

  -- ---- a turn
  turn_does : (x : Txn) (ps : List ℕ) (sc : Scope) (t u : Turn) (d : Did) → d.ledger.records ≡ turned x ps sc t l.records → bare_facts d.facts ≡ facts_of p x ps t.events → t ≡ u → Does d (protocol.after p u x ps sc fl ns)
  turn_does x ps sc t u d e f is = record {
    records = ap (λ (r : TxnRecords). r.entries) e ∙ ap (λ (v : Turn). noted x ps sc v.new ns) is;
    floor = ap (λ (r : TxnRecords). r.floor) e;
    facts = f ∙ ap (λ (v : Turn). facts_of p x ps v.events) is;
  }

  -- one that changes nothing
  record Idle (t : Turn) : Type 0 where
    new : t.new ≡ None
    events : t.events ≡ []

  idle_does : (x : Txn) (ps : List ℕ) (sc : Scope) (u : Turn) (codes : List ℕ) → Idle u → Does (idles l codes) (protocol.after p u x ps sc fl ns)
  idle_does x ps sc u codes i = record {
    records = sym (ap (λ (s : Option TxnState). noted x ps sc s ns) i.new);
    floor = refl;
    facts = sym (ap (facts_of p x ps) i.events);
  }

  -- ---- SOT
  keeps_idle : (rest code : ℕ) (b : Bool) → (code == 0) ≡ b → (b ≡ true → ⊥) → Idle (with_rest rest (keeps code))
  keeps_idle rest code true e h = absurd (h refl)
  keeps_idle rest code false e h = subst (λ (c : Bool). Idle (failed (c && not (rest == 0)) rest (keeps code))) (sym e) (record { new = refl; events = refl })

  starting_idle : (below clash full : Bool) (rest : ℕ) (s : Option TxnState) → ((with_rest 0 (starting below clash full s)).code == 0) ≡ false → Idle (with_rest rest (starting below clash full s))
  starting_idle true clash full rest None h = record { new = refl; events = refl }
  starting_idle false true full rest None h = record { new = refl; events = refl }
  starting_idle false false true rest None h = record { new = refl; events = refl }
  starting_idle false false false rest None h = absurd cc
  starting_idle below clash full rest (Some s) h = record { new = refl; events = refl }

  opening_idle : (fits below clash full : Bool) (rest : ℕ) (s : Option TxnState) → ((opening fits below clash full 0 s).code == 0) ≡ false → Idle (opening fits below clash full rest s)
  opening_idle true below clash full rest s h = starting_idle below clash full rest s h
  opening_idle false below clash full rest s h = record { new = refl; events = refl }

  abbrev turn : Bool → Opening → ℕ → Turn
  turn fits o rest = start_turn_by fits l.records o rest

  fits_there : (fits : Bool) (o : Opening) → ((turn fits o 0).code == 0) ≡ true → fits ≡ true
  fits_there true o h = refl
  fits_there false o h = absurd cc

  started_does : (fits : Bool) (o : Opening) (rest : List Select) (done : Outcome Stored Operation) (code : ℕ) (b : Bool) → (code == 0) ≡ b → fits ≡ true
      → Does (cond b (opens p l o rest done) (opens_failed p l o done.codes code)) (protocol.after p (turn fits o code) (opened_txn o) o.participants o.instances fl ns)
  started_does fits o rest done code true e f =
      turn_does (opened_txn o) o.participants o.instances (turn true o 0) (turn fits o code) (opens p l o rest done) refl (bare_of (facts_of p (opened_txn o) o.participants (turn true o 0).events))
      (ap (turn true o) (sym (eqb-true code 0 e)) ∙ ap (λ c. turn c o code) (sym f))
  started_does fits o rest done code false e f =
      turn_does (opened_txn o) o.participants o.instances (turn true o code) (turn fits o code) (opens_failed p l o done.codes code) refl (bare_of (facts_of p (opened_txn o) o.participants (turn true o code).events))
      (ap (λ c. turn c o code) (sym f))

  starts_does : (fits : Bool) (o : Opening) (rest : List Select) (b : Bool) → ((turn fits o 0).code == 0) ≡ b
      → Does (cond b (started p l o rest) (refuses l rest (turn fits o 0).code))
      (protocol.after p (turn fits o (first_code (rest_outcome o.instances (marked o.instances l.store) rest).codes)) (opened_txn o) o.participants o.instances fl ns)
  starts_does fits o rest true e =
      let done = rest_outcome o.instances (marked o.instances l.store) rest in
      started_does fits o rest done (first_code done.codes) (first_code done.codes == 0) refl (fits_there fits o e)
  starts_does fits o rest false e =
      let code = first_code (rest_outcome o.instances (marked o.instances l.store) rest).codes in
      idle_does (opened_txn o) o.participants o.instances (turn fits o code) ((turn fits o 0).code ∷ each_gets 255 rest)
      (opening_idle fits (is_below (opened_txn o) fl) (clashes o.instances ns) (is_packed ns) code (state_of (opened_txn o) ns) e)

  -- an admitted one names a transaction
  admitted_by : (a e n rest : Bool) → (a ≡ true → e ≡ true) → (e && n) && (a && (n && rest)) ≡ a && (n && rest)
  admitted_by true true true rest h = refl
  admitted_by true true false rest h = refl
  admitted_by true false n rest h = absurd (let k : false ≡ true = h refl in cc)
  admitted_by false true true rest h = refl
  admitted_by false true false rest h = refl
  admitted_by false false n rest h = refl

  pub admitted_is : (o : Opening) → is_epoch epoch ≡ true → is_admitted p epoch l.store.instances o ≡ admits p epoch (opened_txn o) o.participants (not (has_all l.store.instances o.instances)) o.instances
  admitted_is o e =
      admitted_by (o.epoch == epoch) (is_epoch o.epoch) (not (o.number == 0)) (takes_part p o.participants && (not (not (has_all l.store.instances o.instances)) && is_scope o.instances)) (is_one o.epoch e)

  -- ---- MOT
  adding_idle : (rest : ℕ) (s : Option TxnState) → ((adding 0 s).code == 0) ≡ false → Idle (adding rest s)
  adding_idle rest None h = record { new = refl; events = refl }
  adding_idle rest (Some Started) h = absurd cc
  adding_idle rest (Some Prepared) h = record { new = refl; events = refl }
  adding_idle rest (Some Completed) h = record { new = refl; events = refl }
  adding_idle rest (Some Aborted) h = record { new = refl; events = refl }

  continued_does : (x : Txn) (rest : List Select) (done : Outcome Stored Operation) (code : ℕ) (b : Bool) → (code == 0) ≡ b
      → Does (cond b (extends p l x rest done) (extends_failed p l x done.codes code)) (protocol.after p (adding code (state_at x ns)) x [] [] fl ns)
  continued_does x rest done code true e =
      turn_does x [] [] (adding 0 (state_at x ns)) (adding code (state_at x ns)) (extends p l x rest done) refl (bare_of (facts_of p x [] (adding 0 (state_at x ns)).events)) (ap (λ c. adding c (state_at x ns)) (sym (eqb-true code 0 e)))
  continued_does x rest done code false e =
      turn_does x [] [] (adding code (state_at x ns)) (adding code (state_at x ns)) (extends_failed p l x done.codes code) refl (bare_of (facts_of p x [] (adding code (state_at x ns)).events)) refl

  continues_does : (x : Txn) (rest : List Select) (b : Bool) → ((adding 0 (state_at x ns)).code == 0) ≡ b
      → Does (cond b (continued p l x rest) (refuses l rest (adding 0 (state_at x ns)).code)) (protocol.after p (adding (first_code (rest_outcome (scope_of x ns) l.store rest).codes) (state_at x ns)) x [] [] fl ns)
  continues_does x rest true e = let done = rest_outcome (scope_of x ns) l.store rest in continued_does x rest done (first_code done.codes) (first_code done.codes == 0) refl
  continues_does x rest false e =
      let code = first_code (rest_outcome (scope_of x ns) l.store rest).codes in
      idle_does x [] [] (adding code (state_at x ns)) ((adding 0 (state_at x ns)).code ∷ each_gets 255 rest) (adding_idle code (state_at x ns) e)

  -- ---- EOT and ABT
  completed_does : (x : Txn) (t : Turn) (b : Bool) (told : List Subscription × List Notice)
      → Does (cond b (settles p l x t told) (turns p l x [] [] t l.holdings l.store (both_codes t.code))) (protocol.after p t x [] [] fl ns)
  completed_does x t true told = turn_does x [] [] t t _ refl (bare_of (facts_of p x [] t.events)) refl
  completed_does x t false told = turn_does x [] [] t t _ refl (bare_of (facts_of p x [] t.events)) refl

  aborted_does : (x : Txn) (t : Turn) (b : Bool) → Does (aborted_by p l x b t) (protocol.after p t x [] [] fl ns)
  aborted_does x t true = turn_does x [] [] t t _ refl (bare_of (facts_of p x [] t.events)) refl
  aborted_does x t false = turn_does x [] [] t t _ refl (bare_of (facts_of p x [] t.events)) refl

-- ---- records of what can be a transaction
abbrev pub AreNamed : List TxnEntry → Type 0
AreNamed ms = AllByRecursion (λ (n : TxnEntry). is_name n.txn ≡ true) ms

pub same_name : (x y : Txn) → same x y ≡ true → is_name x ≡ is_name y
same_name x y e =
    let k = and_parts (x.epoch == y.epoch) (x.number == y.number) e in
    ap₂ (λ (e n : ℕ). is_epoch e && not (n == 0)) (eqb-true x.epoch y.epoch k.0) (eqb-true x.number y.number k.1)

none_by : (x : Txn) (n : TxnEntry) (ms : List TxnEntry) (b : Bool) → same x n.txn ≡ b → is_name n.txn ≡ true → is_name x ≡ false → None ≡ state_of x ms → None ≡ cond b (Some n.state) (state_of x ms)
none_by x n ms true e h f k = absurd (let g : false ≡ true = sym f ∙ same_name x n.txn e ∙ h in cc)
none_by x n ms false e h f k = k

none_of : (x : Txn) (ms : List TxnEntry) → AreNamed ms → is_name x ≡ false → None ≡ state_of x ms
none_of x [] h e = refl
none_of x (n ∷ ms) h e = none_by x n ms (same x n.txn) refl h.0 e (none_of x ms h.1 e)

state_by : (x : Txn) (ms : List TxnEntry) (b : Bool) → is_name x ≡ b → AreNamed ms → cond b (state_of x ms) None ≡ state_of x ms
state_by x ms true e h = refl
state_by x ms false e h = none_of x ms h e

pub named_state : (x : Txn) (ms : List TxnEntry) → AreNamed ms → state_at x ms ≡ state_of x ms
named_state x ms h = state_by x ms (is_name x) refl h

-- ---- the next Config
shown_does : (d : Did) (r : Acts) (code : ℕ) → Does d r → Does d (protocol.shows code r)
shown_does d r code x = record { records = x.records; floor = x.floor; facts = x.facts }

module _ (p epoch : ℕ) (l : Ledger) (m : Message) (selects : List Select) (count : ℕ) (named : AreNamed l.records.entries) (is : is_epoch epoch ≡ true) where
  abbrev entries : List TxnEntry
  entries = l.records.entries

  abbrev after_turn : Txn → Turn → Acts
  after_turn x t = protocol.after p t x [] [] l.records.floor entries

  acts_does : (a : Asked) → Does (acts p epoch l m selects a) (protocol.acts p epoch (circumstance l selects a) (body_of count a) l.records.floor entries)
  acts_does (Claim w) = claim_by p epoch l m selects (circumstance l selects (Claim w)) w (count == 0)
  acts_does (Floor f) =
      subst (λ code. Does (floors_by l selects (txn_of f) (code_of_floor epoch l.records (txn_of f))) (floored l.records.floor (txn_of f) entries code)) (floor_is p epoch l (txn_of f) is)
      (floors_does p epoch l selects (txn_of f) (code_of_floor epoch l.records (txn_of f)))
  acts_does Plain = plain_by p epoch l m selects (waits entries selects) _
  acts_does (Start o) =
      shown_does _ _ _
      (subst (λ fits. Does (starts_by p l o (rest_of selects) (start_turn_by (is_admitted p epoch l.store.instances o) l.records o 0).code)
      (protocol.after p (start_turn_by fits l.records o (first_code (rest_outcome o.instances (marked o.instances l.store) (rest_of selects)).codes)) (opened_txn o) o.participants o.instances l.records.floor entries))
      (admitted_is p epoch l o is)
      (starts_does p epoch l (is_admitted p epoch l.store.instances o) o (rest_of selects) ((start_turn_by (is_admitted p epoch l.store.instances o) l.records o 0).code == 0) refl))
  acts_does (Change x) =
      shown_does _ _ _
      (subst (λ s. Does (continues_by p l (txn_of x) (rest_of selects) (adding 0 (state_at (txn_of x) entries)).code)
      (after_turn (txn_of x) (adding (first_code (rest_outcome (scope_of (txn_of x) entries) l.store (rest_of selects)).codes) s)))
      (named_state (txn_of x) entries named)
      (continues_does p epoch l (txn_of x) (rest_of selects) ((adding 0 (state_at (txn_of x) entries)).code == 0) refl))
  acts_does (Commit x) =
      subst (λ s. Does (prepared_by p l (txn_of x) (preparing (state_at (txn_of x) entries))) (after_turn (txn_of x) (preparing s))) (named_state (txn_of x) entries named)
      (turn_does p epoch l (txn_of x) [] [] (preparing (state_at (txn_of x) entries)) (preparing (state_at (txn_of x) entries)) _ refl (bare_of (facts_of p (txn_of x) [] (preparing (state_at (txn_of x) entries)).events)) refl)
  acts_does (Completing x) =
      subst (λ s. Does (completed_by p l (txn_of x) (settling Complete (state_at (txn_of x) entries))) (after_turn (txn_of x) (settling Complete s))) (named_state (txn_of x) entries named)
      (completed_does p epoch l (txn_of x) (settling Complete (state_at (txn_of x) entries)) (is_completed (settling Complete (state_at (txn_of x) entries)).new) _)
  acts_does (Aborting x) =
      subst (λ s. Does (aborted_by p l (txn_of x) (is_held_in (state_at (txn_of x) entries)) (abort_turn l.records (txn_of x))) (after_turn (txn_of x) (aborting (is_name (txn_of x) && not (is_below (txn_of x) l.records.floor)) (is_full entries) s)))
      (named_state (txn_of x) entries named) (aborted_does p epoch l (txn_of x) (abort_turn l.records (txn_of x)) (is_held_in (state_at (txn_of x) entries)))
  acts_does Malformed = record { records = refl; floor = refl; facts = refl }

-- ---- each verdict
abbrev said_by : TransactionState → Message → List Select → Asked → Verdict → Heard
said_by s m selects a v = protocol.by_verdict s.id (seen s) m.source (circumstance s.ledger selects a) (stamp m.corr) (body_of (stamp m.corr).count a) v

module _ (s : TransactionState) (peer : ℕ) (m : Message) (selects : List Select) (a : Asked) where
  abbrev l : Ledger
  l = s.ledger

  record Still (d : Did) : Type 0 where
    records : d.ledger.records ≡ l.records
    facts : bare_facts d.facts ≡ []

  unclaimed_still : (b c : Bool) → Still (cond (not b) (all_get l selects 12) (cond c (all_get l selects 21) (executes s.id l m selects)))
  unclaimed_still false c = record { records = refl; facts = refl }
  unclaimed_still true true = record { records = refl; facts = refl }
  unclaimed_still true false = record { records = refl; facts = bare_plain s.id s.epoch l (are_props selects) (done_by m selects l.store l.subscriptions) }

  still_abides : (d : Did) → Still d → IsLike (Rattle.fc_transactions.specs.Order.with_ledger s d.ledger) (seen s)
  still_abides d x = record {
    epoch = refl;
    master = refl;
    sequence = refl;
    records = ap (λ (r : TxnRecords). r.entries) x.records;
    floor = ap (λ (r : TxnRecords). r.floor) x.records;
    ce = refl;
    last_ce = refl;
  }

  verdict_abides : (v : Verdict) → AreNamed l.records.entries → (v ≡ Next → is_epoch s.epoch ≡ true) → Abides (by_verdict s peer m selects a v) (said_by s m selects a v)
  verdict_abides (Claims e) named is = record {
    state = record { epoch = refl; master = refl; sequence = refl; records = refl; floor = refl; ce = refl; last_ce = refl };
    facts = bare_of (Claimed_at s.id e ∷ undone_facts s.id l.records.entries);
  }
  verdict_abides Unclaimed named is =
      let x = unclaimed_still (m.source == s.ce) m.flags.at in
      record { state = still_abides (unclaimed s m selects) x; facts = x.facts }
  verdict_abides Stale named is = record { state = record { epoch = refl; master = refl; sequence = refl; records = refl; floor = refl; ce = refl; last_ce = refl }; facts = refl }
  verdict_abides Again named is = record { state = record { epoch = refl; master = refl; sequence = refl; records = refl; floor = refl; ce = refl; last_ce = refl }; facts = refl }
  verdict_abides Gap named is = record { state = record { epoch = refl; master = refl; sequence = refl; records = refl; floor = refl; ce = refl; last_ce = refl }; facts = refl }
  verdict_abides Next named is =
      let x = acts_does s.id s.epoch l m selects (stamp m.corr).count named (is refl) a in
      record {
        state = record { epoch = refl; master = refl; sequence = refl; records = x.records; floor = x.floor; ce = refl; last_ce = refl };
        facts = x.facts;
      }

-- ---- the verdict
no_word : (a r : Bool) → ((a && false) && r) ≡ false
no_word true r = refl
no_word false r = refl

module _ (epoch master sequence sender : ℕ) (x : Stamp) where
  -- what has the shape of a claim is one at the count 0 alone
  no_claim : (w : ℕ) → (x.count == 0) ≡ false → claims epoch sender x (Some w) ≡ false
  no_claim w e =
      ap (λ b. (x.life == w && b) && (is_epoch w && (nat_lt epoch w && w % 256 == sender % 256))) e ∙ no_word (x.life == w) _

  abbrev judged_by : Bool → Verdict
  judged_by b = cond b (Claims x.life) (cond (epoch == 0) Unclaimed (cond (x.life == epoch && sender == master) (cond (x.count == sequence) Again (cond (x.count == sequence + 1) Next Gap)) Stale))

  claim_is : (w : ℕ) (b : Bool) → (x.count == 0) ≡ b → judge epoch master sequence sender x (Some w) ≡ judge epoch master sequence sender x (claim_of (cond b (said.Claim w) said.Plain))
  claim_is w true e = refl
  claim_is w false e = ap judged_by (no_claim w e)

  pub judge_is : (a : Asked) → judge epoch master sequence sender x (claim_in a) ≡ judge epoch master sequence sender x (claim_of (body_of x.count a))
  judge_is (Claim w) = claim_is w (x.count == 0) refl
  judge_is (Floor f) = refl
  judge_is Plain = refl
  judge_is (Start o) = refl
  judge_is (Change y) = refl
  judge_is (Commit y) = refl
  judge_is (Completing y) = refl
  judge_is (Aborting y) = refl
  judge_is Malformed = refl

  next_by : (a b c d e : Bool) → Next ≡ cond a (Claims x.life) (cond b Unclaimed (cond c (cond d Again (cond e Next Gap)) Stale)) → b ≡ false
  next_by true b c d e h = absurd cc
  next_by false true c d e h = absurd cc
  next_by false false c d e h = refl

  -- only an element that is claimed takes a next one
  pub next_epoch : (claim : Option ℕ) → Next ≡ judge epoch master sequence sender x claim → (epoch == 0) ≡ false
  next_epoch claim h = next_by (claims epoch sender x claim) (epoch == 0) (x.life == epoch && sender == master) (x.count == sequence) (x.count == sequence + 1) h

-- ---- all of them
module _ (s : TransactionState) (m : Message) (selects : List Select) where
  abbrev judged_so : Asked → Verdict
  judged_so a = judge s.epoch s.master s.sequence m.source (stamp m.corr) (claim_of (body_of (stamp m.corr).count a))

  heard_claim : (w : ℕ) (b : Bool)
      → hears s.id (seen s) m.source (circumstance s.ledger selects (Claim w)) (stamp m.corr) (cond b (said.Claim w) said.Plain)
      ≡ protocol.by_verdict s.id (seen s) m.source (circumstance s.ledger selects (Claim w)) (stamp m.corr) (cond b (said.Claim w) said.Plain)
      (judge s.epoch s.master s.sequence m.source (stamp m.corr) (claim_of (cond b (said.Claim w) said.Plain)))
  heard_claim w true = refl
  heard_claim w false = refl

  heard_is : (a : Asked) → heard s m selects a ≡ said_by s m selects a (judged_so a)
  heard_is (Claim w) = heard_claim w ((stamp m.corr).count == 0)
  heard_is (Floor f) = refl
  heard_is Plain = refl
  heard_is (Start o) = refl
  heard_is (Change y) = refl
  heard_is (Commit y) = refl
  heard_is (Completing y) = refl
  heard_is (Aborting y) = refl
  heard_is Malformed = refl

asked_abides : (s : TransactionState) (peer : ℕ) (m : Message) (selects : List Select) (a : Asked) → IsNamed s → Abides (configured_by s peer m selects a) (heard s m selects a)
asked_abides s peer m selects a n =
    subst (λ h. Abides (by_verdict s peer m selects a (judged s m a)) h)
    (ap (said_by s m selects a) (judge_is s.epoch s.master s.sequence m.source (stamp m.corr) a) ∙ sym (heard_is s m selects a))
    (verdict_abides s peer m selects a (judged s m a) n.records (λ e. n.epoch (next_epoch s.epoch s.master s.sequence m.source (stamp m.corr) (claim_in a) (sym e))))

pub abides : (s : TransactionState) (peer : ℕ) (m : Message) (selects : List Select) → IsNamed s → Abides (configured s peer m selects) (heard s m selects (asked_of m selects))
unfolding configured
abides s peer m selects n = asked_abides s peer m selects (asked_of m selects) n

-- ---- what is stale
pub stale_state : (s : TransactionState) (peer : ℕ) (m : Message) (selects : List Select) → judged s m (asked_of m selects) ≡ Stale → (configured s peer m selects).state ≡ s
unfolding configured
stale_state s peer m selects e = ap (λ v. (by_verdict s peer m selects (asked_of m selects) v).state) e

pub stale_heard : (s : TransactionState) (peer : ℕ) (m : Message) (selects : List Select) → judged s m (asked_of m selects) ≡ Stale → (configured s peer m selects).is_heard ≡ false
unfolding configured
stale_heard s peer m selects e = ap (λ v. (by_verdict s peer m selects (asked_of m selects) v).is_heard) e

pub stale_facts : (s : TransactionState) (peer : ℕ) (m : Message) (selects : List Select) → judged s m (asked_of m selects) ≡ Stale → (configured s peer m selects).facts ≡ []
unfolding configured
stale_facts s peer m selects e = ap (λ v. (by_verdict s peer m selects (asked_of m selects) v).facts) e
