-- Each record of an element is of what a master can have begun, with participants that can be, whatever Configs come.
use Rattle.std.proofs.Common.{◌≡◌, ℕ, pos, negsuc, zero, suc, ◌^◌, ◌<◌, ◌≤◌, ◌==◌, ◌&&◌, not, nat_lt, nat_le, cond, Bool, true, false, if◌then◌else◌, List, [], ◌∷◌, length, Option, Some, None, refl, sym, ap, ◌∙◌, arith}
use Rattle.std.specs.List.{AllByRecursion}
use Rattle.std.specs.Option.{is_some, option_and_then}
use Rattle.fc_base.specs.Ids.{Txn}
use Rattle.fc_events.specs.declared.subscriptions.Notice.{Notice}
use Rattle.fc_events.specs.declared.subscriptions.Subscription.{Subscription}
use Rattle.fc_exec.specs.declared.operations.Operation.{Operation}
use Rattle.fc_holding.specs.Held.{has_all, scope_of, state_at, waits}
use Rattle.fc_lfbs.specs.Kinds.{opening_type, subject_type}
use Rattle.fc_machine.specs.ElementState.{first_code}
use Rattle.fc_machine.specs.Transactions.{is_completed}
use Rattle.fc_modes.specs.Modes.{Outcome}
use Rattle.fc_msg.specs.declared.message.Message.{Message}
use Rattle.fc_path.specs.declared.oper.Oper.{Oper}
use Rattle.fc_path.specs.declared.oper.Oper.TheVariants as oper
use Rattle.fc_path.specs.declared.oper.Select.{Select}
use Rattle.fc_phases.specs.Asking.{aborted, asked, claim_or, claim_word, ended, ended_by, floor_in, floor_or_plain, opening_at, phase_asked, started as starting, subject_at, txn_of, with_subject}
use Rattle.fc_phases.specs.Shapes.{behind, first_full, rest_of}
use Rattle.fc_phases.specs.Values.{both, each_of, group_of, ok_of, opened, opening_fields, opening_of, pair, pair_of, subject_of, subject_parts, table_of, two_words, word_layer, word_of}
use Rattle.fc_phases.specs.declared.asked.Asked.{Asked}
use Rattle.fc_phases.specs.declared.asked.Asked.TheVariants.{Claim, Floor, Plain, Start, Change, Commit, Complete as Completing, Abort as Aborting, Malformed}
use Rattle.fc_phases.specs.declared.values.Opening.{Opening}
use Rattle.fc_phases.specs.declared.values.Subject.{Subject}
use Rattle.fc_protocol.specs.Collections.{among}
use Rattle.fc_protocol.specs.ElementMachine.{admits, rises_above, takes_part}
use Rattle.fc_protocol.specs.Floors.{forgotten, is_below, is_under}
use Rattle.fc_protocol.specs.Messages.{is_name, same}
use Rattle.fc_protocol.specs.Phases.{Turn, aborting, adding, preparing, settling}
use Rattle.fc_protocol.specs.Records.{all_undone, is_full, noted, state_of, write}
use Rattle.fc_protocol.specs.Scopes.{Scope, is_scope}
use Rattle.fc_protocol.specs.declared.answers.TxnEntry.{TxnEntry}
use Rattle.fc_protocol.specs.declared.states.Decision.TheVariants.{Complete}
use Rattle.fc_protocol.specs.declared.states.TxnState.{TxnState}
use Rattle.fc_protocol.specs.declared.verdict.Verdict.{Verdict}
use Rattle.fc_protocol.specs.declared.verdict.Verdict.TheVariants.{Claim as Claims, Unclaimed, Stale, Again, Gap, Next}
use Rattle.fc_store.specs.Stores.{Stored}
use Rattle.fc_transactions.specs.Order as order
use Rattle.fc_transactions.specs.Order.{asked_of, by_verdict, judged}
use Rattle.fc_transactions.specs.Phases.{Did, abort_turn, aborted_by, acts, all_get, both_codes, code_of_floor, continued, executes, extends, extends_failed, is_admitted, is_held_in, marked, opened_txn, opens, opens_failed, refuses, rest_outcome, settles, start_turn_by, started, turns}
use Rattle.fc_transactions.specs.State.{TransactionState}
use Rattle.fc_transactions.specs.declared.ledger.Ledger.{Ledger}
use Rattle.fc_tx.specs.Records.{TxnRecords, with_floor}
use Rattle.fc_types.specs.declared.ty.Ty.{Ty}
use Rattle.fc_value.specs.Reading.{full_in}
use Rattle.fc_value.specs.declared.value.Value.{Value, out-Value}
use Rattle.fc_value.specs.declared.value.Value.TheOpen.{Value-F}
use Rattle.fc_querying.specs.Asking.{IsTold, IsTxn}
use Rattle.fc_querying.proofs.Records.{and_left, and_right, less}

-- ---- what a Config asks is in numbers of 32 bits

abbrev Small : Option ℕ → Type 0
Small None = Unit {0}
Small (Some n) = n < 2 ^ 32

small_if : (n : ℕ) (b : Bool) → nat_lt n (2 ^ 32) ≡ b → Small (if b then Some n else None)
small_if n true e = less n (2 ^ 32) e
small_if n false e = tt

layer_small : (l : Value-F Value) → Small (word_layer l)
layer_small (Value-F.Truth t) = tt
layer_small (Value-F.Number (pos n)) = small_if n (nat_lt n (2 ^ 32)) refl
layer_small (Value-F.Number (negsuc n)) = tt
layer_small (Value-F.Text t) = tt
layer_small (Value-F.Raw bytes) = tt
layer_small (Value-F.Group vs) = tt
layer_small (Value-F.Table es) = tt

word_small : (v : Value) → Small (word_of v)
word_small v = layer_small (out-Value v)

abbrev SmallPair : Option (ℕ × ℕ) → Type 0
SmallPair None = Unit {0}
SmallPair (Some x) = x.1 < 2 ^ 32

pair_small : (a b : Option ℕ) → Small b → SmallPair (both pair a b)
pair_small None b h = tt
pair_small (Some m) None h = tt
pair_small (Some m) (Some n) h = h

two_small : (vs : List Value) → SmallPair (two_words vs)
two_small [] = tt
two_small (a ∷ []) = tt
two_small (a ∷ b ∷ []) = pair_small (word_of a) (word_of b) (word_small b)
two_small (a ∷ b ∷ c ∷ more) = tt

abbrev SmallSubject : Option Subject → Type 0
SmallSubject None = Unit {0}
SmallSubject (Some x) = x.number < 2 ^ 32

parts_small : (o : Option (ℕ × ℕ)) → SmallPair o → SmallSubject (subject_parts o)
parts_small None h = tt
parts_small (Some x) h = h

subject_value : (o : Option Value) → SmallSubject (option_and_then subject_of o)
subject_value None = tt
subject_value (Some v) = parts_small (pair_of v) (two_small (group_of v))

subject_small : (ty : Ty) (o : Option (List ℕ)) → SmallSubject (subject_at ty o)
subject_small ty None = tt
subject_small ty (Some bytes) = subject_value (ok_of (full_in ty bytes))

abbrev SmallOpening : Option Opening → Type 0
SmallOpening None = Unit {0}
SmallOpening (Some o) = o.number < 2 ^ 32

opened_small : (x : Option (ℕ × ℕ)) (l : Option (List ℕ × List (ℕ × ℕ))) → SmallPair x → SmallOpening (both opened x l)
opened_small None l h = tt
opened_small (Some x) None h = tt
opened_small (Some x) (Some l) h = h

fields_small : (vs : List Value) → SmallOpening (opening_fields vs)
fields_small [] = tt
fields_small (a ∷ []) = tt
fields_small (a ∷ b ∷ []) = tt
fields_small (a ∷ b ∷ c ∷ []) = tt
fields_small (a ∷ b ∷ c ∷ d ∷ []) = opened_small (both pair (word_of a) (word_of b)) (both pair (each_of word_of (table_of c)) (each_of pair_of (table_of d))) (pair_small (word_of a) (word_of b) (word_small b))
fields_small (a ∷ b ∷ c ∷ d ∷ e ∷ more) = tt

opening_value : (o : Option Value) → SmallOpening (option_and_then opening_of o)
opening_value None = tt
opening_value (Some v) = fields_small (group_of v)

opening_small : (ty : Ty) (o : Option (List ℕ)) → SmallOpening (opening_at ty o)
opening_small ty None = tt
opening_small ty (Some bytes) = opening_value (ok_of (full_in ty bytes))

abbrev SmallAsked : Asked → Type 0
SmallAsked (Claim w) = Unit {0}
SmallAsked (Floor f) = Unit {0}
SmallAsked Plain = Unit {0}
SmallAsked (Start o) = o.number < 2 ^ 32
SmallAsked (Change x) = x.number < 2 ^ 32
SmallAsked (Commit x) = x.number < 2 ^ 32
SmallAsked (Completing x) = x.number < 2 ^ 32
SmallAsked (Aborting x) = x.number < 2 ^ 32
SmallAsked Malformed = Unit {0}

floor_small : (o : Option Subject) → SmallAsked (floor_or_plain o)
floor_small None = tt
floor_small (Some f) = tt

claim_small : (o : Option ℕ) (selects : List Select) → SmallAsked (claim_or o selects)
claim_small None selects = floor_small (floor_in selects)
claim_small (Some w) selects = tt

start_small : (o : Option Opening) → SmallOpening o → SmallAsked (starting o)
start_small None h = tt
start_small (Some o) h = h

end_small : (x : Subject) (o : Oper) → x.number < 2 ^ 32 → SmallAsked (ended_by x o)
end_small x (oper.Paths kind paths) h = tt
end_small x oper.Commit h = h
end_small x oper.Trcomp h = h
end_small x (oper.CommitResponse code) h = tt

ended_small : (x : Subject) (o : Option (List Oper)) → x.number < 2 ^ 32 → SmallAsked (ended x o)
ended_small x None h = tt
ended_small x (Some []) h = tt
ended_small x (Some (o ∷ [])) h = end_small x o h
ended_small x (Some (o ∷ p ∷ more)) h = tt

aborted_small : (x : Subject) (o : Option (List Oper)) → x.number < 2 ^ 32 → SmallAsked (aborted x o)
aborted_small x None h = tt
aborted_small x (Some []) h = h
aborted_small x (Some (o ∷ more)) h = tt

if_small : (b : Bool) (a c : Asked) → SmallAsked a → SmallAsked c → SmallAsked (if b then a else c)
if_small true a c h k = h
if_small false a c h k = k

with_small : (tp : ℕ) (o : Option Subject) (selects : List Select) → SmallSubject o → SmallAsked (with_subject tp o selects)
with_small tp None selects h = tt
with_small tp (Some x) selects h =
    if_small (tp == 1) (Change x) (if tp == 2 then ended x (behind selects) else aborted x (behind selects)) h
    (if_small (tp == 2) (ended x (behind selects)) (aborted x (behind selects)) (ended_small x (behind selects) h) (aborted_small x (behind selects) h))

phase_small : (tp : ℕ) (selects : List Select) → SmallAsked (phase_asked opening_type subject_type tp selects)
phase_small tp selects =
    if_small (tp == 0) (starting (opening_at opening_type (first_full 4 selects))) (with_subject tp (subject_at subject_type (first_full 5 selects)) selects)
    (start_small (opening_at opening_type (first_full 4 selects)) (opening_small opening_type (first_full 4 selects)))
    (with_small tp (subject_at subject_type (first_full 5 selects)) selects (subject_small subject_type (first_full 5 selects)))

asked_small : (em : ℕ) (at : Bool) (tp : ℕ) (selects : List Select) → SmallAsked (asked opening_type subject_type em at tp selects)
asked_small em false tp selects = claim_small (claim_word selects) selects
asked_small em true tp selects = if_small (em == 1) (phase_asked opening_type subject_type tp selects) Malformed (phase_small tp selects) tt

-- ---- records

abbrev AllTold : List TxnEntry → Type 0
AllTold = AllByRecursion IsTold

-- what a new record is of
record CanBe (x : Txn) (ps : List ℕ) : Type 0 where
  txn : IsTxn x
  few : length ps ≤ 64
  rising : rises_above 0 ps ≡ true

undone_told : (ms : List TxnEntry) → AllTold ms → AllTold (all_undone ms)
undone_told [] h = tt
undone_told (n ∷ ms) h = (record { txn = h.0.txn; few = h.0.few; rising = h.0.rising }, undone_told ms h.1)

from_by : (f : Txn) (n : TxnEntry) (ms : List TxnEntry) (b : Bool) → IsTold n → AllTold (forgotten f ms) → AllTold (cond b (n ∷ forgotten f ms) (forgotten f ms))
from_by f n ms true h hs = (h, hs)
from_by f n ms false h hs = hs

from_told : (f : Txn) (ms : List TxnEntry) → AllTold ms → AllTold (forgotten f ms)
from_told f [] h = tt
from_told f (n ∷ ms) h = from_by f n ms (not (is_under n.txn f)) h.0 (from_told f ms h.1)

floor_told : (code : ℕ) (f : Txn) (r : TxnRecords) → AllTold r.entries → AllTold (with_floor code f r).entries
floor_told zero f r h = from_told f r.entries h
floor_told (suc code) f r h = h

write_by : (x : Txn) (ps : List ℕ) (sc : Scope) (s : TxnState) (n : TxnEntry) (ms : List TxnEntry) (b : Bool) → IsTold n → AllTold ms → AllTold (write x ps sc s ms)
    → AllTold (cond b (record { txn = n.txn; state = s; participants = n.participants; scope = n.scope } ∷ ms) (n ∷ write x ps sc s ms))
write_by x ps sc s n ms true h hs ws = (record { txn = h.txn; few = h.few; rising = h.rising }, hs)
write_by x ps sc s n ms false h hs ws = (h, ws)

write_told : (x : Txn) (ps : List ℕ) (sc : Scope) (s : TxnState) (ms : List TxnEntry) → CanBe x ps → AllTold ms → AllTold (write x ps sc s ms)
write_told x ps sc s [] e h = (record { txn = e.txn; few = e.few; rising = e.rising }, tt)
write_told x ps sc s (n ∷ ms) e h = write_by x ps sc s n ms (same x n.txn) h.0 h.1 (write_told x ps sc s ms e h.1)

noted_told : (x : Txn) (ps : List ℕ) (sc : Scope) (o : Option TxnState) (ms : List TxnEntry) → (is_some o ≡ true → CanBe x ps) → AllTold ms → AllTold (noted x ps sc o ms)
noted_told x ps sc None ms e h = h
noted_told x ps sc (Some s) ms e h = write_told x ps sc s ms (e refl) h

-- ---- one with a name

alone : (x : Txn) → x.number < 2 ^ 32 → is_name x ≡ true → CanBe x []
alone x h e = record { txn = record { name = e; number = h }; few = omega arith; rising = refl }

-- a turn that is none without a record changes no record of what names no transaction
by_name : (x : Txn) (ms : List TxnEntry) (turn : Option TxnState → Turn) (b : Bool) → is_name x ≡ b → (turn None).new ≡ None → is_some (turn (cond b (state_of x ms) None)).new ≡ true → is_name x ≡ true
by_name x ms turn true e f h = e
by_name x ms turn false e f h = absurd (let k : false ≡ true = sym (ap is_some f) ∙ h in cc)

turn_told : (x : Txn) (ms : List TxnEntry) (turn : Option TxnState → Turn) → x.number < 2 ^ 32 → (turn None).new ≡ None → AllTold ms → AllTold (noted x [] [] (turn (state_at x ms)).new ms)
turn_told x ms turn small f h = noted_told x [] [] (turn (state_at x ms)).new ms (λ e. alone x small (by_name x ms turn (is_name x) refl f e)) h

abort_by : (x : Txn) (ms : List TxnEntry) (low full b : Bool) → is_name x ≡ b → is_some (aborting (b && low) full (cond b (state_of x ms) None)).new ≡ true → is_name x ≡ true
abort_by x ms low full true e h = e
abort_by x ms low full false e h = absurd cc

at_most : (m n : ℕ) → nat_le m n ≡ true → m ≤ n
at_most m n h = grind (arith, h)

admitted_can : (p epoch : ℕ) (instances : List (ℕ × ℕ)) (o : Opening) → o.number < 2 ^ 32 → is_admitted p epoch instances o ≡ true → CanBe (opened_txn o) o.participants
admitted_can p epoch instances o small h =
    let x = opened_txn o in
    let strange = not (has_all instances o.instances) in
    let known = and_right (is_name x) (admits p epoch x o.participants strange o.instances) h in
    let own = and_right (x.epoch == epoch) (not (x.number == 0) && (takes_part p o.participants && (not strange && is_scope o.instances))) known in
    let rest = and_right (not (x.number == 0)) (takes_part p o.participants && (not strange && is_scope o.instances)) own in
    let part = and_left (takes_part p o.participants) (not strange && is_scope o.instances) rest in
    let both = and_right (among p o.participants) (rises_above 0 o.participants && nat_le (length o.participants) 64) part in record {
      txn = record { name = and_left (is_name x) (admits p epoch x o.participants strange o.instances) h; number = small };
      few = at_most (length o.participants) 64 (and_right (rises_above 0 o.participants) (nat_le (length o.participants) 64) both);
      rising = and_left (rises_above 0 o.participants) (nat_le (length o.participants) 64) both;
    }

-- ---- what the next Config leaves
module _ (p epoch : ℕ) (l : Ledger) (m : Message) (selects : List Select) (told : AllTold l.records.entries) where
  plain_told : (b : Bool) → AllTold (cond {A = Did} b (all_get l selects 18) (executes p l m selects)).ledger.records.entries
  plain_told true = told
  plain_told false = told

  opened_by : (o : Opening) (rest : List Select) (done : Outcome Stored Operation) (code : ℕ) (b : Bool) → CanBe (opened_txn o) o.participants → AllTold (cond b (opens p l o rest done) (opens_failed p l o done.codes code)).ledger.records.entries
  opened_by o rest done code true e = noted_told (opened_txn o) o.participants o.instances (start_turn_by true l.records o 0).new l.records.entries (λ _. e) told
  opened_by o rest done code false e = noted_told (opened_txn o) o.participants o.instances (start_turn_by true l.records o code).new l.records.entries (λ _. e) told

  starts_told : (fits : Bool) (o : Opening) (rest : List Select) (b : Bool) → (fits ≡ true → CanBe (opened_txn o) o.participants) → ((start_turn_by fits l.records o 0).code == 0) ≡ b
      → AllTold (cond b (started p l o rest) (refuses l rest (start_turn_by fits l.records o 0).code)).ledger.records.entries
  starts_told fits o rest false n e = told
  starts_told true o rest true n e = let done = rest_outcome o.instances (marked o.instances l.store) rest in opened_by o rest done (first_code done.codes) (first_code done.codes == 0) (n refl)
  starts_told false o rest true n e = absurd cc

  continued_told : (x : Txn) (rest : List Select) (done : Outcome Stored Operation) (code : ℕ) (b : Bool) → x.number < 2 ^ 32 → AllTold (cond b (extends p l x rest done) (extends_failed p l x done.codes code)).ledger.records.entries
  continued_told x rest done code true small = turn_told x l.records.entries (adding 0) small refl told
  continued_told x rest done code false small = turn_told x l.records.entries (adding code) small refl told

  continues_told : (x : Txn) (rest : List Select) (code : ℕ) (b : Bool) → x.number < 2 ^ 32 → AllTold (cond b (continued p l x rest) (refuses l rest code)).ledger.records.entries
  continues_told x rest code true small = let done = rest_outcome (scope_of x l.records.entries) l.store rest in continued_told x rest done (first_code done.codes) (first_code done.codes == 0) small
  continues_told x rest code false small = told

  completed_told : (x : Txn) (b : Bool) (said : List Subscription × List Notice) → x.number < 2 ^ 32
      → AllTold (cond b (settles p l x (settling Complete (state_at x l.records.entries)) said) (turns p l x [] [] (settling Complete (state_at x l.records.entries)) l.holdings l.store (both_codes (settling Complete (state_at x l.records.entries)).code))).ledger.records.entries
  completed_told x true said small = turn_told x l.records.entries (settling Complete) small refl told
  completed_told x false said small = turn_told x l.records.entries (settling Complete) small refl told

  abort_told : (x : Txn) → x.number < 2 ^ 32 → AllTold (noted x [] [] (abort_turn l.records x).new l.records.entries)
  abort_told x small =
      noted_told x [] [] (abort_turn l.records x).new l.records.entries (λ e. alone x small (abort_by x l.records.entries (not (is_below x l.records.floor)) (is_full l.records.entries) (is_name x) refl e)) told

  aborted_told : (x : Txn) (b : Bool) → x.number < 2 ^ 32 → AllTold (aborted_by p l x b (abort_turn l.records x)).ledger.records.entries
  aborted_told x true small = abort_told x small
  aborted_told x false small = abort_told x small

  acts_told : (a : Asked) → SmallAsked a → AllTold (acts p epoch l m selects a).ledger.records.entries
  acts_told (Claim w) small = plain_told (waits l.records.entries selects)
  acts_told (Floor f) small = floor_told (code_of_floor epoch l.records (txn_of f)) (txn_of f) l.records told
  acts_told Plain small = plain_told (waits l.records.entries selects)
  acts_told (Start o) small =
      starts_told (is_admitted p epoch l.store.instances o) o (rest_of selects) ((start_turn_by (is_admitted p epoch l.store.instances o) l.records o 0).code == 0)
      (λ e. admitted_can p epoch l.store.instances o small e) refl
  acts_told (Change x) small = continues_told (txn_of x) (rest_of selects) (adding 0 (state_at (txn_of x) l.records.entries)).code ((adding 0 (state_at (txn_of x) l.records.entries)).code == 0) small
  acts_told (Commit x) small = turn_told (txn_of x) l.records.entries preparing small refl told
  acts_told (Completing x) small = completed_told (txn_of x) (is_completed (settling Complete (state_at (txn_of x) l.records.entries)).new) _ small
  acts_told (Aborting x) small = aborted_told (txn_of x) (is_held_in (state_at (txn_of x) l.records.entries)) small
  acts_told Malformed small = told

-- ---- each verdict
unclaimed_told : (s : TransactionState) (m : Message) (selects : List Select) (b c : Bool) → AllTold s.ledger.records.entries
    → AllTold (cond (not b) (all_get s.ledger selects 12) (cond c (all_get s.ledger selects 21) (executes s.id s.ledger m selects))).ledger.records.entries
unclaimed_told s m selects false c h = h
unclaimed_told s m selects true true h = h
unclaimed_told s m selects true false h = h

verdict_told : (s : TransactionState) (peer : ℕ) (m : Message) (selects : List Select) (a : Asked) (v : Verdict) → SmallAsked a → AllTold s.ledger.records.entries → AllTold (by_verdict s peer m selects a v).state.ledger.records.entries
verdict_told s peer m selects a (Claims e) small h = undone_told s.ledger.records.entries h
verdict_told s peer m selects a Unclaimed small h = unclaimed_told s m selects (m.source == s.ce) m.flags.at h
verdict_told s peer m selects a Stale small h = h
verdict_told s peer m selects a Again small h = h
verdict_told s peer m selects a Gap small h = h
verdict_told s peer m selects a Next small h = acts_told s.id s.epoch s.ledger m selects h a small

pub told_stay : (s : TransactionState) (peer : ℕ) (m : Message) (selects : List Select) → AllByRecursion IsTold s.ledger.records.entries → AllByRecursion IsTold (order.configured s peer m selects).state.ledger.records.entries
unfolding order.configured
told_stay s peer m selects h = verdict_told s peer m selects (asked_of m selects) (judged s m (asked_of m selects)) (asked_small m.flags.em m.flags.at m.flags.tp selects) h
