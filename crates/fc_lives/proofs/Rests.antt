-- Each rest that an element keeps is the rest of a Config that it took, so a Config with it is one that can be sent.
use Rattle.std.proofs.Common.{◌≡◌, ◌≤◌, ◌<◌, ℕ, ◌+◌, ◌-◌, ◌%◌, ◌==◌, ◌&&◌, ◌++◌, nat_lt, not, Bool, true, false, cond, List, [], ◌∷◌, length, map, filter, Option, Some, None, refl, sym, ap, subst, ◌∙◌, arith, length-append, if◌then◌else◌}
use Rattle.std.proofs.lemmas.Bool.Decides.{nat_tests}
use Rattle.std.proofs.lemmas.List.{length-replicate}
use Rattle.std.specs.List.{AllByRecursion}
use Rattle.fc_base.specs.Ids.{Txn}
use Rattle.fc_element.proofs.Ledgered.{after_ledgered}
use Rattle.fc_element.proofs.Telling.{all_append}
use Rattle.fc_element.specs.ElementMachine.{IsProperIn, is_associated, is_ce, is_own, ledger_of, step}
use Rattle.fc_element.specs.ElementState.{ElementState, opened, restarted}
use Rattle.fc_element.specs.Runs.{Taken, after, is_taken, ledgered, taken, taken_at, taken_body, taken_if}
use Rattle.fc_element.specs.declared.input.ElIn.{ElIn}
use Rattle.fc_element.specs.declared.input.ElIn.TheVariants.{Opened, Arrived, Closed, Moment}
use Rattle.fc_holding.specs.Held.{scope_of, state_at, waits}
use Rattle.fc_holding.specs.Holdings.{extended, is_started, undone, with_rest, without}
use Rattle.fc_holding.specs.declared.holding.Holding.{Holding}
use Rattle.fc_lives.specs.Rests.{AreKeptRests, AreProperIns, IsKeptRest}
use Rattle.fc_lives.specs.SettledEvents.{with_restarts}
use Rattle.fc_machine.specs.ElementState.{and_rest, first_code}
use Rattle.fc_machine.specs.Transactions.{is_completed}
use Rattle.fc_msg.specs.MessageTypes as types
use Rattle.fc_msg.specs.Messages.{IsProper, ProperMsgBody, ProperSelects, body_written, message_fits, selects_written}
use Rattle.fc_msg.specs.declared.message.Message.{Message}
use Rattle.fc_msg.specs.declared.message.MsgBody.{MsgBody}
use Rattle.fc_msg.specs.declared.message.MsgBody.TheVariants.{Setup, SetupResponse, Teardown, Config, ConfigResponse, Query, QueryResponse, Event, Heartbeat}
use Rattle.fc_path.specs.Canon.{Written, joined, oper_written, select_written, wrapped}
use Rattle.fc_path.specs.Canon as canon
use Rattle.fc_path.specs.Proper.{ProperOper, ProperSelect}
use Rattle.fc_path.specs.Results.{results_fit}
use Rattle.fc_path.specs.declared.oper.Oper.{Oper}
use Rattle.fc_path.specs.declared.oper.Select.{Select}
use Rattle.fc_phases.specs.Asking.{txn_of}
use Rattle.fc_phases.specs.Shapes.{rest_of, tail, with_opers}
use Rattle.fc_phases.specs.declared.asked.Asked.{Asked}
use Rattle.fc_phases.specs.declared.asked.Asked.TheVariants.{Claim, Floor, Plain, Start, Change, Commit, Complete as Completing, Abort as Aborting, Malformed}
use Rattle.fc_phases.specs.declared.values.Opening.{Opening}
use Rattle.fc_events.specs.Reports.{reports_but}
use Rattle.fc_protocol.specs.Codes.{invalid_flags, not_supported, read_only}
use Rattle.fc_protocol.specs.Messages.{same}
use Rattle.fc_protocol.specs.Phases.{adding, settling}
use Rattle.fc_protocol.specs.declared.states.Decision.TheVariants.{Complete}
use Rattle.fc_protocol.specs.declared.verdict.Verdict.{Verdict}
use Rattle.fc_protocol.specs.declared.verdict.Verdict.TheVariants.{Claim as Claims, Unclaimed, Stale, Again, Gap, Next}
use Rattle.fc_transactions.specs.Order.{asked_of, by_verdict, configured, judged}
use Rattle.fc_transactions.specs.Phases.{Did, abort_turn, aborts, acts, all_get, both_codes, completes, continued, continues, executes, extends, extends_failed, is_admitted, is_held_in, marked, opened_holding, opens, opens_failed, others_held, plain, refuses, rest_outcome, settles, start_turn_by, started, starts, turns}
use Rattle.fc_transactions.specs.State.{TransactionState}
use Rattle.fc_transactions.specs.declared.ledger.Ledger.{Ledger}
use Rattle.fc_types.specs.declared.class.Class.{Class}
use Rattle.fc_wire.specs.Bytes.{u32_bytes}
use Rattle.fc_wire.specs.Types as wire_types
use Rattle.fc_wire.specs.Writing.{padding, tlv_bytes}

-- ---- what is left of a list of selects without its first operation is not longer
record IsWithin (v w : Written) : Type 0 where
  length_of : length v.text ≤ length w.text
  fits : w.fits ≡ true → v.fits ≡ true

both_first : (a b : Bool) → (a && b) ≡ true → a ≡ true
both_first true b e = refl
both_first false b e = absurd cc

both_second : (a b : Bool) → (a && b) ≡ true → b ≡ true
both_second true b e = e
both_second false b e = absurd cc

both : (a b : Bool) → a ≡ true → b ≡ true → (a && b) ≡ true
both a b e f = ap (λ x. x && b) e ∙ f

below : (n m k : ℕ) → n ≤ m → nat_lt m k ≡ true → nat_lt n k ≡ true
below n m k h e = grind (arith, nat_tests, h, e)

padded_within : (v w : List ℕ) → length v ≤ length w → length (v ++ padding (length v)) ≤ length (w ++ padding (length w))
unfolding padding
padded_within v w h =
    omega (arith, h, length-append v (padding (length v)), length-append w (padding (length w)), length-replicate {A = ℕ} ((4 - length v % 4) % 4) 0, length-replicate {A = ℕ} ((4 - length w % 4) % 4) 0)

tlv_within : (kind : ℕ) (v w : List ℕ) → length v ≤ length w → length (tlv_bytes kind v) ≤ length (tlv_bytes kind w)
unfolding tlv_bytes
tlv_within kind v w h = omega (arith, padded_within v w h)

wrapped_within : (kind : ℕ) (v w : Written) → IsWithin v w → IsWithin (wrapped kind v) (wrapped kind w)
wrapped_within kind v w h = record {
  length_of = tlv_within kind v.text w.text h.length_of;
  fits = λ e. both _ _ (below (length v.text) (length w.text) 65532 h.length_of (both_first _ w.fits e)) (h.fits (both_second (nat_lt (length w.text) 65532) w.fits e));
}

front_within : (v w x : Written) → IsWithin v w → IsWithin (canon.after v x) (canon.after w x)
front_within v w x h = record {
  length_of = omega (arith, h.length_of, length-append v.text x.text, length-append w.text x.text);
  fits = λ e. both _ _ (h.fits (both_first w.fits x.fits e)) (both_second w.fits x.fits e);
}

behind_within : (x v w : Written) → IsWithin v w → IsWithin (canon.after x v) (canon.after x w)
behind_within x v w h = record {
  length_of = omega (arith, h.length_of, length-append x.text v.text, length-append x.text w.text);
  fits = λ e. both _ _ (both_first x.fits w.fits e) (h.fits (both_second x.fits w.fits e));
}

less_within : (x w : Written) → IsWithin w (canon.after x w)
less_within x w = record {
  length_of = omega (arith, length-append x.text w.text);
  fits = λ e. both_second x.fits w.fits e;
}

without_first : (s : Select) (o : Oper) (os : List Oper) → s.opers ≡ o ∷ os → IsWithin (select_written (record { class = s.class; instance = s.instance; opers = os })) (select_written s)
without_first s o os e =
    subst (λ ps. IsWithin (select_written (record { class = s.class; instance = s.instance; opers = os })) (wrapped wire_types.select (canon.after (canon.plain (u32_bytes s.class ++ u32_bytes s.instance)) (joined (map oper_written ps))))) (sym e)
    (wrapped_within wire_types.select _ _ (behind_within (canon.plain (u32_bytes s.class ++ u32_bytes s.instance)) _ _ (less_within (oper_written o) (joined (map oper_written os)))))

-- ---- the rest of a Config: it is one that can be kept, or nothing
abbrev IsFine : List Select → Type 0
IsFine [] = Unit {0}
IsFine (s ∷ ss) = IsKeptRest (s ∷ ss)

config_fits : (m : Message) (selects : List Select) → m.body ≡ Config selects → message_fits m ≡ (nat_lt (length (selects_written selects).text) 262117 && (selects_written selects).fits)
unfolding message_fits
config_fits m selects is = ap (λ b. nat_lt (length (body_written b).text) 262117 && (body_written b).fits) is

kept_by : (m : Message) (selects rest : List Select) → m.body ≡ Config selects → message_fits m ≡ true → IsWithin (selects_written rest) (selects_written selects) → (n : Message) → n.body ≡ Config rest → message_fits n ≡ true
kept_by m selects rest is fits h n be =
    let both_fit = sym (config_fits m selects is) ∙ fits in
    config_fits n rest be
    ∙ both _ _ (below _ _ 262117 h.length_of (both_first _ (selects_written selects).fits both_fit)) (h.fits (both_second (nat_lt (length (selects_written selects).text) 262117) (selects_written selects).fits both_fit))

fine_rest : (m : Message) (selects : List Select) → m.body ≡ Config selects → ProperSelects types.config selects → message_fits m ≡ true → IsFine (rest_of selects)
fine_rest m [] is p f = tt
fine_rest m (s ∷ more) is p f = by s.opers refl
  where
    behind : (ss : List Select) → more ≡ ss → IsFine ss
    behind [] e = tt
    behind (t ∷ ts) e = record {
      proper = (omega arith, subst (AllByRecursion (ProperSelect types.config)) e p.1.1);
      fits = kept_by m (s ∷ more) (t ∷ ts) is f (subst (λ ss. IsWithin (selects_written ss) (selects_written (s ∷ more))) e (less_within (select_written s) (joined (map select_written more))));
    }

    by : (os : List Oper) → s.opers ≡ os → IsFine (with_opers s (tail os) more)
    by [] e = behind more refl
    by (o ∷ []) e = behind more refl
    by (o ∷ q ∷ os) e = record {
      proper = (omega arith, ((p.1.0.0, omega arith, (subst (AllByRecursion (ProperOper types.config)) e p.1.0.2).1), p.1.1));
      fits = kept_by m (s ∷ more) (record { class = s.class; instance = s.instance; opers = q ∷ os } ∷ more) is f (front_within _ _ (joined (map select_written more)) (without_first s o (q ∷ os) e));
    }

-- ---- what is kept of each transaction
kept_and : (rests : List (List Select)) (rest : List Select) → AllByRecursion IsKeptRest rests → IsFine rest → AllByRecursion IsKeptRest (and_rest rests rest)
kept_and rests [] h f = h
kept_and rests (s ∷ ss) h f = all_append IsKeptRest rests ((s ∷ ss) ∷ []) h (f, tt)

kept_if : (b : Bool) (hs gs : List Holding) → AreKeptRests hs → AreKeptRests gs → AreKeptRests (cond b hs gs)
kept_if true hs gs h g = h
kept_if false hs gs h g = g

kept_without : (x : Txn) (hs : List Holding) → AreKeptRests hs → AreKeptRests (without x hs)
kept_without x [] h = tt
kept_without x (g ∷ gs) h = kept_if (same x g.txn) gs (g ∷ without x gs) h.1 (h.0, kept_without x gs h.1)

kept_with : (x : Txn) (rest : List Select) (hs : List Holding) → IsFine rest → AreKeptRests hs → AreKeptRests (with_rest x rest hs)
kept_with x rest [] f h = tt
kept_with x rest (g ∷ gs) f h = kept_if (same x g.txn) (extended rest g ∷ gs) (g ∷ with_rest x rest gs) (kept_and g.rests rest h.0 f, h.1) (h.0, kept_with x rest gs f h.1)

kept_filter : (p : Holding → Bool) (hs : List Holding) → AreKeptRests hs → AreKeptRests (filter p hs)
kept_filter p [] h = tt
kept_filter p (g ∷ gs) h = kept_if (p g) (g ∷ filter p gs) (filter p gs) (h.0, kept_filter p gs h.1) (kept_filter p gs h.1)

-- ---- a Config
abbrev Keeps : Did → Type 0
Keeps d = AreKeptRests d.ledger.holdings

keeps_if : (b : Bool) (d e : Did) → Keeps d → Keeps e → Keeps (cond b d e)
keeps_if true d e h k = h
keeps_if false d e h k = k

module _ (p epoch : ℕ) (l : Ledger) (m : Message) (selects : List Select) (h : AreKeptRests l.holdings) (f : IsFine (rest_of selects)) where
  abbrev rest : List Select
  rest = rest_of selects

  keeps_plain : Keeps (plain p l m selects)
  keeps_plain = keeps_if (waits l.records.entries selects) (all_get l selects invalid_flags) (executes p l m selects) h h

  keeps_started : (o : Opening) → Keeps (started p l o rest)
  keeps_started o =
      let done = rest_outcome o.instances (marked o.instances l.store) rest in
      keeps_if (first_code done.codes == 0) (opens p l o rest done) (opens_failed p l o done.codes (first_code done.codes))
      (all_append (λ (g : Holding). AllByRecursion IsKeptRest g.rests) l.holdings (opened_holding o l.store rest ∷ []) h (kept_and [] rest tt f, tt)) h

  keeps_starts : (o : Opening) → Keeps (starts p epoch l o rest)
  keeps_starts o =
      let code = (start_turn_by (is_admitted p epoch l.store.instances o) l.records o 0).code in
      keeps_if (code == 0) (started p l o rest) (refuses l rest code) (keeps_started o) h

  keeps_continued : (x : Txn) → Keeps (continued p l x rest)
  keeps_continued x =
      let done = rest_outcome (scope_of x l.records.entries) l.store rest in
      keeps_if (first_code done.codes == 0) (extends p l x rest done) (extends_failed p l x done.codes (first_code done.codes)) (kept_with x rest l.holdings f h) (kept_without x l.holdings h)

  keeps_continues : (x : Txn) → Keeps (continues p l x rest)
  keeps_continues x =
      let code = (adding 0 (state_at x l.records.entries)).code in
      keeps_if (code == 0) (continued p l x rest) (refuses l rest code) (keeps_continued x) h

  keeps_completes : (x : Txn) → Keeps (completes p l x)
  keeps_completes x =
      let t = settling Complete (state_at x l.records.entries) in
      keeps_if (is_completed t.new) (settles p l x t (reports_but (others_held l (Some x)) l.store l.subscriptions)) (turns p l x [] [] t l.holdings l.store (both_codes t.code)) (kept_without x l.holdings h) h

  keeps_aborts : (x : Txn) → Keeps (aborts p l x)
  keeps_aborts x =
      let t = abort_turn l.records x in
      keeps_if (is_held_in (state_at x l.records.entries)) (turns p l x [] [] t (without x l.holdings) (undone x l.holdings l.store) (t.code ∷ [])) (turns p l x [] [] t l.holdings l.store (t.code ∷ [])) (kept_without x l.holdings h) h

  keeps_acts : (a : Asked) → Keeps (acts p epoch l m selects a)
  keeps_acts (Claim word) = keeps_plain
  keeps_acts (Floor x) = h
  keeps_acts Plain = keeps_plain
  keeps_acts (Start o) = keeps_starts o
  keeps_acts (Change x) = keeps_continues (txn_of x)
  keeps_acts (Commit x) = h
  keeps_acts (Completing x) = keeps_completes (txn_of x)
  keeps_acts (Aborting x) = keeps_aborts (txn_of x)
  keeps_acts Malformed = h

module _ (t : TransactionState) (peer : ℕ) (m : Message) (selects : List Select) (h : AreKeptRests t.ledger.holdings) (f : IsFine (rest_of selects)) where
  keeps_verdict : (a : Asked) (v : Verdict) → AreKeptRests (by_verdict t peer m selects a v).state.ledger.holdings
  keeps_verdict a (Claims e) = kept_filter (λ g. not (is_started t.ledger.records.entries g)) t.ledger.holdings h
  keeps_verdict a Unclaimed =
      keeps_if (not (m.source == t.ce)) (all_get t.ledger selects read_only) (if m.flags.at then all_get t.ledger selects not_supported else executes t.id t.ledger m selects) h
      (keeps_if m.flags.at (all_get t.ledger selects not_supported) (executes t.id t.ledger m selects) h h)
  keeps_verdict a Stale = h
  keeps_verdict a Again = h
  keeps_verdict a Gap = h
  keeps_verdict a Next = keeps_acts t.id t.epoch t.ledger m selects h f a

  keeps_configured : AreKeptRests (configured t peer m selects).state.ledger.holdings
  unfolding configured
  keeps_configured = keeps_verdict (asked_of m selects) (judged t m (asked_of m selects))

-- ---- the Configs that are taken
abbrev IsFineConfig : Taken → Type 0
IsFineConfig c = IsFine (rest_of c.selects)

module _ (s : ElementState) (peer : ℕ) (m : Message) where
  fine_if : (selects : List Select) (a b c d : Bool) → m.body ≡ Config selects → ProperSelects types.config selects → message_fits m ≡ c → AllByRecursion IsFineConfig (taken_if (a && ((b && c) && d)) (record { peer = peer; message = m; selects = selects }))
  fine_if selects false b c d is p e = tt
  fine_if selects true false c d is p e = tt
  fine_if selects true true false d is p e = tt
  fine_if selects true true true false is p e = tt
  fine_if selects true true true true is p e = (fine_rest m selects is p e, tt)

  fine_body : (body : MsgBody) → m.body ≡ body → ProperMsgBody body → AllByRecursion IsFineConfig (taken_body s peer m body)
  fine_body (Setup selects) is p = tt
  fine_body (SetupResponse result) is p = tt
  fine_body (Teardown reason) is p = tt
  fine_body (Config selects) is p = fine_if selects (is_associated s m) (results_fit selects) (message_fits m) (is_own s m && not (m.flags.em == 0)) is p refl
  fine_body (ConfigResponse selects) is p = tt
  fine_body (Query selects) is p = tt
  fine_body (QueryResponse selects) is p = tt
  fine_body (Event selects) is p = tt
  fine_body Heartbeat is p = tt

  fine_message : (b : Bool) → IsProper m → AllByRecursion IsFineConfig (cond b (taken_body s peer m m.body) [])
  fine_message true p = fine_body m.body refl p.body
  fine_message false p = tt

fine_taken : (s : ElementState) (i : ElIn) → IsProperIn i → AllByRecursion IsFineConfig (taken_at s i)
fine_taken s (Opened peer) p = tt
fine_taken s (Arrived peer m) p = fine_message s peer m (is_ce m.source) p
fine_taken s (Closed peer) p = tt
fine_taken s (Moment moment) p = tt

all_fine : (s : ElementState) (is : List ElIn) → AreProperIns is → AllByRecursion IsFineConfig (taken s is)
all_fine s [] p = tt
all_fine s (i ∷ is) p = all_append IsFineConfig (taken_at s i) (taken (step s i).state is) (fine_taken s i p.0) (all_fine (step s i).state is p.1)

keeps_all : (cs : List Taken) (t : TransactionState) → AllByRecursion IsFineConfig cs → AreKeptRests t.ledger.holdings → AreKeptRests (ledgered t cs).state.ledger.holdings
keeps_all [] t f h = h
keeps_all (c ∷ cs) t f h = keeps_all cs (configured t c.peer c.message c.selects).state f.1 (keeps_configured t c.peer c.message c.selects h f.0)

-- ---- every list of inputs, and restarts between them
after_keeps : (s : ElementState) (is : List ElIn) → AreProperIns is → AreKeptRests (ledger_of s).holdings → AreKeptRests (ledger_of (after s is)).holdings
after_keeps s is p h = subst (λ (t : TransactionState). AreKeptRests t.ledger.holdings) (sym (after_ledgered s is)) (keeps_all (taken s is) s.transactions (all_fine s is p) h)

runs_keep : (s : ElementState) (runs : List (List ElIn)) → AllByRecursion AreProperIns runs → AreKeptRests (ledger_of s).holdings → AreKeptRests (ledger_of (with_restarts s runs)).holdings
runs_keep s [] p h = h
runs_keep s (is ∷ runs) p h = runs_keep (restarted (after s is)) runs p.1 (after_keeps s is p.0 h)

pub always_kept : (id ce : ℕ) (library : List Class) (instances : List (ℕ × ℕ)) (runs : List (List ElIn)) (is : List ElIn) → AllByRecursion AreProperIns runs → AreProperIns is
    → AreKeptRests (ledger_of (after (with_restarts (opened id ce library instances) runs) is)).holdings
always_kept id ce library instances runs is p q =
    let s = with_restarts (opened id ce library instances) runs in
    after_keeps s is q (runs_keep (opened id ce library instances) runs p tt)
