-- The response to each Config is what the protocol says.
use Rattle.std.proofs.Common.{◌≡◌, ◌≢◌, ℕ, ◌+◌, ◌==◌, ◌&&◌, not, Bool, true, false, cond, List, [], ◌∷◌, ◌++◌, length, Option, Some, None, is_none, ⊎_elim, refl, sym, ap, ◌∙◌, subst, arith, append-nil, eqb-true}
use Rattle.fc_abiding.specs.Abiding.{IsNamed, circumstance, heard, seen}
use Rattle.fc_abiding.specs.Responses.{Responds, is_shown, shown_codes, shown_in, telling, told, touched}
use Rattle.fc_abiding.proofs.Counted.{acts_long, each_long}
use Rattle.fc_abiding.proofs.Following.{AreNamed, Same, abides, admitted_is, floor_is, judge_is, named_state, next_epoch}
use Rattle.fc_abiding.proofs.Hearing.{Alike, abides_too}
use Rattle.fc_abiding.proofs.Shaped.{BeginsSo, EndsSo, Shaped, shaped}
use Rattle.fc_abiding.proofs.Shown.{AllAre, each_all, none_shown, response_is, shown_all, touched_waits}
use Rattle.fc_base.specs.Ids.{Txn}
use Rattle.fc_events.specs.declared.subscriptions.Notice.{Notice}
use Rattle.fc_events.specs.declared.subscriptions.Subscription.{Subscription}
use Rattle.fc_exec.specs.Operations.{operations}
use Rattle.fc_exec.specs.declared.operations.Operation.{Operation}
use Rattle.fc_holding.specs.Held.{scope_of, state_at, waits}
use Rattle.fc_machine.specs.ElementState.{first_code, response_code}
use Rattle.fc_machine.specs.Transactions.{is_completed, shown_of}
use Rattle.fc_modes.specs.Modes.{Outcome}
use Rattle.fc_msg.specs.declared.message.Message.{Message}
use Rattle.fc_path.specs.declared.oper.Select.{Select}
use Rattle.fc_performing.specs.Notices.{notice_outs, route}
use Rattle.fc_performing.specs.Sending.{responses}
use Rattle.fc_performing.specs.declared.out.Out.{Out}
use Rattle.fc_phases.specs.Asking.{body_of, txn_of}
use Rattle.fc_phases.specs.Shapes.{rest_of}
use Rattle.fc_phases.specs.declared.asked.Asked.{Asked}
use Rattle.fc_phases.specs.declared.asked.Asked.TheVariants.{Claim, Floor, Plain, Start, Change, Commit, Complete as Completing, Abort as Aborting, Malformed}
use Rattle.fc_phases.specs.declared.values.Opening.{Opening}
use Rattle.fc_protocol.proofs.Basics.{both}
use Rattle.fc_protocol.specs.ElementMachine.{Acts, Circumstance, Heard, admits, floored, hears}
use Rattle.fc_protocol.specs.ElementMachine as protocol
use Rattle.fc_protocol.specs.Fence.{claims, judge}
use Rattle.fc_protocol.specs.Floors.{floor_code, is_below}
use Rattle.fc_protocol.specs.Messages as said
use Rattle.fc_protocol.specs.Messages.{Stamp, claim_of, is_epoch, is_name, stamp}
use Rattle.fc_protocol.specs.Phases.{Turn, adding, aborting, preparing, settling, shown_code}
use Rattle.fc_protocol.specs.Records.{any_taken, is_full}
use Rattle.fc_protocol.specs.declared.answers.TxnEntry.{TxnEntry}
use Rattle.fc_protocol.specs.declared.states.Decision.TheVariants.{Complete}
use Rattle.fc_protocol.specs.declared.verdict.Verdict.{Verdict}
use Rattle.fc_protocol.specs.declared.verdict.Verdict.TheVariants.{Claim as Claims, Unclaimed, Stale, Again, Gap, Next}
use Rattle.fc_reply.specs.Counting.{each_gets}
use Rattle.fc_reply.specs.Replies.{reply}
use Rattle.fc_store.specs.Stores.{Stored}
use Rattle.fc_transactions.specs.Order.{Step, asked_of, by_verdict, claim_in, configured, judged}
use Rattle.fc_transactions.specs.Phases.{Did, acts, all_get, aborted_by, abort_turn, both_codes, code_of_floor, continued, continues_by, executes, extends, extends_failed, is_admitted, is_held_in, marked, opened_txn, opens, opens_failed, refuses, rest_outcome, second_code, settles, shape_code, start_turn_by, started, starts_by, turns}
use Rattle.fc_transactions.specs.State.{TransactionState}
use Rattle.fc_transactions.specs.declared.ledger.Ledger.{Ledger}

-- ---- what is done does not depend on what a response shows
module _ (s : TransactionState) (m : Message) (selects : List Select) (codes : List ℕ) where
  abbrev count : ℕ
  count = (stamp m.corr).count

  abbrev told_by : Asked → said.Body → Verdict → Heard
  told_by a b v = protocol.by_verdict s.id (seen s) m.source (telling s.ledger m selects a codes) (stamp m.corr) b v

  abbrev heard_by : Asked → said.Body → Verdict → Heard
  heard_by a b v = protocol.by_verdict s.id (seen s) m.source (circumstance s.ledger selects a) (stamp m.corr) b v

  abbrev SameActs : Asked → said.Body → Type 0
  SameActs a b =
      Same (protocol.acts s.id s.epoch (circumstance s.ledger selects a) b s.ledger.records.floor s.ledger.records.entries)
      (protocol.acts s.id s.epoch (telling s.ledger m selects a codes) b s.ledger.records.floor s.ledger.records.entries)

  alike_by : (a : Asked) (b : said.Body) (v : Verdict) → SameActs a b → Alike (heard_by a b v) (told_by a b v)
  alike_by a b (Claims e) x = record { element = refl; facts = refl }
  alike_by a b Unclaimed x = record { element = refl; facts = refl }
  alike_by a b Stale x = record { element = refl; facts = refl }
  alike_by a b Again x = record { element = refl; facts = refl }
  alike_by a b Gap x = record { element = refl; facts = refl }
  alike_by a b Next x = record {
    element = λ i. record { epoch = s.epoch; master = s.master; sequence = s.sequence + 1; kept = None; records = x.records i; floor = x.floor i; ce = s.ce; last_ce = s.last_ce };
    facts = x.facts;
  }

  abbrev verdict_on : said.Body → Verdict
  verdict_on b = judge s.epoch s.master s.sequence m.source (stamp m.corr) (claim_of b)

  alike_claim : (w : ℕ) (b : Bool)
      → Alike (hears s.id (seen s) m.source (circumstance s.ledger selects (Claim w)) (stamp m.corr) (cond b (said.Claim w) said.Plain))
      (hears s.id (seen s) m.source (telling s.ledger m selects (Claim w) codes) (stamp m.corr) (cond b (said.Claim w) said.Plain))
  alike_claim w true = alike_by (Claim w) (said.Claim w) (verdict_on (said.Claim w)) (record { records = refl; floor = refl; facts = refl })
  alike_claim w false = alike_by (Claim w) said.Plain (verdict_on said.Plain) (record { records = refl; floor = refl; facts = refl })

  alike_told : (a : Asked) → Alike (heard s m selects a) (told s m selects a codes)
  alike_told (Claim w) = alike_claim w (count == 0)
  alike_told (Floor f) = let b : said.Body = said.Floor (txn_of f) in alike_by (Floor f) b (verdict_on b) (record { records = refl; floor = refl; facts = refl })
  alike_told Plain = alike_by Plain said.Plain (verdict_on said.Plain) (record { records = refl; floor = refl; facts = refl })
  alike_told (Start o) = let b : said.Body = said.Sot (opened_txn o) o.participants o.instances in alike_by (Start o) b (verdict_on b) (record { records = refl; floor = refl; facts = refl })
  alike_told (Change x) = let b : said.Body = said.Mot (txn_of x) 0 in alike_by (Change x) b (verdict_on b) (record { records = refl; floor = refl; facts = refl })
  alike_told (Commit x) = let b : said.Body = said.Eot (txn_of x) in alike_by (Commit x) b (verdict_on b) (record { records = refl; floor = refl; facts = refl })
  alike_told (Completing x) = let b : said.Body = said.Trcomp (txn_of x) in alike_by (Completing x) b (verdict_on b) (record { records = refl; floor = refl; facts = refl })
  alike_told (Aborting x) = let b : said.Body = said.Abt (txn_of x) in alike_by (Aborting x) b (verdict_on b) (record { records = refl; floor = refl; facts = refl })
  alike_told Malformed = alike_by Malformed said.Malformed (verdict_on said.Malformed) (record { records = refl; floor = refl; facts = refl })

  told_claim : (w : ℕ) (b : Bool)
      → hears s.id (seen s) m.source (telling s.ledger m selects (Claim w) codes) (stamp m.corr) (cond b (said.Claim w) said.Plain)
      ≡ told_by (Claim w) (cond b (said.Claim w) said.Plain) (verdict_on (cond b (said.Claim w) said.Plain))
  told_claim w true = refl
  told_claim w false = refl

  told_is : (a : Asked) → told s m selects a codes ≡ told_by a (body_of count a) (verdict_on (body_of count a))
  told_is (Claim w) = told_claim w (count == 0)
  told_is (Floor f) = refl
  told_is Plain = refl
  told_is (Start o) = refl
  told_is (Change x) = refl
  told_is (Commit x) = refl
  told_is (Completing x) = refl
  told_is (Aborting x) = refl
  told_is Malformed = refl

  told_so : (a : Asked) → told s m selects a codes ≡ told_by a (body_of count a) (judged s m a)
  told_so a = told_is a ∙ ap (told_by a (body_of count a)) (sym (judge_is s.epoch s.master s.sequence m.source (stamp m.corr) a))

-- ---- the code of a start or a change
-- its own, and those of its rest
abbrev rest_shown : List Select → List ℕ → List ℕ
rest_shown rest [] = []
rest_shown rest (code ∷ codes) = code ∷ shown_of is_shown (operations rest) codes

begins_shown : (selects : List Select) (codes : List ℕ) → BeginsSo selects → rest_shown (rest_of selects) codes ≡ shown_of is_shown (operations selects) codes
begins_shown selects [] h = sym (ap (λ ops. shown_of is_shown ops []) h.1)
begins_shown selects (code ∷ codes) h = sym (ap (λ ops. shown_of is_shown ops (code ∷ codes)) h.1)

ends_shown : (selects : List Select) (code other : ℕ) → EndsSo selects → code ∷ [] ≡ shown_of is_shown (operations selects) (code ∷ other ∷ [])
ends_shown selects code other h = sym (ap (λ ops. shown_of is_shown ops (code ∷ other ∷ [])) h.1)

told_rest : (check : ℕ) (rest : List Select) (cs codes : List ℕ) (b z : Bool) → (check == 0) ≡ b → (first_code cs == 0) ≡ z → codes ≡ cond {A = List ℕ} b (0 ∷ cs) (check ∷ each_gets 255 rest)
    → cond {A = ℕ} (b && not z) (shown_in rest cs) check ≡ response_code (rest_shown rest codes)
told_rest check rest cs codes true true e f is =
    eqb-true check 0 e ∙ sym (none_shown (operations rest) cs (eqb-true (first_code cs) 0 f)) ∙ sym (ap (λ (xs : List ℕ). response_code (rest_shown rest xs)) is)
told_rest check rest cs codes true false e f is = sym (ap (λ (xs : List ℕ). response_code (rest_shown rest xs)) is)
told_rest check rest cs codes false z e f is =
    sym (ap (λ b. cond {A = ℕ} b (first_code (shown_of is_shown (operations rest) (each_gets 255 rest))) check) e) ∙ sym (ap (λ (xs : List ℕ). response_code (rest_shown rest xs)) is)

module _ (p epoch : ℕ) (l : Ledger) (m : Message) (selects : List Select) (named : AreNamed l.records.entries) (is : is_epoch epoch ≡ true) where
  abbrev ns : List TxnEntry
  ns = l.records.entries

  abbrev code_of : Asked → said.Body → List ℕ → ℕ
  code_of a b codes = (protocol.acts p epoch (telling l m selects a codes) b l.records.floor ns).code

  -- ---- plain changes
  plain_told : (a : Asked) (b : Bool) → waits ns selects ≡ b → (codes : List ℕ) → codes ≡ (cond {A = Did} b (all_get l selects 18) (executes p l m selects)).codes → shown_of is_shown (operations selects) codes ≢ []
      → cond {A = ℕ} b 18 (response_code (shown_of is_shown (operations selects) codes)) ≡ response_code (shown_of is_shown (operations selects) codes)
  plain_told a true w codes e n = response_is 18 (shown_of is_shown (operations selects) codes) (shown_all 18 (operations selects) codes (subst (AllAre 18) (sym e) (each_all 18 selects))) n
  plain_told a false w codes e n = refl

  abbrev plain_codes : List ℕ
  plain_codes = (cond {A = Did} (waits ns selects) (all_get l selects 18) (executes p l m selects)).codes

  plain_code : (a : Asked) → shown_of is_shown (operations selects) plain_codes ≢ []
      → cond {A = ℕ} (any_taken ns (touched selects)) 18 (response_code (shown_of is_shown (operations selects) plain_codes)) ≡ response_code (shown_of is_shown (operations selects) plain_codes)
  plain_code a n =
      ap (λ b. cond {A = ℕ} b 18 (response_code (shown_of is_shown (operations selects) plain_codes))) (touched_waits ns selects) ∙ plain_told a (waits ns selects) refl plain_codes refl n

  claim_told : (w : ℕ) (b : Bool) → b ≡ false → shown_of is_shown (operations selects) plain_codes ≢ [] → code_of (Claim w) (cond b (said.Claim w) said.Plain) plain_codes ≡ response_code (shown_of is_shown (operations selects) plain_codes)
  claim_told w true e n = absurd (let k : true ≡ false = e in cc)
  claim_told w false e n = plain_code (Claim w) n

  -- ---- one code for all
  floored_code : (f : Txn) (code : ℕ) (b : Bool) → (code == 0) ≡ b → (cond {A = Acts} b (floored l.records.floor f ns 0) (protocol.idles l.records.floor ns code)).code ≡ code
  floored_code f code true e = sym (eqb-true code 0 e)
  floored_code f code false e = refl

  each_told : (code : ℕ) → shown_of is_shown (operations selects) (each_gets code selects) ≢ [] → code ≡ response_code (shown_of is_shown (operations selects) (each_gets code selects))
  each_told code n = response_is code (shown_of is_shown (operations selects) (each_gets code selects)) (shown_all code (operations selects) (each_gets code selects) (each_all code selects)) n

  all_told : (code : ℕ) (codes : List ℕ) → AllAre code codes → shown_of is_shown (operations selects) codes ≢ [] → code ≡ response_code (shown_of is_shown (operations selects) codes)
  all_told code codes a n = response_is code (shown_of is_shown (operations selects) codes) (shown_all code (operations selects) codes a) n

  -- ---- SOT and MOT
  started_codes : (o : Opening) (rest : List Select) (done : Outcome Stored Operation) (b : Bool) → (cond {A = Did} b (opens p l o rest done) (opens_failed p l o done.codes (first_code done.codes))).codes ≡ 0 ∷ done.codes
  started_codes o rest done true = refl
  started_codes o rest done false = refl

  starts_codes : (o : Opening) (rest : List Select) (code : ℕ) (b : Bool) → (cond {A = Did} b (started p l o rest) (refuses l rest code)).codes ≡ cond {A = List ℕ} b (0 ∷ (rest_outcome o.instances (marked o.instances l.store) rest).codes) (code ∷ each_gets 255 rest)
  starts_codes o rest code true = let done = rest_outcome o.instances (marked o.instances l.store) rest in started_codes o rest done (first_code done.codes == 0)
  starts_codes o rest code false = refl

  continued_codes : (x : Txn) (rest : List Select) (done : Outcome Stored Operation) (b : Bool) → (cond {A = Did} b (extends p l x rest done) (extends_failed p l x done.codes (first_code done.codes))).codes ≡ 0 ∷ done.codes
  continued_codes x rest done true = refl
  continued_codes x rest done false = refl

  continues_codes : (x : Txn) (rest : List Select) (code : ℕ) (b : Bool) → (cond {A = Did} b (continued p l x rest) (refuses l rest code)).codes ≡ cond {A = List ℕ} b (0 ∷ (rest_outcome (scope_of x ns) l.store rest).codes) (code ∷ each_gets 255 rest)
  continues_codes x rest code true = let done = rest_outcome (scope_of x ns) l.store rest in continued_codes x rest done (first_code done.codes == 0)
  continues_codes x rest code false = refl

  -- ---- EOT with TRCOMP, and ABT
  completed_codes : (x : Txn) (t : Turn) (b : Bool) (told : List Subscription × List Notice) → (cond {A = Did} b (settles p l x t told) (turns p l x [] [] t l.holdings l.store (both_codes t.code))).codes ≡ both_codes t.code
  completed_codes x t true told = refl
  completed_codes x t false told = refl

  aborted_codes : (x : Txn) (t : Turn) (b : Bool) → (aborted_by p l x b t).codes ≡ t.code ∷ []
  aborted_codes x t true = refl
  aborted_codes x t false = refl

  first_alone : (code : ℕ) (b : Bool) → (code == 0) ≡ b → code ≡ cond {A = ℕ} b 0 code
  first_alone code true e = eqb-true code 0 e
  first_alone code false e = refl

  -- ---- what is next
  pub acts_told : (a : Asked) (number : ℕ) → Shaped selects a → (number == 0) ≡ false → shown_codes selects (acts p epoch l m selects a).codes ≢ []
      → code_of a (body_of number a) (acts p epoch l m selects a).codes ≡ response_code (shown_codes selects (acts p epoch l m selects a).codes)
  acts_told (Claim w) number shape later n = claim_told w (number == 0) later n
  acts_told (Floor f) number shape later n =
      let code = code_of_floor epoch l.records (txn_of f) in
      floored_code (txn_of f) (floor_code epoch l.records.floor (txn_of f) ns) (floor_code epoch l.records.floor (txn_of f) ns == 0) refl ∙ sym (floor_is p epoch l (txn_of f) is) ∙ each_told code n
  acts_told Plain number shape later n = plain_code Plain n
  acts_told (Start o) number shape later n =
      let rest = rest_of selects in
      let check = (start_turn_by (is_admitted p epoch l.store.instances o) l.records o 0).code in
      let cs = (rest_outcome o.instances (marked o.instances l.store) rest).codes in
      ap (λ fits. shown_code (start_turn_by fits l.records o 0).code (first_code cs) (shown_in rest cs)) (sym (admitted_is p epoch l o is))
      ∙ told_rest check rest cs (starts_by p l o rest check).codes (check == 0) (first_code cs == 0) refl refl (starts_codes o rest check (check == 0))
      ∙ ap response_code (begins_shown selects (starts_by p l o rest check).codes shape)
  acts_told (Change x) number shape later n =
      let y = txn_of x in
      let rest = rest_of selects in
      let check = (adding 0 (state_at y ns)).code in
      let cs = (rest_outcome (scope_of y ns) l.store rest).codes in
      ap (λ st. shown_code (adding 0 st).code (first_code cs) (shown_in rest cs)) (sym (named_state y ns named))
      ∙ told_rest check rest cs (continues_by p l y rest check).codes (check == 0) (first_code cs == 0) refl refl (continues_codes y rest check (check == 0))
      ∙ ap response_code (begins_shown selects (continues_by p l y rest check).codes shape)
  acts_told (Commit x) number shape later n =
      let y = txn_of x in
      let code = (preparing (state_at y ns)).code in
      ap (λ st. (preparing st).code) (sym (named_state y ns named)) ∙ all_told code (code ∷ code ∷ []) (refl, (refl, tt)) n
  acts_told (Completing x) number shape later n =
      let y = txn_of x in
      let t = settling Complete (state_at y ns) in
      ap (λ st. (settling Complete st).code) (sym (named_state y ns named)) ∙ first_alone t.code (t.code == 0) refl
      ∙ ap response_code (ends_shown selects t.code (second_code t.code) shape)
      ∙ sym (ap (λ (codes : List ℕ). response_code (shown_of is_shown (operations selects) codes)) (completed_codes y t (is_completed t.new) _))
  acts_told (Aborting x) number shape later n =
      let y = txn_of x in
      let t = abort_turn l.records y in
      ap (λ st. (aborting (is_name y && not (is_below y l.records.floor)) (is_full ns) st).code) (sym (named_state y ns named))
      ∙ all_told t.code (aborted_by p l y (is_held_in (state_at y ns)) t).codes (subst (AllAre t.code) (sym (aborted_codes y t (is_held_in (state_at y ns)))) (refl, tt)) n
  acts_told Malformed number shape later n = each_told (shape_code m.flags.em) n

-- ---- by the verdict
later_by : (a b c d e : Bool) (life : ℕ) → Next ≡ cond a (Claims life) (cond b Unclaimed (cond c (cond d Again (cond e Next Gap)) Stale)) → e ≡ true
later_by true b c d e life h = absurd cc
later_by false true c d e life h = absurd cc
later_by false false true true e life h = absurd cc
later_by false false true false true life h = refl
later_by false false true false false life h = absurd cc
later_by false false false d e life h = absurd cc

not_first : (count sequence : ℕ) → (count == sequence + 1) ≡ true → (count == 0) ≡ false
not_first count sequence e =
    ⊎_elim (λ u. let z : count ≡ 0 = eqb-true count 0 u in let w : count ≡ sequence + 1 = eqb-true count (sequence + 1) e in absurd (omega arith)) (λ u. u) (both (count == 0))

module _ (s : TransactionState) (peer : ℕ) (m : Message) (selects : List Select) (a : Asked) where
  abbrev count_of : ℕ
  count_of = (stamp m.corr).count

  -- what is sent, and the code that the protocol says
  record Parts (t : Step) (v : Verdict) (codes : List ℕ) : Type 0 where
    each : length codes ≡ length (operations selects)
    notices : List Out
    outs : t.outs ≡ responses peer (reply m selects codes) ++ notices
    code : ℕ
    says : (told_by s m selects codes a (body_of count_of a) v).says ≡ protocol.reply (is_none (reply m selects codes)) (stamp m.corr) code
    shows : shown_codes selects codes ≢ [] → code ≡ response_code (shown_codes selects codes)

  abbrev Answers : Step → Verdict → Type 0
  Answers t v = (codes : List ℕ) × Parts t v codes

  -- each operation has this code
  each_shown : (code : ℕ) → shown_codes selects (each_gets code selects) ≢ [] → code ≡ response_code (shown_codes selects (each_gets code selects))
  each_shown code n = response_is code (shown_codes selects (each_gets code selects)) (shown_all code (operations selects) (each_gets code selects) (each_all code selects)) n

  answers_by : (v : Verdict) → Shaped selects a → v ≢ Again → v ≢ Unclaimed → AreNamed s.ledger.records.entries → (v ≡ Next → is_epoch s.epoch ≡ true) → (v ≡ Next → (count_of == 0) ≡ false) → Answers (by_verdict s peer m selects a v) v
  answers_by (Claims e) shape n u named is later = (
    each_gets 0 selects,
    record { each = each_long 0 selects; notices = []; outs = sym (append-nil (responses peer (reply m selects (each_gets 0 selects)))); code = 0; says = refl; shows = each_shown 0 },
  )
  answers_by Unclaimed shape n u named is later = absurd (u refl)
  answers_by Stale shape n u named is later = (each_gets 12 selects, record { each = each_long 12 selects; notices = notice_outs s.ledger.store.library (route s.id m.source peer) []; outs = refl; code = 12; says = refl; shows = each_shown 12 })
  answers_by Again shape n u named is later = absurd (n refl)
  answers_by Gap shape n u named is later = (each_gets 16 selects, record { each = each_long 16 selects; notices = notice_outs s.ledger.store.library (route s.id m.source peer) []; outs = refl; code = 16; says = refl; shows = each_shown 16 })
  answers_by Next shape n u named is later =
      let d = acts s.id s.epoch s.ledger m selects a in (
        d.codes,
        record {
          each = acts_long s.id s.epoch s.ledger m selects a shape;
          notices = notice_outs d.ledger.store.library (route s.id m.source peer) d.notices;
          outs = refl;
          code = code_of s.id s.epoch s.ledger m selects named (is refl) a (body_of count_of a) d.codes;
          says = refl;
          shows = acts_told s.id s.epoch s.ledger m selects named (is refl) a count_of shape (later refl);
        },
      )

-- ---- all of it
silent_by : (b : Bool) (x : Stamp) (code : ℕ) → b ≡ true → protocol.reply b x code ≡ None
silent_by true x code e = refl
silent_by false x code e = absurd (let k : false ≡ true = e in cc)

said_by : (b : Bool) (x : Stamp) (code shown : ℕ) → b ≡ false → code ≡ shown → protocol.reply b x code ≡ Some (said.Reply x shown)
said_by true x code shown e f = absurd (let k : true ≡ false = e in cc)
said_by false x code shown e f = ap (λ (c : ℕ). Some (said.Reply x c)) f

pub responds : (s : TransactionState) (peer : ℕ) (m : Message) (selects : List Select) → IsNamed s → judged s m (asked_of m selects) ≢ Again → judged s m (asked_of m selects) ≢ Unclaimed
    → (codes : List ℕ) × Responds s peer m selects (asked_of m selects) (configured s peer m selects) codes
unfolding configured
responds s peer m selects named again unclaimed =
    let a = asked_of m selects in
    let claim = claim_in a in
    let x = stamp m.corr in
    let r = answers_by s peer m selects a (judged s m a) (shaped m selects) again unclaimed named.records
    (λ e. named.epoch (next_epoch s.epoch s.master s.sequence m.source x claim (sym e)))
    (λ e. not_first x.count s.sequence
    (later_by (claims s.epoch m.source x claim) (s.epoch == 0) (x.life == s.epoch && m.source == s.master) (x.count == s.sequence) (x.count == s.sequence + 1) x.life (sym e))) in
    let says = ap (λ (h : Heard). h.says) (told_so s m selects r.0 a) ∙ r.1.says in (
      r.0,
      record {
        abides = abides_too (by_verdict s peer m selects a (judged s m a)) (heard s m selects a) (told s m selects a r.0) (abides s peer m selects named) (alike_told s m selects r.0 a);
        each = r.1.each;
        notices = r.1.notices;
        outs = r.1.outs;
        silent = λ e. says ∙ silent_by (is_none (reply m selects r.0)) x r.1.code (ap (λ (o : Option Message). is_none o) e);
        said = λ q e n. says ∙ said_by (is_none (reply m selects r.0)) x r.1.code (response_code (shown_codes selects r.0)) (ap (λ (o : Option Message). is_none o) e) (r.1.shows n);
      },
    )
