-- What an element becomes and says at a Config is what the protocol says, its kept response too.
use Rattle.std.proofs.Common.{◌≡◌, ◌≢◌, ◌⊎◌, inl, inr, ℕ, ◌+◌, ◌==◌, ◌&&◌, not, Bool, true, false, cond, List, [], ◌∷◌, ◌++◌, length, Option, Some, None, Err, is_none, if◌then◌else◌, refl, sym, ap, ◌∙◌, subst, arith, append-nil}
use Rattle.std.specs.List.{flat_map}
use Rattle.fc_abiding.specs.Abiding.{IsLike, IsNamed, circumstance, heard, seen}
use Rattle.fc_abiding.specs.Responses.{shown_codes, telling, touched}
use Rattle.fc_abiding.specs.Runs.{Came, Life, life_from, life_of}
use Rattle.fc_abiding.proofs.Counted.{acts_long, each_long}
use Rattle.fc_abiding.proofs.Following.{Same, abides, judge_is, next_epoch}
use Rattle.fc_abiding.proofs.Hearing.{Alike, abides_too, id_stays}
use Rattle.fc_abiding.proofs.Naming.{named_stay, new_named}
use Rattle.fc_abiding.proofs.Reading.{all_read}
use Rattle.fc_abiding.proofs.Responding.{acts_told}
use Rattle.fc_abiding.proofs.Shaped.{Shaped, shaped}
use Rattle.fc_abiding.proofs.Shown.{AllAre, each_all, response_is, shown_all, touched_waits}
use Rattle.fc_asks.specs.Codes.{code_of, first_bad, select_codes}
use Rattle.fc_exec.specs.Operations.{made, operations}
use Rattle.fc_exec.specs.declared.operations.Operation.{Operation}
use Rattle.fc_machine.specs.ElementState.{first_code, response_code}
use Rattle.fc_machine.specs.Trace.{Fact, Of_protocol, Added_at, Plain_at, bare_facts}
use Rattle.fc_msg.specs.declared.message.Message.{Message}
use Rattle.fc_path.specs.declared.oper.Select.{Select}
use Rattle.fc_performing.specs.Performing.{mode_of}
use Rattle.std.specs.Option.{option_and_then}
use Rattle.fc_exec.specs.declared.operations.Operation.TheVariants as operation
use Rattle.fc_performing.specs.Notices.{notice_outs, route}
use Rattle.fc_performing.specs.Sending.{responses}
use Rattle.fc_performing.specs.declared.out.Out.{Out}
use Rattle.fc_phases.specs.Asking.{floor_bytes, word_bytes, asked, body_of, claim_or, ended, aborted, floor_in, floor_or_plain, opening_at, phase_asked, started, subject_at, with_subject, claim_word}
use Rattle.fc_phases.specs.Shapes.{behind, first_full, only_full}
use Rattle.fc_phases.specs.declared.asked.Asked.{Asked}
use Rattle.fc_phases.specs.declared.asked.Asked.TheVariants.{Claim, Floor, Plain, Start, Change, Commit, Complete as Completing, Abort as Aborting, Malformed}
use Rattle.fc_phases.specs.declared.values.Opening.{Opening}
use Rattle.fc_phases.specs.declared.values.Subject.{Subject}
use Rattle.fc_path.specs.declared.oper.Oper.{Oper}
use Rattle.fc_path.specs.declared.oper.Oper.TheVariants as oper
use Rattle.fc_lfbs.specs.Kinds.{opening_type, subject_type}
use Rattle.fc_protocol.specs.ElementMachine.{Circumstance, ElementState, Heard, hears, new_element, unclaimed_code}
use Rattle.fc_protocol.specs.ElementMachine as protocol
use Rattle.fc_protocol.specs.Fence.{claims, judge}
use Rattle.fc_protocol.specs.Messages as said
use Rattle.fc_protocol.specs.Messages.{Stamp, claim_of, is_epoch, stamp}
use Rattle.fc_protocol.specs.OneElement.{Arrival, hears_all}
use Rattle.fc_protocol.specs.Records.{any_taken}
use Rattle.fc_protocol.specs.Trace as trace
use Rattle.fc_protocol.specs.declared.verdict.Verdict.{Verdict}
use Rattle.fc_protocol.specs.declared.verdict.Verdict.TheVariants.{Claim as Claims, Unclaimed, Stale, Again, Gap, Next}
use Rattle.fc_reply.specs.Answered.{answered_selects}
use Rattle.fc_reply.specs.Counting.{each_gets}
use Rattle.fc_reply.specs.Replies.{is_wanted, reply, response, with_selects}
use Rattle.fc_store.specs.Stores.{Stored}
use Rattle.fc_transactions.specs.Order.{Step, asked_of, by_verdict, claim_in, configured, judged}
use Rattle.fc_transactions.specs.Phases.{Did, acts, all_get, executes, plain}
use Rattle.fc_transactions.specs.State.{TransactionState, opened}
use Rattle.fc_transactions.specs.declared.ledger.Ledger.{Ledger}
use Rattle.fc_querying.specs.Mastership.{HasMastership}
use Rattle.fc_querying.proofs.Written.{epoch_refused, floor_refused, put_at, refused_alone}
use Rattle.fc_querying.specs.Answering.{Answers, AreNotices, AreSame, IsHeardWhole, heard_of, is_shaped, is_unclaimed, keeping}

-- ---- a response that is read

first_is : (xs : List ℕ) → first_bad xs ≡ first_code xs
first_is [] = refl
first_is (x ∷ xs) = ap (λ n. cond (x == 0) n x) (first_is xs)

code_is : (xs : List ℕ) → code_of xs ≡ response_code xs
code_is [] = refl
code_is (x ∷ xs) = first_is (x ∷ xs)

-- the response to a Config whose operations have these codes, and what the protocol says of one with this code
module _ (m : Message) (selects : List Select) where
  wanted_by : (w : Bool) (ss : List Select) (code : ℕ) → (flat_map select_codes ss ≢ [] → code ≡ response_code (flat_map select_codes ss))
      → AreSame (if w then Some (response m ss) else None) (protocol.reply (is_none (if w then Some (response m ss) else None)) (stamp m.corr) code)
  wanted_by true ss code h = (code, refl, λ n. h n ∙ sym (code_is (flat_map select_codes ss)))
  wanted_by false ss code h = tt

  same_by : (codes : List ℕ) (code : ℕ) (ss : List Select) → (flat_map select_codes ss ≢ [] → code ≡ response_code (flat_map select_codes ss))
      → AreSame (with_selects m codes ss) (protocol.reply (is_none (with_selects m codes ss)) (stamp m.corr) code)
  same_by codes code [] h = tt
  same_by codes code (s ∷ ss) h = wanted_by (is_wanted m.flags.ack codes) (s ∷ ss) code h

  pub same_reply : (codes : List ℕ) (code : ℕ) → length codes ≡ length (operations selects) → (shown_codes selects codes ≢ [] → code ≡ response_code (shown_codes selects codes))
      → AreSame (reply m selects codes) (protocol.reply (is_none (reply m selects codes)) (stamp m.corr) code)
  same_reply codes code each h =
      let read = all_read selects codes each in
      same_by codes code (answered_selects selects codes) (subst (λ (xs : List ℕ). xs ≢ [] → code ≡ response_code xs) (sym read) h)

  -- each operation has this code
  one_code : (code : ℕ) → AreSame (reply m selects (each_gets code selects)) (protocol.reply (is_none (reply m selects (each_gets code selects))) (stamp m.corr) code)
  one_code code =
      same_reply (each_gets code selects) code (each_long code selects) (λ n. response_is code (shown_codes selects (each_gets code selects)) (shown_all code (operations selects) (each_gets code selects) (each_all code selects)) n)

-- ---- what the protocol says, by the verdict

module _ (s : TransactionState) (kept : Option said.Message) (m : Message) (selects : List Select) (codes : List ℕ) where
  abbrev x : Stamp
  x = stamp m.corr

  abbrev said_at : Asked → said.Body → Verdict → Heard
  said_at a b v = protocol.by_verdict s.id (keeping s kept) m.source (telling s.ledger m selects a codes) x b v

  abbrev judged_at : said.Body → Verdict
  judged_at b = judge s.epoch s.master s.sequence m.source x (claim_of b)

  abbrev whole : Asked → Heard
  whole a = hears s.id (keeping s kept) m.source (telling s.ledger m selects a codes) x (body_of x.count a)

  claim_by : (w : ℕ) (b : Bool)
      → hears s.id (keeping s kept) m.source (telling s.ledger m selects (Claim w) codes) x (cond b (said.Claim w) said.Plain)
      ≡ said_at (Claim w) (cond b (said.Claim w) said.Plain) (judged_at (cond b (said.Claim w) said.Plain))
  claim_by w true = refl
  claim_by w false = refl

  whole_is : (a : Asked) → whole a ≡ said_at a (body_of x.count a) (judged_at (body_of x.count a))
  whole_is (Claim w) = claim_by w (x.count == 0)
  whole_is (Floor f) = refl
  whole_is Plain = refl
  whole_is (Start o) = refl
  whole_is (Change y) = refl
  whole_is (Commit y) = refl
  whole_is (Completing y) = refl
  whole_is (Aborting y) = refl
  whole_is Malformed = refl

  pub whole_by : (a : Asked) → whole a ≡ said_at a (body_of x.count a) (judged s m a)
  whole_by a = whole_is a ∙ ap (said_at a (body_of x.count a)) (sym (judge_is s.epoch s.master s.sequence m.source x a))

-- ---- what it becomes does not depend on what is kept, nor on what a response shows

module _ (s : TransactionState) (kept : Option said.Message) (m : Message) (selects : List Select) (codes : List ℕ) where
  abbrev heard_at : Asked → said.Body → Verdict → Heard
  heard_at a b v = protocol.by_verdict s.id (seen s) m.source (circumstance s.ledger selects a) (stamp m.corr) b v

  heard_claim : (w : ℕ) (b : Bool)
      → hears s.id (seen s) m.source (circumstance s.ledger selects (Claim w)) (stamp m.corr) (cond b (said.Claim w) said.Plain)
      ≡ heard_at (Claim w) (cond b (said.Claim w) said.Plain) (judged_at s kept m selects codes (cond b (said.Claim w) said.Plain))
  heard_claim w true = refl
  heard_claim w false = refl

  heard_is : (a : Asked) → heard s m selects a ≡ heard_at a (body_of (stamp m.corr).count a) (judged_at s kept m selects codes (body_of (stamp m.corr).count a))
  heard_is (Claim w) = heard_claim w ((stamp m.corr).count == 0)
  heard_is (Floor f) = refl
  heard_is Plain = refl
  heard_is (Start o) = refl
  heard_is (Change y) = refl
  heard_is (Commit y) = refl
  heard_is (Completing y) = refl
  heard_is (Aborting y) = refl
  heard_is Malformed = refl

  heard_by : (a : Asked) → heard s m selects a ≡ heard_at a (body_of (stamp m.corr).count a) (judged s m a)
  heard_by a = heard_is a ∙ ap (heard_at a (body_of (stamp m.corr).count a)) (sym (judge_is s.epoch s.master s.sequence m.source (stamp m.corr) a))

  abbrev SameActs : Asked → said.Body → Type 0
  SameActs a b =
      Same (protocol.acts s.id s.epoch (circumstance s.ledger selects a) b s.ledger.records.floor s.ledger.records.entries)
      (protocol.acts s.id s.epoch (telling s.ledger m selects a codes) b s.ledger.records.floor s.ledger.records.entries)

  claim_same : (w : ℕ) (b : Bool) → SameActs (Claim w) (cond b (said.Claim w) said.Plain)
  claim_same w true = record { records = refl; floor = refl; facts = refl }
  claim_same w false = record { records = refl; floor = refl; facts = refl }

  same_acts : (a : Asked) → SameActs a (body_of (stamp m.corr).count a)
  same_acts (Claim w) = claim_same w ((stamp m.corr).count == 0)
  same_acts (Floor f) = record { records = refl; floor = refl; facts = refl }
  same_acts Plain = record { records = refl; floor = refl; facts = refl }
  same_acts (Start o) = record { records = refl; floor = refl; facts = refl }
  same_acts (Change y) = record { records = refl; floor = refl; facts = refl }
  same_acts (Commit y) = record { records = refl; floor = refl; facts = refl }
  same_acts (Completing y) = record { records = refl; floor = refl; facts = refl }
  same_acts (Aborting y) = record { records = refl; floor = refl; facts = refl }
  same_acts Malformed = record { records = refl; floor = refl; facts = refl }

  alike_at : (a : Asked) (b : said.Body) (v : Verdict) → SameActs a b → Alike (heard_at a b v) (said_at s kept m selects codes a b v)
  alike_at a b (Claims e) y = record { element = refl; facts = refl }
  alike_at a b Unclaimed y = record { element = refl; facts = refl }
  alike_at a b Stale y = record { element = refl; facts = refl }
  alike_at a b Again y = record { element = refl; facts = refl }
  alike_at a b Gap y = record { element = refl; facts = refl }
  alike_at a b Next y = record {
    element = λ i. record { epoch = s.epoch; master = s.master; sequence = s.sequence + 1; kept = None; records = y.records i; floor = y.floor i; ce = s.ce; last_ce = s.last_ce };
    facts = y.facts;
  }

  alike_whole : (a : Asked) → Alike (heard s m selects a) (whole s kept m selects codes a)
  alike_whole a =
      let b = body_of (stamp m.corr).count a in
      subst (λ (h : Heard). Alike (heard s m selects a) h) (sym (whole_by s kept m selects codes a)) (subst (λ (h : Heard). Alike h (said_at s kept m selects codes a b (judged s m a))) (sym (heard_by a)) (alike_at a b (judged s m a) (same_acts a)))

-- ---- an element that no life has claimed

-- with the flag of a transaction nothing is a claim, a floor or a plain change
abbrev PhaseIs : Asked → Type 0
PhaseIs a = (count : ℕ) (plain : ℕ) → unclaimed_code true plain (body_of count a) ≡ 21

started_phase : (o : Option Opening) → PhaseIs (started o)
started_phase None count plain = refl
started_phase (Some o) count plain = refl

ended_phase : (x : Subject) (os : Option (List Oper)) → PhaseIs (ended x os)
ended_phase x None count plain = refl
ended_phase x (Some []) count plain = refl
ended_phase x (Some (oper.Paths kind paths ∷ [])) count plain = refl
ended_phase x (Some (oper.Commit ∷ [])) count plain = refl
ended_phase x (Some (oper.Trcomp ∷ [])) count plain = refl
ended_phase x (Some (oper.CommitResponse code ∷ [])) count plain = refl
ended_phase x (Some (o ∷ p ∷ os)) count plain = refl

aborted_phase : (x : Subject) (os : Option (List Oper)) → PhaseIs (aborted x os)
aborted_phase x None count plain = refl
aborted_phase x (Some []) count plain = refl
aborted_phase x (Some (o ∷ os)) count plain = refl

either_phase : (b : Bool) (a c : Asked) → PhaseIs a → PhaseIs c → PhaseIs (if b then a else c)
either_phase true a c h k = h
either_phase false a c h k = k

subject_phase : (tp : ℕ) (x : Option Subject) (selects : List Select) → PhaseIs (with_subject tp x selects)
subject_phase tp None selects = λ count plain. refl
subject_phase tp (Some x) selects =
    either_phase (tp == 1) (Change x) (if tp == 2 then ended x (behind selects) else aborted x (behind selects)) (λ count plain. refl)
    (either_phase (tp == 2) (ended x (behind selects)) (aborted x (behind selects)) (ended_phase x (behind selects)) (aborted_phase x (behind selects)))

with_flag : (em tp : ℕ) (selects : List Select) → PhaseIs (asked opening_type subject_type em true tp selects)
with_flag em tp selects =
    either_phase (em == 1) (phase_asked opening_type subject_type tp selects) Malformed
    (either_phase (tp == 0) (started (opening_at opening_type (first_full 4 selects))) (with_subject tp (subject_at subject_type (first_full 5 selects)) selects)
    (started_phase (opening_at opening_type (first_full 4 selects))) (subject_phase tp (subject_at subject_type (first_full 5 selects)) selects))
    (λ count plain. refl)

-- without it, what has not the shape of a claim or of a floor is a plain change
claim_plain : (w : ℕ) (first : Bool) (plain : ℕ) → is_shaped first (Claim w) ≡ false → unclaimed_code true plain (cond first (said.Claim w) said.Plain) ≡ plain
claim_plain w true plain e = absurd (cc e)
claim_plain w false plain e = refl

floor_plain : (f : Option Subject) (count plain : ℕ) → is_shaped (count == 0) (floor_or_plain f) ≡ false → unclaimed_code true plain (body_of count (floor_or_plain f)) ≡ plain
floor_plain None count plain e = refl
floor_plain (Some f) count plain e = absurd (cc e)

word_plain : (w : Option ℕ) (selects : List Select) (count plain : ℕ) → is_shaped (count == 0) (claim_or w selects) ≡ false → unclaimed_code true plain (body_of count (claim_or w selects)) ≡ plain
word_plain None selects count plain e = floor_plain (floor_in selects) count plain e
word_plain (Some w) selects count plain e = claim_plain w (count == 0) plain e

-- ---- by the verdict

none_in_the_way : (scope : List (ℕ × ℕ)) → any_taken [] scope ≡ false
none_in_the_way [] = refl
none_in_the_way (i ∷ scope) = none_in_the_way scope

module _ (s : TransactionState) (kept : Option said.Message) (peer : ℕ) (m : Message) (selects : List Select) (named : IsNamed s) (same : AreSame s.kept kept) where
  abbrev count : ℕ
  count = (stamp m.corr).count

  record At (t : Step) (a : Asked) (v : Verdict) (codes : List ℕ) : Type 0 where
    keeps : AreSame t.state.kept (said_at s kept m selects codes a (body_of count a) v).element.kept
    kept_is : (t.state.kept ≡ reply m selects codes) ⊎ (t.state.kept ≡ s.kept)
    response : Option Message
    sent_is : (response ≡ reply m selects codes) ⊎ (response ≡ s.kept)
    notices : List Out
    outs : t.outs ≡ responses peer response ++ notices
    told : AreNotices s peer m notices
    says : ((is_unclaimed v && (m.source == s.ce && is_shaped (count == 0) a)) ≡ true → HasMastership s.ledger.store) → AreSame response (said_at s kept m selects codes a (body_of count a) v).says

  -- the codes of a Config that is executed: one for each operation
  abbrev emptied : Ledger
  emptied = record s.ledger { records = record { entries = []; floor = None } }

  executed_long : length (executes s.id s.ledger m selects).codes ≡ length (operations selects)
  executed_long =
      let long = acts_long s.id s.epoch emptied m selects Plain tt in
      let free = sym (touched_waits [] selects) ∙ none_in_the_way (touched selects) in
      subst (λ (b : Bool). length (if b then all_get emptied selects 18 else executes s.id emptied m selects).codes ≡ length (operations selects)) free long

  abbrev done : Bool → Bool → Did
  done ours at = if not ours then all_get s.ledger selects 12 else (if at then all_get s.ledger selects 21 else executes s.id s.ledger m selects)

  -- one that writes the epoch or the floor gets one code, which the protocol knows
  abbrev RefusedSo : Asked → Type 0
  RefusedSo a = (code : ℕ) × ((plain : ℕ) → unclaimed_code true plain (body_of count a) ≡ code) × ((executes s.id s.ledger m selects).codes ≡ code ∷ [])

  there : {A B : Type 0} (f : A → Option B) (o : Option A) (y : B) → option_and_then f o ≡ Some y → (x : A) × (o ≡ Some x)
  there f None y e = cc
  there f (Some x) y e = (x, refl)

  claim_code : (w plain : ℕ) (first : Bool) → first ≡ true → unclaimed_code true plain (cond first (said.Claim w) said.Plain) ≡ 12
  claim_code w plain true e = refl
  claim_code w plain false e = cc

  refused_at : (id code : ℕ) (bytes : List ℕ) → (code == 0) ≡ false → only_full id selects ≡ Some bytes → made (operation.Leaf (put_at id 126977 1 bytes)) s.ledger.store ≡ Err code → (executes s.id s.ledger m selects).codes ≡ code ∷ []
  refused_at id code bytes some only e = refused_alone id code bytes selects s.ledger.store s.ledger.subscriptions (mode_of m.flags.em) some only e

  floor_refuses : HasMastership s.ledger.store → (f : Option Subject) → floor_in selects ≡ f → is_shaped (count == 0) (floor_or_plain f) ≡ true → RefusedSo (floor_or_plain f)
  floor_refuses has None e shape = absurd (cc shape)
  floor_refuses has (Some f) e shape =
      let (bytes, only) = there floor_bytes (only_full 6 selects) f e in
      (9, (λ plain. refl), refused_at 6 9 bytes refl only (floor_refused s.ledger.store bytes has))

  word_refuses : HasMastership s.ledger.store → (w : Option ℕ) → claim_word selects ≡ w → is_shaped (count == 0) (claim_or w selects) ≡ true → RefusedSo (claim_or w selects)
  word_refuses has None e shape = floor_refuses has (floor_in selects) refl shape
  word_refuses has (Some w) e shape =
      let (bytes, only) = there word_bytes (only_full 1 selects) w e in
      (12, (λ plain. claim_code w plain (count == 0) shape), refused_at 1 12 bytes refl only (epoch_refused s.ledger.store bytes has))

  abbrev Unflagged : Asked → Type 0
  Unflagged a = ((plain : ℕ) → is_shaped (count == 0) a ≡ false → unclaimed_code true plain (body_of count a) ≡ plain) × (is_shaped (count == 0) a ≡ true → HasMastership s.ledger.store → RefusedSo a)

  executed_says : (a : Asked) → Unflagged a → (is_shaped (count == 0) a ≡ true → HasMastership s.ledger.store) → (shape : Bool) → is_shaped (count == 0) a ≡ shape → (codes : List ℕ) → codes ≡ (executes s.id s.ledger m selects).codes
      → AreSame (reply m selects codes) (protocol.reply (is_none (reply m selects codes)) (stamp m.corr) (unclaimed_code true (response_code (shown_codes selects codes)) (body_of count a)))
  executed_says a plain has false shape codes is =
      same_reply m selects codes (unclaimed_code true (response_code (shown_codes selects codes)) (body_of count a)) (ap length is ∙ executed_long) (λ n. plain.0 (response_code (shown_codes selects codes)) shape)
  executed_says a plain has true shape codes is =
      let (code, told, one) = plain.1 shape (has shape) in
      let all : AllAre code codes = subst (AllAre code) (sym (is ∙ one)) (refl, tt) in
      same_reply m selects codes (unclaimed_code true (response_code (shown_codes selects codes)) (body_of count a)) (ap length is ∙ executed_long)
      (λ n. told (response_code (shown_codes selects codes)) ∙ response_is code (shown_codes selects codes) (shown_all code (operations selects) codes all) n)

  unclaimed_says : (ours at : Bool) (a : Asked) → (at ≡ true → PhaseIs a) → (at ≡ false → Unflagged a) → ((ours && is_shaped (count == 0) a) ≡ true → HasMastership s.ledger.store)
      → AreSame (reply m selects (done ours at).codes) (protocol.reply (is_none (reply m selects (done ours at).codes)) (stamp m.corr) (unclaimed_code ours (response_code (shown_codes selects (done ours at).codes)) (body_of count a)))
  unclaimed_says false at a phase plain has = one_code m selects 12
  unclaimed_says true true a phase plain has = subst (λ (code : ℕ). AreSame (reply m selects (each_gets 21 selects)) (protocol.reply (is_none (reply m selects (each_gets 21 selects))) (stamp m.corr) code)) (sym (phase refl count _)) (one_code m selects 21)
  unclaimed_says true false a phase plain has = executed_says a (plain refl) has (is_shaped (count == 0) a) refl (executes s.id s.ledger m selects).codes refl

  not_first : (c sequence : ℕ) → (c == sequence + 1) ≡ true → (c == 0) ≡ false
  not_first c sequence e = grind arith

  later_by : (a b c d e : Bool) (life : ℕ) → Next ≡ cond a (Claims life) (cond b Unclaimed (cond c (cond d Again (cond e Next Gap)) Stale)) → e ≡ true
  later_by true b c d e life h = absurd cc
  later_by false true c d e life h = absurd cc
  later_by false false true true e life h = absurd cc
  later_by false false true false true life h = refl
  later_by false false true false false life h = absurd cc
  later_by false false false d e life h = absurd cc

  at_by : (a : Asked) (v : Verdict) → Shaped selects a → (m.flags.at ≡ true → PhaseIs a) → (m.flags.at ≡ false → Unflagged a)
      → (v ≡ Next → is_epoch s.epoch ≡ true) → (v ≡ Next → (count == 0) ≡ false) → (codes : List ℕ) × At (by_verdict s peer m selects a v) a v codes
  at_by a (Claims e) shape phase plain is later = (
    each_gets 0 selects,
    record { keeps = one_code m selects 0; kept_is = inl refl; response = reply m selects (each_gets 0 selects); sent_is = inl refl; notices = []; told = (s.ledger.store.library, [], refl); outs = sym (append-nil (responses peer (reply m selects (each_gets 0 selects)))); says = λ n. one_code m selects 0 },
  )
  at_by a Unclaimed shape phase plain is later = (
    (done (m.source == s.ce) m.flags.at).codes,
    record {
      keeps = same;
      kept_is = inr refl;
      response = reply m selects (done (m.source == s.ce) m.flags.at).codes;
      sent_is = inl refl;
      notices = notice_outs (done (m.source == s.ce) m.flags.at).ledger.store.library (route s.id m.source peer) (done (m.source == s.ce) m.flags.at).notices;
      told = ((done (m.source == s.ce) m.flags.at).ledger.store.library, (done (m.source == s.ce) m.flags.at).notices, refl);
      outs = refl;
      says = λ n. unclaimed_says (m.source == s.ce) m.flags.at a phase plain n;
    },
  )
  at_by a Stale shape phase plain is later = (
    each_gets 12 selects,
    record { keeps = same; kept_is = inr refl; response = reply m selects (each_gets 12 selects); sent_is = inl refl; notices = notice_outs s.ledger.store.library (route s.id m.source peer) []; told = (s.ledger.store.library, [], refl); outs = refl; says = λ n. one_code m selects 12 },
  )
  at_by a Again shape phase plain is later = ([], record { keeps = same; kept_is = inr refl; response = s.kept; sent_is = inr refl; notices = []; told = (s.ledger.store.library, [], refl); outs = sym (append-nil (responses peer s.kept)); says = λ n. same })
  at_by a Gap shape phase plain is later = (
    each_gets 16 selects,
    record { keeps = same; kept_is = inr refl; response = reply m selects (each_gets 16 selects); sent_is = inl refl; notices = notice_outs s.ledger.store.library (route s.id m.source peer) []; told = (s.ledger.store.library, [], refl); outs = refl; says = λ n. one_code m selects 16 },
  )
  at_by a Next shape phase plain is later =
      let d = acts s.id s.epoch s.ledger m selects a in
      let code = (protocol.acts s.id s.epoch (telling s.ledger m selects a d.codes) (body_of count a) s.ledger.records.floor s.ledger.records.entries).code in
      let said = same_reply m selects d.codes code (acts_long s.id s.epoch s.ledger m selects a shape) (acts_told s.id s.epoch s.ledger m selects named.records (is refl) a count shape (later refl)) in
      (d.codes, record { keeps = said; kept_is = inl refl; response = reply m selects d.codes; sent_is = inl refl; notices = notice_outs d.ledger.store.library (route s.id m.source peer) d.notices; told = (d.ledger.store.library, d.notices, refl); outs = refl; says = λ n. said })

  asked_phase : (at : Bool) → m.flags.at ≡ at → (at ≡ true → PhaseIs (asked_of m selects)) × (at ≡ false → Unflagged (asked_of m selects))
  asked_phase true e = (
    λ _. subst (λ at. PhaseIs (asked opening_type subject_type m.flags.em at m.flags.tp selects)) (sym e) (with_flag m.flags.em m.flags.tp selects),
    λ f. absurd (cc f),
  )
  asked_phase false e = (
    λ f. absurd (cc f),
    λ _. subst (λ at. Unflagged (asked opening_type subject_type m.flags.em at m.flags.tp selects)) (sym e)
        ((λ plain. word_plain (claim_word selects) selects count plain), (λ shape has. word_refuses has (claim_word selects) refl shape)),
  )

  abbrev x_of : Stamp
  x_of = stamp m.corr

  pub goes : (codes : List ℕ) × Answers s kept peer m selects codes
  unfolding configured
  goes =
      let a = asked_of m selects in
      let v = judged s m a in
      let (phase, plain) = asked_phase m.flags.at refl in
      let (codes, at) = at_by a v (shaped m selects) phase plain (λ e. named.epoch (next_epoch s.epoch s.master s.sequence m.source x_of (claim_in a) (sym e)))
      (λ e. not_first x_of.count s.sequence
      (later_by (claims s.epoch m.source x_of (claim_in a)) (s.epoch == 0) (x_of.life == s.epoch && m.source == s.master) (x_of.count == s.sequence) (x_of.count == s.sequence + 1) x_of.life (sym e))) in
      let h = whole s kept m selects codes a in
      let all = abides_too (configured s peer m selects) (heard s m selects a) h (abides s peer m selects named) (alike_whole s kept m selects codes a) in
      let is = sym (whole_by s kept m selects codes a) in (
        codes,
        record {
          state = all.state;
          kept = subst (λ (g : Heard). AreSame (configured s peer m selects).state.kept g.element.kept) is at.keeps;
          keeps = at.kept_is;
          facts = all.facts;
          response = at.response;
          sends = at.sent_is;
          notices = at.notices;
          outs = at.outs;
          told = at.told;
          says = λ n. subst (λ (g : Heard). AreSame at.response g.says) is (at.says n);
        },
      )

-- ---- all of them

bare_more : (xs ys : List (Fact Operation)) → bare_facts (xs ++ ys) ≡ bare_facts xs ++ bare_facts ys
bare_more [] ys = refl
bare_more (Of_protocol f ∷ xs) ys = ap (λ fs. f ∷ fs) (bare_more xs ys)
bare_more (Added_at p y ops ∷ xs) ys = bare_more xs ys
bare_more (Plain_at p ops ∷ xs) ys = bare_more xs ys

-- the element of the protocol is this one with its kept reply
el_is : (s : TransactionState) (el : ElementState) → IsLike s el → keeping s el.kept ≡ el
el_is s el like = λ i. record { epoch = like.epoch i; master = like.master i; sequence = like.sequence i; kept = el.kept; records = like.records i; floor = like.floor i; ce = like.ce i; last_ce = like.last_ce i }

abbrev GoesOn : ℕ → ElementState → List trace.Fact → Life → Type 0
GoesOn p el gs life =
    (arrivals : List Arrival) × IsLike life.state (hears_all p arrivals el gs).element × AreSame life.state.kept (hears_all p arrivals el gs).element.kept × (bare_facts life.facts ≡ (hears_all p arrivals el gs).facts)

-- one Config more
pub record OneMore (s : TransactionState) (el : ElementState) (gs : List trace.Fact) (c : Came) : Type 0 where
  pub arrival : Arrival
  pub like : IsLike (configured s c.peer c.message c.selects).state (hears s.id el arrival.sender arrival.circumstance arrival.stamp arrival.body).element
  pub same : AreSame (configured s c.peer c.message c.selects).state.kept (hears s.id el arrival.sender arrival.circumstance arrival.stamp arrival.body).element.kept
  pub facts : bare_facts (configured s c.peer c.message c.selects).facts ≡ (hears s.id el arrival.sender arrival.circumstance arrival.stamp arrival.body).facts

one_more : (s : TransactionState) (el : ElementState) (gs : List trace.Fact) (c : Came) → IsNamed s → IsLike s el → AreSame s.kept el.kept → OneMore s el gs c
one_more s el gs c named like same =
    let (codes, g) = goes s el.kept c.peer c.message c.selects named same in
    let body = body_of (stamp c.message.corr).count (asked_of c.message c.selects) in
    let circumstance = telling s.ledger c.message c.selects (asked_of c.message c.selects) codes in
    let is : heard_of s el.kept c.message c.selects codes ≡ hears s.id el c.message.source circumstance (stamp c.message.corr) body = ap (λ (e : ElementState). hears s.id e c.message.source circumstance (stamp c.message.corr) body) (el_is s el like) in
    let t = configured s c.peer c.message c.selects in
    record {
      arrival = record { sender = c.message.source; circumstance = circumstance; stamp = stamp c.message.corr; body = body };
      like = subst (λ (h : Heard). IsLike t.state h.element) is g.state;
      same = subst (λ (h : Heard). AreSame t.state.kept h.element.kept) is g.kept;
      facts = g.facts ∙ ap (λ (h : Heard). h.facts) is;
    }

goes_from : (p : ℕ) (came : List Came) (s : TransactionState) (fs : List (Fact Operation)) (el : ElementState) (gs : List trace.Fact) → s.id ≡ p → IsLike s el → AreSame s.kept el.kept → bare_facts fs ≡ gs → IsNamed s
    → GoesOn p el gs (life_from came s fs)
goes_from p [] s fs el gs i like same e named = ([], like, same, e)
goes_from p (c ∷ came) s fs el gs i like same e named =
    let t = configured s c.peer c.message c.selects in
    let more = one_more s el gs c named like same in
    let a = more.arrival in
    let h = hears p el a.sender a.circumstance a.stamp a.body in
    let is : hears s.id el a.sender a.circumstance a.stamp a.body ≡ h = ap (λ n. hears n el a.sender a.circumstance a.stamp a.body) i in
    let (arrivals, likes, sames, facts) = goes_from p came t.state (t.facts ++ fs) h.element (h.facts ++ gs) (id_stays s c.peer c.message c.selects ∙ i)
    (subst (λ (g : Heard). IsLike t.state g.element) is more.like) (subst (λ (g : Heard). AreSame t.state.kept g.element.kept) is more.same)
    (bare_more t.facts fs ∙ ap (λ (xs : List trace.Fact). xs ++ bare_facts fs) (more.facts ∙ ap (λ (g : Heard). g.facts) is) ∙ ap (λ (ys : List trace.Fact). h.facts ++ ys) e) (named_stay s c.peer c.message c.selects named) in
    (a ∷ arrivals, likes, sames, facts)

pub heard_whole : (id ce : ℕ) (store : Stored) (came : List Came) → IsHeardWhole id ce (life_of id ce store came)
heard_whole id ce store came =
    goes_from id came (opened id ce store) [] (new_element ce) [] refl (record { epoch = refl; master = refl; sequence = refl; records = refl; floor = refl; ce = refl; last_ce = refl }) tt refl (new_named id ce store)
