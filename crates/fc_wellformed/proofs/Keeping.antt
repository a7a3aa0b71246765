-- A master that may speak stays one, whatever it hears and is asked to do, and all that it then says may be said.
use Rattle.std.proofs.Common.{◌≡◌, ℕ, ◌≤◌, ◌&&◌, ◌||◌, ◌==◌, Bool, true, false, not, nat_lt, nat_le, List, [], ◌∷◌, ◌++◌, map, length, Option, Some, None, is_some, is_none, if◌then◌else◌, refl, arith}
use Rattle.std.specs.List.{AllByRecursion}
use Rattle.fc_base.specs.Ids.{Txn}
use Rattle.fc_protocol.specs.Collections.{among, put, or_next}
use Rattle.fc_protocol.specs.Jobs.{Job, answer, answered_by, by_code, body_by, decided_job, decides_job, decision_body, discover, find, first_need, given_up, needs, new_job, on_job, own_body, recovered, settled_at, stuck_at, undecided_body, went_on, with_decision}
use Rattle.fc_protocol.specs.Messages.{same, Body, Claim, Sot, Mot, Eot, Trcomp, Abt, Floor, Malformed, Plain, Ask, Ask_record, Message, Setup, Beat, Request, Reply, Holds, Tells, Unread, Other_up, Other_down, Sent}
use Rattle.fc_protocol.specs.MasterMachine.{Master, Peer, Refusal, Speaks, TooMany, Waiting, after_ask, after_code, again, and_says, at_put, begin_refusal, begins, by_epoch, coded, decide_all, dropped, depose, deposed_by, due, finish, floor_body, forgets, gives_up, heard, held_by, held_told, is_lower, matches, new_master, next_txn, record_by, record_told, refused_if, sending, sends_all, sends_one, stamp_of, unmatched, unread_told, unspent, wanted}
use Rattle.fc_protocol.specs.Scopes.{Scope}
use Rattle.fc_protocol.specs.declared.answers.Answer.{Answer}
use Rattle.fc_protocol.specs.declared.answers.TxnEntry.{TxnEntry}
use Rattle.fc_protocol.specs.declared.states.Decision.{Decision}
use Rattle.fc_protocol.specs.declared.states.Decision.TheVariants.{Complete, Abort}
use Rattle.fc_protocol.specs.declared.states.Seen.{Seen}
use Rattle.fc_protocol.proofs.Puts.{put_all}
use Rattle.fc_wellformed.specs.Saying.{IsSmall, MaySay, MaySend, MaySpeak, MayWait, SpeaksWell}

-- ---- lists and tests

pub all_append : {A : Type 0} (P : A → Type 0) (xs ys : List A) → AllByRecursion P xs → AllByRecursion P ys → AllByRecursion P (xs ++ ys)
all_append P [] ys h k = k
all_append P (x ∷ xs) ys h k = (h.0, all_append P xs ys h.1 k)

all_mapped : {A : Type 0} (P : A → Type 0) (f : A → A) (xs : List A) → ((x : A) → P x → P (f x)) → AllByRecursion P xs → AllByRecursion P (map f xs)
all_mapped P f [] more h = tt
all_mapped P f (x ∷ xs) more h = (more x h.0, all_mapped P f xs more h.1)

pub either : {A : Type 0} (P : A → Type 0) (b : Bool) (x y : A) → P x → P y → P (if b then x else y)
either P true x y h k = h
either P false x y h k = k

-- ---- jobs

abbrev AreSmall : List Job → Type 0
AreSmall = AllByRecursion IsSmall

on_job_small : (x : Txn) (f : Job → Job) (js : List Job) → ((j : Job) → IsSmall j → IsSmall (f j)) → AreSmall js → AreSmall (on_job x f js)
on_job_small x f js more h = all_mapped IsSmall (λ j. if same x j.txn then f j else j) js (λ j is. either IsSmall (same x j.txn) (f j) j (more j is) is) h

found_small : (n : TxnEntry) → IsSmall (recovered n)
found_small n e = absurd (cc e)

discover_small : (ns : List TxnEntry) (js : List Job) → AreSmall js → AreSmall (discover ns js)
discover_small [] js h = h
discover_small (n ∷ ns) js h =
    discover_small ns (if is_some (find n.txn js) then js else js ++ recovered n ∷ []) (either AreSmall (is_some (find n.txn js)) js (js ++ recovered n ∷ []) h (all_append IsSmall js (recovered n ∷ []) h (found_small n, tt)))

decision_small : (j : Job) (d : Option Decision) → IsSmall j → IsSmall (with_decision j d)
decision_small j None h = h
decision_small j (Some d) h = h

decided_small : (e : ℕ) (d : Option Decision) (j : Job) → IsSmall j → IsSmall (decided_job e d j)
decided_small e None j h = decision_small j (decides_job e j) h
decided_small e (Some d) j h = h

given_up_small : (x : Txn) (j : Job) → IsSmall j → IsSmall (given_up x j)
given_up_small x j h = either IsSmall (same x j.txn && (j.mine && is_none j.decision)) (record j { decision = Some Abort }) j h h

by_code_small : (e p : ℕ) (b : Body) (good : Bool) (js : List Job) → AreSmall js → AreSmall (by_code e p b good js)
by_code_small e p (Claim w) good js h = h
by_code_small e p (Sot x ps sc) good js h = either AreSmall good (on_job x (went_on p) js) (on_job x (answered_by p (answer e _)) js) (on_job_small x (went_on p) js (λ j is. is) h) (on_job_small x (answered_by p (answer e _)) js (λ j is. is) h)
by_code_small e p (Mot x i) good js h = either AreSmall good (on_job x (went_on p) js) (on_job x (answered_by p (answer e _)) js) (on_job_small x (went_on p) js (λ j is. is) h) (on_job_small x (answered_by p (answer e _)) js (λ j is. is) h)
by_code_small e p (Eot x) good js h = either AreSmall good (on_job x (answered_by p (answer e _)) js) (on_job x (answered_by p (answer e _)) js) (on_job_small x (answered_by p (answer e _)) js (λ j is. is) h) (on_job_small x (answered_by p (answer e _)) js (λ j is. is) h)
by_code_small e p (Trcomp x) good js h = either AreSmall good (on_job x (settled_at p) js) (on_job x (stuck_at p) js) (on_job_small x (settled_at p) js (λ j is. is) h) (on_job_small x (stuck_at p) js (λ j is. is) h)
by_code_small e p (Abt x) good js h = either AreSmall good (on_job x (settled_at p) js) (on_job x (stuck_at p) js) (on_job_small x (settled_at p) js (λ j is. is) h) (on_job_small x (stuck_at p) js (λ j is. is) h)
by_code_small e p (Floor f) good js h = h
by_code_small e p Malformed good js h = h
by_code_small e p Plain good js h = h
by_code_small e p Ask good js h = h
by_code_small e p (Ask_record x) good js h = h

module _ (HasPlain : ℕ → Type 0) where
  -- ---- what is due

  abbrev MayAll : ℕ → Option Body → Type 0
  MayAll p None = Unit {0}
  MayAll p (Some b) = MaySay HasPlain p b

  next_may : (p : ℕ) (o next : Option Body) → MayAll p o → MayAll p next → MayAll p (or_next o next)
  next_may p None next h k = k
  next_may p (Some b) next h k = h

  either_body : (p : ℕ) (t : Bool) (b c : Body) → MaySay HasPlain p b → MaySay HasPlain p c → MaySay HasPlain p (if t then b else c)
  either_body p t b c h k = either (MaySay HasPlain p) t b c h k

  own_may : (j : Job) (p : ℕ) → (length j.parts ≤ 64) × ((q : ℕ) → length (j.scopes q) ≤ 4096) → MaySay HasPlain p (own_body j p)
  own_may j p h =
      either_body p (j.done p == 0) (Sot j.txn j.parts (j.scopes p)) (if nat_le (j.done p) (j.changes p) then Mot j.txn (j.done p) else Eot j.txn) (h.0, h.1 p)
      (either_body p (nat_le (j.done p) (j.changes p)) (Mot j.txn (j.done p)) (Eot j.txn) tt tt)

  by_mine : (j : Job) (p : ℕ) (b : Bool) → (b ≡ true → (length j.parts ≤ 64) × ((q : ℕ) → length (j.scopes q) ≤ 4096)) → MayAll p (if b then Some (own_body j p) else Some (Ask_record j.txn))
  by_mine j p true h = own_may j p (h refl)
  by_mine j p false h = tt

  undecided_may : (j : Job) (p : ℕ) → IsSmall j → MayAll p (undecided_body j p)
  undecided_may j p h = either (MayAll p) (is_some (j.answers p)) None (if j.mine then Some (own_body j p) else Some (Ask_record j.txn)) tt (by_mine j p j.mine h)

  decision_may : (p : ℕ) (x : Txn) (d : Decision) → MaySay HasPlain p (decision_body x d)
  decision_may p x Complete = tt
  decision_may p x Abort = tt

  body_may : (j : Job) (p : ℕ) (d : Option Decision) → IsSmall j → MayAll p (body_by j p d)
  body_may j p None h = undecided_may j p h
  body_may j p (Some d) h = either (MayAll p) (j.settled p || j.stuck p) None (Some (decision_body j.txn d)) tt (decision_may p j.txn d)

  needs_may : (j : Job) (p : ℕ) → IsSmall j → MayAll p (needs j p)
  needs_may j p h = either (MayAll p) (among p j.parts) (body_by j p j.decision) None (body_may j p j.decision h) tt

  first_may : (js : List Job) (p : ℕ) → AreSmall js → MayAll p (first_need js p)
  first_may [] p h = tt
  first_may (j ∷ js) p h = next_may p (needs j p) (first_need js p) (needs_may j p h.0) (first_may js p h.1)

  floor_may : (p : ℕ) (o : Option Txn) → MayAll p (floor_body o)
  floor_may p None = tt
  floor_may p (Some f) = tt

  wanted_may : (m : Master) (p : ℕ) (y : Peer) → AreSmall m.jobs → MayAll p (wanted m p y)
  wanted_may m p y h =
      let last = next_may p (first_need m.jobs p) (floor_body y.owes) (first_may m.jobs p h) (floor_may p y.owes) in
      let asks = either (MayAll p) (not y.answered) (Some Ask) (or_next (first_need m.jobs p) (floor_body y.owes)) tt last in
      let claims = either (MayAll p) (not y.claimed) (Some (Claim m.epoch)) (if not y.answered then Some Ask else or_next (first_need m.jobs p) (floor_body y.owes)) tt asks in
      either (MayAll p) y.doubt (Some Ask) (if not y.claimed then Some (Claim m.epoch) else (if not y.answered then Some Ask else or_next (first_need m.jobs p) (floor_body y.owes))) tt claims

  unspent_may : (p : ℕ) (y : Peer) (o : Option Body) → MayAll p o → MayAll p (unspent y o)
  unspent_may p y None h = tt
  unspent_may p y (Some b) h = either (MayAll p) _ (Some b) None h tt

  due_may : (m : Master) (p : ℕ) → AreSmall m.jobs → MayAll p (due m p)
  due_may m p h = either (MayAll p) _ (unspent (m.at p) (wanted m p (m.at p))) None (unspent_may p (m.at p) (wanted m p (m.at p)) (wanted_may m p (m.at p) h)) tt

  -- ---- sending

  waits_put : (f : ℕ → Peer) (p : ℕ) (y : Peer) → MayWait HasPlain p y.waits → ((q : ℕ) → MayWait HasPlain q (f q).waits) → (q : ℕ) → MayWait HasPlain q (put f p y q).waits
  waits_put f p y h all = put_all (λ q z. MayWait HasPlain q z.waits) f p y h all

  abbrev Well : Speaks → Type 0
  Well = SpeaksWell HasPlain

  abbrev May : Master → Type 0
  May = MaySpeak HasPlain

  put_may : (m : Master) (p : ℕ) (y : Peer) → MayWait HasPlain p y.waits → May m → May (at_put m p y)
  put_may m p y h may = record { jobs = may.jobs; waits = waits_put m.at p y h may.waits }

  pub one_well : (k : ℕ) (m : Master) (p : ℕ) (o : Option Body) → MayAll p o → May m → Well (sends_one k m p o)
  one_well k m p None h may = record { master = may; says = tt }
  one_well k m p (Some b) h may = record { master = put_may m p (sending (m.at p) (record { stamp = stamp_of m.epoch b (m.at p); body = b })) h may; says = (h, tt) }

  then_well : (r : Speaks) (ss : List Sent) → AllByRecursion (MaySend HasPlain) ss → Well r → Well (and_says r ss)
  then_well r ss h well = record { master = well.master; says = all_append (MaySend HasPlain) ss r.says h well.says }

  all_well : (k : ℕ) (ps : List ℕ) (m : Master) → May m → Well (sends_all k ps m)
  all_well k [] m may = record { master = may; says = tt }
  all_well k (p ∷ ps) m may =
      let r = sends_one k m p (due m p) in
      let one = one_well k m p (due m p) (due_may m p may.jobs) may in
      then_well (sends_all k ps r.master) r.says one.says (all_well k ps r.master one.master)

  decide_may : (m : Master) → May m → May (decide_all m)
  decide_may m may = record { jobs = all_mapped IsSmall (λ j. decided_job m.epoch j.decision j) m.jobs (λ j h. decided_small m.epoch j.decision j h) may.jobs; waits = may.waits }

  pub finish_well : (k : ℕ) (m : Master) → May m → Well (finish k m)
  finish_well k m may = all_well k m.elements (decide_all m) (decide_may m may)

  -- ---- hearing

  depose_may : (m : Master) (e : ℕ) → May m → May (depose m e)
  depose_may m e may = record { jobs = may.jobs; waits = λ p. tt }

  lost_may : (m : Master) (p : ℕ) → May m → May (at_put m p (unmatched (m.at p)))
  lost_may m p may = put_may m p (unmatched (m.at p)) tt may

  by_epoch_may : (m : Master) (p e : ℕ) (good : Master) → May m → May good → May (by_epoch m p e good)
  by_epoch_may m p e good may rest =
      either May (nat_lt m.epoch e) (depose m e) (if is_lower m p e then at_put m p (unmatched (m.at p)) else good) (depose_may m e may) (either May (is_lower m p e) (at_put m p (unmatched (m.at p))) good (lost_may m p may) rest)

  coded_may : (m : Master) (p code : ℕ) (o : Option Waiting) → May m → May (coded m p code o)
  coded_may m p code None may = may
  coded_may m p code (Some o) may =
      record { jobs = by_code_small m.epoch p o.body (code == 0) m.jobs may.jobs; waits = waits_put m.at p (after_code (m.at p) o.body code) tt may.waits }

  held_by_may : (m : Master) (p e : ℕ) (ns : List TxnEntry) (b : Body) → May m → May (held_by m p e ns b)
  held_by_may m p e ns (Claim w) may = may
  held_by_may m p e ns (Sot x ps sc) may = may
  held_by_may m p e ns (Mot x i) may = may
  held_by_may m p e ns (Eot x) may = may
  held_by_may m p e ns (Trcomp x) may = may
  held_by_may m p e ns (Abt x) may = may
  held_by_may m p e ns (Floor f) may = may
  held_by_may m p e ns Malformed may = may
  held_by_may m p e ns Plain may = may
  held_by_may m p e ns Ask may =
      by_epoch_may m p e (record m { at = put m.at p (after_ask (m.at p)); jobs = discover ns m.jobs }) may (record { jobs = discover_small ns m.jobs may.jobs; waits = waits_put m.at p (after_ask (m.at p)) tt may.waits })
  held_by_may m p e ns (Ask_record x) may = lost_may m p may

  held_told_may : (m : Master) (p e : ℕ) (ns : List TxnEntry) (o : Option Waiting) → May m → May (held_told m p e ns o)
  held_told_may m p e ns None may = may
  held_told_may m p e ns (Some o) may = held_by_may m p e ns o.body may

  answered_may : (m : Master) (p : ℕ) (x : Txn) (a : Answer) → May m → May (record m { at = put m.at p (dropped (m.at p)); jobs = on_job x (answered_by p a) m.jobs })
  answered_may m p x a may = record { jobs = on_job_small x (answered_by p a) m.jobs (λ j is. is) may.jobs; waits = waits_put m.at p (dropped (m.at p)) tt may.waits }

  record_by_may : (m : Master) (p : ℕ) (y : Txn) (e : ℕ) (s : Seen) (b : Body) → May m → May (record_by m p y e s b)
  record_by_may m p y e s (Claim w) may = may
  record_by_may m p y e s (Sot x ps sc) may = may
  record_by_may m p y e s (Mot x i) may = may
  record_by_may m p y e s (Eot x) may = may
  record_by_may m p y e s (Trcomp x) may = may
  record_by_may m p y e s (Abt x) may = may
  record_by_may m p y e s (Floor f) may = may
  record_by_may m p y e s Malformed may = may
  record_by_may m p y e s Plain may = may
  record_by_may m p y e s Ask may = lost_may m p may
  record_by_may m p y e s (Ask_record x) may =
      either May (same x y) (by_epoch m p e (record m { at = put m.at p (dropped (m.at p)); jobs = on_job x (answered_by p (answer e s)) m.jobs })) (at_put m p (unmatched (m.at p)))
      (by_epoch_may m p e (record m { at = put m.at p (dropped (m.at p)); jobs = on_job x (answered_by p (answer e s)) m.jobs }) may (answered_may m p x (answer e s) may)) (lost_may m p may)

  record_told_may : (m : Master) (p : ℕ) (y : Txn) (e : ℕ) (s : Seen) (o : Option Waiting) → May m → May (record_told m p y e s o)
  record_told_may m p y e s None may = may
  record_told_may m p y e s (Some o) may = record_by_may m p y e s o.body may

  unread_may : (m : Master) (p : ℕ) (e : Option ℕ) → May m → May (unread_told m p e)
  unread_may m p None may = lost_may m p may
  unread_may m p (Some e) may = by_epoch_may m p e (at_put m p (unmatched (m.at p))) may (lost_may m p may)

  pub heard_may : (m : Master) (p : ℕ) (msg : Message) → May m → May (heard m p msg)
  heard_may m p Setup may = either May (among p m.elements) (at_put m p (record (m.at p) { met = true })) m (put_may m p (record (m.at p) { met = true }) (may.waits p) may) may
  heard_may m p Beat may = may
  heard_may m p (Request s b) may = may
  heard_may m p (Reply s code) may = either May (matches s false (m.at p).waits) (coded m p code (m.at p).waits) m (coded_may m p code (m.at p).waits may) may
  heard_may m p (Holds s e ns) may = either May (matches s true (m.at p).waits) (held_told m p e ns (m.at p).waits) m (held_told_may m p e ns (m.at p).waits may) may
  heard_may m p (Tells s x e t) may = either May (matches s true (m.at p).waits) (record_told m p x e t (m.at p).waits) m (record_told_may m p x e t (m.at p).waits may) may
  heard_may m p (Unread s e) may = either May (matches s true (m.at p).waits) (unread_told m p e) m (unread_may m p e may) may
  heard_may m p Other_up may = may
  heard_may m p Other_down may = may

  pub again_may : (k p : ℕ) (o : Option Waiting) → MayWait HasPlain p o → AllByRecursion (MaySend HasPlain) (again k p o)
  again_may k p None h = tt
  again_may k p (Some o) h = (h, tt)

  -- ---- calls

  pub new_may : (e : ℕ) (es : List ℕ) → May (new_master e es)
  new_may e es = record { jobs = tt; waits = λ p. tt }

  pub begins_may : (m : Master) (ps : List ℕ) (changes : ℕ → ℕ) (scopes : ℕ → Scope) → length ps ≤ 64 → ((p : ℕ) → length (scopes p) ≤ 4096) → May m → May (begins m ps changes scopes)
  begins_may m ps changes scopes few small may =
      record { jobs = all_append IsSmall m.jobs (new_job (next_txn m) ps changes scopes ∷ []) may.jobs ((λ e. (few, small)), tt); waits = may.waits }

  pub gives_up_may : (m : Master) (x : Txn) → May m → May (gives_up m x)
  gives_up_may m x may = record { jobs = all_mapped IsSmall (given_up x) m.jobs (given_up_small x) may.jobs; waits = may.waits }

  pub forgets_may : (m : Master) → May m → May (forgets m)
  forgets_may m may = record { jobs = may.jobs; waits = may.waits }

-- ---- a transaction that may begin has few participants

or_none : (a b : Option Refusal) → or_next a b ≡ None → (a ≡ None) × (b ≡ None)
or_none None b e = (refl, e)
or_none (Some r) b e = cc

refused_none : (b : Bool) (r : Refusal) → refused_if b r ≡ None → b ≡ false
refused_none true r e = cc
refused_none false r e = refl

not_above : (m n : ℕ) → nat_lt m n ≡ false → n ≤ m
not_above m n h = grind arith

pub begins_few : (m : Master) (ps : List ℕ) (changes : ℕ → ℕ) (scopes : ℕ → Scope) → begin_refusal m ps changes scopes ≡ None → length ps ≤ 64
begins_few m ps changes scopes e =
    let a = or_none (deposed_by m.deposed) _ e in
    let b = or_none (refused_if (nat_lt 64 (length ps)) (TooMany (length ps))) _ a.1 in
    not_above _ _ (refused_none (nat_lt 64 (length ps)) (TooMany (length ps)) b.0)
