-- A master in numbers of 32 bits stays one, whatever it hears and is asked to do, and all that it then says is in such numbers.
use Rattle.std.proofs.Common.{◌≡◌, ◌≤◌, ℕ, length, ◌+◌, ◌&&◌, ◌||◌, ◌==◌, Bool, true, false, not, nat_lt, nat_le, List, [], ◌∷◌, ◌++◌, map, Option, Some, None, is_some, is_none, if◌then◌else◌, refl, arith}
use Rattle.std.specs.List.{AllByRecursion}
use Rattle.fc_base.specs.Ids.{Txn}
use Rattle.fc_protocol.specs.Collections.{among, put, or_next}
use Rattle.fc_protocol.specs.Jobs.{Job, answer, answered_by, by_code, body_by, decided_job, decides_job, decision_body, discover, find, first_need, given_up, needs, new_job, on_job, own_body, recovered, settled_at, stuck_at, undecided_body, went_on, with_decision}
use Rattle.fc_protocol.specs.Messages.{same, is_claim, is_epoch, Body, Claim, Sot, Mot, Eot, Trcomp, Abt, Floor, Malformed, Plain, Ask, Ask_record, Message, Setup, Beat, Request, Reply, Holds, Tells, Unread, Other_up, Other_down, Sent}
use Rattle.fc_protocol.specs.MasterMachine.{Master, Peer, Speaks, Waiting, after_ask, after_code, again, and_says, at_put, begin_refusal, begins, by_epoch, coded, count_of, decide_all, dropped, depose, due, finish, floor_body, forget_refusal, forgets, gives_up, heard, held_by, held_told, is_lower, last_count, matches, new_master, next_txn, plain_refusal, record_by, record_told, sending, sends_all, sends_one, stamp_of, still_owed, unmatched, unread_told, unspent, wanted}
use Rattle.fc_protocol.specs.Scopes.{Scope}
use Rattle.fc_protocol.specs.declared.answers.Answer.{Answer}
use Rattle.fc_protocol.specs.declared.answers.TxnEntry.{TxnEntry}
use Rattle.fc_protocol.specs.declared.states.Decision.{Decision}
use Rattle.fc_protocol.specs.declared.states.Decision.TheVariants.{Complete, Abort}
use Rattle.fc_protocol.specs.declared.states.Seen.{Seen}
use Rattle.fc_protocol.proofs.Puts.{put_all}
use Rattle.fc_numbering.specs.Numbering.{AreInstances, AreNumbered, AsksNumbers, DrivesNumbers, FitOpening, IsInNumbers, IsNumbered, IsStamped, IsTxn, IsWord, KeepsNumbers, OwesNumbered, SaysNumbers, SpeaksNumbers, TellsNumbers, WaitsNumbered}
use Rattle.fc_numbering.proofs.Allowed.{begin_few, begin_word, epoch_word, forget_word, next_named, plain_counts}

-- ---- lists and tests

all_append : {A : Type 0} (P : A → Type 0) (xs ys : List A) → AllByRecursion P xs → AllByRecursion P ys → AllByRecursion P (xs ++ ys)
all_append P [] ys h k = k
all_append P (x ∷ xs) ys h k = (h.0, all_append P xs ys h.1 k)

all_mapped : {A : Type 0} (P : A → Type 0) (f : A → A) (xs : List A) → ((x : A) → P x → P (f x)) → AllByRecursion P xs → AllByRecursion P (map f xs)
all_mapped P f [] more h = tt
all_mapped P f (x ∷ xs) more h = (more x h.0, all_mapped P f xs more h.1)

either : {A : Type 0} (P : A → Type 0) (b : Bool) (x y : A) → P x → P y → P (if b then x else y)
either P true x y h k = h
either P false x y h k = k

-- ---- jobs

abbrev DriveNumbers : List Job → Type 0
DriveNumbers = AllByRecursion DrivesNumbers

on_job_stays : (x : Txn) (f : Job → Job) (js : List Job) → ((j : Job) → DrivesNumbers j → DrivesNumbers (f j)) → DriveNumbers js → DriveNumbers (on_job x f js)
on_job_stays x f js more h = all_mapped DrivesNumbers (λ j. if same x j.txn then f j else j) js (λ j is. either DrivesNumbers (same x j.txn) (f j) j (more j is) is) h

found_drives : (n : TxnEntry) → IsTxn n.txn → DrivesNumbers (recovered n)
found_drives n h = (h, λ e. absurd (cc e))

abbrev AreTxns : List TxnEntry → Type 0
AreTxns ns = AllByRecursion (λ (n : TxnEntry). IsTxn n.txn) ns

discover_stays : (ns : List TxnEntry) (js : List Job) → AreTxns ns → DriveNumbers js → DriveNumbers (discover ns js)
discover_stays [] js told h = h
discover_stays (n ∷ ns) js told h =
    discover_stays ns (if is_some (find n.txn js) then js else js ++ recovered n ∷ []) told.1
    (either DriveNumbers (is_some (find n.txn js)) js (js ++ recovered n ∷ []) h (all_append DrivesNumbers js (recovered n ∷ []) h (found_drives n told.0, tt)))

decision_stays : (j : Job) (d : Option Decision) → DrivesNumbers j → DrivesNumbers (with_decision j d)
decision_stays j None h = h
decision_stays j (Some d) h = h

decided_stays : (e : ℕ) (d : Option Decision) (j : Job) → DrivesNumbers j → DrivesNumbers (decided_job e d j)
decided_stays e None j h = decision_stays j (decides_job e j) h
decided_stays e (Some d) j h = h

given_up_stays : (x : Txn) (j : Job) → DrivesNumbers j → DrivesNumbers (given_up x j)
given_up_stays x j h = either DrivesNumbers (same x j.txn && (j.mine && is_none j.decision)) (record j { decision = Some Abort }) j h h

by_code_stays : (e p : ℕ) (b : Body) (good : Bool) (js : List Job) → DriveNumbers js → DriveNumbers (by_code e p b good js)
by_code_stays e p (Claim w) good js h = h
by_code_stays e p (Sot x ps sc) good js h = either DriveNumbers good (on_job x (went_on p) js) (on_job x (answered_by p (answer e _)) js) (on_job_stays x (went_on p) js (λ j is. is) h) (on_job_stays x (answered_by p (answer e _)) js (λ j is. is) h)
by_code_stays e p (Mot x i) good js h = either DriveNumbers good (on_job x (went_on p) js) (on_job x (answered_by p (answer e _)) js) (on_job_stays x (went_on p) js (λ j is. is) h) (on_job_stays x (answered_by p (answer e _)) js (λ j is. is) h)
by_code_stays e p (Eot x) good js h = either DriveNumbers good (on_job x (answered_by p (answer e _)) js) (on_job x (answered_by p (answer e _)) js) (on_job_stays x (answered_by p (answer e _)) js (λ j is. is) h) (on_job_stays x (answered_by p (answer e _)) js (λ j is. is) h)
by_code_stays e p (Trcomp x) good js h = either DriveNumbers good (on_job x (settled_at p) js) (on_job x (stuck_at p) js) (on_job_stays x (settled_at p) js (λ j is. is) h) (on_job_stays x (stuck_at p) js (λ j is. is) h)
by_code_stays e p (Abt x) good js h = either DriveNumbers good (on_job x (settled_at p) js) (on_job x (stuck_at p) js) (on_job_stays x (settled_at p) js (λ j is. is) h) (on_job_stays x (stuck_at p) js (λ j is. is) h)
by_code_stays e p (Floor f) good js h = h
by_code_stays e p Malformed good js h = h
by_code_stays e p Plain good js h = h
by_code_stays e p Ask good js h = h
by_code_stays e p (Ask_record x) good js h = h

-- ---- what is due

abbrev IsNeeded : Option Body → Type 0
IsNeeded None = Unit {0}
IsNeeded (Some b) = IsNumbered b

next_needed : (o next : Option Body) → IsNeeded o → IsNeeded next → IsNeeded (or_next o next)
next_needed None next h k = k
next_needed (Some b) next h k = h

own_numbered : (j : Job) (p : ℕ) → IsTxn j.txn → ((q : ℕ) → FitOpening j.parts (j.scopes q)) → IsNumbered (own_body j p)
own_numbered j p named h =
    either IsNumbered (j.done p == 0) (Sot j.txn j.parts (j.scopes p)) (if nat_le (j.done p) (j.changes p) then Mot j.txn (j.done p) else Eot j.txn) (named, h p)
    (either IsNumbered (nat_le (j.done p) (j.changes p)) (Mot j.txn (j.done p)) (Eot j.txn) named named)

by_mine : (j : Job) (p : ℕ) (b : Bool) → IsTxn j.txn → (b ≡ true → (q : ℕ) → FitOpening j.parts (j.scopes q)) → IsNeeded (if b then Some (own_body j p) else Some (Ask_record j.txn))
by_mine j p true named h = own_numbered j p named (h refl)
by_mine j p false named h = named

undecided_needed : (j : Job) (p : ℕ) → DrivesNumbers j → IsNeeded (undecided_body j p)
undecided_needed j p h = either IsNeeded (is_some (j.answers p)) None (if j.mine then Some (own_body j p) else Some (Ask_record j.txn)) tt (by_mine j p j.mine h.0 h.1)

decision_numbered : (x : Txn) (d : Decision) → IsTxn x → IsNumbered (decision_body x d)
decision_numbered x Complete h = h
decision_numbered x Abort h = h

body_needed : (j : Job) (p : ℕ) (d : Option Decision) → DrivesNumbers j → IsNeeded (body_by j p d)
body_needed j p None h = undecided_needed j p h
body_needed j p (Some d) h = either IsNeeded (j.settled p || j.stuck p) None (Some (decision_body j.txn d)) tt (decision_numbered j.txn d h.0)

needs_needed : (j : Job) (p : ℕ) → DrivesNumbers j → IsNeeded (needs j p)
needs_needed j p h = either IsNeeded (among p j.parts) (body_by j p j.decision) None (body_needed j p j.decision h) tt

first_needed : (js : List Job) (p : ℕ) → DriveNumbers js → IsNeeded (first_need js p)
first_needed [] p h = tt
first_needed (j ∷ js) p h = next_needed (needs j p) (first_need js p) (needs_needed j p h.0) (first_needed js p h.1)

floor_needed : (o : Option Txn) → OwesNumbered o → IsNeeded (floor_body o)
floor_needed None h = tt
floor_needed (Some f) h = h

wanted_needed : (m : Master) (p : ℕ) (y : Peer) → IsWord m.epoch → DriveNumbers m.jobs → OwesNumbered y.owes → IsNeeded (wanted m p y)
wanted_needed m p y e h owes =
    let rest = or_next (first_need m.jobs p) (floor_body y.owes) in
    let last = next_needed (first_need m.jobs p) (floor_body y.owes) (first_needed m.jobs p h) (floor_needed y.owes owes) in
    let asks = either IsNeeded (not y.answered) (Some Ask) rest tt last in
    let claims = either IsNeeded (not y.claimed) (Some (Claim m.epoch)) (if not y.answered then Some Ask else rest) e asks in
    either IsNeeded y.doubt (Some Ask) (if not y.claimed then Some (Claim m.epoch) else (if not y.answered then Some Ask else rest)) tt claims

-- it has a number left, too
abbrev IsDue : Peer → Option Body → Type 0
IsDue y None = Unit {0}
IsDue y (Some b) = IsNumbered b × (nat_lt (count_of b y) last_count ≡ true)

if_unspent : (y : Peer) (b : Body) (left : Bool) → nat_lt (count_of b y) last_count ≡ left → IsNumbered b → IsDue y (if left then Some b else None)
if_unspent y b true e h = (h, e)
if_unspent y b false e h = tt

unspent_due : (y : Peer) (o : Option Body) → IsNeeded o → IsDue y (unspent y o)
unspent_due y None h = tt
unspent_due y (Some b) h = if_unspent y b (nat_lt (count_of b y) last_count) refl h

due_due : (m : Master) (p : ℕ) → IsInNumbers m → IsDue (m.at p) (due m p)
due_due m p h =
    let y = m.at p in
    either (IsDue y) ((y.met && not y.lost) && (is_none y.waits && is_none m.deposed)) (unspent y (wanted m p y)) None (unspent_due y (wanted m p y) (wanted_needed m p y (epoch_word m.epoch h.epoch) h.jobs (h.keeps p).1)) tt

-- ---- sending

zero_word : IsWord 0
zero_word = grind arith

next_word : (n : ℕ) → nat_lt n last_count ≡ true → IsWord (n + 1)
next_word n h = grind arith

claims_zero : (t : Bool) (n : ℕ) → ((if t then 0 else n + 1) == 0) ≡ t
claims_zero true n = refl
claims_zero false n = grind arith

stamped : (e : ℕ) (b : Body) (y : Peer) → IsWord e → nat_lt (count_of b y) last_count ≡ true → IsStamped (stamp_of e b y) b
stamped e b y h left = record {
  life = h;
  count = either IsWord (is_claim b) 0 (count_of b y + 1) zero_word (next_word (count_of b y) left);
  claims = claims_zero (is_claim b) (count_of b y);
}

put_stays : (m : Master) (p : ℕ) (y : Peer) → KeepsNumbers y → IsInNumbers m → IsInNumbers (at_put m p y)
put_stays m p y h is = record { epoch = is.epoch; begun = is.begun; jobs = is.jobs; keeps = put_all (λ q z. KeepsNumbers z) m.at p y h is.keeps }

one_speaks : (k : ℕ) (m : Master) (p : ℕ) (o : Option Body) → IsDue (m.at p) o → IsInNumbers m → SpeaksNumbers (sends_one k m p o)
one_speaks k m p None h is = record { master = is; says = tt }
one_speaks k m p (Some b) h is =
    let asks : AsksNumbers (stamp_of m.epoch b (m.at p)) b = (stamped m.epoch b (m.at p) (epoch_word m.epoch is.epoch) h.1, h.0) in
    record { master = put_stays m p (sending (m.at p) (record { stamp = stamp_of m.epoch b (m.at p); body = b })) (asks, (is.keeps p).1) is; says = (asks, tt) }

then_speaks : (r : Speaks) (ss : List Sent) → AreNumbered ss → SpeaksNumbers r → SpeaksNumbers (and_says r ss)
then_speaks r ss h speaks = record { master = speaks.master; says = all_append (λ (s : Sent). SaysNumbers s.message) ss r.says h speaks.says }

all_speak : (k : ℕ) (ps : List ℕ) (m : Master) → IsInNumbers m → SpeaksNumbers (sends_all k ps m)
all_speak k [] m is = record { master = is; says = tt }
all_speak k (p ∷ ps) m is =
    let r = sends_one k m p (due m p) in
    let one = one_speaks k m p (due m p) (due_due m p is) is in
    then_speaks (sends_all k ps r.master) r.says one.says (all_speak k ps r.master one.master)

decide_stays : (m : Master) → IsInNumbers m → IsInNumbers (decide_all m)
decide_stays m is = record { epoch = is.epoch; begun = is.begun; jobs = all_mapped DrivesNumbers (λ j. decided_job m.epoch j.decision j) m.jobs (λ j h. decided_stays m.epoch j.decision j h) is.jobs; keeps = is.keeps }

pub finish_speaks : (k : ℕ) (m : Master) → IsInNumbers m → SpeaksNumbers (finish k m)
finish_speaks k m is = all_speak k m.elements (decide_all m) (decide_stays m is)

-- ---- hearing

depose_stays : (m : Master) (e : ℕ) → IsInNumbers m → IsInNumbers (depose m e)
depose_stays m e is = record { epoch = is.epoch; begun = is.begun; jobs = is.jobs; keeps = λ p. (tt, (is.keeps p).1) }

lost_stays : (m : Master) (p : ℕ) → IsInNumbers m → IsInNumbers (at_put m p (unmatched (m.at p)))
lost_stays m p is = put_stays m p (unmatched (m.at p)) (tt, (is.keeps p).1) is

by_epoch_stays : (m : Master) (p e : ℕ) (good : Master) → IsInNumbers m → IsInNumbers good → IsInNumbers (by_epoch m p e good)
by_epoch_stays m p e good is rest =
    either IsInNumbers (nat_lt m.epoch e) (depose m e) (if is_lower m p e then at_put m p (unmatched (m.at p)) else good) (depose_stays m e is)
    (either IsInNumbers (is_lower m p e) (at_put m p (unmatched (m.at p))) good (lost_stays m p is) rest)

owed_stays : (b : Body) (o : Option Txn) → OwesNumbered o → OwesNumbered (still_owed b o)
owed_stays (Claim w) o h = h
owed_stays (Sot x ps sc) o h = h
owed_stays (Mot x i) o h = h
owed_stays (Eot x) o h = h
owed_stays (Trcomp x) o h = h
owed_stays (Abt x) o h = h
owed_stays (Floor f) o h = tt
owed_stays Malformed o h = h
owed_stays Plain o h = h
owed_stays Ask o h = h
owed_stays (Ask_record x) o h = h

coded_stays : (m : Master) (p code : ℕ) (o : Option Waiting) → IsInNumbers m → IsInNumbers (coded m p code o)
coded_stays m p code None is = is
coded_stays m p code (Some o) is =
    record {
      epoch = is.epoch;
      begun = is.begun;
      jobs = by_code_stays m.epoch p o.body (code == 0) m.jobs is.jobs;
      keeps = put_all (λ q z. KeepsNumbers z) m.at p (after_code (m.at p) o.body code) (tt, owed_stays o.body (m.at p).owes (is.keeps p).1) is.keeps;
    }

asked_stays : (m : Master) (p : ℕ) (ns : List TxnEntry) → AreTxns ns → IsInNumbers m → IsInNumbers (record m { at = put m.at p (after_ask (m.at p)); jobs = discover ns m.jobs })
asked_stays m p ns told is =
    record { epoch = is.epoch; begun = is.begun; jobs = discover_stays ns m.jobs told is.jobs; keeps = put_all (λ q z. KeepsNumbers z) m.at p (after_ask (m.at p)) (tt, (is.keeps p).1) is.keeps }

held_by_stays : (m : Master) (p e : ℕ) (ns : List TxnEntry) (b : Body) → AreTxns ns → IsInNumbers m → IsInNumbers (held_by m p e ns b)
held_by_stays m p e ns (Claim w) told is = is
held_by_stays m p e ns (Sot x ps sc) told is = is
held_by_stays m p e ns (Mot x i) told is = is
held_by_stays m p e ns (Eot x) told is = is
held_by_stays m p e ns (Trcomp x) told is = is
held_by_stays m p e ns (Abt x) told is = is
held_by_stays m p e ns (Floor f) told is = is
held_by_stays m p e ns Malformed told is = is
held_by_stays m p e ns Plain told is = is
held_by_stays m p e ns Ask told is = by_epoch_stays m p e (record m { at = put m.at p (after_ask (m.at p)); jobs = discover ns m.jobs }) is (asked_stays m p ns told is)
held_by_stays m p e ns (Ask_record x) told is = lost_stays m p is

held_told_stays : (m : Master) (p e : ℕ) (ns : List TxnEntry) (o : Option Waiting) → AreTxns ns → IsInNumbers m → IsInNumbers (held_told m p e ns o)
held_told_stays m p e ns None told is = is
held_told_stays m p e ns (Some o) told is = held_by_stays m p e ns o.body told is

answered_stays : (m : Master) (p : ℕ) (x : Txn) (a : Answer) → IsInNumbers m → IsInNumbers (record m { at = put m.at p (dropped (m.at p)); jobs = on_job x (answered_by p a) m.jobs })
answered_stays m p x a is =
    record { epoch = is.epoch; begun = is.begun; jobs = on_job_stays x (answered_by p a) m.jobs (λ j h. h) is.jobs; keeps = put_all (λ q z. KeepsNumbers z) m.at p (dropped (m.at p)) (tt, (is.keeps p).1) is.keeps }

record_by_stays : (m : Master) (p : ℕ) (y : Txn) (e : ℕ) (s : Seen) (b : Body) → IsInNumbers m → IsInNumbers (record_by m p y e s b)
record_by_stays m p y e s (Claim w) is = is
record_by_stays m p y e s (Sot x ps sc) is = is
record_by_stays m p y e s (Mot x i) is = is
record_by_stays m p y e s (Eot x) is = is
record_by_stays m p y e s (Trcomp x) is = is
record_by_stays m p y e s (Abt x) is = is
record_by_stays m p y e s (Floor f) is = is
record_by_stays m p y e s Malformed is = is
record_by_stays m p y e s Plain is = is
record_by_stays m p y e s Ask is = lost_stays m p is
record_by_stays m p y e s (Ask_record x) is =
    let told = record m { at = put m.at p (dropped (m.at p)); jobs = on_job x (answered_by p (answer e s)) m.jobs } in
    either IsInNumbers (same x y) (by_epoch m p e told) (at_put m p (unmatched (m.at p))) (by_epoch_stays m p e told is (answered_stays m p x (answer e s) is)) (lost_stays m p is)

record_told_stays : (m : Master) (p : ℕ) (y : Txn) (e : ℕ) (s : Seen) (o : Option Waiting) → IsInNumbers m → IsInNumbers (record_told m p y e s o)
record_told_stays m p y e s None is = is
record_told_stays m p y e s (Some o) is = record_by_stays m p y e s o.body is

unread_stays : (m : Master) (p : ℕ) (e : Option ℕ) → IsInNumbers m → IsInNumbers (unread_told m p e)
unread_stays m p None is = lost_stays m p is
unread_stays m p (Some e) is = by_epoch_stays m p e (at_put m p (unmatched (m.at p))) is (lost_stays m p is)

pub heard_stays : (m : Master) (p : ℕ) (x : Message) → TellsNumbers x → IsInNumbers m → IsInNumbers (heard m p x)
heard_stays m p Setup told is = either IsInNumbers (among p m.elements) (at_put m p (record (m.at p) { met = true })) m (put_stays m p (record (m.at p) { met = true }) (is.keeps p) is) is
heard_stays m p Beat told is = is
heard_stays m p (Request s b) told is = is
heard_stays m p (Reply s code) told is = either IsInNumbers (matches s false (m.at p).waits) (coded m p code (m.at p).waits) m (coded_stays m p code (m.at p).waits is) is
heard_stays m p (Holds s e ns) told is = either IsInNumbers (matches s true (m.at p).waits) (held_told m p e ns (m.at p).waits) m (held_told_stays m p e ns (m.at p).waits told is) is
heard_stays m p (Tells s x e t) told is = either IsInNumbers (matches s true (m.at p).waits) (record_told m p x e t (m.at p).waits) m (record_told_stays m p x e t (m.at p).waits is) is
heard_stays m p (Unread s e) told is = either IsInNumbers (matches s true (m.at p).waits) (unread_told m p e) m (unread_stays m p e is) is
heard_stays m p Other_up told is = is
heard_stays m p Other_down told is = is

pub hear_speaks : (k : ℕ) (m : Master) (p : ℕ) (x : Message) → TellsNumbers x → IsInNumbers m → SpeaksNumbers (finish k (heard m p x))
hear_speaks k m p x told is = finish_speaks k (heard m p x) (heard_stays m p x told is)

again_numbered : (k p : ℕ) (o : Option Waiting) → WaitsNumbered o → AreNumbered (again k p o)
again_numbered k p None h = tt
again_numbered k p (Some o) h = (h, tt)

pub resend_numbered : (k : ℕ) (m : Master) (p : ℕ) → IsInNumbers m → AreNumbered (again k p (m.at p).waits)
resend_numbered k m p is = again_numbered k p (m.at p).waits (is.keeps p).0

-- ---- calls

pub new_numbered : (e : ℕ) (es : List ℕ) → is_epoch e ≡ true → IsInNumbers (new_master e es)
new_numbered e es h = record { epoch = h; begun = zero_word; jobs = tt; keeps = λ p. (tt, tt) }

pub begin_speaks : (k : ℕ) (m : Master) (ps : List ℕ) (changes : ℕ → ℕ) (scopes : ℕ → Scope) → begin_refusal m ps changes scopes ≡ None
    → AllByRecursion IsWord ps → ((p : ℕ) → AreInstances (scopes p)) → ((p : ℕ) → length (scopes p) ≤ 4096) → IsInNumbers m → SpeaksNumbers (finish k (begins m ps changes scopes))
begin_speaks k m ps changes scopes e words places narrow is =
    let next = begin_word m ps changes scopes e in
    let job : DrivesNumbers (new_job (next_txn m) ps changes scopes) = (next_named m is.epoch next, λ _ p. record { participants = words; few = begin_few m ps changes scopes e; instances = places p; narrow = narrow p }) in
    finish_speaks k (begins m ps changes scopes) (record { epoch = is.epoch; begun = next; jobs = all_append DrivesNumbers m.jobs (new_job (next_txn m) ps changes scopes ∷ []) is.jobs (job, tt); keeps = is.keeps })

pub plain_speaks : (k : ℕ) (m : Master) (p : ℕ) → plain_refusal m p ≡ None → IsInNumbers m → SpeaksNumbers (sends_one k m p (Some Plain))
plain_speaks k m p e is = one_speaks k m p (Some Plain) (tt, plain_counts m p e) is

pub give_up_speaks : (k : ℕ) (m : Master) (x : Txn) → IsInNumbers m → SpeaksNumbers (finish k (gives_up m x))
give_up_speaks k m x is = finish_speaks k (gives_up m x) (record { epoch = is.epoch; begun = is.begun; jobs = all_mapped DrivesNumbers (given_up x) m.jobs (given_up_stays x) is.jobs; keeps = is.keeps })

pub forget_speaks : (k : ℕ) (m : Master) → forget_refusal m ≡ None → IsInNumbers m → SpeaksNumbers (finish k (forgets m))
forget_speaks k m e is =
    let next = next_named m is.epoch (forget_word m e) in
    finish_speaks k (forgets m) (record { epoch = is.epoch; begun = is.begun; jobs = is.jobs; keeps = λ p. ((is.keeps p).0, next) })
