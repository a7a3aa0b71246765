-- After each step no master has anything due, or anything to decide.
use Rattle.std.proofs.Common.{◌≡◌, ℕ, ◌+◌, ◌*◌, ◌==◌, ◌&&◌, ◌||◌, not, Bool, true, false, cond, List, [], ◌∷◌, ◌++◌, map, Option, Some, None, is_none, is_some, ⊎_elim, refl, sym, ap, ◌∙◌, subst, eqb-true, eq-eqb}
use Rattle.fc_base.specs.Ids.{Txn}
use Rattle.fc_protocol.specs.Collections.{among}
use Rattle.fc_protocol.specs.ElementMachine.{Circumstance}
use Rattle.fc_protocol.specs.Jobs.{Job, decides_job, with_decision, decided_job}
use Rattle.fc_protocol.specs.MasterMachine.{Waiting, Peer, Master, new_master, at_put, unspent, wanted, due, stamp_of, sending, Speaks, sends_one, sends_all, decide_all, finish, heard, at_once, Refusal, begin_refusal, begins, plain_refusal, give_up_refusal, gives_up, forget_refusal, forgets}
use Rattle.fc_protocol.specs.Messages.{Body, Plain, Message, Setup, Beat, Request, Reply, Holds, Tells, Unread, Other_up, Other_down, Sent, sent}
use Rattle.fc_protocol.specs.WorldSteps.{World, Network, Step, Open, Deliver, Moment, Start, Stop, Begin, Change, Give_up, Resend, Forget, forget_by, forget_at, Restart, restarts, first_world, says, speaks, to_master, controller_of, delivered, delivers, numbered, may_start, starts, begin_by, begin_at, give_up_by, give_up_at, resend_at, change_by, change_at, murmurs, happens, run}
use Rattle.fc_protocol.specs.Scopes.{Scope}
use Rattle.fc_protocol.specs.declared.states.Decision.{Decision}
use Rattle.fc_protocol.proofs.Puts.{put_here}
use Rattle.fc_protocol.proofs.Basics.{AllOf, cond_false, both, put_other, put_rest}
use Rattle.fc_agreement.proofs.Hears.{cond_all}

-- nothing is due where something waits
pub waiting_none : (m : Master) (p : ℕ) (o : Waiting) → (m.at p).waits ≡ Some o → due m p ≡ None
waiting_none m p o e = cond_false _ (unspent (m.at p) (wanted m p (m.at p))) None (no_room ((m.at p).met && not (m.at p).lost) (m.at p).waits (is_none m.deposed) e)
  where
    no_room : (a : Bool) (w : Option Waiting) (d : Bool) → w ≡ Some o → (a && (is_none w && d)) ≡ false
    no_room true None d i = cc
    no_room true (Some v) d i = refl
    no_room false w d i = refl

-- what is sent to p changes nothing that is due at q
pub due_other : (m : Master) (p : ℕ) (y : Peer) (q : ℕ) → (q ≡ p → ⊥) → due (at_put m p y) q ≡ due m q
due_other m p y q n = ap (λ (z : Peer). cond ((z.met && not z.lost) && (is_none z.waits && is_none m.deposed)) (unspent z (wanted m q z)) None) (put_other m.at p y q n)

-- once sent, nothing is due there
pub sent_due : (k : ℕ) (m : Master) (p : ℕ) (o : Option Body) → due m p ≡ o → due (sends_one k m p o).master p ≡ None
sent_due k m p None e = e
sent_due k m p (Some b) e =
    let o : Waiting = record { stamp = stamp_of m.epoch b (m.at p); body = b } in
    waiting_none (sends_one k m p (Some b)).master p o (ap (λ (z : Peer). z.waits) (put_here m.at p (sending (m.at p) o)))

pub one_due : (k : ℕ) (m : Master) (p : ℕ) (o : Option Body) (q : ℕ) → (q ≡ p → ⊥) → due (sends_one k m p o).master q ≡ due m q
one_due k m p None q n = refl
one_due k m p (Some b) q n = due_other m p (sending (m.at p) (record { stamp = stamp_of m.epoch b (m.at p); body = b })) q n

pub or_false : (a b : Bool) → a ≡ false → (a || b) ≡ true → b ≡ true
or_false true b e f = cc
or_false false b e f = f

pub not_same : (q p : ℕ) → (q == p) ≡ false → q ≡ p → ⊥
not_same q p e i = let t : true ≡ false = sym (eq-eqb q p i) ∙ e in cc

still_all : (k : ℕ) (es : List ℕ) (m : Master) (q : ℕ) → (among q es ≡ true → due (sends_all k es m).master q ≡ None) × (due m q ≡ None → due (sends_all k es m).master q ≡ None)
still_all k [] m q = ((λ e. cc), (λ e. e))
still_all k (p ∷ ps) m q =
    let n = (sends_one k m p (due m p)).master in
    let r = still_all k ps n q in
    ⊎_elim (λ u. let z : q ≡ p = eqb-true q p u in let d : due n q ≡ None = subst (λ v. due n v ≡ None) (sym z) (sent_due k m p (due m p) refl) in ((λ _. r.1 d), (λ _. r.1 d)))
    (λ u. let d : due n q ≡ due m q = one_due k m p (due m p) q (not_same q p u) in ((λ a. r.0 (or_false (q == p) _ u a)), (λ e. r.1 (d ∙ e)))) (both (q == p))

pub all_jobs : (k : ℕ) (es : List ℕ) (m : Master) → ((sends_all k es m).master.jobs ≡ m.jobs) × ((sends_all k es m).master.epoch ≡ m.epoch) × ((sends_all k es m).master.elements ≡ m.elements)
all_jobs k [] m = (refl, refl, refl)
all_jobs k (p ∷ ps) m = let n = (sends_one k m p (due m p)).master in let r = all_jobs k ps n in let i = one_jobs (due m p) in (r.0 ∙ i.0, r.1 ∙ i.1, r.2 ∙ i.2)
  where
    one_jobs : (o : Option Body) → ((sends_one k m p o).master.jobs ≡ m.jobs) × ((sends_one k m p o).master.epoch ≡ m.epoch) × ((sends_one k m p o).master.elements ≡ m.elements)
    one_jobs None = (refl, refl, refl)
    one_jobs (Some b) = (refl, refl, refl)

-- a job that is decided where it can be stays as it is
abbrev pub Set : ℕ → Job → Type 0
Set e j = decided_job e j.decision j ≡ j

again_if : (e : ℕ) (j : Job) (o : Option Decision) → decides_job e j ≡ o → j.decision ≡ None → Set e (with_decision j o)
again_if e j None i n = ap (λ d. decided_job e d j) n ∙ ap (with_decision j) i
again_if e j (Some d) i n = refl

set_by : (e : ℕ) (j : Job) (q : Option Decision) → j.decision ≡ q → Set e (decided_job e q j)
set_by e j None i = again_if e j (decides_job e j) refl i
set_by e j (Some d) i = ap (λ v. decided_job e v j) i

set_all : (e : ℕ) (js : List Job) → AllOf (Set e) (map (λ j. decided_job e j.decision j) js)
set_all e [] = tt
set_all e (j ∷ js) = (set_by e j j.decision refl, set_all e js)

pub set_same : (e : ℕ) (js : List Job) → AllOf (Set e) js → map (λ j. decided_job e j.decision j) js ≡ js
set_same e [] s = refl
set_same e (j ∷ js) s = ap (λ v. v ∷ map (λ i. decided_job e i.decision i) js) s.0 ∙ ap (λ v. j ∷ v) (set_same e js s.1)

pub record Calm (m : Master) : Type 0 where
  pub still : (q : ℕ) → among q m.elements ≡ true → due m q ≡ None
  pub set : AllOf (Set m.epoch) m.jobs

calm_finish : (k : ℕ) (m : Master) → Calm (finish k m).master
calm_finish k m =
    let r = all_jobs k m.elements (decide_all m) in
    record {
      still = λ q e. (still_all k m.elements (decide_all m) q).0 (ap (among q) (sym r.2) ∙ e);
      set = subst (λ v. AllOf (Set v) (finish k m).master.jobs) (sym r.1) (subst (AllOf (Set m.epoch)) (sym r.0) (set_all m.epoch m.jobs));
    }

-- where all is calm, nothing is said
pub calm_says : (k : ℕ) (es : List ℕ) (m : Master) → ((q : ℕ) → among q es ≡ true → due m q ≡ None) → sends_all k es m ≡ record { master = m; says = [] }
calm_says k [] m s = refl
calm_says k (p ∷ ps) m s =
    let one : sends_one k m p (due m p) ≡ record { master = m; says = [] } = ap (sends_one k m p) (s p (here (p == p) (among p ps) (eq-eqb p p refl))) in
    ap (λ (r : Speaks). record { master = (sends_all k ps r.master).master; says = r.says ++ (sends_all k ps r.master).says }) one ∙ calm_says k ps m (λ q e. s q (there (q == p) (among q ps) e))
  where
    here : (a b : Bool) → a ≡ true → (a || b) ≡ true
    here true b e = refl
    here false b e = cc

    there : (a b : Bool) → b ≡ true → (a || b) ≡ true
    there true b e = refl
    there false b e = e

pub calm_finishes : (k : ℕ) (m : Master) → Calm m → finish k m ≡ record { master = m; says = [] }
calm_finishes k m c =
    let e : decide_all m ≡ m = ap (λ (js : List Job). record m { jobs = js }) (set_same m.epoch m.jobs c.set) in
    ap (sends_all k m.elements) e ∙ calm_says k m.elements m c.still

abbrev pub LifeCalm : Option Master → Type 0
LifeCalm None = Unit {0}
LifeCalm (Some m) = Calm m

abbrev pub CalmWorld : World → Type 0
CalmWorld w = (j : ℕ) → LifeCalm (w.masters j)

speaks_calm : (w : World) (k : ℕ) (m : Master) (first : List Sent) → CalmWorld w → CalmWorld (speaks w k first (finish k m))
speaks_calm w k m first c = put_rest (λ _. LifeCalm) w.masters k (Some (finish k m).master) (calm_finish k m) (λ j _. c j)

to_master_calm : (w : World) (p k : ℕ) (t : Message) (o : Option Master) → CalmWorld w → CalmWorld (to_master w p k t o)
to_master_calm w p k t None c = c
to_master_calm w p k t (Some m) c = speaks_calm w k (heard m p t) (at_once k m p t) c

delivered_calm : (w : World) (ok : Circumstance) (p k : ℕ) (t : Message) → CalmWorld w → CalmWorld (delivered w ok p k t)
delivered_calm w ok p k Setup c = to_master_calm w p k Setup (w.masters k) c
delivered_calm w ok p k Beat c = to_master_calm w p k Beat (w.masters k) c
delivered_calm w ok p k (Request s b) c = c
delivered_calm w ok p k (Reply s b) c = to_master_calm w p k (Reply s b) (w.masters k) c
delivered_calm w ok p k (Holds s e b) c = to_master_calm w p k (Holds s e b) (w.masters k) c
delivered_calm w ok p k (Tells s z e b) c = to_master_calm w p k (Tells s z e b) (w.masters k) c
delivered_calm w ok p k (Unread s e) c = to_master_calm w p k (Unread s e) (w.masters k) c
delivered_calm w ok p k Other_up c = to_master_calm w p k Other_up (w.masters k) c
delivered_calm w ok p k Other_down c = c

delivers_calm : (w : World) (ok : Circumstance) (o : Option Sent) → CalmWorld w → CalmWorld (delivers w ok o)
delivers_calm w ok None c = c
delivers_calm w ok (Some s) c = delivered_calm w ok s.element s.controller s.message c

start_calm : (w : World) (k r : ℕ) → CalmWorld w → CalmWorld (starts w k r)
start_calm w k r c = put_rest (λ _. LifeCalm) w.masters k (Some (new_master (256 * r + k) w.network.elements)) (record { still = λ q e. refl; set = tt }) (λ j _. c j)

begin_calm : (w : World) (k : ℕ) (ps : List ℕ) (changes : ℕ → ℕ) (scopes : ℕ → Scope) (m : Master) (r : Option Refusal) → CalmWorld w → CalmWorld (begin_by w k ps changes scopes m r)
begin_calm w k ps changes scopes m (Some r) c = c
begin_calm w k ps changes scopes m None c = put_rest (λ _. LifeCalm) w.masters k (Some (finish k (begins m ps changes scopes)).master) (calm_finish k (begins m ps changes scopes)) (λ j _. c j)

begin_at_calm : (w : World) (k : ℕ) (ps : List ℕ) (changes : ℕ → ℕ) (scopes : ℕ → Scope) (o : Option Master) → CalmWorld w → CalmWorld (begin_at w k ps changes scopes o)
begin_at_calm w k ps changes scopes None c = c
begin_at_calm w k ps changes scopes (Some m) c = begin_calm w k ps changes scopes m (begin_refusal m ps changes scopes) c

give_up_calm : (w : World) (k : ℕ) (y : Txn) (m : Master) (r : Option Refusal) → CalmWorld w → CalmWorld (give_up_by w k y m r)
give_up_calm w k y m (Some r) c = c
give_up_calm w k y m None c = speaks_calm w k (gives_up m y) [] c

give_up_at_calm : (w : World) (k : ℕ) (y : Txn) (o : Option Master) → CalmWorld w → CalmWorld (give_up_at w k y o)
give_up_at_calm w k y None c = c
give_up_at_calm w k y (Some m) c = give_up_calm w k y m (give_up_refusal m y) c

forget_calm : (w : World) (k : ℕ) (m : Master) (r : Option Refusal) → CalmWorld w → CalmWorld (forget_by w k m r)
forget_calm w k m (Some r) c = c
forget_calm w k m None c = speaks_calm w k (forgets m) [] c

forget_at_calm : (w : World) (k : ℕ) (o : Option Master) → CalmWorld w → CalmWorld (forget_at w k o)
forget_at_calm w k None c = c
forget_at_calm w k (Some m) c = forget_calm w k m (forget_refusal m) c

resend_calm : (w : World) (k p : ℕ) (o : Option Master) → CalmWorld w → CalmWorld (resend_at w k p o)
resend_calm w k p None c = c
resend_calm w k p (Some m) c = c

-- a plain change that is sent makes nothing due
plain_calm : (k : ℕ) (m : Master) (p : ℕ) → Calm m → Calm (sends_one k m p (Some Plain)).master
plain_calm k m p c =
    let o : Waiting = record { stamp = stamp_of m.epoch Plain (m.at p); body = Plain } in
    let n = (sends_one k m p (Some Plain)).master in
    record {
      still = λ q e.
          ⊎_elim (λ u. subst (λ v. due n v ≡ None) (sym (eqb-true q p u)) (waiting_none n p o (ap (λ (z : Peer). z.waits) (put_here m.at p (sending (m.at p) o)))))
          (λ u. due_other m p (sending (m.at p) o) q (not_same q p u) ∙ c.still q e) (both (q == p));
      set = c.set;
    }

change_calm : (w : World) (k p : ℕ) (m : Master) (r : Option Refusal) → w.masters k ≡ Some m → CalmWorld w → CalmWorld (change_by w k p m r)
change_calm w k p m (Some r) e c = c
change_calm w k p m None e c = put_rest (λ _. LifeCalm) w.masters k (Some (sends_one k m p (Some Plain)).master) (plain_calm k m p (subst LifeCalm e (c k))) (λ j _. c j)

change_at_calm : (w : World) (k p : ℕ) (o : Option Master) → w.masters k ≡ o → CalmWorld w → CalmWorld (change_at w k p o)
change_at_calm w k p None e c = c
change_at_calm w k p (Some m) e c = change_calm w k p m (plain_refusal m p) e c

pub happens_calm : (w : World) (s : Step) → CalmWorld w → CalmWorld (happens w s)
happens_calm w (Open p k) c = cond_all CalmWorld (among p w.network.elements && is_some (controller_of w.network.controllers k)) (says w (sent p k Setup ∷ [])) w (λ _. c) (λ _. c)
happens_calm w (Moment p ks) c = cond_all CalmWorld (among p w.network.elements) (says w (murmurs p ks)) w (λ _. c) (λ _. c)
happens_calm w (Change k p) c = change_at_calm w k p (w.masters k) refl c
happens_calm w (Deliver n ok) c = delivers_calm w ok (numbered w.sent n) c
happens_calm w (Start k r) c = cond_all CalmWorld (may_start w k r) (starts w k r) w (λ _. start_calm w k r c) (λ _. c)
happens_calm w (Stop k) c = put_rest (λ _. LifeCalm) w.masters k None tt (λ j _. c j)
happens_calm w (Begin k ps changes scopes) c = begin_at_calm w k ps changes scopes (w.masters k) c
happens_calm w (Give_up k y) c = give_up_at_calm w k y (w.masters k) c
happens_calm w (Resend k p) c = resend_calm w k p (w.masters k) c
happens_calm w (Forget k) c = forget_at_calm w k (w.masters k) c
happens_calm w (Restart p) c = cond_all CalmWorld (among p w.network.elements) (restarts w p) w (λ _. c) (λ _. c)

run_calm : (ss : List Step) (w : World) → CalmWorld w → CalmWorld (run ss w)
run_calm [] w c = c
run_calm (s ∷ ss) w c = run_calm ss (happens w s) (happens_calm w s c)

pub all_calm : (net : Network) (ss : List Step) → CalmWorld (run ss (first_world net))
all_calm net ss = run_calm ss (first_world net) (λ _. tt)
