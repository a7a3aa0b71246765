-- A master with one more job than it had: what becomes of the job, and what is due for it.
use Rattle.std.proofs.Common.{◌≡◌, ℕ, ◌<◌, ◌==◌, ◌&&◌, ◌||◌, not, nat_lt, Bool, true, false, cond, List, [], ◌∷◌, ◌++◌, map, Option, Some, None, is_none, option_map, ⊎_elim, refl, sym, ap, ◌∙◌, arith, eqb-true, eq-eqb}
use Rattle.fc_base.specs.Ids.{Txn}
use Rattle.fc_protocol.specs.Collections.{among, put, or_next}
use Rattle.fc_protocol.specs.Decide.{is_completed, is_aborted, is_prepared, any, every, decision_by, with_first, with_answer, states_under}
use Rattle.fc_protocol.specs.Jobs.{Job, find, on_job, decided_job, needs, first_need, by_code, answer}
use Rattle.fc_protocol.specs.MasterMachine.{floor_body, still_owed, Waiting, Peer, Master, last_count, count_of, unspent, wanted, due, after_code, matches, coded, heard}
use Rattle.fc_protocol.specs.Messages.{same, same_stamp, Body, Claim, Sot, Mot, Eot, Trcomp, Abt, Floor, Malformed, Plain, Ask, Ask_record, is_query, is_claim, Reply}
use Rattle.fc_protocol.specs.declared.answers.Answer.{Answer}
use Rattle.fc_protocol.specs.declared.states.Decision.TheVariants.{Complete}
use Rattle.fc_protocol.specs.declared.states.Seen.{Seen}
use Rattle.fc_protocol.specs.declared.states.Seen.TheVariants.{Prepared}
use Rattle.fc_protocol.proofs.Basics.{AllOf, cond_true, cond_false, and_true, both}
use Rattle.fc_agreement.proofs.Calm.{Set, or_false}
use Rattle.fc_agreement.proofs.Jobs.{find_append}

no_job : {P : Type 0} (b : Bool) (j : Job) (o : Option Job) → cond b (Some j) o ≡ None → (b ≡ false → o ≡ None → P) → P
no_job true j o e f = cc
no_job false j o e f = f refl e

on_job_none : (x : Txn) (f : Job → Job) (js : List Job) → find x js ≡ None → on_job x f js ≡ js
on_job_none x f [] e = refl
on_job_none x f (j ∷ js) e = no_job (same x j.txn) j (find x js) e (λ s r. ap (λ v. v ∷ on_job x f js) (cond_false (same x j.txn) (f j) j s) ∙ ap (λ v. j ∷ v) (on_job_none x f js r))

map_last : (g : Job → Job) (js : List Job) (j : Job) → map g (js ++ j ∷ []) ≡ map g js ++ g j ∷ []
map_last g [] j = refl
map_last g (i ∷ js) j = ap (λ v. g i ∷ v) (map_last g js j)

-- the last job alone is of x
pub on_last : (x : Txn) (f : Job → Job) (old : List Job) (j : Job) → find x old ≡ None → same x j.txn ≡ true → on_job x f (old ++ j ∷ []) ≡ old ++ f j ∷ []
on_last x f old j n s = map_last (λ i. cond (same x i.txn) (f i) i) old j ∙ ap (λ v. v ++ cond (same x j.txn) (f j) j ∷ []) (on_job_none x f old n) ∙ ap (λ v. old ++ v ∷ []) (cond_true (same x j.txn) (f j) j s)

set_map : (e : ℕ) (js : List Job) → AllOf (Set e) js → map (λ i. decided_job e i.decision i) js ≡ js
set_map e [] s = refl
set_map e (j ∷ js) s = ap (λ v. v ∷ map (λ i. decided_job e i.decision i) js) s.0 ∙ ap (λ v. j ∷ v) (set_map e js s.1)

-- the last job alone may be decided
pub decide_last : (e : ℕ) (old : List Job) (j : Job) → AllOf (Set e) old → map (λ i. decided_job e i.decision i) (old ++ j ∷ []) ≡ old ++ decided_job e j.decision j ∷ []
decide_last e old j s = map_last (λ i. decided_job e i.decision i) old j ∙ ap (λ v. v ++ decided_job e j.decision j ∷ []) (set_map e old s)

pub find_last : (x : Txn) (old : List Job) (j : Job) → find x old ≡ None → same x j.txn ≡ true → find x (old ++ j ∷ []) ≡ Some j
find_last x old j n s = find_append x old j ∙ ap (λ v. or_next v (cond (same x j.txn) (Some j) None)) n ∙ cond_true (same x j.txn) (Some j) None s

next_next : (a b c : Option Body) → or_next a (or_next b c) ≡ or_next (or_next a b) c
next_next None b c = refl
next_next (Some v) b c = refl

next_none : (a : Option Body) → or_next a None ≡ a
next_none None = refl
next_none (Some v) = refl

need_last : (old : List Job) (j : Job) (q : ℕ) → first_need (old ++ j ∷ []) q ≡ or_next (first_need old q) (needs j q)
need_last [] j q = next_none (needs j q)
need_last (i ∷ old) j q = ap (or_next (needs i q)) (need_last old j q) ∙ next_next (needs i q) (first_need old q) (needs j q)

-- where the older jobs need nothing, the last one's need comes first
pub need_here : (old : List Job) (j : Job) (q : ℕ) → first_need old q ≡ None → first_need (old ++ j ∷ []) q ≡ needs j q
need_here old j q n = need_last old j q ∙ ap (λ v. or_next v (needs j q)) n

-- where the last job does not name q, the older jobs' need stands
pub need_there : (old : List Job) (j : Job) (q : ℕ) → among q j.parts ≡ false → first_need (old ++ j ∷ []) q ≡ first_need old q
need_there old j q a = need_last old j q ∙ ap (or_next (first_need old q)) (cond_false (among q j.parts) _ None a) ∙ next_none (first_need old q)

-- an element that is met, claimed, answered, not in doubt and not lost, and owes no floor
pub record Flags (y : Peer) : Type 0 where
  pub met : y.met ≡ true
  pub claimed : y.claimed ≡ true
  pub answered : y.answered ≡ true
  pub doubt : y.doubt ≡ false
  pub lost : y.lost ≡ false
  pub owes : y.owes ≡ None

pub due_open : (m : Master) (q : ℕ) → Flags (m.at q) → m.deposed ≡ None → (m.at q).waits ≡ None → due m q ≡ unspent (m.at q) (first_need m.jobs q)
due_open m q f d w =
    let y = m.at q in
    let ready : ((y.met && not y.lost) && (is_none y.waits && is_none m.deposed)) ≡ true =
    and_true (y.met && not y.lost) _ (and_true y.met _ f.met (ap not f.lost)) (and_true (is_none y.waits) _ (ap is_none w) (ap is_none d)) in
    let want : wanted m q y ≡ first_need m.jobs q =
    cond_false y.doubt (Some Ask) _ f.doubt ∙ cond_false (not y.claimed) (Some (Claim m.epoch)) _ (ap not f.claimed) ∙ cond_false (not y.answered) (Some Ask) _ (ap not f.answered) ∙ ap (λ o. or_next (first_need m.jobs q) (floor_body o)) f.owes ∙ next_none (first_need m.jobs q) in
    cond_true _ (unspent y (wanted m q y)) None ready ∙ ap (unspent y) want

pub unspent_some : (y : Peer) (b : Body) → count_of b y < last_count → unspent y (Some b) ≡ Some b
unspent_some y b l = cond_true (nat_lt (count_of b y) last_count) (Some b) None (less (count_of b y) l)
  where
    less : (n : ℕ) → n < last_count → nat_lt n last_count ≡ true
    less n l = grind arith

-- due depends on the peer, the jobs' need and the epoch alone
abbrev due_need : ℕ → Option Body → Option ℕ → Peer → Option Body
due_need e o d y = cond ((y.met && not y.lost) && (is_none y.waits && is_none d)) (unspent y (cond y.doubt (Some Ask) (cond (not y.claimed) (Some (Claim e)) (cond (not y.answered) (Some Ask) (or_next o (floor_body y.owes)))))) None

pub due_same : (m n : Master) (q : ℕ) → n.epoch ≡ m.epoch → first_need n.jobs q ≡ first_need m.jobs q → n.deposed ≡ m.deposed → n.at q ≡ m.at q → due n q ≡ due m q
due_same m n q e j d y =
    ap (λ v. due_need v (first_need n.jobs q) n.deposed (n.at q)) e ∙ ap (λ v. due_need m.epoch v n.deposed (n.at q)) j ∙ ap (λ v. due_need m.epoch (first_need m.jobs q) v (n.at q)) d
    ∙ ap (λ (v : Peer). due_need m.epoch (first_need m.jobs q) m.deposed v) y

-- The response to what waits

pub heard_reply : (m : Master) (p : ℕ) (o : Waiting) → (m.at p).waits ≡ Some o → is_query o.body ≡ false
    → heard m p (Reply o.stamp 0) ≡ record m { at = put m.at p (after_code (m.at p) o.body 0); jobs = by_code m.epoch p o.body true m.jobs }
heard_reply m p o w q =
    let same_half : same_stamp o.stamp o.stamp ≡ true = and_true (o.stamp.life == o.stamp.life) _ (eq-eqb _ _ refl) (eq-eqb _ _ refl) in
    ap (λ v. cond (matches o.stamp false v) (coded m p 0 v) m) w ∙ cond_true _ (coded m p 0 (Some o)) m (and_true (same_stamp o.stamp o.stamp) _ same_half (ap not q))

still_none : (b : Body) → still_owed b None ≡ None
still_none (Claim w) = refl
still_none (Sot x ps sc) = refl
still_none (Mot x i) = refl
still_none (Eot x) = refl
still_none (Trcomp x) = refl
still_none (Abt x) = refl
still_none (Floor f) = refl
still_none Malformed = refl
still_none Plain = refl
still_none Ask = refl
still_none (Ask_record x) = refl

pub after_good : (y : Peer) (b : Body) → is_claim b ≡ false → y.owes ≡ None → after_code y b 0 ≡ record y { waits = None }
after_good y b c n =
    ap (λ v. record y { waits = None; owes = still_owed b y.owes; claimed = cond (v && true) true y.claimed; doubt = cond (false || (v && false)) true y.doubt }) c
    ∙ ap (λ o. record y { waits = None; owes = o }) (ap (still_owed b) n ∙ still_none b ∙ sym n)

-- Deciding

none_none : (b : Bool) → cond {A = Option (List Seen)} b None None ≡ None
none_none true = refl
none_none false = refl

with_none : (e : ℕ) (o : Option Answer) → with_answer e o None ≡ None
with_none e None = refl
with_none e (Some a) = none_none (a.epoch == e)

pub undecided : (e : ℕ) (f : ℕ → Option Answer) (ps : List ℕ) (q : ℕ) → among q ps ≡ true → f q ≡ None → states_under e (map f ps) ≡ None
undecided e f [] q a n = cc
undecided e f (p ∷ ps) q a n =
    ⊎_elim (λ u. ap (λ v. with_answer e v (states_under e (map f ps))) (ap f (sym (eqb-true q p u)) ∙ n))
    (λ u. ap (with_answer e (f p)) (undecided e f ps q (or_false (q == p) _ u a) n) ∙ with_none e (f p)) (both (q == p))

abbrev prepared_by : List ℕ → List Seen
prepared_by [] = []
prepared_by (p ∷ ps) = Prepared ∷ prepared_by ps

prepared_states : (e : ℕ) (f : ℕ → Option Answer) (ps : List ℕ) → ((q : ℕ) → among q ps ≡ true → f q ≡ Some (answer e Prepared)) → states_under e (map f ps) ≡ Some (prepared_by ps)
prepared_states e f [] h = refl
prepared_states e f (p ∷ ps) h =
    ap (λ v. with_answer e v (states_under e (map f ps))) (h p (here (p == p) (among p ps) (eq-eqb p p refl))) ∙ cond_true (e == e) _ None (eq-eqb e e refl)
    ∙ ap (with_first Prepared) (prepared_states e f ps (λ q a. h q (there (q == p) (among q ps) a)))
  where
    here : (a b : Bool) → a ≡ true → (a || b) ≡ true
    here true b e = refl
    here false b e = cc

    there : (a b : Bool) → b ≡ true → (a || b) ≡ true
    there true b e = refl
    there false b e = e

none_completed : (ps : List ℕ) → any is_completed (prepared_by ps) ≡ false
none_completed [] = refl
none_completed (p ∷ ps) = none_completed ps

none_aborted : (ps : List ℕ) → any is_aborted (prepared_by ps) ≡ false
none_aborted [] = refl
none_aborted (p ∷ ps) = none_aborted ps

all_prepared : (ps : List ℕ) → every is_prepared (prepared_by ps) ≡ true
all_prepared [] = refl
all_prepared (p ∷ ps) = all_prepared ps

pub decided : (e : ℕ) (f : ℕ → Option Answer) (ps : List ℕ) → ((q : ℕ) → among q ps ≡ true → f q ≡ Some (answer e Prepared)) → option_map decision_by (states_under e (map f ps)) ≡ Some Complete
decided e f ps h =
    ap (option_map decision_by) (prepared_states e f ps h)
    ∙ ap Some (cond_false _ Complete _ (none_completed ps) ∙ cond_false _ _ _ (none_aborted ps) ∙ cond_true _ Complete _ (all_prepared ps))
