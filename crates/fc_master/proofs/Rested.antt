-- The jobs that rest: nothing that comes changes them, and nothing is due for them.
use Rattle.std.proofs.Common.{◌≡◌, ℕ, ◌+◌, ◌≤◌, ◌<◌, ◌==◌, ◌&&◌, ◌||◌, Bool, true, false, not, nat_lt, zero, suc, cond, List, [], ◌∷◌, ◌++◌, map, take, drop, length, get_or, Option, Some, None, is_some, is_none, refl, sym, ap, ◌∙◌, arith}
use Rattle.std.proofs.lemmas.Bool.{and_from, eqb-true}
use Rattle.std.proofs.lemmas.List.{append_assoc, map-append, take-append-drop}
use Rattle.std.specs.List.{list_all}
use Rattle.fc_base.specs.Ids.{Txn}
use Rattle.fc_protocol.specs.Collections.{among, or_next}
use Rattle.fc_protocol.specs.Jobs.{Job as Work, all_settled, answer, answered_by, body_by, decided_job, decision_body, first_need, given_up, is_settled, needs, on_job, settled_at, stuck_at, went_on}
use Rattle.fc_protocol.specs.Messages.{Body, Claim, Sot, Mot, Eot, Trcomp, Abt, Floor, Malformed, Plain, Ask, Ask_record, Reply, Stamp, same}
use Rattle.fc_protocol.specs.MasterMachine.{Master as Core, NotReady, Peer, Speaks, Unsettled, Waiting, and_says, busy_at, busy_by, coded, decide_all, due, finish, floor_body, heard, is_open_at, matches, own_job, refused_if, reserved, scope_at, sends_all, sends_one, unsettled, unspent}
use Rattle.fc_protocol.specs.Scopes.{Scope, meets}
use Rattle.fc_protocol.specs.declared.states.Decision.{Decision}
use Rattle.fc_protocol.specs.declared.states.Decision.TheVariants.{Abort}
use Rattle.fc_protocol.specs.declared.states.Seen.TheVariants.{Prepared, Aborted}
use Rattle.fc_jobs.specs.declared.job.Job.{Job}
use Rattle.fc_jobs.specs.declared.seat.Seat.{Seat}
use Rattle.fc_jobs.specs.JobViews.{job_of, jobs_of}
use Rattle.fc_jobs.specs.Seats.{alone, elements_of}
use Rattle.fc_jobs.specs.Sending.{Begun, core_by}
use Rattle.fc_jobs.proofs.Finishing.{finished}
use Rattle.fc_jobs.proofs.Seating.{and_first, and_second}
use Rattle.fc_master.proofs.Changing.{all_decided}
use Rattle.fc_master.specs.Refusals.{peer_refusal}
use Rattle.fc_master.specs.declared.resting.Jobs.{Jobs}
use Rattle.fc_master.specs.Resting.{DoneTo, LeavesAlone, is_beyond, is_done, is_early, named, rests, with_tail}

-- what rests is done
pub done_of : (e n : ℕ) (js : List Work) → list_all (rests e n) js ≡ true → list_all is_done js ≡ true
done_of e n [] r = refl
done_of e n (j ∷ js) r =
    let here = and_first (rests e n j) (list_all (rests e n) js) r in
    and_from (is_done j) (list_all is_done js) (and_first (is_done j) (is_early e n j) here) (done_of e n js (and_second (rests e n j) (list_all (rests e n) js) r))

-- Of one job

settled_or : (f : ℕ → Bool) (p q : ℕ) (b m : Bool) → (p == q) ≡ b → f q ≡ true → (m ≡ true → f p ≡ true) → (b || m) ≡ true → f p ≡ true
settled_or f p q true m e h r t = ap f (eqb-true p q e) ∙ h
settled_or f p q false m e h r t = r t

settled_there : (j : Work) (ps : List ℕ) (p : ℕ) → all_settled j ps ≡ true → among p ps ≡ true → j.settled p ≡ true
settled_there j [] p a m = cc
settled_there j (q ∷ ps) p a m =
    settled_or j.settled p q (p == q) (among p ps) refl (and_first (j.settled q) (all_settled j ps) a) (settled_there j ps p (and_second (j.settled q) (all_settled j ps) a)) m

decided_stays : (e : ℕ) (o : Option Decision) (j : Work) → is_some o ≡ true → decided_job e o j ≡ j
decided_stays e None j s = cc
decided_stays e (Some d) j s = refl

nothing_by : (j : Work) (p : ℕ) (o : Option Decision) → is_some o ≡ true → j.settled p ≡ true → body_by j p o ≡ None
nothing_by j p None s t = cc
nothing_by j p (Some d) s t = ap (λ b. cond (b || j.stuck p) None (Some (decision_body j.txn d))) t

and_false : (b : Bool) → (b && false) ≡ false
and_false true = refl
and_false false = refl

no_way : (b m : Bool) (o : Option Decision) → is_some o ≡ true → (b && (m && is_none o)) ≡ false
no_way b m None s = cc
no_way true m (Some x) s = and_false m
no_way false m (Some x) s = refl

-- a job that is done
module _ (j : Work) (d : is_done j ≡ true) where
  is_decided : is_some j.decision ≡ true
  is_decided = and_first (is_some j.decision) (is_settled j) d

  all_done : is_settled j ≡ true
  all_done = and_second (is_some j.decision) (is_settled j) d

  stays : (e : ℕ) → decided_job e j.decision j ≡ j
  stays e = decided_stays e j.decision j is_decided

  needs_by : (p : ℕ) (b : Bool) → among p j.parts ≡ b → cond b (body_by j p j.decision) None ≡ None
  needs_by p true m = nothing_by j p j.decision is_decided (settled_there j j.parts p all_done m)
  needs_by p false m = refl

  needs_nothing : (p : ℕ) → needs j p ≡ None
  needs_nothing p = needs_by p (among p j.parts) refl

  shut_by : (b : Bool) → (b && not (is_settled j)) ≡ false
  shut_by true = ap not all_done
  shut_by false = refl

  is_shut : (p : ℕ) → is_open_at p j ≡ false
  is_shut p = shut_by (among p j.parts)

  not_given_up : (x : Txn) → given_up x j ≡ j
  not_given_up x = ap (λ b. cond b (record j { decision = Some Abort }) j) (no_way (same x j.txn) j.mine j.decision is_decided)

-- a transaction that is later than all that rest has another name
other_by : (e n : ℕ) (x y : Txn) (b : Bool) → same x y ≡ b → (x.epoch == e && nat_lt n x.number) ≡ true → not (y.epoch == e && nat_lt n y.number) ≡ true → b ≡ false
other_by e n x y true s l f =
    let p : x.epoch ≡ y.epoch = eqb-true x.epoch y.epoch (and_first (x.epoch == y.epoch) (x.number == y.number) s) in
    let q : x.number ≡ y.number = eqb-true x.number y.number (and_second (x.epoch == y.epoch) (x.number == y.number) s) in
    let z : false ≡ true = ap not (sym l ∙ ap (λ u. u == e && nat_lt n x.number) p ∙ ap (λ v. y.epoch == e && nat_lt n v) q) ∙ f in
    cc
other_by e n x y false s l f = refl

-- Of all that are done

all_stay : (e : ℕ) (rested : List Work) → list_all is_done rested ≡ true → map (λ (j : Work). decided_job e j.decision j) rested ≡ rested
all_stay e [] d = refl
all_stay e (j ∷ js) d =
    ap (λ (t : Work). t ∷ map (λ (j : Work). decided_job e j.decision j) js) (stays j (and_first (is_done j) (list_all is_done js) d) e)
    ∙ ap (λ (ts : List Work). j ∷ ts) (all_stay e js (and_second (is_done j) (list_all is_done js) d))

pub first_need_behind : (p : ℕ) (rested js : List Work) → list_all is_done rested ≡ true → first_need (rested ++ js) p ≡ first_need js p
first_need_behind p [] js d = refl
first_need_behind p (j ∷ rested) js d =
    ap (λ o. or_next o (first_need (rested ++ js) p)) (needs_nothing j (and_first (is_done j) (list_all is_done rested) d) p)
    ∙ first_need_behind p rested js (and_second (is_done j) (list_all is_done rested) d)

pub busy_behind : (p : ℕ) (sc : Scope) (rested js : List Work) → list_all is_done rested ≡ true → busy_at p sc (rested ++ js) ≡ busy_at p sc js
busy_behind p sc [] js d = refl
busy_behind p sc (j ∷ rested) js d =
    ap (λ b. cond (b && meets (scope_at p j) sc) (Some j.txn) (busy_at p sc (rested ++ js))) (is_shut j (and_first (is_done j) (list_all is_done rested) d) p)
    ∙ busy_behind p sc rested js (and_second (is_done j) (list_all is_done rested) d)

nothing_more : (n : ℕ) → 0 + n ≡ n
nothing_more n = omega arith

pub reserved_behind : (p : ℕ) (rested js : List Work) → list_all is_done rested ≡ true → reserved p (rested ++ js) ≡ reserved p js
reserved_behind p [] js d = refl
reserved_behind p (j ∷ rested) js d =
    ap (λ b. cond b (cond j.mine (j.changes p + 3) 1) 0 + reserved p (rested ++ js)) (is_shut j (and_first (is_done j) (list_all is_done rested) d) p)
    ∙ nothing_more (reserved p (rested ++ js))
    ∙ reserved_behind p rested js (and_second (is_done j) (list_all is_done rested) d)

pub unsettled_behind : (rested js : List Work) → list_all is_done rested ≡ true → unsettled (rested ++ js) ≡ unsettled js
unsettled_behind [] js d = refl
unsettled_behind (j ∷ rested) js d =
    ap (λ b. or_next (refused_if (not b) (Unsettled j.txn)) (unsettled (rested ++ js))) (all_done j (and_first (is_done j) (list_all is_done rested) d))
    ∙ unsettled_behind rested js (and_second (is_done j) (list_all is_done rested) d)

none_given_up : (x : Txn) (rested : List Work) → list_all is_done rested ≡ true → map (given_up x) rested ≡ rested
none_given_up x [] d = refl
none_given_up x (j ∷ js) d =
    ap (λ (t : Work). t ∷ map (given_up x) js) (not_given_up j (and_first (is_done j) (list_all is_done js) d) x)
    ∙ ap (λ (ts : List Work). j ∷ ts) (none_given_up x js (and_second (is_done j) (list_all is_done js) d))

-- the jobs of a later transaction stand behind all that rest
on_behind : (e n : ℕ) (x : Txn) (f : Work → Work) (rested js : List Work) → list_all (rests e n) rested ≡ true → (x.epoch == e && nat_lt n x.number) ≡ true → on_job x f (rested ++ js) ≡ rested ++ on_job x f js
on_behind e n x f [] js r l = refl
on_behind e n x f (j ∷ rested) js r l =
    let early = and_second (is_done j) (is_early e n j) (and_first (rests e n j) (list_all (rests e n) rested) r) in
    ap (λ b. cond b (f j) j ∷ on_job x f (rested ++ js)) (other_by e n x j.txn (same x j.txn) refl l early)
    ∙ ap (λ (ts : List Work). j ∷ ts) (on_behind e n x f rested js (and_second (rests e n j) (list_all (rests e n) rested) r) l)

pub own_behind : (e n : ℕ) (x : Txn) (rested js : List Work) → list_all (rests e n) rested ≡ true → (x.epoch == e && nat_lt n x.number) ≡ true → own_job x (rested ++ js) ≡ own_job x js
own_behind e n x [] js r l = refl
own_behind e n x (j ∷ rested) js r l =
    let early = and_second (is_done j) (is_early e n j) (and_first (rests e n j) (list_all (rests e n) rested) r) in
    ap (λ b. cond (b && j.mine) (Some j) (own_job x (rested ++ js))) (other_by e n x j.txn (same x j.txn) refl l early)
    ∙ own_behind e n x rested js (and_second (rests e n j) (list_all (rests e n) rested) r) l

either : (e n : ℕ) (x : Txn) (f g : Work → Work) (rested js : List Work) → list_all (rests e n) rested ≡ true → (x.epoch == e && nat_lt n x.number) ≡ true → (good : Bool)
    → cond good (on_job x f (rested ++ js)) (on_job x g (rested ++ js)) ≡ rested ++ cond good (on_job x f js) (on_job x g js)
either e n x f g rested js r l true = on_behind e n x f rested js r l
either e n x f g rested js r l false = on_behind e n x g rested js r l

pub leaves_alone : (e n : ℕ) (rested : List Work) → list_all (rests e n) rested ≡ true → (b : Body) → is_beyond e n (named b) ≡ true → LeavesAlone rested b
leaves_alone e n rested r (Claim w) l = λ i p good js. refl
leaves_alone e n rested r (Sot x ps sc) l = λ i p good js. either e n x (went_on p) (answered_by p (answer i Aborted)) rested js r l good
leaves_alone e n rested r (Mot x c) l = λ i p good js. either e n x (went_on p) (answered_by p (answer i Aborted)) rested js r l good
leaves_alone e n rested r (Eot x) l = λ i p good js. either e n x (answered_by p (answer i Prepared)) (answered_by p (answer i Aborted)) rested js r l good
leaves_alone e n rested r (Trcomp x) l = λ i p good js. either e n x (settled_at p) (stuck_at p) rested js r l good
leaves_alone e n rested r (Abt x) l = λ i p good js. either e n x (settled_at p) (stuck_at p) rested js r l good
leaves_alone e n rested r (Floor f) l = λ i p good js. refl
leaves_alone e n rested r Malformed l = λ i p good js. refl
leaves_alone e n rested r Plain l = λ i p good js. refl
leaves_alone e n rested r Ask l = λ i p good js. refl
leaves_alone e n rested r (Ask_record x) l = λ i p good js. refl

pub same_waiting : (a b : Waiting) → Some a ≡ Some b → a ≡ b
same_waiting a b e = cc

-- A master with these jobs before its own

abbrev pub behind : List Work → Core → Core
behind rested m = record m { jobs = rested ++ m.jobs }

module _ (rested : List Work) (d : list_all is_done rested ≡ true) where
  pub decide_behind : (m : Core) → behind rested (decide_all m) ≡ decide_all (behind rested m)
  decide_behind m =
      ap (λ (ts : List Work). record m { jobs = ts })
      (ap (λ (ts : List Work). ts ++ map (λ (j : Work). decided_job m.epoch j.decision j) m.jobs) (sym (all_stay m.epoch rested d)) ∙ sym (map-append (λ (j : Work). decided_job m.epoch j.decision j) rested m.jobs))

  due_behind : (m : Core) (p : ℕ) → due (behind rested m) p ≡ due m p
  due_behind m p =
      let y = m.at p in
      ap (λ (o : Option Body). cond ((y.met && not y.lost) && (is_none y.waits && is_none m.deposed)) (unspent y (cond y.doubt (Some Ask) (cond (not y.claimed) (Some (Claim m.epoch)) (cond (not y.answered) (Some Ask) (or_next o (floor_body y.owes)))))) None)
      (first_need_behind p rested m.jobs d)

  one_more : (k p : ℕ) (ps : List ℕ) (m : Core) (o : Option Body) → ((t : Core) → sends_all k ps (behind rested t) ≡ record { master = behind rested (sends_all k ps t).master; says = (sends_all k ps t).says })
      → and_says (sends_all k ps (sends_one k (behind rested m) p o).master) (sends_one k (behind rested m) p o).says
      ≡ record { master = behind rested (and_says (sends_all k ps (sends_one k m p o).master) (sends_one k m p o).says).master; says = (and_says (sends_all k ps (sends_one k m p o).master) (sends_one k m p o).says).says }
  one_more k p ps m None f = ap (λ (r : Speaks). and_says r []) (f m)
  one_more k p ps m (Some b) f = ap (λ (r : Speaks). and_says r (sends_one k m p (Some b)).says) (f (sends_one k m p (Some b)).master)

  pub sends_behind : (k : ℕ) (ps : List ℕ) (m : Core) → sends_all k ps (behind rested m) ≡ record { master = behind rested (sends_all k ps m).master; says = (sends_all k ps m).says }
  sends_behind k [] m = refl
  sends_behind k (p ∷ ps) m =
      ap (λ (o : Option Body). and_says (sends_all k ps (sends_one k (behind rested m) p o).master) (sends_one k (behind rested m) p o).says) (due_behind m p)
      ∙ one_more k p ps m (due m p) (sends_behind k ps)

  pub given_up_behind : (x : Txn) (js : List Work) → map (given_up x) (rested ++ js) ≡ rested ++ map (given_up x) js
  given_up_behind x js = map-append (given_up x) rested js ∙ ap (λ (ts : List Work). ts ++ map (given_up x) js) (none_given_up x rested d)

-- what a response makes of the master
matched_by : (rested : List Work) (m : Core) (p code : ℕ) (o : Waiting) (b : Bool) → LeavesAlone rested o.body
    → cond b (coded (behind rested m) p code (Some o)) (behind rested m) ≡ behind rested (cond b (coded m p code (Some o)) m)
matched_by rested m p code o true f = ap (λ (ts : List Work). record (coded m p code (Some o)) { jobs = ts }) (f m.epoch p (code == 0) m.jobs)
matched_by rested m p code o false f = refl

response_by : (rested : List Work) (m : Core) (p code : ℕ) (s : Stamp) (w : Option Waiting) → ((o : Waiting) → w ≡ Some o → LeavesAlone rested o.body)
    → cond (matches s false w) (coded (behind rested m) p code w) (behind rested m) ≡ behind rested (cond (matches s false w) (coded m p code w) m)
response_by rested m p code s None f = refl
response_by rested m p code s (Some o) f = matched_by rested m p code o (matches s false (Some o)) (f o refl)

pub response_behind : (rested : List Work) (m : Core) (p code : ℕ) (s : Stamp) → ((o : Waiting) → (m.at p).waits ≡ Some o → LeavesAlone rested o.body)
    → heard (behind rested m) p (Reply s code) ≡ behind rested (heard m p (Reply s code))
response_behind rested m p code s f = response_by rested m p code s (m.at p).waits f

-- The jobs in two parts

pub parted : (n : ℕ) (js : List Job) → jobs_of (take n js) ++ jobs_of (drop n js) ≡ jobs_of js
parted n js = sym (map-append job_of (take n js) (drop n js)) ∙ ap jobs_of (take-append-drop n js)

pub core_behind : (e n : ℕ) (ss : List Seat) (js tail : List Job) (begun : Begun) (d : Option ℕ) → core_by e ss (take n js ++ tail) begun d ≡ behind (jobs_of (take n js)) (core_by e ss tail begun d)
core_behind e n ss js tail begun d = ap (λ (ts : List Work). record (core_by e ss tail begun d) { jobs = ts }) (map-append job_of (take n js) tail)

pub first_all : (q : Work → Bool) (js : List Job) (n r : ℕ) → n ≤ r → list_all q (jobs_of (take r js)) ≡ true → list_all q (jobs_of (take n js)) ≡ true
first_all q js zero r l a = refl
first_all q [] (suc n) r l a = refl
first_all q (j ∷ js) (suc n) zero l a = absurd (omega (arith, l))
first_all q (j ∷ js) (suc n) (suc r) l a =
    and_from (q (job_of j)) (list_all q (jobs_of (take n js))) (and_first (q (job_of j)) (list_all q (jobs_of (take r js))) a) (first_all q js n r (omega (arith, l)) (and_second (q (job_of j)) (list_all q (jobs_of (take r js))) a))

-- so many jobs are done where more rest
pub done_to : (e p n r : ℕ) (js : List Job) → n ≤ r → list_all (rests e p) (jobs_of (take r js)) ≡ true → DoneTo n js
done_to e p n r js l a = done_of e p (jobs_of (take n js)) (first_all (rests e p) js n r l a)

pub up_to : (js : Jobs) (n : ℕ) → n ≤ js.rested → DoneTo n js.all
up_to js n l = done_to js.epoch js.passed n js.rested js.all l js.rest

pub rested_done : (js : Jobs) → DoneTo js.rested js.all
rested_done js = up_to js js.rested (omega arith)

-- What becomes of the jobs, each decided where it can be

decided_behind : (e : ℕ) (rested ks : List Work) → list_all is_done rested ≡ true → rested ++ all_decided e ks ≡ all_decided e (rested ++ ks)
decided_behind e rested ks d =
    ap (λ (ts : List Work). ts ++ all_decided e ks) (sym (all_stay e rested d)) ∙ sym (map-append (λ (j : Work). decided_job e j.decision j) rested ks)

module _ (e n : ℕ) (js tail : List Job) (done : DoneTo n js) where
  tail_is : (ks : List Work) → jobs_of tail ≡ all_decided e ks → jobs_of (with_tail n js tail) ≡ all_decided e (jobs_of (take n js) ++ ks)
  tail_is ks f = map-append job_of (take n js) tail ∙ ap (λ (ts : List Work). jobs_of (take n js) ++ ts) f ∙ decided_behind e (jobs_of (take n js)) ks done

  pub same_behind : jobs_of tail ≡ all_decided e (jobs_of (drop n js)) → jobs_of (with_tail n js tail) ≡ all_decided e (jobs_of js)
  same_behind f = tail_is (jobs_of (drop n js)) f ∙ ap (all_decided e) (parted n js)

  pub one_behind : (w : Work) → jobs_of tail ≡ all_decided e (jobs_of (drop n js) ++ w ∷ []) → jobs_of (with_tail n js tail) ≡ all_decided e (jobs_of js ++ w ∷ [])
  one_behind w f =
      tail_is (jobs_of (drop n js) ++ w ∷ []) f
      ∙ ap (all_decided e) (sym (append_assoc (jobs_of (take n js)) (jobs_of (drop n js)) (w ∷ [])) ∙ ap (λ (ts : List Work). ts ++ w ∷ []) (parted n js))

  pub abort_behind : (x : Txn) → jobs_of tail ≡ all_decided e (map (given_up x) (jobs_of (drop n js))) → jobs_of (with_tail n js tail) ≡ all_decided e (map (given_up x) (jobs_of js))
  abort_behind x f =
      tail_is (map (given_up x) (jobs_of (drop n js))) f
      ∙ ap (all_decided e) (sym (given_up_behind (jobs_of (take n js)) done x (jobs_of (drop n js))) ∙ ap (map (given_up x)) (parted n js))

-- What is sent then

module _ (k e n : ℕ) (ss ts : List Seat) (js tail : List Job) (begun : Begun) (d : Option ℕ) (x : Core) (done : DoneTo n js) (f : core_by e ss (with_tail n js tail) begun d ≡ decide_all x) where
  abbrev before : Core
  before = core_by e ss tail begun d

  sent_is : sends_all k (elements_of ss) (behind (jobs_of (take n js)) before) ≡ finish k x
  sent_is = ap (λ (t : Core). sends_all k (elements_of ss) t) (sym (core_behind e n ss js tail begun d)) ∙ finished k (core_by e ss (with_tail n js tail) begun d) x f

  pub sent_core : core_by e ts tail begun d ≡ (sends_all k (elements_of ss) before).master → core_by e ts (with_tail n js tail) begun d ≡ (finish k x).master
  sent_core g =
      core_behind e n ts js tail begun d
      ∙ ap (behind (jobs_of (take n js))) g
      ∙ sym (ap (λ (r : Speaks). r.master) (sends_behind (jobs_of (take n js)) done k (elements_of ss) before))
      ∙ ap (λ (r : Speaks). r.master) sent_is

  pub sent_says : (sends_all k (elements_of ss) before).says ≡ (finish k x).says
  sent_says = sym (ap (λ (r : Speaks). r.says) (sends_behind (jobs_of (take n js)) done k (elements_of ss) before)) ∙ ap (λ (r : Speaks). r.says) sent_is

-- what a response makes of the master, from the jobs that it may change
module _ (e n : ℕ) (ss ts : List Seat) (js tail : List Job) (begun : Begun) (d : Option ℕ) (p code : ℕ) (s : Stamp) (done : DoneTo n js) where
  pub response_is : ((o : Waiting) → ((core_by e ss js begun d).at p).waits ≡ Some o → LeavesAlone (jobs_of (take n js)) o.body)
      → core_by e ts tail begun d ≡ decide_all (heard (core_by e ss (drop n js) begun d) p (Reply s code))
      → core_by e ts (with_tail n js tail) begun d ≡ decide_all (heard (core_by e ss js begun d) p (Reply s code))
  response_is f g =
      let rested = jobs_of (take n js) in
      let m = core_by e ss (drop n js) begun d in
      core_behind e n ts js tail begun d
      ∙ ap (behind rested) g
      ∙ decide_behind rested done (heard m p (Reply s code))
      ∙ ap decide_all (sym (response_behind rested m p code s f))
      ∙ ap (λ (t : Core). decide_all (heard t p (Reply s code))) (sym (core_behind e n ss js (drop n js) begun d))
      ∙ ap (λ (us : List Job). decide_all (heard (core_by e ss us begun d) p (Reply s code))) (take-append-drop n js)

-- Jobs that come to rest

early_by : (a b c : Bool) → (c ≡ true → b ≡ true) → not (a && b) ≡ true → not (a && c) ≡ true
early_by true b true f e = ap not (sym (f refl)) ∙ e
early_by true b false f e = refl
early_by false b c f e = refl

take_next : (js : List Job) (i : ℕ) (j : Job) → i < length js → j ≡ get_or js i j → take (suc i) js ≡ take i js ++ j ∷ []
take_next [] i j l g = absurd (omega (arith, l))
take_next (k ∷ js) zero j l g = ap (λ (t : Job). t ∷ []) (sym g)
take_next (k ∷ js) (suc i) j l g = ap (λ (ts : List Job). k ∷ ts) (take_next js i j (omega (arith, l)) g)

take_first : (js tail : List Job) (n r : ℕ) → r ≤ n → r ≤ length js → take r (take n js ++ tail) ≡ take r js
take_first js tail n zero l h = refl
take_first [] tail n (suc r) l h = absurd (omega (arith, h))
take_first (j ∷ js) tail zero (suc r) l h = absurd (omega (arith, l))
take_first (j ∷ js) tail (suc n) (suc r) l h = ap (λ (ts : List Job). j ∷ ts) (take_first js tail n r (omega (arith, l)) (omega (arith, h)))

few_first : (js tail : List Job) (n r : ℕ) → r ≤ n → r ≤ length js → r ≤ length (take n js ++ tail)
few_first js tail n zero l h = omega arith
few_first [] tail n (suc r) l h = absurd (omega (arith, h))
few_first (j ∷ js) tail zero (suc r) l h = absurd (omega (arith, l))
few_first (j ∷ js) tail (suc n) (suc r) l h = let f = few_first js tail n r (omega (arith, l)) (omega (arith, h)) in omega (arith, f)

early_more : (e n m : ℕ) (x : Txn) → n ≤ m → not (x.epoch == e && nat_lt n x.number) ≡ true → not (x.epoch == e && nat_lt m x.number) ≡ true
early_more e n m x l f = early_by (x.epoch == e) (nat_lt n x.number) (nat_lt m x.number) (λ h. grind (arith, l, h)) f

more_rest : (e n m : ℕ) (js : List Work) → n ≤ m → list_all (rests e n) js ≡ true → list_all (rests e m) js ≡ true
more_rest e n m [] l r = refl
more_rest e n m (j ∷ js) l r =
    let here = and_first (rests e n j) (list_all (rests e n) js) r in
    and_from (rests e m j) (list_all (rests e m) js) (and_from (is_done j) (is_early e m j) (and_first (is_done j) (is_early e n j) here) (early_more e n m j.txn l (and_second (is_done j) (is_early e n j) here)))
    (more_rest e n m js l (and_second (rests e n j) (list_all (rests e n) js) r))

all_one : (q : Work → Bool) (ks : List Work) (w : Work) → list_all q ks ≡ true → q w ≡ true → list_all q (ks ++ w ∷ []) ≡ true
all_one q [] w a b = and_from (q w) true b refl
all_one q (k ∷ ks) w a b = and_from (q k) (list_all q (ks ++ w ∷ [])) (and_first (q k) (list_all q ks) a) (all_one q ks w (and_second (q k) (list_all q ks) a) b)

one_after : (i : ℕ) → i + 1 ≡ suc i
one_after i = omega arith

pub one_rests : (e n m i : ℕ) (js : List Job) (j : Job) → i < length js → j ≡ get_or js i j → n ≤ m → list_all (rests e n) (jobs_of (take i js)) ≡ true → is_done (job_of j) ≡ true → is_early e m (job_of j) ≡ true
    → list_all (rests e m) (jobs_of (take (i + 1) js)) ≡ true
one_rests e n m i js j l g h r d f =
    ap (λ (k : ℕ). list_all (rests e m) (jobs_of (take k js))) (one_after i)
    ∙ ap (λ (ks : List Job). list_all (rests e m) (jobs_of ks)) (take_next js i j l g)
    ∙ ap (list_all (rests e m)) (map-append job_of (take i js) (j ∷ []))
    ∙ all_one (rests e m) (jobs_of (take i js)) (job_of j) (more_rest e n m (jobs_of (take i js)) h r) (and_from (is_done (job_of j)) (is_early e m (job_of j)) d f)

-- the jobs that rest still do, where those behind are replaced
pub still_rest : (e p n r : ℕ) (js tail : List Job) → r ≤ n → r ≤ length js → list_all (rests e p) (jobs_of (take r js)) ≡ true → list_all (rests e p) (jobs_of (take r (with_tail n js tail))) ≡ true
still_rest e p n r js tail l h a = ap (λ (ks : List Job). list_all (rests e p) (jobs_of ks)) (take_first js tail n r l h) ∙ a

pub still_few : (n r : ℕ) (js tail : List Job) → r ≤ n → r ≤ length js → r ≤ length (with_tail n js tail)
still_few n r js tail l h = few_first js tail n r l h

-- What is asked of the jobs that do not rest alone

pub unsettled_open : (js : Jobs) → unsettled (jobs_of (drop js.rested js.all)) ≡ unsettled (jobs_of js.all)
unsettled_open js = sym (unsettled_behind (jobs_of (take js.rested js.all)) (jobs_of (drop js.rested js.all)) (rested_done js)) ∙ ap unsettled (parted js.rested js.all)

pub busy_open : (p : ℕ) (sc : Scope) (js : Jobs) → busy_at p sc (jobs_of (drop js.rested js.all)) ≡ busy_at p sc (jobs_of js.all)
busy_open p sc js = sym (busy_behind p sc (jobs_of (take js.rested js.all)) (jobs_of (drop js.rested js.all)) (rested_done js)) ∙ ap (busy_at p sc) (parted js.rested js.all)

pub reserved_open : (p : ℕ) (js : Jobs) → reserved p (jobs_of (drop js.rested js.all)) ≡ reserved p (jobs_of js.all)
reserved_open p js = sym (reserved_behind p (jobs_of (take js.rested js.all)) (jobs_of (drop js.rested js.all)) (rested_done js)) ∙ ap (reserved p) (parted js.rested js.all)

pub own_open : (x : Txn) (js : Jobs) → (x.epoch == js.epoch && nat_lt js.passed x.number) ≡ true → own_job x (jobs_of (drop js.rested js.all)) ≡ own_job x (jobs_of js.all)
own_open x js l = sym (own_behind js.epoch js.passed x (jobs_of (take js.rested js.all)) (jobs_of (drop js.rested js.all)) js.rest l) ∙ ap (own_job x) (parted js.rested js.all)

pub peer_refusal_open : (y : Peer) (p : ℕ) (sc : Scope) (js : Jobs) → peer_refusal y p sc (jobs_of (drop js.rested js.all)) ≡ peer_refusal y p sc (jobs_of js.all)
peer_refusal_open y p sc js =
    ap (λ (o : Option Txn). or_next (refused_if (not y.answered || (y.doubt || y.lost)) (NotReady p)) (busy_by (alone 0 y [] None) p o)) (busy_open p sc js)
