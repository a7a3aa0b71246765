-- An answer to a Query, and what it does to a master.
use Rattle.std.proofs.Common.{◌≡◌, ℕ, ◌<◌, ◌==◌, Bool, true, false, ◌&&◌, ◌||◌, nat_lt, cond, List, map, length, get_or, Option, Some, None, IfSome, IfNone, Result, Ok, Err, IfOk, option_map, refl, sym, ap, ◌∙◌, subst, arith, eq-eqb}
use Rattle.std.proofs.Math.ListN.{set}
use Rattle.std.proofs.lemmas.Bool.{ltb-false}
use Rattle.fc_base.specs.Ids.{Txn}
use Rattle.fc_path.specs.declared.oper.Select.{Select}
use Rattle.fc_protocol.specs.Collections.{put}
use Rattle.fc_protocol.specs.Jobs.{Job, decided_job}
use Rattle.fc_protocol.specs.Messages.{Body, Ask, Ask_record, Stamp, Unread, stamp, same, same_stamp, is_query}
use Rattle.fc_protocol.specs.MasterMachine.{Peer, Master, Waiting, at_put, by_epoch, decide_all, depose, heard, held_by, held_told, is_lower, matches, record_by, record_told, unmatched, unread_told}
use Rattle.fc_protocol.specs.declared.answers.TxnEntry.{TxnEntry}
use Rattle.fc_protocol.specs.declared.states.Seen.{Seen}
use Rattle.fc_asks.specs.Bodies.{asked_by, question_body}
use Rattle.fc_asks.specs.Queries.{held_told as held_said, query_meaning, record_told as record_said}
use Rattle.fc_asks.specs.declared.asks.Question.{Question}
use Rattle.fc_asks.specs.declared.queries.HeldAnswer.{HeldAnswer}
use Rattle.fc_asks.specs.declared.queries.HeldAnswer.TheVariants as held_answer
use Rattle.fc_asks.specs.declared.queries.RecordAnswer.{RecordAnswer}
use Rattle.fc_asks.specs.declared.queries.RecordAnswer.TheVariants as record_answer
use Rattle.fc_base.specs.declared.faults.Memory.{Memory}
use Rattle.fc_jobs.specs.declared.answers.Heard.{Heard}
use Rattle.fc_jobs.specs.declared.answers.Standing.{Standing}
use Rattle.fc_jobs.specs.declared.answers.Standing.TheVariants as standing
use Rattle.fc_jobs.specs.declared.job.Job.{Job as Kept}
use Rattle.fc_jobs.specs.declared.seat.Seat.{Seat}
use Rattle.fc_jobs.specs.Answers.{after_held, after_record, answered, asked_meaning, asked_of, by_standing}
use Rattle.fc_jobs.specs.Effects.{carried}
use Rattle.fc_jobs.specs.JobViews.{jobs_of}
use Rattle.fc_jobs.specs.Seats.{elements_of, peer_at, peer_of}
use Rattle.fc_jobs.specs.Sending.{Begun, are_apart, core_by}
use Rattle.fc_jobs.proofs.Replying.{jobs_decided, same_jobs}
use Rattle.fc_jobs.proofs.Seating.{and_second, elements_set, peer_found, peer_set}

first_false : (a b : Bool) → (a || b) ≡ false → a ≡ false
first_false true b e = e
first_false false b e = refl

same_name : (x : Txn) → same x x ≡ true
same_name x = ap (λ b. b && (x.number == x.number)) (eq-eqb x.epoch x.epoch refl) ∙ eq-eqb x.number x.number refl

some_same : {A : Type 0} (a b : A) → Some a ≡ Some b → a ≡ b
some_same a b e = cc

-- an epoch that is neither greater nor lower is the master's own
pub own_epoch : (e told : ℕ) (b : Bool) → nat_lt e told ≡ false → (nat_lt told e || b) ≡ false → told ≡ e
own_epoch e told b g l = let x = ltb-false e told g in let y = ltb-false told e (first_false (nat_lt told e) b l) in omega arith

-- the Query that waits, where an answer is that to it
module _ (st : Stamp) (w : Option Waiting) (o : Waiting) (f : w ≡ Some o) (h : matches st true w ≡ true) where
  query_here : is_query o.body ≡ true
  query_here = and_second (same_stamp st o.stamp) (is_query o.body) (sym (ap (matches st true) f) ∙ h)

  asked_here : (r : Option Body) → r ≡ asked_by o.body → r ≡ Some o.body
  asked_here r k = k ∙ ap (λ b. cond b (Some o.body) None) query_here

  pub question_is : (r : Option Question) → option_map question_body r ≡ asked_by o.body → IfSome r (λ q. (matches st true w ≡ true) × (asked_of w ≡ Some (question_body q)))
  question_is None k = tt
  question_is (Some q) k = (h, ap asked_of f ∙ sym (asked_here (Some (question_body q)) k))

  pub no_question : (r : Option Question) → option_map question_body r ≡ asked_by o.body → IfNone r (matches st true w ≡ false)
  no_question None k = let z : None ≡ Some o.body = asked_here None k in cc
  no_question (Some q) k = tt

-- an epoch by how it stands to the master's own
module _ (m good : Master) (p told : ℕ) where
  pub stands_greater : nat_lt m.epoch told ≡ true → by_epoch m p told good ≡ by_standing standing.Greater m p told good
  stands_greater g = ap (λ b. cond b (depose m told) (cond (is_lower m p told) (at_put m p (unmatched (m.at p))) good)) g

  pub stands_lower : nat_lt m.epoch told ≡ false → is_lower m p told ≡ true → by_epoch m p told good ≡ by_standing standing.Lower m p told good
  stands_lower g l = ap (λ b. cond b (depose m told) (cond (is_lower m p told) (at_put m p (unmatched (m.at p))) good)) g ∙ ap (λ b. cond b (at_put m p (unmatched (m.at p))) good) l

  pub stands_own : nat_lt m.epoch told ≡ false → is_lower m p told ≡ false → by_epoch m p told good ≡ by_standing standing.Own m p told good
  stands_own g l = ap (λ b. cond b (depose m told) (cond (is_lower m p told) (at_put m p (unmatched (m.at p))) good)) g ∙ ap (λ b. cond b (at_put m p (unmatched (m.at p))) good) l

either : {A : Type 0} (b : Bool) (x : A) → cond b x x ≡ x
either true x = refl
either false x = refl

-- an epoch alone
module _ (m : Master) (p told : ℕ) where
  pub unread_greater : nat_lt m.epoch told ≡ true → depose m told ≡ unread_told m p (Some told)
  unread_greater g = sym (stands_greater m (at_put m p (unmatched (m.at p))) p told g)

  pub unread_lost : nat_lt m.epoch told ≡ false → at_put m p (unmatched (m.at p)) ≡ unread_told m p (Some told)
  unread_lost g =
      let x = at_put m p (unmatched (m.at p)) in
      sym (ap (λ b. cond b (depose m told) (cond (is_lower m p told) x x)) g ∙ either (is_lower m p told) x)

-- what becomes of a master, with another name for what was heard
pub heard_as : (r : Result Heard Memory) (e : ℕ) (f g : Begun → Master) → ((begun : Begun) → f begun ≡ g begun) → IfOk r (λ n. (begun : Begun) → core_by e n.seats n.jobs begun n.deposed ≡ decide_all (f begun))
    → IfOk r (λ n. (begun : Begun) → core_by e n.seats n.jobs begun n.deposed ≡ decide_all (g begun))
heard_as (Ok n) e f g k h = λ begun. h begun ∙ ap decide_all (k begun)
heard_as (Err x) e f g k h = tt

-- what is heard where it was asked for
module _ (m : Master) (p : ℕ) where
  held_at : (e : ℕ) (ns : List TxnEntry) (w : Option Waiting) (b : Body) → asked_of w ≡ Some b → held_told m p e ns w ≡ held_by m p e ns b
  held_at e ns None b h = cc
  held_at e ns (Some o) b h = ap (held_by m p e ns) (some_same o.body b h)

  record_at : (y : Txn) (e : ℕ) (t : Seen) (w : Option Waiting) (b : Body) → asked_of w ≡ Some b → record_told m p y e t w ≡ record_by m p y e t b
  record_at y e t None b h = cc
  record_at y e t (Some o) b h = ap (record_by m p y e t) (some_same o.body b h)

  module _ (s : Stamp) (h : matches s true (m.at p).waits ≡ true) where
    pub held_is : (t : HeldAnswer) → asked_of (m.at p).waits ≡ Some Ask → heard m p (held_said s t) ≡ after_held m p t
    held_is (held_answer.Held e ns) a = ap (λ b. cond b (held_told m p e ns (m.at p).waits) m) h ∙ held_at e ns (m.at p).waits Ask a
    held_is (held_answer.Unread e) a = ap (λ b. cond b (unread_told m p e) m) h

    pub record_is : (x : Txn) (t : RecordAnswer) → asked_of (m.at p).waits ≡ Some (Ask_record x) → heard m p (record_said s x t) ≡ after_record m p x t
    record_is x (record_answer.Record e t) a =
        ap (λ b. cond b (record_told m p x e t (m.at p).waits) m) h ∙ (record_at x e t (m.at p).waits (Ask_record x) a
        ∙ ap (λ b. cond b (after_record m p x (record_answer.Record e t)) (unread_told m p None)) (same_name x))
    record_is x (record_answer.Unread e) a = ap (λ b. cond b (unread_told m p e) m) h

-- what an answer to a Query does, as a whole
module _ (m : Master) (p corr : ℕ) (selects : List Select) where
  abbrev waits : Option Waiting
  waits = (m.at p).waits

  pub unasked_is : matches (stamp corr) true waits ≡ false → m ≡ answered m p corr selects
  unasked_is h =
      sym (ap (λ b. heard m p (cond b (asked_meaning (asked_of waits) (stamp corr) selects) (Unread (stamp corr) None))) h
      ∙ ap (λ b. cond b (unread_told m p None) m) h)

  asked_is : (b : Body) → matches (stamp corr) true waits ≡ true → asked_of waits ≡ Some b → answered m p corr selects ≡ heard m p (query_meaning b (stamp corr) selects)
  asked_is b h a =
      ap (λ t. heard m p (cond t (asked_meaning (asked_of waits) (stamp corr) selects) (Unread (stamp corr) None))) h
      ∙ ap (λ o. heard m p (asked_meaning o (stamp corr) selects)) a

  pub held_answered : matches (stamp corr) true waits ≡ true → asked_of waits ≡ Some Ask → (t : HeldAnswer) → held_said (stamp corr) t ≡ query_meaning Ask (stamp corr) selects → after_held m p t ≡ answered m p corr selects
  held_answered h a t r = sym (asked_is Ask h a ∙ (ap (heard m p) (sym r) ∙ held_is m p (stamp corr) h t a))

  pub record_answered : (x : Txn) → matches (stamp corr) true waits ≡ true → asked_of waits ≡ Some (Ask_record x) → (t : RecordAnswer) → record_said (stamp corr) x t ≡ query_meaning (Ask_record x) (stamp corr) selects
      → after_record m p x t ≡ answered m p corr selects
  record_answered x h a t r = sym (asked_is (Ask_record x) h a ∙ (ap (heard m p) (sym r) ∙ record_is m p (stamp corr) h x t a))

-- the jobs after a pass that decides each where it can be
pub found_decided : (e p : ℕ) (ks : List Job) (jobs : List Kept) → jobs_of jobs ≡ map (carried e p None) ks → jobs_of jobs ≡ map (λ (j : Job). decided_job e j.decision j) ks
found_decided e p ks jobs f = f

-- one element changes, and the jobs
module _ (e : ℕ) (ss : List Seat) (js jobs : List Kept) (begun : Begun) (d : Option ℕ) (p : ℕ) where
  abbrev core : Master
  core = core_by e ss js begun d

  -- nothing was heard
  pub ignored_is : (ns : List Seat) → ns ≡ ss → jobs_of jobs ≡ map (carried e p None) (jobs_of js) → core_by e ns jobs begun d ≡ decide_all core
  ignored_is ns f g =
      ap (λ (ts : List Seat). core_by e ts jobs begun d) f
      ∙ ap (λ (ks : List Job). record { epoch = e; elements = elements_of ss; at = peer_at e begun.wanted ss; jobs = ks; begun = begun.count; deposed = d }) (jobs_decided e p js jobs None (jobs_of js) g (same_jobs p (jobs_of js)))

  module _ (i : ℕ) (s : Seat) (l : i < length ss) (g : s ≡ get_or ss i s) (a : are_apart (elements_of ss) ≡ true) (q : s.element ≡ p) where
    pub found_here : peer_at e begun.wanted ss p ≡ peer_of e s
    found_here = ap (peer_at e begun.wanted ss) (sym q) ∙ peer_found e begun.wanted ss i s l g a

    -- how an epoch in its answer stands
    pub standing_here : (told : ℕ) (st : Standing) (good : Master) → ((m good : Master) → m.epoch ≡ e → m.at s.element ≡ peer_of e s → by_epoch m s.element told good ≡ by_standing st m s.element told good)
        → by_epoch core p told good ≡ by_standing st core p told good
    standing_here told st good x = subst (λ t. by_epoch core t told good ≡ by_standing st core t told good) q (x core good refl (peer_found e begun.wanted ss i s l g a))

  module _ (i : ℕ) (s n : Seat) (ns : List Seat) (l : i < length ss) (g : s ≡ get_or ss i s) (a : are_apart (elements_of ss) ≡ true) (q : s.element ≡ p) (h : n.element ≡ s.element) (r : ns ≡ set ss i n) where
    pub elements_same : elements_of ns ≡ elements_of ss
    elements_same = ap elements_of r ∙ elements_set ss i s n l g h

    pub changed : (f : Peer → Peer) (ks : List Job) → peer_of e n ≡ f (peer_of e s) → jobs_of jobs ≡ map (λ (j : Job). decided_job e j.decision j) ks
        → core_by e ns jobs begun d ≡ decide_all (record { epoch = e; elements = elements_of ss; at = put (peer_at e begun.wanted ss) p (f (peer_at e begun.wanted ss p)); jobs = ks; begun = begun.count; deposed = d })
    changed f ks u v =
        let done = map (λ (j : Job). decided_job e j.decision j) ks in
        let peers : peer_at e begun.wanted (set ss i n) ≡ put (peer_at e begun.wanted ss) p (f (peer_at e begun.wanted ss p)) =
        peer_set e begun.wanted ss i s n l g a h ∙ (ap (λ t. put (peer_at e begun.wanted ss) t (peer_of e n)) q ∙ ap (put (peer_at e begun.wanted ss) p) (u ∙ ap f (sym (found_here i s l g a q)))) in
        ap (λ (ts : List Seat). core_by e ts jobs begun d) r
        ∙ ap (λ (ks : List Job). record { epoch = e; elements = elements_of (set ss i n); at = peer_at e begun.wanted (set ss i n); jobs = ks; begun = begun.count; deposed = d }) v
        ∙ ap (λ (es : List ℕ). record { epoch = e; elements = es; at = peer_at e begun.wanted (set ss i n); jobs = done; begun = begun.count; deposed = d }) (elements_set ss i s n l g h)
        ∙ ap (λ (t : ℕ → Peer). record { epoch = e; elements = elements_of ss; at = t; jobs = done; begun = begun.count; deposed = d }) peers
