-- A clean round: an answer reaches the master.
use Rattle.std.proofs.Common.{◌≡◌, ℕ, zero, suc, ◌+◌, ◌<◌, ◌≤◌, ◌==◌, ◌&&◌, ◌||◌, not, nat_le, Bool, true, false, cond, List, [], ◌∷◌, ◌++◌, map, Some, None, is_some, option_map, ◌⊎◌, inl, inr, ⊎_elim, refl, sym, ap, ◌∙◌, subst, arith, eqb-true, eq-eqb}
use Rattle.fc_base.specs.Ids.{Txn}
use Rattle.fc_agreement.specs.CleanRound.{is_notice}
use Rattle.fc_protocol.specs.Collections.{among, put}
use Rattle.fc_protocol.specs.Decide.{decision_by, states_under}
use Rattle.fc_protocol.specs.ElementMachine.{Circumstance}
use Rattle.fc_protocol.specs.Jobs.{Job, answer_is, on_job, went_on, answered_by, settled_at, answer, by_code, body_by, own_body, decision_body, decided_job, with_decision}
use Rattle.fc_protocol.specs.MasterMachine.{Waiting, Peer, Master, last_count, count_of, unspent, stamp_of, due, heard, finish, sends_all, next_txn}
use Rattle.fc_protocol.specs.Messages.{same, Body, Sot, Mot, Eot, Trcomp, Ask_record, is_query, is_claim, Request, Reply, Sent, sent}
use Rattle.fc_protocol.specs.WorldSteps.{World, Deliver, speaks, to_master, delivers, happens}
use Rattle.fc_protocol.specs.Scopes.{Scope}
use Rattle.fc_protocol.specs.declared.answers.Answer.{Answer}
use Rattle.fc_protocol.specs.declared.states.Decision.TheVariants.{Complete}
use Rattle.fc_protocol.specs.declared.states.Seen.TheVariants.{Prepared}
use Rattle.fc_protocol.proofs.Puts.{put_here}
use Rattle.fc_protocol.proofs.Basics.{In, AllOf, cond_true, cond_false, both, same_of, put_other}
use Rattle.fc_agreement.proofs.Calm.{Set, CalmWorld, happens_calm, waiting_none, not_same}
use Rattle.fc_agreement.proofs.Duty.{Flags, on_last, decide_last, need_here, due_open, unspent_some, heard_reply, after_good, undecided, decided}
use Rattle.fc_agreement.proofs.Round.{Phase, Asking, Told, Ready, Ending, Ended, Done, flies, votes, is_ready, ends, body, last, left, Voting, ElIn, PeerIn, JobIn, message_of, OnWay, Rest, rest_of}
use Rattle.fc_agreement.proofs.RoundElements.{Arrives, Next, less_here, less_all}
use Rattle.fc_agreement.proofs.RoundSpeaks.{Duty, Turned, spoken_going, config_stamp, config_waits, config_last}
use Rattle.fc_agreement.proofs.Sends.{busy, sent_peer}
use Rattle.fc_agreement.proofs.Taking.{at_count}

reshape : (before : List Sent) (s : Sent) (rest says : List Sent) → (((before ++ s ∷ rest) ++ []) ++ says) ≡ (before ++ s ∷ []) ++ (rest ++ says)
reshape [] s rest says = ap (λ v. s ∷ v ++ says) (none_after rest)
  where
    none_after : (xs : List Sent) → xs ++ [] ≡ xs
    none_after [] = refl
    none_after (x ∷ xs) = ap (λ v. x ∷ v) (none_after xs)
reshape (b ∷ before) s rest says = ap (λ v. b ∷ v) (reshape before s rest says)

zero_le : (n : ℕ) → nat_le 0 n ≡ true
zero_le n = grind arith

not_le : (n o : ℕ) → nat_le n o ≡ false → o < n
not_le n o h = grind arith

not_zero : (n : ℕ) → (suc n == 0) ≡ false
not_zero n = grind arith

is_le : (n o : ℕ) → nat_le n o ≡ true → n ≤ o
is_le n o h = grind arith

module _ (w : World) (k : ℕ) (m : Master) (ps : List ℕ) (changes : ℕ → ℕ) (scopes : ℕ → Scope) where
  abbrev the : Txn
  the = next_txn m

  abbrev the_body : ℕ → ℕ → Body
  the_body d p = body w k m ps changes scopes d p

  -- a message of the transaction is a Config, and no claim
  body_kind : (d p : ℕ) → (is_query (the_body d p) ≡ false) × (is_claim (the_body d p) ≡ false)
  body_kind d p = kind_of (d == 0) (nat_le d (changes p))
    where
      kind_of : (a b : Bool) → (is_query (cond a (Sot (next_txn m) ps (scopes p)) (cond b (Mot (next_txn m) d) (Eot (next_txn m)))) ≡ false) × (is_claim (cond a (Sot (next_txn m) ps (scopes p)) (cond b (Mot (next_txn m) d) (Eot (next_txn m)))) ≡ false)
      kind_of true b = (refl, refl)
      kind_of false true = (refl, refl)
      kind_of false false = (refl, refl)

  module _ (v : World) (i : ℕ) (c : Circumstance) (before : List Sent) (s : Sent) (rest : List Sent) (ph : ℕ → Phase) (z : Arrives w k m ps changes scopes v i c before s rest ph) (p : ℕ) (a : among p ps ≡ true) where
    abbrev now : Master
    now = z.going.now

    abbrev job : Job
    job = z.going.job

    abbrev peer : Peer
    peer = now.at p

    -- the master once nothing waits at p, with this job
    abbrev n_of : Job → Master
    n_of j = record now { at = put now.at p (record peer { waits = None }); jobs = m.jobs ++ j ∷ [] }

    the_same : same the job.txn ≡ true
    the_same = same_of the job.txn (sym z.going.txn)

    set : AllOf (Set now.epoch) m.jobs
    set = subst (λ e. AllOf (Set e) m.jobs) (sym z.going.epoch) z.ground.set

    jobs_on : (f : Job → Job) → on_job the f now.jobs ≡ m.jobs ++ f job ∷ []
    jobs_on f = ap (on_job the f) z.going.jobs ∙ on_last the f m.jobs job z.ground.absent the_same

    -- the answer to this message makes this of the job
    finish_is : (o : Waiting) (j j2 : Job) → peer.waits ≡ Some o → is_query o.body ≡ false → is_claim o.body ≡ false → by_code now.epoch p o.body true now.jobs ≡ m.jobs ++ j ∷ [] → decided_job now.epoch j.decision j ≡ j2
        → finish k (heard now p (Reply o.stamp 0)) ≡ sends_all k now.elements (n_of j2)
    finish_is o j j2 x q u y d =
        ap (finish k) (heard_reply now p o x q ∙ ap (λ e. record now { at = put now.at p e; jobs = by_code now.epoch p o.body true now.jobs }) (after_good peer o.body u (z.going.peers p a).flags.owes) ∙ ap (λ js. record now { at = put now.at p (record peer { waits = None }); jobs = js }) y)
        ∙ ap (λ js. sends_all k now.elements (record now { at = put now.at p (record peer { waits = None }); jobs = js })) (decide_last now.epoch m.jobs j set ∙ ap (λ r. m.jobs ++ r ∷ []) d)

    happens_is : (o : Waiting) (j j2 : Job) → s ≡ sent p k (Reply o.stamp 0) → peer.waits ≡ Some o → is_query o.body ≡ false → is_claim o.body ≡ false → by_code now.epoch p o.body true now.jobs ≡ m.jobs ++ j ∷ [] → decided_job now.epoch j.decision j ≡ j2
        → happens v (Deliver i c) ≡ speaks v k [] (sends_all k now.elements (n_of j2))
    happens_is o j j2 e x q u y d =
        ap (delivers v c) z.number ∙ ap (λ r. delivers v c (Some r)) e ∙ ap (to_master v p k (Reply o.stamp 0)) z.going.runs ∙ ap (speaks v k []) (finish_is o j j2 x q u y d)

    abbrev TurnedTo : Job → (ℕ → Phase) → Type 0
    TurnedTo j h = Turned w k m ps changes scopes v (n_of j) j rest h

    -- the step, once what the master has turned to is known
    goes_on : (o : Waiting) (j j2 : Job) (h : ℕ → Phase) → s ≡ sent p k (Reply o.stamp 0) → peer.waits ≡ Some o → is_query o.body ≡ false → is_claim o.body ≡ false → by_code now.epoch p o.body true now.jobs ≡ m.jobs ++ j ∷ [] → decided_job now.epoch j.decision j ≡ j2 → TurnedTo j2 h
        → left w k m ps changes scopes p (h p) + 1 ≡ left w k m ps changes scopes p (ph p) → ((q : ℕ) → among q ps ≡ true → (q == p) ≡ false → left w k m ps changes scopes q (h q) ≡ left w k m ps changes scopes q (ph q)) → Next w k m ps changes scopes (happens v (Deliver i c)) (before ++ s ∷ []) s ph
    goes_on o j j2 h e x q u y d t l r =
        let f = happens_is o j j2 e x q u y d in
        let says = (sends_all k now.elements (n_of j2)).says in
        subst (λ g. Next w k m ps changes scopes g (before ++ s ∷ []) s ph) (sym f) (record {
          after = rest ++ says;
          phase = h;
          going = spoken_going w k m ps changes scopes v (n_of j2) j2 rest h (before ++ s ∷ []) z.ground t (ap (λ g. (g ++ []) ++ says) z.going.sent ∙ reshape before s rest says) z.going.network (subst CalmWorld f (happens_calm v (Deliver i c) z.going.calm));
          who = p;
          part = a;
          less = l;
          rest = r;
          spoken = ap (λ (g : Sent). is_notice g.message) e;
        })

    here_at : (j : Job) → (n_of j).at p ≡ record peer { waits = None }
    here_at j = put_here now.at p (record peer { waits = None })

    there_at : (j : Job) (q : ℕ) → (q == p) ≡ false → (n_of j).at q ≡ now.at q
    there_at j q e = put_other now.at p (record peer { waits = None }) q (not_same q p e)

    -- what is needed at a participant that nothing waits for
    open_due : (j : Job) (q : ℕ) → among q ps ≡ true → j.parts ≡ ps → Flags ((n_of j).at q) → ((n_of j).at q).waits ≡ None → due (n_of j) q ≡ unspent ((n_of j).at q) (body_by j q j.decision)
    open_due j q b e f x =
        due_open (n_of j) q f z.going.deposed x ∙ ap (unspent ((n_of j).at q)) (need_here m.jobs j q (z.ground.parts q b).need ∙ cond_true (among q j.parts) (body_by j q j.decision) None (ap (among q) e ∙ b))

    -- where a job votes or ends as the phase does
    abbrev ModeAt : Job → Phase → Type 0
    ModeAt j h = ((j.decision ≡ None) × (votes h ≡ true)) ⊎ ((j.decision ≡ Some Complete) × (ends h ≡ true))

    answered_needs : (j : Job) (q : ℕ) (r : Answer) → j.answers q ≡ Some r → j.decision ≡ None → body_by j q j.decision ≡ None
    answered_needs j q r e d = ap (body_by j q) d ∙ ap (λ o. cond (is_some o) None (cond j.mine (Some (own_body j q)) (Some (Ask_record j.txn)))) e

    settled_needs : (j : Job) (q : ℕ) → j.settled q ≡ true → j.decision ≡ Some Complete → body_by j q j.decision ≡ None
    settled_needs j q e d = ap (body_by j q) d ∙ ap (λ b. cond (b || j.stuck q) None (Some (decision_body j.txn Complete))) e

    -- at another participant nothing is due
    waits_due : (j : Job) (q : ℕ) (h : Phase) (o : Waiting) → (q == p) ≡ false → PeerIn w k m ps changes scopes q (now.at q) h → (now.at q).waits ≡ Some o → due (n_of j) q ≡ None
    waits_due j q h o e y x = waiting_none (n_of j) q o (ap (λ (r : Peer). r.waits) (there_at j q e) ∙ x)

    flags_at : (j : Job) (q : ℕ) → (q == p) ≡ false → Flags (now.at q) → Flags ((n_of j).at q)
    flags_at j q e f = subst Flags (sym (there_at j q e)) f

    quiet_due : (j : Job) (q : ℕ) (h : Phase) → among q ps ≡ true → (q == p) ≡ false → j.parts ≡ ps → PeerIn w k m ps changes scopes q (now.at q) h → JobIn w k m ps changes scopes q j h → ModeAt j h → due (n_of j) q ≡ None
    quiet_due j q (Asking d) b e r y u o = waits_due j q (Asking d) _ e y y.waits
    quiet_due j q (Told d) b e r y u o = waits_due j q (Told d) _ e y y.waits
    quiet_due j q Ending b e r y u o = waits_due j q Ending _ e y y.waits
    quiet_due j q Ended b e r y u o = waits_due j q Ended _ e y y.waits
    quiet_due j q Ready b e r y u o =
        ⊎_elim (λ f. open_due j q b r (flags_at j q e y.flags) (ap (λ (t : Peer). t.waits) (there_at j q e) ∙ y.waits) ∙ ap (unspent ((n_of j).at q)) (answered_needs j q _ u.0 f.0)) (λ f. let t : false ≡ true = f.1 in cc) o
    quiet_due j q Done b e r y u o =
        ⊎_elim (λ f. let t : false ≡ true = f.1 in cc)
        (λ f. open_due j q b r (flags_at j q e y.flags) (ap (λ (t : Peer). t.waits) (there_at j q e) ∙ y.waits) ∙ ap (unspent ((n_of j).at q)) (settled_needs j q u f.0)) o

    -- a job that is the same at q stands for the same there
    pub record Alike (j : Job) (q : ℕ) : Type 0 where
      pub done : j.done q ≡ job.done q
      pub answers : j.answers q ≡ job.answers q
      pub settled : j.settled q ≡ job.settled q
      pub stuck : j.stuck q ≡ job.stuck q

    alike_in : (j : Job) (q : ℕ) (h : Phase) → Alike j q → JobIn w k m ps changes scopes q job h → JobIn w k m ps changes scopes q j h
    alike_in j q (Asking d) e u = record { low = u.low; done = e.done ∙ u.done; answers = e.answers ∙ u.answers; settled = e.settled ∙ u.settled; stuck = e.stuck ∙ u.stuck }
    alike_in j q (Told d) e u = record { low = u.low; done = e.done ∙ u.done; answers = e.answers ∙ u.answers; settled = e.settled ∙ u.settled; stuck = e.stuck ∙ u.stuck }
    alike_in j q Ready e u = (e.answers ∙ u.0, e.settled ∙ u.1, e.stuck ∙ u.2)
    alike_in j q Ending e u = tt
    alike_in j q Ended e u = tt
    alike_in j q Done e u = e.settled ∙ u

    plus_none : (n : ℕ) → n + 0 ≡ n
    plus_none n = omega arith

    -- another participant stands as it did
    other_duty : (r : Rest w k m ps changes scopes ph p rest) (j : Job) (q : ℕ) → among q ps ≡ true → (q == p) ≡ false → j.parts ≡ ps → Alike j q → ModeAt j (ph q) → Duty w k m ps changes scopes v (n_of j) j rest q (ph q)
    other_duty r j q b e f l o =
        let y = z.going.peers q b in
        let u = alike_in j q (ph q) l (z.going.job_in q b) in
        record {
          need = None;
          due_is = quiet_due j q (ph q) b e f y u o;
          peer = subst (λ t. PeerIn w k m ps changes scopes q t (ph q)) (sym (there_at j q e)) y;
          job = u;
          stand = z.going.stand q b;
          message = λ g x. let t : None ≡ Some g = x in cc;
          count = plus_none (busy q rest) ∙ r.there q b e;
        }

    -- what is left of the queue stays on its way where p alone has gone on
    rest_way : (r : Rest w k m ps changes scopes ph p rest) (h : Phase) (t : Sent) → In t rest → OnWay w k m ps changes scopes (put ph p h) t
    rest_way r h t g =
        ⊎_elim (λ n. inl n)
        (λ n. let e = put_other ph p h t.element (not_same t.element p n.0) in inr (n.1, ap flies e ∙ n.2, n.3 ∙ ap (λ f. sent t.element k (message_of w k m ps changes scopes t.element f)) (sym e))) (r.each t g)

    -- p alone has gone on
    turned_one : (r : Rest w k m ps changes scopes ph p rest) (j : Job) (h : Phase) → j.txn ≡ the → j.mine ≡ true → j.parts ≡ ps → (j.changes ≡ changes) × (j.scopes ≡ scopes) → ((q : ℕ) → (q == p) ≡ false → Alike j q) → Duty w k m ps changes scopes v (n_of j) j rest p h
        → (((j.decision ≡ None) × (votes h ≡ true) × ((q : ℕ) → among q ps ≡ true → votes (ph q) ≡ true) × ((q : ℕ) × (among q ps ≡ true) × (is_ready (put ph p h q) ≡ false))) ⊎ ((j.decision ≡ Some Complete) × (ends h ≡ true) × ((q : ℕ) → among q ps ≡ true → ends (ph q) ≡ true)))
        → TurnedTo j (put ph p h)
    turned_one r j h x y e f l d o = record {
      epoch = z.going.epoch;
      elements = z.going.elements;
      deposed = z.going.deposed;
      jobs = refl;
      txn = x;
      mine = y;
      parts = e;
      changed = f;
      others = λ q b. put_other now.at p (record peer { waits = None }) q (λ g. let t : true ≡ false = sym a ∙ ap (λ n. among n ps) (sym g) ∙ b in cc) ∙ z.going.others q b;
      duties = duties_on;
      mode = ⊎_elim (λ g. inl (g.0, votes_on g.1 g.2, g.3)) (λ g. inr (g.0, ends_on g.1 g.2)) o;
      on_way = rest_way r h;
    }
      where
        mode_of : (q : ℕ) → among q ps ≡ true → ModeAt j (ph q)
        mode_of q b = ⊎_elim (λ g. inl (g.0, g.2 q b)) (λ g. inr (g.0, g.2 q b)) o

        duties_on : (q : ℕ) → among q ps ≡ true → Duty w k m ps changes scopes v (n_of j) j rest q (put ph p h q)
        duties_on q b =
            ⊎_elim (λ g. subst (λ n. Duty w k m ps changes scopes v (n_of j) j rest n (put ph p h n)) (sym (eqb-true q p g)) (subst (Duty w k m ps changes scopes v (n_of j) j rest p) (sym (put_here ph p h)) d))
            (λ g. subst (Duty w k m ps changes scopes v (n_of j) j rest q) (sym (put_other ph p h q (not_same q p g))) (other_duty r j q b g e (l q g) (mode_of q b))) (both (q == p))

        votes_on : votes h ≡ true → ((q : ℕ) → among q ps ≡ true → votes (ph q) ≡ true) → (q : ℕ) → among q ps ≡ true → votes (put ph p h q) ≡ true
        votes_on g n q b = ⊎_elim (λ u. ap (λ t. votes (put ph p h t)) (eqb-true q p u) ∙ ap votes (put_here ph p h) ∙ g) (λ u. ap votes (put_other ph p h q (not_same q p u)) ∙ n q b) (both (q == p))

        ends_on : ends h ≡ true → ((q : ℕ) → among q ps ≡ true → ends (ph q) ≡ true) → (q : ℕ) → among q ps ≡ true → ends (put ph p h q) ≡ true
        ends_on g n q b = ⊎_elim (λ u. ap (λ t. ends (put ph p h t)) (eqb-true q p u) ∙ ap ends (put_here ph p h) ∙ g) (λ u. ap ends (put_other ph p h q (not_same q p u)) ∙ n q b) (both (q == p))

    -- An answer before the end

    voting : (d : ℕ) → ph p ≡ Told d → (job.decision ≡ None) × ((q : ℕ) → among q ps ≡ true → votes (ph q) ≡ true)
    voting d e = ⊎_elim (λ u. (u.0, u.1)) (λ u. let t : false ≡ true = ap ends (sym e) ∙ u.1 p a in cc) z.going.mode

    told_peer : (d : ℕ) → ph p ≡ Told d → PeerIn w k m ps changes scopes p peer (Told d)
    told_peer d e = subst (PeerIn w k m ps changes scopes p peer) e (z.going.peers p a)

    told_job : (d : ℕ) → ph p ≡ Told d → Voting w k m ps changes scopes p d job
    told_job d e = subst (JobIn w k m ps changes scopes p job) e (z.going.job_in p a)

    told_stand : (d : ℕ) → ph p ≡ Told d → ElIn w k m ps changes scopes p (v.at p) v.facts (Told d)
    told_stand d e = subst (ElIn w k m ps changes scopes p (v.at p) v.facts) e (z.going.stand p a)

    abbrev told_wait : ℕ → Waiting
    told_wait d = record { stamp = at_count m.epoch (last w k m ps changes scopes p + 1 + d); body = the_body d p }

    left_of : (h : Phase) → ph p ≡ h → flies h ≡ true → s ≡ sent p k (message_of w k m ps changes scopes p h) → is_notice (message_of w k m ps changes scopes p h) ≡ false → Rest w k m ps changes scopes ph p rest
    left_of h e f x n = rest_of w k m ps changes scopes ph s rest p z.going.queue (ap (λ (t : Sent). t.element) x) (ap (λ (t : Sent). is_notice t.message) x ∙ n) a (ap flies e ∙ f)

    idle_flags : (j : Job) → Flags peer → Flags ((n_of j).at p)
    idle_flags j f = subst Flags (sym (here_at j)) (record { met = f.met; claimed = f.claimed; answered = f.answered; doubt = f.doubt; lost = f.lost; owes = f.owes })

    idle_waits : (j : Job) → ((n_of j).at p).waits ≡ None
    idle_waits j = ap (λ (t : Peer). t.waits) (here_at j)

    -- the job has gone on at p
    abbrev on : Job
    on = went_on p job

    few : (d : ℕ) → nat_le d (changes p) ≡ true → Voting w k m ps changes scopes p d job → nat_le (job.done p) (job.changes p) ≡ true
    few d l u = ap (λ n. nat_le n (job.changes p)) u.done ∙ ap (λ (t : ℕ → ℕ). nat_le d (t p)) z.going.changed.0 ∙ l

    own_is : (d : ℕ) → nat_le d (changes p) ≡ true → Voting w k m ps changes scopes p d job → own_body on p ≡ the_body (suc d) p
    own_is d l u =
        let n : on.done p ≡ suc d = put_here job.done p _ ∙ cond_true _ (job.done p + 1) (job.done p) (few d l u) ∙ (let t : job.done p ≡ d = u.done in omega arith) in
        ap (λ t. cond (t == 0) (Sot job.txn job.parts (job.scopes p)) (cond (nat_le t (job.changes p)) (Mot job.txn t) (Eot job.txn))) n
        ∙ ap (λ t. cond (suc d == 0) (Sot t job.parts (job.scopes p)) (cond (nat_le (suc d) (job.changes p)) (Mot t (suc d)) (Eot t))) z.going.txn
        ∙ ap (λ t. cond (suc d == 0) (Sot the t (job.scopes p)) (cond (nat_le (suc d) (job.changes p)) (Mot the (suc d)) (Eot the))) z.going.parts
        ∙ ap (λ (t : ℕ → ℕ). cond (suc d == 0) (Sot the ps (job.scopes p)) (cond (nat_le (suc d) (t p)) (Mot the (suc d)) (Eot the))) z.going.changed.0
        ∙ ap (λ (t : ℕ → Scope). cond (suc d == 0) (Sot the ps (t p)) (cond (nat_le (suc d) (changes p)) (Mot the (suc d)) (Eot the))) z.going.changed.1

    on_needs : (d : ℕ) → nat_le d (changes p) ≡ true → Voting w k m ps changes scopes p d job → job.decision ≡ None → body_by on p on.decision ≡ Some (the_body (suc d) p)
    on_needs d l u n =
        ap (body_by on p) n ∙ ap (λ o. cond (is_some o) None (cond job.mine (Some (own_body on p)) (Some (Ask_record job.txn)))) u.answers ∙ ap (λ b. cond b (Some (own_body on p)) (Some (Ask_record job.txn))) z.going.mine ∙ ap Some (own_is d l u)

    -- what has no answer is not decided
    not_decided : (j : Job) (q : ℕ) → j.parts ≡ ps → among q ps ≡ true → j.answers q ≡ None → j.decision ≡ None → decided_job now.epoch j.decision j ≡ j
    not_decided j q e b n d = ap (λ t. decided_job now.epoch t j) d ∙ ap (with_decision j) (ap (option_map decision_by) (undecided now.epoch j.answers j.parts q (ap (among q) e ∙ b) n))

    on_due : (d : ℕ) → ph p ≡ Told d → nat_le d (changes p) ≡ true → d ≤ changes p → job.decision ≡ None → due (n_of on) p ≡ Some (the_body (suc d) p)
    on_due d e g l n =
        let y = told_peer d e in
        let b = the_body (suc d) p in
        let seq : peer.last ≡ last w k m ps changes scopes p + 1 + d = y.sequence in
        let room : last w k m ps changes scopes p + changes p + 3 ≤ last_count = (z.ground.parts p a).room in
        let here : ((n_of on).at p).last ≡ peer.last = ap (λ (t : Peer). t.last) (here_at on) in
        let count : count_of b ((n_of on).at p) ≡ ((n_of on).at p).last = ap (λ t. cond t ((n_of on).at p).queries ((n_of on).at p).last) (body_kind (suc d) p).0 in
        open_due on p a z.going.parts (idle_flags on y.flags) (idle_waits on) ∙ ap (unspent ((n_of on).at p)) (on_needs d g (told_job d e) n) ∙ unspent_some ((n_of on).at p) b (omega arith)

    on_peer : (d : ℕ) → PeerIn w k m ps changes scopes p peer (Told d) → PeerIn w k m ps changes scopes p (sent_peer m.epoch (record peer { waits = None }) (Some (the_body (suc d) p))) (Asking (suc d))
    on_peer d y =
        let b = the_body (suc d) p in
        let i = record peer { waits = None } in
        let g = body_kind (suc d) p in
        let seq : peer.last ≡ last w k m ps changes scopes p + 1 + d = y.sequence in
        let n : i.last + 1 ≡ last w k m ps changes scopes p + 1 + suc d = omega arith in
        record {
          flags = record { met = y.flags.met; claimed = y.flags.claimed; answered = y.flags.answered; doubt = y.flags.doubt; lost = y.flags.lost; owes = y.flags.owes };
          waits = config_waits m.epoch b i g.0 g.1 ∙ ap (λ t. Some (record { stamp = at_count m.epoch t; body = b })) n;
          sequence = config_last m.epoch b i g.0 g.1 ∙ n;
        }

    on_message : (d : ℕ) → PeerIn w k m ps changes scopes p peer (Told d) → (b : Body) → Some (the_body (suc d) p) ≡ Some b → (flies (Asking (suc d)) ≡ true) × (message_of w k m ps changes scopes p (Asking (suc d)) ≡ Request (stamp_of m.epoch b ((n_of on).at p)) b)
    on_message d y b x =
        let c = the_body (suc d) p in
        let g = body_kind (suc d) p in
        let i = record peer { waits = None } in
        let seq : peer.last ≡ last w k m ps changes scopes p + 1 + d = y.sequence in
        let n : i.last + 1 ≡ last w k m ps changes scopes p + 1 + suc d = omega arith in
        let same_b : c ≡ b = cc in
        (refl, sym (ap (λ t. Request (stamp_of m.epoch t ((n_of on).at p)) t) (sym same_b) ∙ ap (λ t. Request (stamp_of m.epoch c t) c) (here_at on) ∙ ap (λ t. Request t c) (config_stamp m.epoch c i g.0 g.1) ∙ ap (λ t. Request (at_count m.epoch t) c) n))

    on_duty : (d : ℕ) → Rest w k m ps changes scopes ph p rest → ph p ≡ Told d → nat_le d (changes p) ≡ true → d ≤ changes p → job.decision ≡ None → Duty w k m ps changes scopes v (n_of on) on rest p (Asking (suc d))
    on_duty d r e t l n =
        let y = told_peer d e in
        let u = told_job d e in
        let st = told_stand d e in
        let seq : (v.at p).sequence ≡ last w k m ps changes scopes p + 1 + d = st.stands.0 in
        record {
          need = Some (the_body (suc d) p);
          due_is = on_due d e t l n;
          peer = subst (λ g. PeerIn w k m ps changes scopes p (sent_peer m.epoch g (Some (the_body (suc d) p))) (Asking (suc d))) (sym (here_at on)) (on_peer d y);
          job = record { low = omega arith; done = put_here job.done p _ ∙ cond_true _ (job.done p + 1) (job.done p) (few d t u) ∙ (let g : job.done p ≡ d = u.done in omega arith); answers = u.answers; settled = u.settled; stuck = u.stuck };
          stand = record { epoch = st.epoch; master = st.master; stands = (omega arith, (st.stands.1 ∙ ap Some (cond_true (nat_le d (changes p)) _ _ t))) };
          message = on_message d y;
          count = let g : busy p rest ≡ 0 = r.here in omega arith;
        }

    -- a start or a change was taken: the next message is sent
    pub went : (d : ℕ) (b : Body) → ph p ≡ Told d → s ≡ sent p k (message_of w k m ps changes scopes p (Told d)) → nat_le d (changes p) ≡ true → d ≤ changes p → the_body d p ≡ b → by_code now.epoch p b true now.jobs ≡ on_job the (went_on p) now.jobs → Next w k m ps changes scopes (happens v (Deliver i c)) (before ++ s ∷ []) s ph
    went d b e x t l body_is code =
        let y = told_peer d e in
        let u = told_job d e in
        let n = voting d e in
        let r = left_of (Told d) e refl x refl in
        let g = body_kind d p in
        goes_on (told_wait d) on on (put ph p (Asking (suc d))) x y.waits g.0 g.1 (ap (λ f. by_code now.epoch p f true now.jobs) body_is ∙ code ∙ jobs_on (went_on p)) (not_decided on p z.going.parts a u.answers n.0)
        (turned_one r on (Asking (suc d)) z.going.txn z.going.mine z.going.parts z.going.changed
        (λ q f. record { done = put_other job.done p _ q (not_same q p f); answers = refl; settled = refl; stuck = refl })
        (on_duty d r e t l n.0) (inl (n.0, refl, n.1, (p, a, ap is_ready (put_here ph p (Asking (suc d)))))))
        (less_here w k m ps changes scopes p (Asking (suc d)) ph (fewer d e l)) (λ q _ n. less_all w k m ps changes scopes p (Asking (suc d)) ph q n)
      where
        fewer : (d : ℕ) → ph p ≡ Told d → d ≤ changes p → left w k m ps changes scopes p (Asking (suc d)) + 1 ≡ left w k m ps changes scopes p (ph p)
        fewer d e l = subst (λ h. left w k m ps changes scopes p (Asking (suc d)) + 1 ≡ left w k m ps changes scopes p h) (sym e) (omega arith)

    -- The answer to the end

    abbrev prepared : Job
    prepared = answered_by p (answer now.epoch Prepared) job

    prepared_answer : prepared.answers p ≡ Some (answer m.epoch Prepared)
    prepared_answer = put_here job.answers p (Some (answer now.epoch Prepared)) ∙ ap (λ e. Some (answer e Prepared)) z.going.epoch

    prepared_other : (q : ℕ) → (q == p) ≡ false → prepared.answers q ≡ job.answers q
    prepared_other q e = put_other job.answers p (Some (answer now.epoch Prepared)) q (not_same q p e)

    -- where another has not answered yet, p waits
    ready_duty : (d : ℕ) → Rest w k m ps changes scopes ph p rest → ph p ≡ Told d → nat_le d (changes p) ≡ false → d ≡ changes p + 1 → job.decision ≡ None → Duty w k m ps changes scopes v (n_of prepared) prepared rest p Ready
    ready_duty d r e t l n =
        let y = told_peer d e in
        let u = told_job d e in
        let st = told_stand d e in
        let seq : (v.at p).sequence ≡ last w k m ps changes scopes p + 1 + d = st.stands.0 in
        let sent_to : peer.last ≡ last w k m ps changes scopes p + 1 + d = y.sequence in
        record {
          need = None;
          due_is = open_due prepared p a z.going.parts (idle_flags prepared y.flags) (idle_waits prepared) ∙ ap (unspent ((n_of prepared).at p)) (answered_needs prepared p _ prepared_answer n);
          peer = subst (λ g. PeerIn w k m ps changes scopes p g Ready) (sym (here_at prepared)) (record { flags = record { met = y.flags.met; claimed = y.flags.claimed; answered = y.flags.answered; doubt = y.flags.doubt; lost = y.flags.lost; owes = y.flags.owes }; waits = refl; sequence = omega arith });
          job = (prepared_answer, u.settled, u.stuck);
          stand = record { epoch = st.epoch; master = st.master; stands = (omega arith, (st.stands.1 ∙ ap Some (cond_false (nat_le d (changes p)) _ _ t))) };
          message = λ b x. let g : None ≡ Some b = x in cc;
          count = let g : busy p rest ≡ 0 = r.here in omega arith;
        }

    eot_code : (d : ℕ) → the_body d p ≡ Eot the → by_code now.epoch p (the_body d p) true now.jobs ≡ m.jobs ++ prepared ∷ []
    eot_code d e = ap (λ b. by_code now.epoch p b true now.jobs) e ∙ jobs_on (answered_by p (answer now.epoch Prepared))

    -- a phase that votes and is not ready has no answer
    unanswered : (q : ℕ) (h : Phase) → votes h ≡ true → is_ready h ≡ false → JobIn w k m ps changes scopes q job h → job.answers q ≡ None
    unanswered q (Asking d) g n u = u.answers
    unanswered q (Told d) g n u = u.answers
    unanswered q Ready g n u = cc
    unanswered q Ending g n u = cc
    unanswered q Ended g n u = cc
    unanswered q Done g n u = cc

    pub readies : (d q : ℕ) → ph p ≡ Told d → s ≡ sent p k (message_of w k m ps changes scopes p (Told d)) → nat_le d (changes p) ≡ false → d ≡ changes p + 1 → the_body d p ≡ Eot the → among q ps ≡ true → (q == p) ≡ false → is_ready (ph q) ≡ false
        → Next w k m ps changes scopes (happens v (Deliver i c)) (before ++ s ∷ []) s ph
    readies d q e x t l body_is b f o =
        let y = told_peer d e in
        let n = voting d e in
        let r = left_of (Told d) e refl x refl in
        let g = body_kind d p in
        let free : prepared.answers q ≡ None = prepared_other q f ∙ unanswered q (ph q) (n.1 q b) o (z.going.job_in q b) in
        goes_on (told_wait d) prepared prepared (put ph p Ready) x y.waits g.0 g.1 (eot_code d body_is) (not_decided prepared q z.going.parts b free n.0)
        (turned_one r prepared Ready z.going.txn z.going.mine z.going.parts z.going.changed (λ n f. record { done = refl; answers = prepared_other n f; settled = refl; stuck = refl }) (ready_duty d r e t l n.0)
        (inl (n.0, refl, n.1, (q, b, ap is_ready (put_other ph p Ready q (not_same q p f)) ∙ o))))
        (less_here w k m ps changes scopes p Ready ph (fewer d e l)) (λ q _ n. less_all w k m ps changes scopes p Ready ph q n)
      where
        fewer : (d : ℕ) → ph p ≡ Told d → d ≡ changes p + 1 → left w k m ps changes scopes p Ready + 1 ≡ left w k m ps changes scopes p (ph p)
        fewer d e l = subst (λ h. left w k m ps changes scopes p Ready + 1 ≡ left w k m ps changes scopes p h) (sym e) (omega arith)

    -- Where all have answered, the job is decided

    abbrev complete : Job
    complete = with_decision prepared (Some Complete)

    abbrev AllReady : Type 0
    AllReady = (q : ℕ) → among q ps ≡ true → (q == p) ≡ false → ph q ≡ Ready

    all_answers : AllReady → (q : ℕ) → among q ps ≡ true → prepared.answers q ≡ Some (answer m.epoch Prepared)
    all_answers h q b =
        ⊎_elim (λ u. ap prepared.answers (eqb-true q p u) ∙ prepared_answer) (λ u. prepared_other q u ∙ (subst (JobIn w k m ps changes scopes q job) (h q b u) (z.going.job_in q b)).0) (both (q == p))

    complete_is : AllReady → job.decision ≡ None → decided_job now.epoch prepared.decision prepared ≡ complete
    complete_is h n =
        ap (λ t. decided_job now.epoch t prepared) n
        ∙ ap (with_decision prepared) (ap (λ t. option_map decision_by (states_under now.epoch (map prepared.answers t))) z.going.parts ∙ decided now.epoch prepared.answers ps (λ q b. all_answers h q b ∙ ap (λ e. Some (answer e Prepared)) (sym z.going.epoch)))

    complete_needs : (q : ℕ) → job.stuck q ≡ false → body_by complete q complete.decision ≡ Some (Trcomp the)
    complete_needs q u =
        ap (λ b. cond ((not b && answer_is Complete (prepared.answers q)) || job.stuck q) None (Some (decision_body job.txn Complete))) z.going.mine ∙ ap (λ b. cond b None (Some (decision_body job.txn Complete))) u ∙ ap (λ t. Some (decision_body t Complete)) z.going.txn

    -- TRCOMP is due at one that has prepared
    trcomp_duty : (q : ℕ) → among q ps ≡ true → PeerIn w k m ps changes scopes q ((n_of complete).at q) Ready → job.stuck q ≡ false → ElIn w k m ps changes scopes q (v.at q) v.facts Ready → busy q rest ≡ 0 → Duty w k m ps changes scopes v (n_of complete) complete rest q Ending
    trcomp_duty q b y u g o =
        let room : last w k m ps changes scopes q + changes q + 3 ≤ last_count = (z.ground.parts q b).room in
        let seq : ((n_of complete).at q).last ≡ last w k m ps changes scopes q + changes q + 2 = y.sequence in
        let i = (n_of complete).at q in
        let up : i.last + 1 ≡ last w k m ps changes scopes q + changes q + 3 = omega arith in
        record {
          need = Some (Trcomp the);
          due_is = open_due complete q b z.going.parts y.flags y.waits ∙ ap (unspent i) (complete_needs q u) ∙ unspent_some i (Trcomp the) (omega arith);
          peer = record {
            flags = record { met = y.flags.met; claimed = y.flags.claimed; answered = y.flags.answered; doubt = y.flags.doubt; lost = y.flags.lost; owes = y.flags.owes };
            waits = config_waits m.epoch (Trcomp the) i refl refl ∙ ap (λ t. Some (record { stamp = at_count m.epoch t; body = Trcomp the })) up;
            sequence = config_last m.epoch (Trcomp the) i refl refl ∙ up;
          };
          job = tt;
          stand = record { epoch = g.epoch; master = g.master; stands = g.stands };
          message = λ c x.
              let e : Trcomp the ≡ c = cc in
              (refl, sym (ap (λ t. Request (stamp_of m.epoch t i) t) (sym e) ∙ ap (λ t. Request t (Trcomp the)) (config_stamp m.epoch (Trcomp the) i refl refl) ∙ ap (λ t. Request (at_count m.epoch t) (Trcomp the)) up));
          count = omega arith;
        }

    ready_p : (d : ℕ) → ph p ≡ Told d → d ≡ changes p + 1 → PeerIn w k m ps changes scopes p ((n_of complete).at p) Ready
    ready_p d e l =
        let y = told_peer d e in
        let seq : peer.last ≡ last w k m ps changes scopes p + 1 + d = y.sequence in
        subst (λ g. PeerIn w k m ps changes scopes p g Ready) (sym (here_at complete)) (record { flags = record { met = y.flags.met; claimed = y.flags.claimed; answered = y.flags.answered; doubt = y.flags.doubt; lost = y.flags.lost; owes = y.flags.owes }; waits = refl; sequence = omega arith })

    stand_p : (d : ℕ) → ph p ≡ Told d → nat_le d (changes p) ≡ false → d ≡ changes p + 1 → ElIn w k m ps changes scopes p (v.at p) v.facts Ready
    stand_p d e t l =
        let st = told_stand d e in
        let seq : (v.at p).sequence ≡ last w k m ps changes scopes p + 1 + d = st.stands.0 in
        record { epoch = st.epoch; master = st.master; stands = (omega arith, (st.stands.1 ∙ ap Some (cond_false (nat_le d (changes p)) _ _ t))) }

    ready_duties : (d : ℕ) → Rest w k m ps changes scopes ph p rest → ph p ≡ Told d → nat_le d (changes p) ≡ false → d ≡ changes p + 1 → AllReady → (q : ℕ) → among q ps ≡ true → Duty w k m ps changes scopes v (n_of complete) complete rest q Ending
    ready_duties d r e t l h q b =
        ⊎_elim (λ u. subst (λ g. Duty w k m ps changes scopes v (n_of complete) complete rest g Ending) (sym (eqb-true q p u)) (trcomp_duty p a (ready_p d e l) (told_job d e).stuck (stand_p d e t l) r.here))
        (λ u.
        let i = h q b u in
        let y = subst (PeerIn w k m ps changes scopes q (now.at q)) i (z.going.peers q b) in
        let j = subst (JobIn w k m ps changes scopes q job) i (z.going.job_in q b) in
        trcomp_duty q b (subst (λ g. PeerIn w k m ps changes scopes q g Ready) (sym (there_at complete q u)) y) j.2 (subst (ElIn w k m ps changes scopes q (v.at q) v.facts) i (z.going.stand q b))
        (r.there q b u ∙ ap (λ g. cond (flies g) 1 0) i)) (both (q == p))

    only_notices : Rest w k m ps changes scopes ph p rest → AllReady → (t : Sent) → In t rest → OnWay w k m ps changes scopes (λ _. Ending) t
    only_notices r h t g = ⊎_elim (λ n. inl n) (λ n. let f : false ≡ true = ap flies (sym (h t.element n.1 n.0)) ∙ n.2 in cc) (r.each t g)

    turned_all : (d : ℕ) → Rest w k m ps changes scopes ph p rest → ph p ≡ Told d → nat_le d (changes p) ≡ false → d ≡ changes p + 1 → AllReady → TurnedTo complete (λ _. Ending)
    turned_all d r e t l h = record {
      epoch = z.going.epoch;
      elements = z.going.elements;
      deposed = z.going.deposed;
      jobs = refl;
      txn = z.going.txn;
      mine = z.going.mine;
      parts = z.going.parts;
      changed = z.going.changed;
      others = λ q b. put_other now.at p (record peer { waits = None }) q (λ g. let t : true ≡ false = sym a ∙ ap (λ n. among n ps) (sym g) ∙ b in cc) ∙ z.going.others q b;
      duties = ready_duties d r e t l h;
      mode = inr (refl, (λ q b. refl));
      on_way = only_notices r h;
    }

    pub completes : (d : ℕ) → ph p ≡ Told d → s ≡ sent p k (message_of w k m ps changes scopes p (Told d)) → nat_le d (changes p) ≡ false → d ≡ changes p + 1 → the_body d p ≡ Eot the → AllReady → Next w k m ps changes scopes (happens v (Deliver i c)) (before ++ s ∷ []) s ph
    completes d e x t l body_is h =
        let y = told_peer d e in
        let n = voting d e in
        let r = left_of (Told d) e refl x refl in
        let g = body_kind d p in
        goes_on (told_wait d) prepared complete (λ _. Ending) x y.waits g.0 g.1 (eot_code d body_is) (complete_is h n.0) (turned_all d r e t l h) (subst (λ h. 2 + 1 ≡ left w k m ps changes scopes p h) (sym e) (omega arith))
        (λ q b u. subst (λ f. 2 ≡ left w k m ps changes scopes q f) (sym (h q b u)) refl)

    -- The answer to TRCOMP

    abbrev ended : Job
    ended = settled_at p job

    ending : ph p ≡ Ended → (job.decision ≡ Some Complete) × ((q : ℕ) → among q ps ≡ true → ends (ph q) ≡ true)
    ending e = ⊎_elim (λ u. let t : false ≡ true = ap votes (sym e) ∙ u.1 p a in cc) (λ u. u) z.going.mode

    ended_wait : Waiting
    ended_wait = record { stamp = at_count m.epoch (last w k m ps changes scopes p + changes p + 3); body = Trcomp the }

    done_duty : Rest w k m ps changes scopes ph p rest → ph p ≡ Ended → job.decision ≡ Some Complete → Duty w k m ps changes scopes v (n_of ended) ended rest p Done
    done_duty r e n =
        let y = subst (PeerIn w k m ps changes scopes p peer) e (z.going.peers p a) in
        let st = subst (ElIn w k m ps changes scopes p (v.at p) v.facts) e (z.going.stand p a) in
        record {
          need = None;
          due_is = open_due ended p a z.going.parts (idle_flags ended y.flags) (idle_waits ended) ∙ ap (unspent ((n_of ended).at p)) (settled_needs ended p (put_here job.settled p true) n);
          peer = subst (λ g. PeerIn w k m ps changes scopes p g Done) (sym (here_at ended)) (record { flags = record { met = y.flags.met; claimed = y.flags.claimed; answered = y.flags.answered; doubt = y.flags.doubt; lost = y.flags.lost; owes = y.flags.owes }; waits = refl; sequence = y.sequence });
          job = put_here job.settled p true;
          stand = record { epoch = st.epoch; master = st.master; stands = st.stands };
          message = λ b x. let g : None ≡ Some b = x in cc;
          count = let g : busy p rest ≡ 0 = r.here in omega arith;
        }

    pub settles : ph p ≡ Ended → s ≡ sent p k (message_of w k m ps changes scopes p Ended) → Next w k m ps changes scopes (happens v (Deliver i c)) (before ++ s ∷ []) s ph
    settles e x =
        let y = subst (PeerIn w k m ps changes scopes p peer) e (z.going.peers p a) in
        let n = ending e in
        let r = left_of Ended e refl x refl in
        let fewer : left w k m ps changes scopes p Done + 1 ≡ left w k m ps changes scopes p (ph p) = subst (λ h. 0 + 1 ≡ left w k m ps changes scopes p h) (sym e) (omega arith) in
        goes_on (record { stamp = at_count m.epoch (last w k m ps changes scopes p + changes p + 3); body = Trcomp the }) ended ended (put ph p Done) x y.waits refl refl (jobs_on (settled_at p)) (ap (λ t. decided_job now.epoch t ended) n.0)
        (turned_one r ended Done z.going.txn z.going.mine z.going.parts z.going.changed (λ q f. record { done = refl; answers = refl; settled = put_other job.settled p true q (not_same q p f); stuck = refl }) (done_duty r e n.0) (inr (n.0, refl, n.1)))
        (less_here w k m ps changes scopes p Done ph fewer) (λ q _ n. less_all w k m ps changes scopes p Done ph q n)

    -- An answer before the end, or to it

    told_eot : (d : ℕ) → nat_le d (changes p) ≡ false → d ≤ changes p + 1 → (d ≡ changes p + 1) × (the_body d p ≡ Eot the)
    told_eot zero t l = absurd (let n : false ≡ true = sym t ∙ zero_le (changes p) in let f : ⊥ = cc in f)
    told_eot (suc d) t l =
        let above : changes p < suc d = not_le (suc d) (changes p) t in
        (omega arith, (cond_false (suc d == 0) (Sot the ps (scopes p)) (cond (nat_le (suc d) (changes p)) (Mot the (suc d)) (Eot the)) (not_zero d) ∙ cond_false (nat_le (suc d) (changes p)) (Mot the (suc d)) (Eot the) t))

    -- whether all others are ready, or one is not
    all_or_one : (qs : List ℕ) → ((q : ℕ) → among q qs ≡ true → (q == p) ≡ false → is_ready (ph q) ≡ true) ⊎ ((q : ℕ) × (among q qs ≡ true) × ((q == p) ≡ false) × (is_ready (ph q) ≡ false))
    all_or_one [] = inl (λ q b. cc)
    all_or_one (n ∷ qs) =
        ⊎_elim (λ f.
        ⊎_elim (λ u. inl (λ q b e. ⊎_elim (λ t. let g : true ≡ false = sym (ap (λ v. v == p) (eqb-true q n t) ∙ u) ∙ e in cc) (λ t. f q (or_rest (q == n) (among q qs) t b) e) (both (q == n))))
        (λ u. ⊎_elim (λ g. inl (λ q b e. ⊎_elim (λ t. ap (λ v. is_ready (ph v)) (eqb-true q n t) ∙ g) (λ t. f q (or_rest (q == n) (among q qs) t b) e) (both (q == n)))) (λ g. inr (n, or_here (n == n) (among n qs) (eq-eqb n n refl), u, g)) (both (is_ready (ph n))))
        (both (n == p)))
        (λ f. inr (f.0, or_there (f.0 == n) (among f.0 qs) f.1, f.2, f.3)) (all_or_one qs)
      where
        or_rest : (a b : Bool) → a ≡ false → (a || b) ≡ true → b ≡ true
        or_rest true b e f = cc
        or_rest false b e f = f

        or_here : (a b : Bool) → a ≡ true → (a || b) ≡ true
        or_here true b e = refl
        or_here false b e = cc

        or_there : (a b : Bool) → b ≡ true → (a || b) ≡ true
        or_there true b e = refl
        or_there false b e = e

    was_ready : (h : Phase) → is_ready h ≡ true → h ≡ Ready
    was_ready (Asking d) e = cc
    was_ready (Told d) e = cc
    was_ready Ready e = refl
    was_ready Ending e = cc
    was_ready Ended e = cc
    was_ready Done e = cc

    went_body : (d : ℕ) → ph p ≡ Told d → s ≡ sent p k (message_of w k m ps changes scopes p (Told d)) → nat_le d (changes p) ≡ true → Next w k m ps changes scopes (happens v (Deliver i c)) (before ++ s ∷ []) s ph
    went_body zero e x t = went zero (Sot the ps (scopes p)) e x t (omega arith) refl refl
    went_body (suc d) e x t =
        went (suc d) (Mot the (suc d)) e x t (is_le (suc d) (changes p) t) (cond_false (suc d == 0) (Sot the ps (scopes p)) (cond (nat_le (suc d) (changes p)) (Mot the (suc d)) (Eot the)) (not_zero d) ∙ cond_true (nat_le (suc d) (changes p)) (Mot the (suc d)) (Eot the) t) refl

    pub told : (d : ℕ) → ph p ≡ Told d → s ≡ sent p k (message_of w k m ps changes scopes p (Told d)) → Next w k m ps changes scopes (happens v (Deliver i c)) (before ++ s ∷ []) s ph
    told d e x =
        ⊎_elim (λ t. went_body d e x t)
        (λ t.
        let o = told_eot d t (told_job d e).low in
        ⊎_elim (λ f. completes d e x t o.0 o.1 (λ q b u. was_ready (ph q) (f q b u))) (λ f. readies d f.0 e x t o.0 o.1 f.1 f.2 f.3) (all_or_one ps)) (both (nat_le d (changes p)))
