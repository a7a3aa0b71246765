-- A clean round: a message reaches its element.
use Rattle.std.proofs.Common.{◌≡◌, ℕ, zero, suc, ◌+◌, ◌≤◌, ◌==◌, ◌&&◌, not, nat_le, Bool, true, false, cond, List, [], ◌∷◌, ◌++◌, append_assoc, Some, None, ◌⊎◌, inl, inr, ⊎_elim, refl, sym, ap, ◌∙◌, subst, arith, eq-eqb}
use Rattle.fc_base.specs.Ids.{Txn}
use Rattle.fc_agreement.specs.CleanRound.{is_notice, Smooth}
use Rattle.fc_protocol.specs.Collections.{among, put}
use Rattle.fc_protocol.specs.ElementMachine.{ElementState, Circumstance, Acts, next_with, hears, admits, takes_part}
use Rattle.fc_protocol.specs.MasterMachine.{Master, next_txn}
use Rattle.fc_protocol.specs.Messages.{Body, Sot, Mot, Eot, Trcomp, Request, Reply, Sent, sent}
use Rattle.fc_protocol.specs.Records.{state_of, write}
use Rattle.fc_protocol.specs.Trace.{Fact, Opened_at, Prepared_at, Settled_at}
use Rattle.fc_protocol.specs.WorldSteps.{World, Deliver, sender, murmurs, says, to_element, delivers, numbered, happens}
use Rattle.fc_protocol.specs.Scopes.{Scope, is_scope}
use Rattle.fc_protocol.specs.declared.states.Decision.TheVariants.{Complete}
use Rattle.fc_protocol.specs.declared.states.TxnState.TheVariants.{Started as RecordStarted, Prepared as RecordPrepared, Completed as RecordCompleted}
use Rattle.fc_protocol.proofs.Puts.{put_two, put_all, put_here}
use Rattle.fc_agreement.proofs.Calm.{not_same}
use Rattle.fc_protocol.proofs.Basics.{In, in_right, cond_true, cond_false, and_true, both, put_other}
use Rattle.fc_protocol.proofs.Records.{state_noted}
use Rattle.fc_agreement.proofs.Round.{Phase, Asking, Told, Ready, Ending, Ended, Done, flies, votes, is_ready, ends, last, left, Ground, Fresh, Stands, ElIn, PeerIn, JobIn, message_of, OnWay, Going, rest_of, queue_on}
use Rattle.fc_agreement.proofs.Sends.{busy}
use Rattle.fc_agreement.proofs.Taking.{at_count, Expected, sot_taken, mot_taken, eot_taken, trcomp_taken}

none_plus : (n : ℕ) → 0 + n ≡ n
none_plus n = omega arith

murmur_busy : (q p : ℕ) (ks : List ℕ) → busy q (murmurs p ks) ≡ 0
murmur_busy q p [] = refl
murmur_busy q p (k ∷ ks) = ap (λ v. cond v 1 0 + busy q (murmurs p ks)) (no_notice (q == p)) ∙ none_plus (busy q (murmurs p ks)) ∙ murmur_busy q p ks
  where
    no_notice : (b : Bool) → (b && false) ≡ false
    no_notice true = refl
    no_notice false = refl

murmur_notice : (p : ℕ) (ks : List ℕ) (t : Sent) → In t (murmurs p ks) → is_notice t.message ≡ true
murmur_notice p [] t i = absurd i
murmur_notice p (k ∷ ks) t i = ⊎_elim (λ e. ap (λ (v : Sent). is_notice v.message) e) (λ n. murmur_notice p ks t n) i

reshape : (before : List Sent) (s : Sent) (rest : List Sent) (r : Sent) (ms : List Sent) → ((before ++ s ∷ rest) ++ r ∷ []) ++ ms ≡ (before ++ s ∷ []) ++ (rest ++ r ∷ ms)
reshape [] s rest r ms = ap (λ v. s ∷ v) (append_assoc rest (r ∷ []) ms)
reshape (b ∷ before) s rest r ms = ap (λ v. b ∷ v) (reshape before s rest r ms)

module _ (w : World) (k : ℕ) (m : Master) (ps : List ℕ) (changes : ℕ → ℕ) (scopes : ℕ → Scope) where
  abbrev the : Txn
  the = next_txn m

  abbrev PhaseAt : ℕ → Phase → Type 0
  PhaseAt p h = Unit {0}

  -- a settlement that was written stays written
  stands_on : (p : ℕ) (el : ElementState) (fs gs : List Fact) (h : Phase) → Stands w k m ps changes scopes p el fs h → Stands w k m ps changes scopes p el (gs ++ fs) h
  stands_on p el fs gs (Asking d) s = s
  stands_on p el fs gs (Told d) s = s
  stands_on p el fs gs Ready s = s
  stands_on p el fs gs Ending s = s
  stands_on p el fs gs Ended s = in_right _ gs fs s
  stands_on p el fs gs Done s = in_right _ gs fs s

  el_on : (p : ℕ) (el : ElementState) (fs gs : List Fact) (h : Phase) → ElIn w k m ps changes scopes p el fs h → ElIn w k m ps changes scopes p el (gs ++ fs) h
  el_on p el fs gs h i = record { epoch = i.epoch; master = i.master; stands = stands_on p el fs gs h i.stands }

  -- what the next phase has to show
  pub record Onward (p : ℕ) (h i : Phase) : Type 0 where
    pub flies : flies i ≡ true
    pub votes : votes h ≡ true → votes i ≡ true
    pub ready : is_ready i ≡ false
    pub ends : ends h ≡ true → ends i ≡ true
    pub less : left w k m ps changes scopes p i + 1 ≡ left w k m ps changes scopes p h

  -- the world where p has taken its message, and answers it
  abbrev pub Answered : World → ℕ → ℕ → Acts → List ℕ → World
  Answered v p n r ks = says (to_element v p k (next_with (v.at p) false (at_count m.epoch n) r)) (murmurs p ks)

  module _ (v : World) (before : List Sent) (s : Sent) (rest : List Sent) (ph : ℕ → Phase) (g : Going w k m ps changes scopes v before (s ∷ rest) ph) (p n : ℕ) (a : among p ps ≡ true) (r : Acts) (zero_code : r.code ≡ 0) (ks : List ℕ) (h : Phase)
      (step : Onward p (ph p) h) (on_way : flies (ph p) ≡ true) (at_p : s.element ≡ p) (no_notice : is_notice s.message ≡ false) (answer : message_of w k m ps changes scopes p h ≡ Reply (at_count m.epoch n) 0)
      (peer : PeerIn w k m ps changes scopes p (g.now.at p) h) (job : JobIn w k m ps changes scopes p g.job h) (stand : Stands w k m ps changes scopes p (next_with (v.at p) false (at_count m.epoch n) r).element (r.facts ++ v.facts) h) where
    abbrev pub reply_to : Sent
    reply_to = sent p k (Reply (at_count m.epoch n) r.code)

    abbrev pub more : List Sent
    more = reply_to ∷ murmurs p ks

    on_way_now : (t : Sent) → In t more → OnWay w k m ps changes scopes (put ph p h) t
    on_way_now t i =
        ⊎_elim (λ e.
        let z : t.element ≡ p = ap (λ (u : Sent). u.element) e in
        let here : put ph p h t.element ≡ h = ap (put ph p h) z ∙ put_here ph p h in
        inr (
          ap (λ q. among q ps) z ∙ a,
          ap flies here ∙ step.flies,
          e ∙ ap (λ c. sent p k (Reply (at_count m.epoch n) c)) zero_code ∙ ap (sent p k) (sym answer) ∙ ap (λ q. sent q k (message_of w k m ps changes scopes q h)) (sym z) ∙ ap (λ f. sent t.element k (message_of w k m ps changes scopes t.element f)) (sym here),
        ))
        (λ u. inl (murmur_notice p ks t u)) i

    busy_p : busy p more ≡ cond (flies h) 1 0
    busy_p = ap (λ b. cond (b && true) 1 0 + busy p (murmurs p ks)) (eq-eqb p p refl) ∙ ap (λ c. 1 + c) (murmur_busy p p ks) ∙ sym (cond_true (flies h) 1 0 step.flies)

    busy_q : (q : ℕ) → (q == p) ≡ false → busy q more ≡ 0
    busy_q q e = ap (λ b. cond (b && true) 1 0 + busy q (murmurs p ks)) e ∙ none_plus (busy q (murmurs p ks)) ∙ murmur_busy q p ks

    mode_now : ((g.job.decision ≡ None) × ((q : ℕ) → among q ps ≡ true → votes (put ph p h q) ≡ true) × ((q : ℕ) × (among q ps ≡ true) × (is_ready (put ph p h q) ≡ false)))
        ⊎ ((g.job.decision ≡ Some Complete) × ((q : ℕ) → among q ps ≡ true → ends (put ph p h q) ≡ true))
    mode_now =
        ⊎_elim (λ u. inl (
          u.0,
          put_all (λ q i. among q ps ≡ true → votes i ≡ true) ph p h (λ _. step.votes (u.1 p a)) (λ q. u.1 q),
          (p, a, ap is_ready (put_here ph p h) ∙ step.ready),
        ))
        (λ u. inr (u.0, put_all (λ q i. among q ps ≡ true → ends i ≡ true) ph p h (λ _. step.ends (u.1 p a)) (λ q. u.1 q))) g.mode

    abbrev pub then : World
    then = Answered v p n r ks

    sent_now : then.sent ≡ (before ++ s ∷ []) ++ (rest ++ more)
    sent_now = ap (λ q. (q ++ reply_to ∷ []) ++ murmurs p ks) g.sent ∙ reshape before s rest reply_to (murmurs p ks)

    pub answered_going : Going w k m ps changes scopes then (before ++ s ∷ []) (rest ++ more) (put ph p h)
    answered_going = record {
      sent = sent_now;
      network = g.network;
      calm = g.calm;
      now = g.now;
      runs = g.runs;
      epoch = g.epoch;
      elements = g.elements;
      deposed = g.deposed;
      job = g.job;
      jobs = g.jobs;
      txn = g.txn;
      mine = g.mine;
      parts = g.parts;
      changed = g.changed;
      others = g.others;
      peers = put_all (λ q i. among q ps ≡ true → PeerIn w k m ps changes scopes q (g.now.at q) i) ph p h (λ _. peer) g.peers;
      job_in = put_all (λ q i. among q ps ≡ true → JobIn w k m ps changes scopes q g.job i) ph p h (λ _. job) g.job_in;
      stand = put_two (λ q el i. among q ps ≡ true → ElIn w k m ps changes scopes q el (r.facts ++ v.facts) i) v.at ph p (next_with (v.at p) false (at_count m.epoch n) r).element h
          (λ _. record { epoch = (g.stand p a).epoch; master = (g.stand p a).master; stands = stand }) (λ q b. el_on q (v.at q) v.facts r.facts (ph q) (g.stand q b));
      mode = mode_now;
      queue = queue_on w k m ps changes scopes ph p h rest more (rest_of w k m ps changes scopes ph s rest p g.queue at_p no_notice a on_way) on_way_now busy_p busy_q;
    }

  -- a step of the round: a participant has gone on, and no other has gone back
  pub record Next (v : World) (before : List Sent) (said : Sent) (ph : ℕ → Phase) : Type 0 where
    pub after : List Sent
    pub phase : ℕ → Phase
    pub going : Going w k m ps changes scopes v before after phase
    pub who : ℕ
    pub part : among who ps ≡ true
    pub less : left w k m ps changes scopes who (phase who) + 1 ≡ left w k m ps changes scopes who (ph who)
    pub rest : (q : ℕ) → among q ps ≡ true → (q == who) ≡ false → left w k m ps changes scopes q (phase q) ≡ left w k m ps changes scopes q (ph q)
    pub spoken : is_notice said.message ≡ false

  pub less_here : (p : ℕ) (h : Phase) (ph : ℕ → Phase) → left w k m ps changes scopes p h + 1 ≡ left w k m ps changes scopes p (ph p) → left w k m ps changes scopes p (put ph p h p) + 1 ≡ left w k m ps changes scopes p (ph p)
  less_here p h ph l = ap (λ v. left w k m ps changes scopes p v + 1) (put_here ph p h) ∙ l

  pub less_all : (p : ℕ) (h : Phase) (ph : ℕ → Phase) (q : ℕ) → (q == p) ≡ false → left w k m ps changes scopes q (put ph p h q) ≡ left w k m ps changes scopes q (ph q)
  less_all p h ph q n = ap (left w k m ps changes scopes q) (put_other ph p h q (not_same q p n))

  delivered_is : (v : World) (i : ℕ) (c : Circumstance) (s : Sent) (p n : ℕ) (b : Body) (r : Acts) → numbered v.sent i ≡ Some s → s ≡ sent p k (Request (at_count m.epoch n) b)
      → hears p (v.at p) (sender v k) c (at_count m.epoch n) b ≡ next_with (v.at p) false (at_count m.epoch n) r → happens v (Deliver i c) ≡ Answered v p n r c.others
  delivered_is v i c s p n b r num e h = ap (delivers v c) num ∙ ap (λ z. delivers v c (Some z)) e ∙ ap (λ z. says (to_element v p k z) (murmurs p c.others)) h

  -- what an arriving message is given
  pub record Arrives (v : World) (i : ℕ) (c : Circumstance) (before : List Sent) (s : Sent) (rest : List Sent) (ph : ℕ → Phase) : Type 0 where
    pub ground : Ground w k m ps changes scopes
    pub going : Going w k m ps changes scopes v before (s ∷ rest) ph
    pub smooth : Smooth c
    pub number : numbered v.sent i ≡ Some s

  zero_suc : (n : ℕ) → (suc n == 0) ≡ false
  zero_suc n = grind arith

  zero_le : (n : ℕ) → nat_le 0 n ≡ true
  zero_le n = grind arith

  not_zero : (n : ℕ) → not (n + 1 == 0) ≡ true
  not_zero n = grind arith

  module _ (v : World) (i : ℕ) (c : Circumstance) (before : List Sent) (s : Sent) (rest : List Sent) (ph : ℕ → Phase) (z : Arrives v i c before s rest ph) (p : ℕ) (a : among p ps ≡ true) where
    abbrev el : ElementState
    el = v.at p

    -- the request of this number is taken, and answered
    requested : (n : ℕ) (b : Body) (r : Acts) (h : Phase) → s ≡ sent p k (Request (at_count m.epoch n) b) → hears p el (sender v k) c (at_count m.epoch n) b ≡ next_with el false (at_count m.epoch n) r → r.code ≡ 0 → Onward p (ph p) h → flies (ph p) ≡ true
        → message_of w k m ps changes scopes p h ≡ Reply (at_count m.epoch n) 0 → PeerIn w k m ps changes scopes p (z.going.now.at p) h → JobIn w k m ps changes scopes p z.going.job h → Stands w k m ps changes scopes p (next_with el false (at_count m.epoch n) r).element (r.facts ++ v.facts) h
        → Next (happens v (Deliver i c)) (before ++ s ∷ []) s ph
    requested n b r h e x q o f t y j u =
        subst (λ g. Next g (before ++ s ∷ []) s ph) (sym (delivered_is v i c s p n b r z.number e x))
        (record {
          after = rest ++ more v before s rest ph z.going p n a r q c.others h o f (ap (λ (g : Sent). g.element) e) (ap (λ (g : Sent). is_notice g.message) e) t y j u;
          phase = put ph p h;
          going = answered_going v before s rest ph z.going p n a r q c.others h o f (ap (λ (g : Sent). g.element) e) (ap (λ (g : Sent). is_notice g.message) e) t y j u;
          who = p;
          part = a;
          less = less_here p h ph o.less;
          rest = λ q _ n. less_all p h ph q n;
          spoken = ap (λ (g : Sent). is_notice g.message) e;
        })

    here : ElIn w k m ps changes scopes p el v.facts (ph p)
    here = z.going.stand p a

    expected : (n : ℕ) → n ≡ el.sequence + 1 → Expected el (sender v k) n c
    expected n e = record { smooth = z.smooth; claimed = ap (λ q. q == 0) here.epoch ∙ z.ground.epoch; sender = z.going.network ∙ sym here.master; count = e }

    at_epoch : (n : ℕ) (b : Body) (r : Acts) → hears p el (sender v k) c (at_count el.epoch n) b ≡ next_with el false (at_count el.epoch n) r → hears p el (sender v k) c (at_count m.epoch n) b ≡ next_with el false (at_count m.epoch n) r
    at_epoch n b r x = subst (λ q. hears p el (sender v k) c (at_count q n) b ≡ next_with el false (at_count q n) r) here.epoch x

    -- from asking to told
    onward : (d : ℕ) → ph p ≡ Asking d → d ≤ changes p + 1 → Onward p (ph p) (Told d)
    onward d e l = record {
      flies = refl;
      votes = λ _. refl;
      ready = refl;
      ends = λ u. let t : false ≡ true = ap ends (sym e) ∙ u in cc;
      less = subst (λ q. left w k m ps changes scopes p (Told d) + 1 ≡ left w k m ps changes scopes p q) (sym e) (omega arith);
    }

    as_told : (y : Phase → Type 0) (d : ℕ) → ph p ≡ Asking d → y (ph p) → y (Asking d)
    as_told y d e q = subst y e q

    asking_peer : (d : ℕ) → ph p ≡ Asking d → PeerIn w k m ps changes scopes p (z.going.now.at p) (Told d)
    asking_peer d e = let y = subst (PeerIn w k m ps changes scopes p (z.going.now.at p)) e (z.going.peers p a) in record { flags = y.flags; waits = y.waits; sequence = y.sequence }

    asking_job : (d : ℕ) → ph p ≡ Asking d → JobIn w k m ps changes scopes p z.going.job (Asking d)
    asking_job d e = subst (JobIn w k m ps changes scopes p z.going.job) e (z.going.job_in p a)

    stands_at : (d : ℕ) → ph p ≡ Asking d → (el.sequence ≡ last w k m ps changes scopes p + d) × Fresh w k m ps changes scopes p el d
    stands_at d e = subst (Stands w k m ps changes scopes p el v.facts) e here.stands

    starts : ph p ≡ Asking 0 → s ≡ sent p k (Request (at_count m.epoch (last w k m ps changes scopes p + 1 + 0)) (Sot the ps (scopes p))) → Next (happens v (Deliver i c)) (before ++ s ∷ []) s ph
    starts e x =
        let n = last w k m ps changes scopes p + 1 + 0 in
        let j = asking_job 0 e in
        let st = stands_at 0 e in
        let seq : el.sequence ≡ last w k m ps changes scopes p + 0 = st.0 in
        let fit : admits p el.epoch the ps false (scopes p) ≡ true =
        and_true (m.epoch == el.epoch) _ (eq-eqb _ _ (sym here.epoch)) (and_true (not (m.begun + 1 == 0)) (takes_part p ps && is_scope (scopes p)) (not_zero m.begun) (and_true (takes_part p ps) (is_scope (scopes p)) (z.ground.parts p a).takes (z.ground.parts p a).scoped)) in
        let r : Acts = record { records = write the ps (scopes p) RecordStarted el.records; floor = el.floor; code = 0; facts = Opened_at p the ps ∷ [] } in
        let stood : state_of the (write the ps (scopes p) RecordStarted el.records) ≡ Some (cond (nat_le 0 (changes p)) RecordStarted RecordPrepared) =
        state_noted the ps (scopes p) (Some RecordStarted) el.records ∙ ap Some (sym (cond_true (nat_le 0 (changes p)) RecordStarted RecordPrepared (zero_le (changes p)))) in
        requested n (Sot the ps (scopes p)) r (Told 0) x (at_epoch n (Sot the ps (scopes p)) r (sot_taken p el (sender v k) n c (expected n (omega arith)) the ps (scopes p) fit st.1.1 st.1.2 st.1.0 st.1.3)) refl (onward 0 e j.low) (ap flies e) refl (asking_peer 0 e) j (omega arith, stood)

    changes_on : (d : ℕ) → ph p ≡ Asking (suc d) → nat_le (suc d) (changes p) ≡ true → s ≡ sent p k (Request (at_count m.epoch (last w k m ps changes scopes p + 1 + suc d)) (Mot the (suc d))) → Next (happens v (Deliver i c)) (before ++ s ∷ []) s ph
    changes_on d e l x =
        let n = last w k m ps changes scopes p + 1 + suc d in
        let j = asking_job (suc d) e in
        let st = stands_at (suc d) e in
        let seq : el.sequence ≡ last w k m ps changes scopes p + suc d = st.0 in
        let r : Acts = record { records = el.records; floor = el.floor; code = 0; facts = [] } in
        requested n (Mot the (suc d)) r (Told (suc d)) x (at_epoch n (Mot the (suc d)) r (mot_taken p el (sender v k) n c (expected n (omega arith)) the (suc d) st.1)) refl (onward (suc d) e j.low) (ap flies e) refl (asking_peer (suc d) e) j
        (omega arith, (st.1 ∙ ap Some (sym (cond_true (nat_le (suc d) (changes p)) RecordStarted RecordPrepared l))))

    ends_on : (d : ℕ) → ph p ≡ Asking (suc d) → nat_le (suc d) (changes p) ≡ false → s ≡ sent p k (Request (at_count m.epoch (last w k m ps changes scopes p + 1 + suc d)) (Eot the)) → Next (happens v (Deliver i c)) (before ++ s ∷ []) s ph
    ends_on d e l x =
        let n = last w k m ps changes scopes p + 1 + suc d in
        let j = asking_job (suc d) e in
        let st = stands_at (suc d) e in
        let seq : el.sequence ≡ last w k m ps changes scopes p + suc d = st.0 in
        let r : Acts = record { records = write the [] [] RecordPrepared el.records; floor = el.floor; code = 0; facts = Prepared_at p the ∷ [] } in
        requested n (Eot the) r (Told (suc d)) x (at_epoch n (Eot the) r (eot_taken p el (sender v k) n c (expected n (omega arith)) the st.1)) refl (onward (suc d) e j.low) (ap flies e) refl (asking_peer (suc d) e) j
        (omega arith, (state_noted the [] [] (Some RecordPrepared) el.records ∙ ap Some (sym (cond_false (nat_le (suc d) (changes p)) RecordStarted RecordPrepared l))))

    -- a message of the transaction before its end
    pub asked : (d : ℕ) → ph p ≡ Asking d → s ≡ sent p k (message_of w k m ps changes scopes p (Asking d)) → Next (happens v (Deliver i c)) (before ++ s ∷ []) s ph
    asked zero e x = starts e x
    asked (suc d) e x =
        let n = last w k m ps changes scopes p + 1 + suc d in
        let later = ap (λ b. sent p k (Request (at_count m.epoch n) b)) (cond_false (suc d == 0) (Sot the ps (scopes p)) (cond (nat_le (suc d) (changes p)) (Mot the (suc d)) (Eot the)) (zero_suc d)) in
        ⊎_elim (λ u. changes_on d e u (x ∙ later ∙ ap (λ b. sent p k (Request (at_count m.epoch n) b)) (cond_true _ (Mot the (suc d)) (Eot the) u)))
        (λ u. ends_on d e u (x ∙ later ∙ ap (λ b. sent p k (Request (at_count m.epoch n) b)) (cond_false _ (Mot the (suc d)) (Eot the) u))) (both (nat_le (suc d) (changes p)))

    -- TRCOMP
    pub ended : ph p ≡ Ending → s ≡ sent p k (message_of w k m ps changes scopes p Ending) → Next (happens v (Deliver i c)) (before ++ s ∷ []) s ph
    ended e x =
        let n = last w k m ps changes scopes p + changes p + 3 in
        let st = subst (Stands w k m ps changes scopes p el v.facts) e here.stands in
        let seq : el.sequence ≡ last w k m ps changes scopes p + changes p + 2 = st.0 in
        let y = subst (PeerIn w k m ps changes scopes p (z.going.now.at p)) e (z.going.peers p a) in
        let r : Acts = record { records = write the [] [] RecordCompleted el.records; floor = el.floor; code = 0; facts = Settled_at p the Complete ∷ [] } in
        requested n (Trcomp the) r Ended x (at_epoch n (Trcomp the) r (trcomp_taken p el (sender v k) n c (expected n (omega arith)) the st.1)) refl
        (record {
          flies = refl;
          votes = λ u. let t : false ≡ true = ap votes (sym e) ∙ u in cc;
          ready = refl;
          ends = λ _. refl;
          less = subst (λ q. 1 + 1 ≡ left w k m ps changes scopes p q) (sym e) (omega arith);
        }) (ap flies e) refl (record { flags = y.flags; waits = y.waits; sequence = y.sequence }) tt (inl refl)
