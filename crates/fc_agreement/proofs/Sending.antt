-- What is due, and what it shows.
use Rattle.std.proofs.Common.{◌≡◌, ℕ, ◌+◌, ◌<◌, ◌≤◌, ◌==◌, ◌&&◌, ◌||◌, not, Bool, true, false, cond, nat_le, nat_lt, List, [], ◌∷◌, ◌++◌, Option, Some, None, is_none, is_some, ◌⊎◌, inl, inr, ⊎_elim, refl, sym, ap, ◌∙◌, subst, arith}
use Rattle.fc_agreement.specs.Agreement.{decision_of}
use Rattle.fc_protocol.specs.Collections.{among, or_next}
use Rattle.fc_protocol.specs.Jobs.{Job, find, own_body, decision_body, body_by, needs, first_need}
use Rattle.fc_protocol.specs.MasterMachine.{floor_body, unspent, wanted, last_count, Waiting, Peer, Master, due, count_of, stamp_of, sending, at_put}
use Rattle.fc_protocol.specs.Messages.{Floor, Holds, Malformed, Stamp, Body, Claim, Sot, Mot, Eot, Trcomp, Abt, Ask, Ask_record, Plain, is_query, Request, Sent, sent, is_claim}
use Rattle.fc_protocol.specs.declared.answers.TxnEntry.{TxnEntry}
use Rattle.fc_protocol.specs.declared.states.Decision.{Decision}
use Rattle.fc_protocol.specs.declared.states.Decision.TheVariants.{Complete, Abort}
use Rattle.fc_base.specs.Ids.{Txn}
use Rattle.fc_protocol.proofs.Basics.{In, in_left, in_right, in_either, all_in, cond_true, cond_false, both, some_same, put_rest}
use Rattle.fc_agreement.proofs.Facts.{Past, has, HoldsFine, Closed, FloorKnown, Forgets, Asked, Unique, Means, RequestFine, SentFine, JobFine, JobsFine, PeerFine, MasterFine, Later, jobs_on}
use Rattle.fc_agreement.proofs.Jobs.{once_found}

if_some : {A : Type 0} (b : Bool) (o : Option A) (v : A) → cond b o None ≡ Some v → (b ≡ true) × (o ≡ Some v)
if_some true o v e = (refl, e)
if_some false o v e = cc

if_none : {A : Type 0} (b : Bool) (o : Option A) (v : A) → cond b None o ≡ Some v → (b ≡ false) × (o ≡ Some v)
if_none true o v e = cc
if_none false o v e = (refl, e)

or_either : {A : Type 0} (o r : Option A) (v : A) → or_next o r ≡ Some v → (o ≡ Some v) ⊎ (r ≡ Some v)
or_either None r v e = inr e
or_either (Some w) r v e = inl e

first_job : (js : List Job) (p : ℕ) (b : Body) → first_need js p ≡ Some b → (j : Job) × In j js × (needs j p ≡ Some b)
first_job [] p b e = cc
first_job (j ∷ js) p b e = ⊎_elim (λ k. (j, inl refl, k)) (λ k. let r = first_job js p b k in (r.0, inr r.1, r.2)) (or_either (needs j p) (first_need js p) b e)

below : (n : ℕ) → nat_lt n last_count ≡ true → n < last_count
below n e = grind arith

module _ (x : Txn) (parts : List ℕ) (h : Past) (OfFloor : Txn → Type 0) where
  -- what a message that is due means, and what a floor that is due shows
  abbrev pub Due : ℕ → ℕ → Body → Type 0
  Due e p b = Means x parts h e p b × (is_claim b ≡ true → b ≡ Claim e) × ((f : Txn) → b ≡ Floor f → OfFloor f)

  own_means : (e p : ℕ) (j : Job) (n m : Bool) → JobFine x parts h e j → j.mine ≡ true → Due e p (cond n (Sot j.txn j.parts (j.scopes p)) (cond m (Mot j.txn (j.done p)) (Eot j.txn)))
  own_means e p j true m f i = ((λ t. let o = f t in (o.mine i, o.named, o.born)), (λ k. cc), (λ f k. cc))
  own_means e p j false true f i = ((λ t. (f t).mine i), (λ k. cc), (λ f k. cc))
  own_means e p j false false f i = ((λ t. (f t).mine i), (λ k. cc), (λ f k. cc))

  mine_means : (e p : ℕ) (j : Job) (b : Body) (m : Bool) → JobFine x parts h e j → j.mine ≡ m → cond m (Some (own_body j p)) (Some (Ask_record j.txn)) ≡ Some b → Due e p b
  mine_means e p j b true f i k = subst (Due e p) (some_same _ _ k) (own_means e p j (j.done p == 0) (nat_le (j.done p) (j.changes p)) f i)
  mine_means e p j b false f i k = subst (Due e p) (some_same _ _ k) ((λ t. (f t).other i), (λ u. cc), (λ f k. cc))

  decision_means : (e p : ℕ) (j : Job) (d : Decision) → JobFine x parts h e j → (j.txn ≡ x → h.core.decided e ≡ Some d) → among p j.parts ≡ true → Due e p (decision_body j.txn d)
  decision_means e p j Complete f g a = ((λ t. (g t, ap (among p) (sym (f t).named) ∙ a)), (λ u. cc), (λ f k. cc))
  decision_means e p j Abort f g a = ((λ t. (g t, ap (among p) (sym (f t).named) ∙ a, (f t).low, (f t).born)), (λ u. cc), (λ f k. cc))

  body_means : (e p : ℕ) (j : Job) (b : Body) (q : Option Decision) → JobFine x parts h e j → (j.txn ≡ x → h.core.decided e ≡ j.decision) → j.decision ≡ q → among p j.parts ≡ true → body_by j p q ≡ Some b → Due e p b
  body_means e p j b None f g i a k = mine_means e p j b j.mine f refl (if_none (is_some (j.answers p)) _ b k).1
  body_means e p j b (Some d) f g i a k = subst (Due e p) (some_same _ _ (if_none (j.settled p || j.stuck p) _ b k).1) (decision_means e p j d f (λ t. g t ∙ i) a)

  need_means : (e begun p : ℕ) (js : List Job) (b : Body) → JobsFine x parts h e begun js → first_need js p ≡ Some b → Due e p b
  need_means e begun p js b i k =
      let r = first_job js p b k in
      let u = if_some (among p r.0.parts) _ b r.2 in
      body_means e p r.0 b r.0.decision (all_in (JobFine x parts h e) r.0 js i.each r.1) (λ t. i.decided ∙ ap decision_of (once_found x parts js r.0 i.once r.1 t)) refl u.0 u.1

module _ (x : Txn) (parts : List ℕ) (h : Past) where
  abbrev pub DueOf : Master → ℕ → Body → Type 0
  DueOf m p b = Due x parts h (FloorKnown x parts m) m.epoch p b

  floor_means : (m : Master) (p : ℕ) (b : Body) (o : Option Txn) → Forgets x parts h m → (m.at p).owes ≡ o → floor_body o ≡ Some b → DueOf m p b
  floor_means m p b None t i e = cc
  floor_means m p b (Some f) t i e =
      let v = t.owed p f i in
      subst (DueOf m p) (some_same _ _ e) (v.1, (λ u. cc), (λ g k. let same_floor : f ≡ g = cc in subst (FloorKnown x parts m) same_floor v.0))

  due_by : (m : Master) (p : ℕ) (k : ℕ) (b : Body) (u v w : Bool) → MasterFine x parts h k m → cond u (Some Ask) (cond v (Some (Claim m.epoch)) (cond w (Some Ask) (or_next (first_need m.jobs p) (floor_body (m.at p).owes)))) ≡ Some b → DueOf m p b
  due_by m p k b true v w f e = subst (DueOf m p) (some_same _ _ e) (tt, (λ u. cc), (λ g k. cc))
  due_by m p k b false true w f e = subst (DueOf m p) (some_same _ _ e) (tt, (λ u. refl), (λ g k. cc))
  due_by m p k b false false true f e = subst (DueOf m p) (some_same _ _ e) (tt, (λ u. cc), (λ g k. cc))
  due_by m p k b false false false f e =
      ⊎_elim (λ n. need_means x parts h (FloorKnown x parts m) m.epoch m.begun p m.jobs b f.jobs n) (λ n. floor_means m p b (m.at p).owes f.forgets refl n) (or_either (first_need m.jobs p) (floor_body (m.at p).owes) b e)

  unspent_is : (y : Peer) (o : Option Body) (b : Body) → unspent y o ≡ Some b → (o ≡ Some b) × (count_of b y < last_count)
  unspent_is y None b e = cc
  unspent_is y (Some a) b e =
      let r = if_some (nat_lt (count_of a y) last_count) (Some a) b e in
      (r.1, subst (λ v. count_of v y < last_count) (some_same _ _ r.1) (below (count_of a y) r.0))

  pub due_means : (m : Master) (p k : ℕ) (b : Body) → MasterFine x parts h k m → due m p ≡ Some b → DueOf m p b × (count_of b (m.at p) < last_count)
  due_means m p k b f e =
      let y = m.at p in
      let r = unspent_is y (wanted m p y) b (if_some ((y.met && not y.lost) && (is_none y.waits && is_none m.deposed)) _ b e).1 in
      (due_by m p k b y.doubt (not y.claimed) (not y.answered) f r.0, r.1)

-- a new request
claim_body : (b : Body) → is_claim b ≡ true → is_query b ≡ false
claim_body (Claim w) e = refl
claim_body (Sot y ps sc) e = cc
claim_body (Mot y i) e = cc
claim_body (Eot y) e = cc
claim_body (Trcomp y) e = cc
claim_body (Abt y) e = cc
claim_body (Floor f) e = cc
claim_body Ask e = cc
claim_body (Ask_record y) e = cc
claim_body Plain e = cc
claim_body Malformed e = cc

count_same : (a b : Body) (y : Peer) → is_query a ≡ is_query b → count_of a y ≡ count_of b y
count_same a b y e = ap (λ q. cond q y.queries y.last) e

new_count : (c : Bool) (n : ℕ) → cond c 0 (n + 1) ≡ 0 → c ≡ true
new_count true n e = refl
new_count false n e = absurd (omega arith)

count_low : (c : Bool) (n : ℕ) → n < last_count → cond c 0 (n + 1) ≤ last_count
count_low true n l = omega arith
count_low false n l = omega arith

sent_low : (q c : Bool) (m l : ℕ) → m ≤ last_count → l ≤ last_count → cond q m l < last_count → (cond (q || c) l (cond c 0 (cond q m l + 1)) ≤ last_count) × (cond q (cond c 0 (cond q m l + 1)) m ≤ last_count)
sent_low true true m l a b r = (b, omega arith)
sent_low true false m l a b r = (b, omega arith)
sent_low false true m l a b r = (b, a)
sent_low false false m l a b r = (omega arith, a)

-- the counts only rise
rises : (s q c : Bool) (m l : ℕ) (n : ℕ) → n ≤ cond s m l → (c ≡ true → q ≡ false) → n ≤ cond s (cond q (cond c 0 (cond q m l + 1)) m) (cond (q || c) l (cond c 0 (cond q m l + 1)))
rises true true true m l n h k = let u : true ≡ false = k refl in cc
rises true true false m l n h k = omega arith
rises true false c m l n h k = h
rises false true c m l n h k = h
rises false false true m l n h k = h
rises false false false m l n h k = omega arith

reaches : (q c : Bool) (m l : ℕ) → (c ≡ true → q ≡ false) → cond c 0 (cond q m l + 1) ≤ cond q (cond q (cond c 0 (cond q m l + 1)) m) (cond (q || c) l (cond c 0 (cond q m l + 1)))
reaches true true m l k = let u : true ≡ false = k refl in cc
reaches true false m l k = omega arith
reaches false true m l k = omega arith
reaches false false m l k = omega arith

module _ (x : Txn) (parts : List ℕ) (h : Past) (k : ℕ) (m : Master) (p : ℕ) (b : Body) where
  abbrev the_stamp : Stamp
  the_stamp = stamp_of m.epoch b (m.at p)

  abbrev pub the_request : Sent
  the_request = sent p k (Request the_stamp b)

  abbrev pub with_request : Past
  with_request = record { core = h.core; sent = h.sent ++ the_request ∷ []; used = h.used; begun = h.begun; elements = h.elements }

  pub later_request : Later x parts h with_request
  later_request = record { decided = λ e d i. i; told = λ n t. t; final = λ q s o i. i; sent = λ s i. in_left s h.sent (the_request ∷ []) i; used = λ k r i. i; born = λ b. b; closed = λ e q s. s; rises = λ e q l. l; crew = λ q a. a }

  -- a request there now was there before, or is the new one
  pub request_either : (s : Sent) → In s with_request.sent → (In s h.sent) ⊎ (s ≡ the_request)
  request_either s i = ⊎_elim (λ o. inl o) (λ o. inr (⊎_elim (λ e. e) (λ n. absurd n) o)) (in_either s h.sent (the_request ∷ []) i)

  pub request_fine : MasterFine x parts h k m → DueOf x parts h m p b → count_of b (m.at p) < last_count → RequestFine x parts h k p the_stamp b
  request_fine f d r = record { life = f.life; low = count_low (is_claim b) (count_of b (m.at p)) r; first = λ z. d.1 (new_count (is_claim b) _ z); means = d.0 }

  body_of : (q j : ℕ) (s : Stamp) (a : Body) → sent q j (Request s a) ≡ the_request → (q ≡ p) × (s ≡ the_stamp) × (a ≡ b)
  body_of q j s a e =
      let t : Request s a ≡ Request the_stamp b = ap (λ (v : Sent). v.message) e in
      (ap (λ (v : Sent). v.element) e, cc, cc)

  -- an older request with the new correlator is the claim again
  old_new : MasterFine x parts h k m → ((s : Sent) → In s h.sent → SentFine x parts h s) → DueOf x parts h m p b → (j : ℕ) (a : Body) → Asked h p j the_stamp a → is_query a ≡ is_query b → a ≡ b
  old_new f all d j a i q =
      let r : RequestFine x parts h j p the_stamp a = all (sent p j (Request the_stamp a)) i in
      let up : the_stamp.count ≤ count_of a (m.at p) = (f.peers p).counts j the_stamp a i refl in
      ⊎_elim (λ c.
      let z : the_stamp.count ≡ 0 = cond_true (is_claim b) 0 _ c in
      r.first z ∙ sym (d.1 c))
      (λ c.
      let n : the_stamp.count ≡ count_of b (m.at p) + 1 = cond_false (is_claim b) 0 _ c in
      let s : count_of a (m.at p) ≡ count_of b (m.at p) = count_same a b (m.at p) q in
      absurd (omega arith)) (both (is_claim b))

  pub unique_request : MasterFine x parts h k m → ((s : Sent) → In s h.sent → SentFine x parts h s) → DueOf x parts h m p b → Unique h.sent → Unique with_request.sent
  unique_request f all d u q i j s a c l r e =
      ⊎_elim (λ o. ⊎_elim (λ n. u q i j s a c o n e)
      (λ n. let t = body_of q j s c n in
      old_new f all d i a (subst (λ v. Asked h v i the_stamp a) t.0 (subst (λ v. Asked h q i v a) t.1 o)) (e ∙ ap is_query t.2) ∙ sym t.2)
      (request_either _ r))
      (λ o. let t = body_of q i s a o in
      ⊎_elim (λ n. t.2 ∙ sym (old_new f all d j c (subst (λ v. Asked h v j the_stamp c) t.0 (subst (λ v. Asked h q j v c) t.1 n)) (sym e ∙ ap is_query t.2)))
      (λ n. t.2 ∙ sym (body_of q j s c n).2) (request_either _ r))
      (request_either _ l)

  abbrev pub sender_now : Master
  sender_now = at_put m p (sending (m.at p) (record { stamp = the_stamp; body = b }))

  -- an answer that is there is no answer to a new ask
  fresh_ask : MasterFine x parts h k m → ((s : Sent) → In s h.sent → SentFine x parts h s) → b ≡ Ask → (j e : ℕ) (ns : List TxnEntry) → In (sent p j (Holds the_stamp e ns)) h.sent → ⊥
  fresh_ask f all c j e ns i =
      let g : HoldsFine x parts h p the_stamp e ns = all (sent p j (Holds the_stamp e ns)) i in
      let up : the_stamp.count ≤ count_of Ask (m.at p) = (f.peers p).counts g.controller the_stamp Ask g.asked refl in
      let now : the_stamp.count ≡ count_of Ask (m.at p) + 1 = ap (λ v. (stamp_of m.epoch v (m.at p)).count) c in
      omega arith

  old_answer : (q j : ℕ) (s : Stamp) (e : ℕ) (ns : List TxnEntry) → In (sent q j (Holds s e ns)) with_request.sent → In (sent q j (Holds s e ns)) h.sent
  old_answer q j s e ns i = ⊎_elim (λ o. o) (λ o. let t : Holds s e ns ≡ Request the_stamp b = ap (λ (v : Sent). v.message) o in cc) (request_either _ i)

  floor_sent : (q j : ℕ) (s : Stamp) (g : Txn) → DueOf x parts h m p b → Forgets x parts h m → Asked with_request q j s (Floor g) → s.life ≡ m.epoch → FloorKnown x parts m g
  floor_sent q j s g d t i l = ⊎_elim (λ o. t.floors q j s g o l) (λ o. d.2 g (sym (body_of q j s (Floor g) o).2)) (request_either _ i)

  sends_forgets : MasterFine x parts h k m → ((s : Sent) → In s h.sent → SentFine x parts h s) → DueOf x parts h m p b → Forgets x parts with_request sender_now
  sends_forgets f all d =
      let t = f.forgets in
      let o : Waiting = record { stamp = the_stamp; body = b } in
      let all_on = λ (l : (q : ℕ) → among q m.elements ≡ true → (m.at q).answered ≡ true). put_rest (λ q (z : Peer). among q m.elements ≡ true → z.answered ≡ true) m.at p (sending (m.at p) o) (l p) (λ q _. l q) in
      let floor_on : (fl : Txn) → FloorKnown x parts m fl → FloorKnown x parts sender_now fl = λ fl v. (v.0, (λ u. let w = v.1 u in (all_on w.0, w.1)), v.2) in
      record {
        inside = t.inside;
        manned = t.manned;
        reached = put_rest (λ q (z : Peer). z.answered ≡ true → m.epoch ≤ (h.core.at q).epoch) m.at p (sending (m.at p) o) (t.reached p) (λ q _. t.reached q);
        known = put_rest (λ q (z : Peer). z.answered ≡ true → x.epoch < m.epoch → (is_some (find x m.jobs) ≡ true) ⊎ (Closed x parts with_request m.epoch q × ((a : Waiting) → z.waits ≡ Some a → a.body ≡ Ask → (j e : ℕ) (ns : List TxnEntry) → In (sent q j (Holds a.stamp e ns)) with_request.sent → has x ns ≡ false)))
            m.at p (sending (m.at p) o)
            (λ a l. ⊎_elim (λ u. inl u)
            (λ u. inr (
              u.0,
              (λ w i c j e ns n.
                  let same_wait : o ≡ w = some_same o w i in
                  absurd (fresh_ask f all (ap (λ (v : Waiting). v.body) same_wait ∙ c) j e ns (old_answer p j the_stamp e ns (subst (λ (v : Waiting). In (sent p j (Holds v.stamp e ns)) with_request.sent) (sym same_wait) n)))),
            ))
            (t.known p a l))
            (λ q _ a l. ⊎_elim (λ u. inl u) (λ u. inr (u.0, (λ w i c j e ns n. u.1 w i c j e ns (old_answer q j w.stamp e ns n)))) (t.known q a l));
        owed = put_rest (λ q (z : Peer). (fl : Txn) → z.owes ≡ Some fl → FloorKnown x parts sender_now fl × Means x parts with_request m.epoch q (Floor fl)) m.at p (sending (m.at p) o)
            (λ fl i. let v = t.owed p fl i in (floor_on fl v.0, v.1)) (λ q _ fl i. let v = t.owed q fl i in (floor_on fl v.0, v.1));
        floors = λ q j s fl i l. floor_on fl (floor_sent q j s fl d t i l);
      }

  pub sends_fine : MasterFine x parts h k m → ((s : Sent) → In s h.sent → SentFine x parts h s) → DueOf x parts h m p b → count_of b (m.at p) < last_count → MasterFine x parts with_request k sender_now
  sends_fine f all d r = record {
    forgets = sends_forgets f all d;
    life = f.life;
    low = f.low;
    jobs = jobs_on x parts h with_request later_request m.epoch m.begun m.jobs refl (λ _ i. i) f.jobs;
    peers = put_rest (PeerFine x parts with_request k m.epoch) m.at p (sending (m.at p) (record { stamp = the_stamp; body = b }))
        (record {
          low = sent_low (is_query b) (is_claim b) (m.at p).queries (m.at p).last (f.peers p).low.1 (f.peers p).low.0 r;
          waits = λ o i. let s : record { stamp = the_stamp; body = b } ≡ o = some_same _ _ i in
              subst (λ (v : Waiting). (v.stamp.life ≡ m.epoch) × Asked with_request p k v.stamp v.body) s (refl, in_right the_request h.sent (the_request ∷ []) (inl refl));
          counts = λ j s a i t. ⊎_elim (λ o. rises (is_query a) (is_query b) (is_claim b) (m.at p).queries (m.at p).last s.count ((f.peers p).counts j s a o t) (claim_body b))
              (λ o. let u = body_of p j s a o in
              subst (λ v. v.count ≤ count_of a (sending (m.at p) (record { stamp = the_stamp; body = b }))) (sym u.1)
              (subst (λ v. the_stamp.count ≤ count_of v (sending (m.at p) (record { stamp = the_stamp; body = b }))) (sym u.2)
              (reaches (is_query b) (is_claim b) (m.at p).queries (m.at p).last (claim_body b))))
              (request_either _ i);
        })
        (λ q n. record {
          low = (f.peers q).low;
          waits = λ o i. let t = (f.peers q).waits o i in (t.0, later_request.sent _ t.1);
          counts = λ j s a i t. ⊎_elim (λ o. (f.peers q).counts j s a o t) (λ o. absurd (n (body_of q j s a o).0)) (request_either _ i);
        });
  }
