-- A master hears a message: the core stays, and so do all facts about the master.
use Rattle.std.proofs.Common.{◌≡◌, ℕ, ◌<◌, ◌≤◌, ◌==◌, ◌||◌, not, Bool, true, false, cond, nat_lt, List, Option, Some, None, ◌⊎◌, inl, inr, ⊎_elim, refl, sym, ap, ◌∙◌, subst, arith, eqb-true}
use Rattle.fc_protocol.specs.Collections.{among, put}
use Rattle.fc_protocol.specs.Jobs.{by_code, discover, on_job, answered_by, answer}
use Rattle.fc_protocol.specs.MasterMachine.{last_count, unread_told, Waiting, Peer, Master, at_put, after_code, after_ask, unmatched, dropped, depose, matches, coded, is_lower, by_epoch, held_by, held_told, record_by, record_told, heard}
use Rattle.fc_protocol.specs.Messages.{Floor, Malformed, Beat, Unread, same, Stamp, same_stamp, Body, Claim, Sot, Mot, Eot, Trcomp, Abt, Ask, Ask_record, Plain, is_query, Message, Setup, Request, Reply, Holds, Tells, Other_up, Other_down, Sent, sent}
use Rattle.fc_protocol.specs.declared.answers.TxnEntry.{TxnEntry}
use Rattle.fc_protocol.specs.declared.states.Seen.{Seen}
use Rattle.fc_protocol.specs.declared.states.Seen.TheVariants.{Absent, Prepared, Completed, Aborted}
use Rattle.fc_base.specs.Ids.{Txn}
use Rattle.fc_protocol.proofs.Puts.{both_first, both_second, put_all}
use Rattle.fc_protocol.proofs.Basics.{In, AllOf, stamp_true, none_some}
use Rattle.fc_agreement.proofs.Moves.{Told, note, over}
use Rattle.fc_agreement.proofs.Facts.{Past, Closed, Ends, Forgotten, HoldsFine, Forgets, Asked, Lives, Unique, HeldFine, Means, RequestFine, ReplyFine, TellsFine, SentFine, MessageFine, JobsFine, PeerFine, MasterFine}
use Rattle.fc_agreement.proofs.Forgetting.{grows_same, grows_on, grows_code, tame_put, tame_code, tame_unmatched, tame_dropped, forgets_tame, forgets_held}
use Rattle.fc_agreement.proofs.Jobs.{by_code_fine, answer_fine, discover_fine}

pub cond_all : {A : Type 0} (P : A → Type 0) (b : Bool) (v w : A) → (b ≡ true → P v) → (b ≡ false → P w) → P (cond b v w)
cond_all P true v w f g = f refl
cond_all P false v w f g = g refl

not_above : (m n : ℕ) → nat_lt m n ≡ false → n ≤ m
not_above m n h = grind arith

or_first : (a b : Bool) → (a || b) ≡ false → a ≡ false
or_first true b e = cc
or_first false b e = refl

is_not : (b : Bool) → not b ≡ true → b ≡ false
is_not true e = cc
is_not false e = refl

is_zero : (n : ℕ) → (n == 0) ≡ true → n ≡ 0
is_zero n e = eqb-true n 0 e

module _ (x : Txn) (parts : List ℕ) (h : Past) (k : ℕ) where
  -- a peer that waits for nothing, with the same counts
  idle : (e p : ℕ) (y z : Peer) → z.waits ≡ None → z.last ≡ y.last → z.queries ≡ y.queries → PeerFine x parts h k e p y → PeerFine x parts h k e p z
  idle e p y z n l q f = record {
    low = (subst (λ v. v ≤ last_count) (sym l) f.low.0, subst (λ v. v ≤ last_count) (sym q) f.low.1);
    waits = λ o i. none_some o (sym n ∙ i);
    counts = λ j s b a i. subst (λ v. s.count ≤ cond (is_query b) v z.last) (sym q) (subst (λ v. s.count ≤ cond (is_query b) y.queries v) (sym l) (f.counts j s b a i));
  }

  -- a peer that waits as before
  marked : (e p : ℕ) (y z : Peer) → z.waits ≡ y.waits → z.last ≡ y.last → z.queries ≡ y.queries → PeerFine x parts h k e p y → PeerFine x parts h k e p z
  marked e p y z n l q f = record {
    low = (subst (λ v. v ≤ last_count) (sym l) f.low.0, subst (λ v. v ≤ last_count) (sym q) f.low.1);
    waits = λ o i. f.waits o (sym n ∙ i);
    counts = λ j s b a i. subst (λ v. s.count ≤ cond (is_query b) v z.last) (sym q) (subst (λ v. s.count ≤ cond (is_query b) y.queries v) (sym l) (f.counts j s b a i));
  }

  -- one peer and the jobs change
  with_peer : (m n : Master) (p : ℕ) (y : Peer) → Forgets x parts h n → n.epoch ≡ m.epoch → n.begun ≡ m.begun → ((q : ℕ) → n.at q ≡ put m.at p y q) → MasterFine x parts h k m → PeerFine x parts h k m.epoch p y → JobsFine x parts h m.epoch m.begun n.jobs → MasterFine x parts h k n
  with_peer m n p y t e b a f g i = record {
    life = subst (Lives h k) (sym e) f.life;
    low = subst (λ v. v ≤ last_count) (sym b) f.low;
    jobs = subst (λ v. JobsFine x parts h v n.begun n.jobs) (sym e) (subst (λ v. JobsFine x parts h m.epoch v n.jobs) (sym b) i);
    peers = λ q. subst (λ v. PeerFine x parts h k v q (n.at q)) (sym e) (subst (PeerFine x parts h k m.epoch q) (sym (a q)) (put_all (PeerFine x parts h k m.epoch) m.at p y g f.peers q));
    forgets = t;
  }

  unmatch : (m : Master) (p : ℕ) → MasterFine x parts h k m → MasterFine x parts h k (at_put m p (unmatched (m.at p)))
  unmatch m p f = with_peer m (at_put m p (unmatched (m.at p))) p (unmatched (m.at p)) (forgets_tame x parts h m (put m.at p (unmatched (m.at p))) m.jobs (grows_same x m.jobs) (tame_put m.at p (unmatched (m.at p)) (tame_unmatched (m.at p))) f.forgets) refl refl (λ _. refl) f (idle m.epoch p (m.at p) (unmatched (m.at p)) refl refl refl (f.peers p)) f.jobs

  deposes : (m : Master) (e : ℕ) → MasterFine x parts h k m → MasterFine x parts h k (depose m e)
  deposes m e f = let t = forgets_tame x parts h m (λ q. dropped (m.at q)) m.jobs (grows_same x m.jobs) (λ q. tame_dropped (m.at q)) f.forgets in record { life = f.life; low = f.low; jobs = f.jobs; peers = λ q. idle m.epoch q (m.at q) (dropped (m.at q)) refl refl refl (f.peers q); forgets = record { inside = t.inside; manned = t.manned; reached = t.reached; known = t.known; owed = t.owed; floors = t.floors } }

  -- what the response is to, and what that means
  record Matched (m : Master) (p : ℕ) (s : Stamp) (o : Waiting) : Type 0 where
    life : s.life ≡ m.epoch
    asked : Asked h p k s o.body
    means : Means x parts h m.epoch p o.body

  matched : (m : Master) (p : ℕ) (s : Stamp) (q : Bool) (o : Waiting) → MasterFine x parts h k m → ((t : Sent) → In t h.sent → SentFine x parts h t) → (m.at p).waits ≡ Some o → matches s q (Some o) ≡ true → Matched m p s o
  matched m p s q o f all w e =
      let i : s ≡ o.stamp = stamp_true s o.stamp (both_first (same_stamp s o.stamp) _ e) in
      let t = (f.peers p).waits o w in
      let r : RequestFine x parts h k p o.stamp o.body = all (sent p k (Request o.stamp o.body)) t.1 in
      record {
        life = ap (λ (v : Stamp). v.life) i ∙ t.0;
        asked = subst (λ v. Asked h p k v o.body) (sym i) t.1;
        means = subst (λ v. Means x parts h v p o.body) t.0 r.means;
      }

  query_kind : (q b : Bool) → cond q b (not b) ≡ true → b ≡ q
  query_kind true b e = e
  query_kind false b e = is_not b e

  kind : (s : Stamp) (q : Bool) (o : Waiting) → matches s q (Some o) ≡ true → is_query o.body ≡ q
  kind s q o e = query_kind q (is_query o.body) (both_second (same_stamp s o.stamp) _ e)

  replied : (m : Master) (p : ℕ) (s : Stamp) (code : ℕ) (w : Option Waiting) → MasterFine x parts h k m → ((t : Sent) → In t h.sent → SentFine x parts h t) → Unique h.sent → ReplyFine x parts h p s code → (m.at p).waits ≡ w → matches s false w ≡ true → MasterFine x parts h k (coded m p code w)
  replied m p s code None f all u r w e = f
  replied m p s code (Some o) f all u r w e =
      let t = matched m p s false o f all w e in
      let body : r.body ≡ o.body = u p r.controller k s r.body o.body r.asked t.asked (r.kind ∙ sym (kind s false o e)) in
      with_peer m (coded m p code (Some o)) p (after_code (m.at p) o.body code)
      (forgets_tame x parts h m (put m.at p (after_code (m.at p) o.body code)) (by_code m.epoch p o.body (code == 0) m.jobs) (grows_code x m.epoch p o.body (code == 0) m.jobs) (tame_put m.at p (after_code (m.at p) o.body code) (tame_code (m.at p) o.body code)) f.forgets) refl refl (λ _. refl) f
      (idle m.epoch p (m.at p) (after_code (m.at p) o.body code) refl refl refl (f.peers p))
      (by_code_fine x parts h m.epoch m.begun p o.body (code == 0) m.jobs f.jobs t.means ((λ z v. subst (λ n. Told h.core.notes (note n p Prepared)) t.life (r.prepared (is_zero code z) (body ∙ v))), (λ z v. subst (λ n. Ends x parts h n p Completed) t.life (r.completed (is_zero code z) (body ∙ v))), (λ z v. subst (λ n. Ends x parts h n p Aborted) t.life (r.aborted (is_zero code z) (body ∙ v)))))

  -- an answer of the epoch e counts only where e is the master's
  epoch_fine : (m n : Master) (p e : ℕ) → MasterFine x parts h k m → (e ≡ m.epoch → MasterFine x parts h k n) → MasterFine x parts h k (by_epoch m p e n)
  epoch_fine m n p e f g =
      cond_all (MasterFine x parts h k) (nat_lt m.epoch e) (depose m e) _ (λ _. deposes m e f)
      (λ a. cond_all (MasterFine x parts h k) (is_lower m p e) (at_put m p (unmatched (m.at p))) n (λ _. unmatch m p f)
      (λ b. let low : e ≤ m.epoch = not_above _ _ a in let high : m.epoch ≤ e = not_above _ _ (or_first (nat_lt e m.epoch) _ b) in g (omega arith)))

  held_fine_by : (m : Master) (p e : ℕ) (ns : List TxnEntry) (b : Body) → MasterFine x parts h k m → (e ≡ m.epoch → AllOf (HeldFine x parts h p m.epoch) ns) → (b ≡ Ask → e ≡ m.epoch → Forgets x parts h (record m { at = put m.at p (after_ask (m.at p)); jobs = discover ns m.jobs })) → MasterFine x parts h k (held_by m p e ns b)
  held_fine_by m p e ns Ask f a t =
      let n = record m { at = put m.at p (after_ask (m.at p)); jobs = discover ns m.jobs } in
      epoch_fine m n p e f (λ i. with_peer m n p (after_ask (m.at p)) (t refl i) refl refl (λ _. refl) f (idle m.epoch p (m.at p) (after_ask (m.at p)) refl refl refl (f.peers p)) (discover_fine x parts h m.epoch m.begun p ns m.jobs (a i) f.jobs))
  held_fine_by m p e ns (Ask_record y) f a t = unmatch m p f
  held_fine_by m p e ns (Claim w) f a t = f
  held_fine_by m p e ns (Sot y ps sc) f a t = f
  held_fine_by m p e ns (Mot y i) f a t = f
  held_fine_by m p e ns (Eot y) f a t = f
  held_fine_by m p e ns (Trcomp y) f a t = f
  held_fine_by m p e ns (Abt y) f a t = f
  held_fine_by m p e ns Plain f a t = f
  held_fine_by m p e ns (Floor g) f a t = f
  held_fine_by m p e ns Malformed f a t = f

  held_fine : (m : Master) (p : ℕ) (s : Stamp) (e : ℕ) (ns : List TxnEntry) (w : Option Waiting) → MasterFine x parts h k m → HoldsFine x parts h p s e ns → In (sent p k (Holds s e ns)) h.sent → (m.at p).waits ≡ w → matches s true w ≡ true → MasterFine x parts h k (held_told m p e ns w)
  held_fine m p s e ns None f g i u c = f
  held_fine m p s e ns (Some o) f g i u c =
      let t : s ≡ o.stamp = stamp_true s o.stamp (both_first (same_stamp s o.stamp) _ c) in
      held_fine_by m p e ns o.body f (λ v. subst (λ n. AllOf (HeldFine x parts h p n) ns) v g.each)
      (λ b v. forgets_held x parts h m p o k e ns u b (subst (λ z. In (sent p k (Holds z e ns)) h.sent) t i) (subst (λ n. AllOf (HeldFine x parts h p n) ns) v g.each)
      (λ n z. subst (λ d. Closed x parts h d p) v (g.closed (subst (λ d. x.epoch < d) (sym v) n) z)) (subst (λ d. d ≤ (h.core.at p).epoch) v g.reached) f.jobs f.forgets)

  record_fine_by : (m : Master) (p : ℕ) (z : Txn) (e : ℕ) (t : Seen) (b : Body) → MasterFine x parts h k m → Means x parts h m.epoch p b → (b ≡ Ask_record x → (Told h.core.notes (note e p t) ⊎ ((t ≡ Absent) × Forgotten x parts h e)) × (over t ≡ true → Ends x parts h e p t)) → MasterFine x parts h k (record_by m p z e t b)
  record_fine_by m p z e t (Ask_record y) f n v =
      let r = record m { at = put m.at p (dropped (m.at p)); jobs = on_job y (answered_by p (answer e t)) m.jobs } in
      cond_all (MasterFine x parts h k) (same y z) _ (at_put m p (unmatched (m.at p))) (λ _. epoch_fine m r p e f (λ same_epoch.
      with_peer m r p (dropped (m.at p))
      (forgets_tame x parts h m (put m.at p (dropped (m.at p))) (on_job y (answered_by p (answer e t)) m.jobs) (grows_on x y (answered_by p (answer e t)) m.jobs (λ _. refl) (λ _. refl)) (tame_put m.at p (dropped (m.at p)) (tame_dropped (m.at p))) f.forgets) refl refl (λ _. refl) f (idle m.epoch p (m.at p) (dropped (m.at p)) refl refl refl (f.peers p))
      (answer_fine x parts h m.epoch m.begun m.jobs y p (answer e t) f.jobs (λ i.
      let told = v (ap Ask_record i) in
      let above : x.epoch < m.epoch = n i in
      record {
        above = λ _. ⊎_elim (λ u. inl u) (λ u. inr (u.0, subst (Forgotten x parts h) same_epoch u.1)) told.0;
        prepared = λ u. ⊎_elim (λ v. v) (λ v. let w : Absent ≡ Prepared = sym v.0 ∙ u in cc) told.0;
        own = λ j. absurd (omega arith);
        ended = λ _ o. let v = told.1 o in (v.0, subst (λ d. Closed x parts h d p) same_epoch v.1);
      })))) (λ _. unmatch m p f)
  record_fine_by m p z e t Ask f n v = unmatch m p f
  record_fine_by m p z e t (Claim w) f n v = f
  record_fine_by m p z e t (Sot y ps sc) f n v = f
  record_fine_by m p z e t (Mot y i) f n v = f
  record_fine_by m p z e t (Eot y) f n v = f
  record_fine_by m p z e t (Trcomp y) f n v = f
  record_fine_by m p z e t (Abt y) f n v = f
  record_fine_by m p z e t Plain f n v = f
  record_fine_by m p z e t (Floor g) f n v = f
  record_fine_by m p z e t Malformed f n v = f

  record_fine : (m : Master) (p : ℕ) (s : Stamp) (z : Txn) (e : ℕ) (t : Seen) (w : Option Waiting) → MasterFine x parts h k m → ((t : Sent) → In t h.sent → SentFine x parts h t) → Unique h.sent → TellsFine x parts h p s e t → (m.at p).waits ≡ w → matches s true w ≡ true
      → MasterFine x parts h k (record_told m p z e t w)
  record_fine m p s z e t None f all u r w c = f
  record_fine m p s z e t (Some o) f all u r w c =
      let v = matched m p s true o f all w c in
      let body : r.body ≡ o.body = u p r.controller k s r.body o.body r.asked v.asked (r.kind ∙ sym (kind s true o c)) in
      record_fine_by m p z e t o.body f v.means (λ i. (r.told (body ∙ i), r.ended (body ∙ i)))

  unread_fine : (m : Master) (p : ℕ) (e : Option ℕ) → MasterFine x parts h k m → MasterFine x parts h k (unread_told m p e)
  unread_fine m p None f = unmatch m p f
  unread_fine m p (Some e) f = epoch_fine m (at_put m p (unmatched (m.at p))) p e f (λ _. unmatch m p f)

  pub hears_fine : (m : Master) (p : ℕ) (t : Message) → MasterFine x parts h k m → ((t : Sent) → In t h.sent → SentFine x parts h t) → Unique h.sent → MessageFine x parts h p k t → In (sent p k t) h.sent → MasterFine x parts h k (heard m p t)
  hears_fine m p Setup f all u g i =
      let n = at_put m p (record (m.at p) { met = true }) in
      cond_all (MasterFine x parts h k) (among p m.elements) n m (λ _. with_peer m n p (record (m.at p) { met = true }) (forgets_tame x parts h m (put m.at p (record (m.at p) { met = true })) m.jobs (grows_same x m.jobs) (tame_put m.at p (record (m.at p) { met = true }) (record { answered = refl; waits = λ o e. e; owes = λ o e. e })) f.forgets) refl refl (λ _. refl) f (marked m.epoch p (m.at p) (record (m.at p) { met = true }) refl refl refl (f.peers p)) f.jobs) (λ _. f)
  hears_fine m p Beat f all u g i = f
  hears_fine m p (Unread s e) f all u g i = cond_all (MasterFine x parts h k) (matches s true (m.at p).waits) (unread_told m p e) m (λ _. unread_fine m p e f) (λ _. f)
  hears_fine m p (Request s b) f all u g i = f
  hears_fine m p (Reply s code) f all u g i = cond_all (MasterFine x parts h k) (matches s false (m.at p).waits) _ m (λ e. replied m p s code (m.at p).waits f all u g refl e) (λ _. f)
  hears_fine m p (Holds s e ns) f all u g i =
      cond_all (MasterFine x parts h k) (matches s true (m.at p).waits) (held_told m p e ns (m.at p).waits) m (λ c. held_fine m p s e ns (m.at p).waits f g i refl c) (λ _. f)
  hears_fine m p (Tells s z e t) f all u g i =
      cond_all (MasterFine x parts h k) (matches s true (m.at p).waits) (record_told m p z e t (m.at p).waits) m (λ c. record_fine m p s z e t (m.at p).waits f all u g refl c) (λ _. f)
  hears_fine m p Other_up f all u g i = f
  hears_fine m p Other_down f all u g i = f
