-- Each step of the world is moves of the core.
use Rattle.std.proofs.Common.{◌≡◌, ℕ, ◌+◌, ◌*◌, ◌%◌, ◌^◌, zero, suc, ◌<◌, ◌≤◌, ◌==◌, ◌&&◌, ◌||◌, not, Bool, true, false, cond, nat_lt, List, [], ◌∷◌, ◌++◌, append_assoc, map, Option, Some, None, is_none, is_some, ◌⊎◌, inl, inr, ⊎_elim, refl, sym, ap, ◌∙◌, subst, arith, eqb-true, eq-eqb}
use Rattle.fc_protocol.specs.Collections.{among, put, or_next}
use Rattle.fc_agreement.specs.Core.{Core, start}
use Rattle.fc_protocol.specs.ElementMachine.{Circumstance, resumed, hears}
use Rattle.fc_protocol.specs.Floors.{is_under}
use Rattle.fc_protocol.specs.Jobs.{Job, find, decided_job, new_job, given_up}
use Rattle.fc_protocol.specs.MasterMachine.{last_count, count_of, Refusal, begin_refusal, plain_refusal, give_up_refusal, forget_refusal, forgets, next_txn, Waiting, Peer, Master, new_master, decide_all, due, sends_one, sends_all, heard, again, at_once, finish, begins, gives_up}
use Rattle.fc_protocol.specs.Messages.{Floor, Beat, Unread, same, Stamp, Body, Message, Setup, Request, Reply, Holds, Tells, Other_up, Other_down, Plain, Sent, sent}
use Rattle.fc_protocol.specs.WorldSteps.{Open, Give_up, Network, controller_of, World, Begun, Step, Deliver, Moment, Start, Stop, Begin, Change, Resend, Forget, forget_by, forget_at, Restart, restarts, murmurs, sender, numbered, is_round, may_start, begin_by, give_up_by, change_by, change_at, first_world, says, with_master, with_begun, speaks, to_master, to_element, delivered, delivers, starts, begin_at, give_up_at, resend_at, happens}
use Rattle.fc_protocol.specs.Scopes.{Scope}
use Rattle.fc_protocol.specs.declared.answers.TxnEntry.{TxnEntry}
use Rattle.fc_protocol.specs.declared.states.Decision.{Decision}
use Rattle.fc_protocol.specs.declared.states.Decision.TheVariants.{Complete, Abort}
use Rattle.fc_protocol.specs.declared.states.Seen.TheVariants.{Absent}
use Rattle.fc_base.specs.Ids.{Txn}
use Rattle.fc_protocol.proofs.Puts.{put_here, both_first, both_second}
use Rattle.fc_protocol.proofs.Basics.{In, in_left, in_either, in_get, cond_false, all_in, all_on, both, same_true, same_of, put_other, put_rest, none_some, some_same}
use Rattle.fc_agreement.proofs.Moves.{note, Leads, leads_then, reached_on}
use Rattle.fc_agreement.proofs.Facts.{OfX, Means, FloorKnown, Forgets, Settling, forgets_on, Past, past, Lives, Unique, Born, Named, SentFine, RequestFine, MessageFine, JobFine, PeerFine, ElFine, MasterFine, LifeFine, Tied, Later, el_on, job_on, lives_on, Marks, done}
use Rattle.fc_agreement.proofs.Hearing.{Low, went}
use Rattle.fc_agreement.proofs.Telling.{life_on, sent_on, later_more, element_tied}
use Rattle.fc_agreement.proofs.Jobs.{found_in, find_append, jobs_add}
use Rattle.fc_agreement.proofs.Forgetting.{Grows, some_is, tame_same, forgets_tame}
use Rattle.fc_protocol.proofs.Order.{under_of}
use Rattle.fc_agreement.proofs.Hears.{cond_all, hears_fine}
use Rattle.fc_agreement.proofs.Deciding.{Remembered, decide_grows, give_up_grows, Decided, decide_fine, give_up_fine, later_ruled}
use Rattle.fc_agreement.proofs.Calls.{begin_low, plain_low, MayForget, may_forget, settled_part}
use Rattle.fc_agreement.proofs.Sending.{DueOf, due_means, the_request, with_request, later_request, request_either, request_fine, unique_request, sends_fine}

append_none : {A : Type 0} (xs : List A) → xs ++ [] ≡ xs
append_none [] = refl
append_none (x ∷ xs) = ap (λ ys. x ∷ ys) (append_none xs)

-- two lives with one epoch are of one controller
pub same_life : (h g : Past) (j k e : ℕ) → Lives h j e → Lives g k e → j ≡ k
same_life h g j k e a b =
    let r = a.0 in let s = b.0 in
    let i : e ≡ 256 * r + j = a.2 in let n : e ≡ 256 * s + k = b.2 in let u : j < 256 = a.3 in let v : k < 256 = b.3 in omega arith

in_among : (r : ℕ) (rs : List ℕ) → In r rs → among r rs ≡ true
in_among r [] i = absurd i
in_among r (s ∷ rs) i = ⊎_elim (λ e. ap (λ b. b || among r rs) (eq-eqb r s e)) (λ n. or_true (r == s) _ (in_among r rs n)) i
  where
    or_true : (a b : Bool) → b ≡ true → (a || b) ≡ true
    or_true true b e = refl
    or_true false b e = e

pub not_false : (b : Bool) → not b ≡ true → b ≡ false
not_false true e = cc
not_false false e = refl

none_or : {A : Type 0} (o : Option A) → ((a : A) → o ≡ Some a → ⊥) → o ≡ None
none_or None f = refl
none_or (Some a) f = absurd (f a refl)

pub below : (m n : ℕ) → nat_lt m n ≡ true → m < n
below m n h = grind arith

-- a round that k has not used makes a new epoch
pub fresh_life : (w : World) (c : Core) (k r j : ℕ) → k < 256 → among r (w.used k) ≡ false → Lives (past w c) j (256 * r + k) → ⊥
fresh_life w c k r j small new v =
    let s = v.0 in
    let same : 256 * r + k ≡ 256 * s + j = v.2 in
    let low : j < 256 = v.3 in
    let one : j ≡ k = omega arith in
    let two : s ≡ r = omega arith in
    let here : In r (w.used k) = subst (λ n. In r (w.used n)) one (subst (λ n. In n (w.used j)) two v.1) in
    let no : true ≡ false = sym (in_among r (w.used k) here) ∙ new in
    cc

-- a controller that has a name has a number below 256
named_low : (ks : List ℕ) (c : ℕ) → is_some (controller_of ks c) ≡ true → c < 256
named_low [] c e = cc
named_low (k ∷ ks) c e = ⊎_elim (λ u. let v : k % 256 ≡ c = eqb-true (k % 256) c u in omega arith) (λ u. named_low ks c (sym (ap is_some (cond_false (k % 256 == c) (Some k) (controller_of ks c) u)) ∙ e)) (both (k % 256 == c))

pub may_start_is : (w : World) (k r : ℕ) → may_start w k r ≡ true → (k < 256) × ((r < 2 ^ 24) × (0 < r)) × (among r (w.used k) ≡ false)
may_start_is w k r e =
    let named = both_first (is_some (controller_of w.network.controllers k) && is_round r) _ e in
    let free = both_second (is_some (controller_of w.network.controllers k) && is_round r) _ e in
    (named_low w.network.controllers k (both_first (is_some (controller_of w.network.controllers k)) _ named), (below _ _ (both_second (nat_lt 0 r) _ (both_second (is_some (controller_of w.network.controllers k)) _ named)), below _ _ (both_first (nat_lt 0 r) _ (both_second (is_some (controller_of w.network.controllers k)) _ named))), not_false _ (both_second (is_none (w.masters k)) _ free))

in_numbered : (s : Sent) (ss : List Sent) (i : ℕ) → numbered ss i ≡ Some s → In s ss
in_numbered s ss zero e = cc
in_numbered s ss (suc i) e = in_get s ss i e

module _ (x : Txn) (parts : List ℕ) where
  pub master_is : (h : Past) (k : ℕ) (o : Option Master) (m : Master) → o ≡ Some m → LifeFine x parts h k o → MasterFine x parts h k m
  master_is h k o m e f = subst (LifeFine x parts h k) e f

  master_of : (w : World) (c : Core) (k : ℕ) (m : Master) (ss : List Sent) → Tied x parts (with_master w k m ss) c → MasterFine x parts (past (with_master w k m ss) c) k m
  master_of w c k m ss t = subst (LifeFine x parts (past (with_master w k m ss) c) k) (put_here w.masters k (Some m)) (t.masters k)

  other_of : (w : World) (c : Core) (k : ℕ) (m : Master) (ss : List Sent) → Tied x parts (with_master w k m ss) c → (j : ℕ) → (j ≡ k → ⊥) → LifeFine x parts (past (with_master w k m ss) c) j (w.masters j)
  other_of w c k m ss t j n = subst (LifeFine x parts (past (with_master w k m ss) c) j) (put_other w.masters k (Some m) j n) (t.masters j)

  enter : (w : World) (c : Core) (k : ℕ) (m : Master) → Tied x parts w c → w.masters k ≡ Some m → Tied x parts (with_master w k m w.sent) c
  enter w c k m t e = record {
    reached = t.reached;
    inside = t.inside;
    elements = t.elements;
    masters = put_rest (LifeFine x parts (past w c)) w.masters k (Some m) (master_is (past w c) k (w.masters k) m e (t.masters k)) (λ j _. t.masters j);
    sent = t.sent;
    unique = t.unique;
    decided = t.decided;
    owner = t.owner;
    marks = t.marks;
    good = t.good;
  }

  -- the master alone changes
  swap : (w : World) (c : Core) (k : ℕ) (m n : Master) (ss : List Sent) → Tied x parts (with_master w k m ss) c → MasterFine x parts (past (with_master w k m ss) c) k n → Tied x parts (with_master w k n ss) c
  swap w c k m n ss t f = record {
    reached = t.reached;
    inside = t.inside;
    elements = t.elements;
    masters = put_rest (LifeFine x parts (past (with_master w k m ss) c)) w.masters k (Some n) f (other_of w c k m ss t);
    sent = t.sent;
    unique = t.unique;
    decided = t.decided;
    owner = t.owner;
    marks = t.marks;
    good = t.good;
  }

  -- no other master has this one's epoch
  other_life : (h : Past) (j k : ℕ) (v m : Master) → MasterFine x parts h j v → MasterFine x parts h k m → (j ≡ k → ⊥) → v.epoch ≡ m.epoch → ⊥
  other_life h j k v m f g n e = n (same_life h h j k m.epoch (subst (Lives h j) e f.life) g.life)

  -- the master's jobs change, with the core
  decided_tied : (w : World) (c : Core) (k : ℕ) (m : Master) (ss : List Sent) (js : List Job) → Grows x m.jobs js → Tied x parts (with_master w k m ss) c → (d : Decided x parts (past (with_master w k m ss) c) m.epoch m.begun js) → Tied x parts (with_master w k (record m { jobs = js }) ss) d.core
  decided_tied w c k m ss js grows t d =
      let h = past (with_master w k m ss) c in
      let g = past (with_master w k (record m { jobs = js }) ss) d.core in
      let l = later_ruled x parts h d.core m.epoch d.ruled in
      let f = master_of w c k m ss t in
      record {
        reached = reached_on x.epoch parts c d.core d.ruled.leads t.reached;
        inside = t.inside;
        elements = λ q. el_on x parts h g l q (w.at q) (c.at q) (d.core.at q) (d.ruled.at q) (t.elements q);
        masters = put_rest (LifeFine x parts g) w.masters k (Some (record m { jobs = js }))
            (record {
              life = f.life;
              low = f.low;
              jobs = d.jobs;
              peers = λ q. record { low = (f.peers q).low; waits = (f.peers q).waits; counts = (f.peers q).counts };
              forgets = forgets_on x parts h g l (record m { jobs = js }) ((λ p i s b a _. a), (λ p i s e ns a. inl a)) (forgets_tame x parts h m m.at js grows (λ q. tame_same (m.at q)) f.forgets);
            })
            (λ j n. life_on x parts h g l j (w.masters j) (λ v e. record {
              decided = d.ruled.others v.epoch (other_life h j k v m (master_is h j (w.masters j) v e (other_of w c k m ss t j n)) f n);
              asked = λ p i s b a _. a;
              born = λ _ b. b;
              silent = λ p i s e ns a. inl a;
            }) (other_of w c k m ss t j n));
        sent = λ s i. sent_on x parts h g l s (t.sent s i);
        unique = t.unique;
        decided = λ e r i. ⊎_elim (λ b. (k, subst (Lives h k) (sym (eqb-true e m.epoch b)) f.life))
            (λ b. t.decided e r (sym (d.ruled.others e (λ s. let z : true ≡ false = sym (eq-eqb e m.epoch s) ∙ b in cc)) ∙ i)) (both (e == m.epoch));
        owner = t.owner;
        marks = λ q. subst (Marks x parts w.facts q) (sym (d.ruled.at q)) (t.marks q);
        good = t.good;
      }

  -- one message that is due
  send_tied : (w : World) (c : Core) (k : ℕ) (m : Master) (ss : List Sent) (p : ℕ) (o : Option Body) → Tied x parts (with_master w k m ss) c → ((b : Body) → o ≡ Some b → DueOf x parts (past (with_master w k m ss) c) m p b × (count_of b (m.at p) < last_count)) → Tied x parts (with_master w k (sends_one k m p o).master (ss ++ (sends_one k m p o).says)) c
  send_tied w c k m ss p None t e = subst (λ v. Tied x parts (with_master w k m v) c) (sym (append_none ss)) t
  send_tied w c k m ss p (Some b) t e =
      let h = past (with_master w k m ss) c in
      let g = with_request x parts h k m p b in
      let f = master_of w c k m ss t in
      let d = (e b refl).0 in
      let r = (e b refl).1 in
      let l = later_request x parts h k m p b in
      record {
        reached = t.reached;
        inside = t.inside;
        elements = λ q. el_on x parts h g l q (w.at q) (c.at q) (c.at q) refl (t.elements q);
        masters = put_rest (LifeFine x parts g) w.masters k (Some (sends_one k m p (Some b)).master) (sends_fine x parts h k m p b f t.sent d r)
            (λ j n. life_on x parts h g l j (w.masters j) (λ v i. record {
              decided = refl;
              asked = λ q r s a z y. ⊎_elim (λ old. old) (λ new.
                  let same : s.life ≡ m.epoch = life_in q r s a b (m.epoch) new in
                  absurd (other_life h j k v m (master_is h j (w.masters j) v i (other_of w c k m ss t j n)) f n (sym y ∙ same)))
                  (request_either x parts h k m p b _ z);
              born = λ _ u. u;
              silent = λ q r s e ns z. inl (⊎_elim (λ old. old) (λ new. absurd (no_answer q r s e ns new)) (request_either x parts h k m p b _ z));
            }) (other_of w c k m ss t j n));
        sent = λ s i. ⊎_elim (λ old. sent_on x parts h g l s (t.sent s old))
            (λ new. sent_on x parts h g l s (subst (SentFine x parts h) (sym new) (request_fine x parts h k m p b f d r))) (request_either x parts h k m p b s i);
        unique = unique_request x parts h k m p b f t.sent d t.unique;
        decided = t.decided;
        owner = t.owner;
        marks = t.marks;
        good = t.good;
      }
    where
      no_answer : (q r : ℕ) (s : Stamp) (e : ℕ) (ns : List TxnEntry) → sent q r (Holds s e ns) ≡ the_request x parts (past (with_master w k m ss) c) k m p b → ⊥
      no_answer q r s e ns i =
          let u : Holds s e ns ≡ (the_request x parts (past (with_master w k m ss) c) k m p b).message = ap (λ (v : Sent). v.message) i in cc

      life_in : (q r : ℕ) (s : Stamp) (a b : Body) (e : ℕ) → sent q r (Request s a) ≡ the_request x parts (past (with_master w k m ss) c) k m p b → s.life ≡ m.epoch
      life_in q r s a b e i =
          let u : Request s a ≡ (the_request x parts (past (with_master w k m ss) c) k m p b).message = ap (λ (v : Sent). v.message) i in cc

  send_all_tied : (w : World) (c : Core) (k : ℕ) (es : List ℕ) (m : Master) (ss : List Sent) → Tied x parts (with_master w k m ss) c → Tied x parts (with_master w k (sends_all k es m).master (ss ++ (sends_all k es m).says)) c
  send_all_tied w c k [] m ss t = subst (λ v. Tied x parts (with_master w k m v) c) (sym (append_none ss)) t
  send_all_tied w c k (p ∷ ps) m ss t =
      let r = sends_one k m p (due m p) in
      let u = send_tied w c k m ss p (due m p) t (λ b e. due_means x parts (past (with_master w k m ss) c) m p k b (master_of w c k m ss t) e) in
      let v = send_all_tied w c k ps r.master (ss ++ r.says) u in
      subst (λ z. Tied x parts (with_master w k (sends_all k ps r.master).master z) c) (append_assoc ss r.says (sends_all k ps r.master).says) v

  -- moves lead from c to a core of this world
  abbrev pub Goes : Core → World → Type 0
  Goes c w = (d : Core) × Leads x.epoch parts c d × Tied x parts w d

  stays : (w : World) (c : Core) → Tied x parts w c → Goes c w
  stays w c t = (c, ([], refl), t)

  -- no life decides by what is forgotten: its own floor came after its decision, and an older life's floor means that no element told it of x
  remembers : (w : World) (c : Core) (k : ℕ) (m : Master) (ss : List Sent) → Tied x parts (with_master w k m ss) c → (j : Job) → find x m.jobs ≡ Some j → OfX x parts (past (with_master w k m ss) c) m.epoch j → j.decision ≡ None → Remembered x parts (past (with_master w k m ss) c) m.epoch
  remembers w c k m ss t j e o n p a u =
      let h = past (with_master w k m ss) c in
      let f = u.0 in
      let s = u.3 in
      let r : RequestFine x parts h u.2 u.1 s (Floor f) = t.sent (sent u.1 u.2 (Request s (Floor f))) u.4 in
      let at_life : f.epoch ≡ s.life = r.means.0 in
      ⊎_elim (λ same.
      let v = (master_of w c k m ss t).forgets.floors u.1 u.2 s f u.4 (eqb-true s.life m.epoch same) in
      let d = (v.1 u.6).1 j e p a in
      let z : false ≡ true = sym (ap is_some n) ∙ d in
      cc)
      (λ other.
      let low : s.life ≤ m.epoch = u.5 in
      let apart = λ (i : s.life ≡ m.epoch). let z : true ≡ false = sym (eq-eqb s.life m.epoch i) ∙ other in absurd {A = ⊥} cc in
      let under : x.epoch ≤ f.epoch = ⊎_elim (λ i. less_le x.epoch f.epoch i) (λ i. let q : x.epoch ≡ f.epoch = i.0 in omega arith) (under_of x f u.6) in
      let less : s.life < m.epoch = strict s.life m.epoch low apart in
      let own : j.mine ≡ false = ⊎_elim (λ i. let q : m.epoch ≡ x.epoch = o.mine i in absurd (omega arith)) (λ i. i) (both j.mine) in
      let v = o.found own in
      let z = (r.means.1 u.6 o.born.3 v.0 v.1.3).unheld v.1.1.0 (note m.epoch v.0 v.1.0) v.1.1.1 (refl {a = v.0}) less in
      let clash : true ≡ false = sym v.1.2 ∙ z in
      cc) (both (s.life == m.epoch))
    where
      less_le : (a b : ℕ) → a < b → a ≤ b
      less_le a b l = omega arith

      not_same : (a b : ℕ) → a ≤ b → (a == b) ≡ false → a < b
      not_same a b l i = grind arith

      strict : (a b : ℕ) → a ≤ b → (a ≡ b → ⊥) → a < b
      strict a b l n = ⊎_elim (λ i. absurd (n (eqb-true a b i))) (λ i. not_same a b l i) (both (a == b))

  finish_tied : (w : World) (c : Core) (k : ℕ) (m : Master) (ss : List Sent) → Tied x parts (with_master w k m ss) c → Goes c (with_master w k (finish k m).master (ss ++ (finish k m).says))
  finish_tied w c k m ss t =
      let f = master_of w c k m ss t in
      let d = decide_fine x parts (past (with_master w k m ss) c) m.epoch m.begun m.jobs f.jobs (remembers w c k m ss t) in
      (d.core, d.ruled.leads, send_all_tied w d.core k m.elements (decide_all m) ss (decided_tied w c k m ss (map (λ j. decided_job m.epoch j.decision j) m.jobs) (decide_grows x parts m.epoch m.jobs) t d))

  -- messages that are no new requests
  says_tied : (w : World) (c : Core) (xs : List Sent) → Tied x parts w c → ((s : Sent) → In s xs → SentFine x parts (past (says w xs) c) s) → Unique (w.sent ++ xs) → ((p k : ℕ) (s : Stamp) (b : Body) → In (sent p k (Request s b)) xs → In (sent p k (Request s b)) w.sent) → ((p k : ℕ) (s : Stamp) (e : ℕ) (ns : List TxnEntry) → In (sent p k (Holds s e ns)) xs → In (sent p k (Holds s e ns)) w.sent) → Tied x parts (says w xs) c
  says_tied w c xs t f u o a =
      let h = past w c in
      let g = past (says w xs) c in
      let l = later_more x parts h xs in
      record {
        reached = t.reached;
        inside = t.inside;
        elements = λ q. el_on x parts h g l q (w.at q) (c.at q) (c.at q) refl (t.elements q);
        masters = λ j. life_on x parts h g l j (w.masters j) (λ v _. record { decided = refl; asked = λ p k s b a _. ⊎_elim (λ i. i) (λ i. o p k s b i) (in_either _ w.sent xs a); born = λ _ b. b; silent = λ p k s e ns i. inl (⊎_elim (λ n. n) (λ n. a p k s e ns n) (in_either _ w.sent xs i)) }) (t.masters j);
        sent = λ s i. ⊎_elim (λ n. sent_on x parts h g l s (t.sent s n)) (λ n. f s n) (in_either s w.sent xs i);
        unique = u;
        decided = t.decided;
        owner = t.owner;
        marks = t.marks;
        good = t.good;
      }

  -- messages that were sent before, or are no business of a transaction
  abbrev Noise : Sent → Type 0
  Noise s = (s.message ≡ Setup) ⊎ ((s.message ≡ Other_up) ⊎ (s.message ≡ Other_down))

  noise_fine : (h : Past) (s : Sent) → Noise s → SentFine x parts h s
  noise_fine h s n = ⊎_elim (λ e. subst (MessageFine x parts h s.element s.controller) (sym e) tt) (λ r. ⊎_elim (λ e. subst (MessageFine x parts h s.element s.controller) (sym e) tt) (λ e. subst (MessageFine x parts h s.element s.controller) (sym e) tt) r) n

  no_request : (p k : ℕ) (s : Stamp) (b : Body) → Noise (sent p k (Request s b)) → ⊥
  no_request p k s b n = ⊎_elim (λ e. cc) (λ r. ⊎_elim (λ e. cc) (λ e. cc) r) n

  no_list : (p k : ℕ) (s : Stamp) (e : ℕ) (ns : List TxnEntry) → Noise (sent p k (Holds s e ns)) → ⊥
  no_list p k s e ns n = ⊎_elim (λ e. cc) (λ r. ⊎_elim (λ e. cc) (λ e. cc) r) n

  repeat_tied : (w : World) (c : Core) (xs : List Sent) → Tied x parts w c → ((s : Sent) → In s xs → In s w.sent ⊎ Noise s) → Tied x parts (says w xs) c
  repeat_tied w c xs t o =
      let old = λ (p k : ℕ) (s : Stamp) (b : Body) (i : In (sent p k (Request s b)) xs). ⊎_elim (λ n. n) (λ n. absurd (no_request p k s b n)) (o _ i) in
      let back = λ (p k : ℕ) (s : Stamp) (b : Body) (i : In (sent p k (Request s b)) (w.sent ++ xs)). ⊎_elim (λ n. n) (λ n. old p k s b n) (in_either _ w.sent xs i) in
      says_tied w c xs t (λ s i. ⊎_elim (λ n. sent_on x parts (past w c) (past (says w xs) c) (later_more x parts (past w c) xs) s (t.sent s n)) (λ n. noise_fine (past (says w xs) c) s n) (o s i))
      (λ p j k s a b i n e. t.unique p j k s a b (back p j s a i) (back p k s b n) e) old (λ p k s e ns i. ⊎_elim (λ n. n) (λ n. absurd (no_list p k s e ns n)) (o _ i))

  again_old : (h : Past) (k p e : ℕ) (y : Peer) (o : Option Waiting) → y.waits ≡ o → PeerFine x parts h k e p y → (s : Sent) → In s (again k p o) → In s h.sent
  again_old h k p e y None i f s n = absurd n
  again_old h k p e y (Some o) i f s n = ⊎_elim (λ u. subst (λ v. In v h.sent) (sym u) (f.waits o i).1) (λ u. absurd u) n

  at_once_old : (h : Past) (k p : ℕ) (m : Master) (t : Message) → MasterFine x parts h k m → (s : Sent) → In s (at_once k m p t) → In s h.sent ⊎ Noise s
  at_once_old h k p m Setup f s n =
      ⊎_elim (λ e. inr (inr (inr (ap (λ (v : Sent). v.message) e))))
      (λ i. inl (cond_all (λ ss. In s ss → In s h.sent) (among p m.elements) (again k p (m.at p).waits) [] (λ _. again_old h k p m.epoch (m.at p) (m.at p).waits refl (f.peers p) s) (λ _ v. absurd v) i)) n
  at_once_old h k p m Beat f s n = ⊎_elim (λ e. inr (inr (inr (ap (λ (v : Sent). v.message) e)))) (λ i. absurd i) n
  at_once_old h k p m (Unread r e) f s n = absurd n
  at_once_old h k p m (Request r b) f s n = absurd n
  at_once_old h k p m (Reply r b) f s n = absurd n
  at_once_old h k p m (Holds r e b) f s n = absurd n
  at_once_old h k p m (Tells r z e b) f s n = absurd n
  at_once_old h k p m Other_up f s n = absurd n
  at_once_old h k p m Other_down f s n = absurd n

  murmurs_noise : (p : ℕ) (ks : List ℕ) (s : Sent) → In s (murmurs p ks) → Noise s
  murmurs_noise p [] s i = absurd i
  murmurs_noise p (k ∷ ks) s i = ⊎_elim (λ e. inr (inl (ap (λ (v : Sent). v.message) e))) (λ n. murmurs_noise p ks s n) i

  murmurs_tied : (w : World) (c : Core) (p : ℕ) (ks : List ℕ) → Tied x parts w c → Tied x parts (says w (murmurs p ks)) c
  murmurs_tied w c p ks t = repeat_tied w c (murmurs p ks) t (λ s i. inr (murmurs_noise p ks s i))

  speak_tied : (w : World) (c : Core) (k : ℕ) (m : Master) (first : List Sent) → Tied x parts (with_master w k m (w.sent ++ first)) c → Goes c (speaks w k first (finish k m))
  speak_tied w c k m first t = finish_tied w c k m (w.sent ++ first) t

  to_master_tied : (w : World) (c : Core) (p k : ℕ) (i : Message) (o : Option Master) → Tied x parts w c → w.masters k ≡ o → In (sent p k i) w.sent → Goes c (to_master w p k i o)
  to_master_tied w c p k i None t e n = stays w c t
  to_master_tied w c p k i (Some m) t e n =
      let first = at_once k m p i in
      let a = enter w c k m t e in
      let b = repeat_tied (with_master w k m w.sent) c first a (at_once_old (past w c) k p m i (master_of w c k m w.sent a)) in
      let h = past (with_master w k m (w.sent ++ first)) c in
      let f = hears_fine x parts h k m p i (master_of w c k m (w.sent ++ first) b) b.sent b.unique (b.sent (sent p k i) (in_left _ w.sent first n)) (in_left _ w.sent first n) in
      speak_tied w c k (heard m p i) first (swap w c k m (heard m p i) (w.sent ++ first) b f)

  pub request_low : (h : Past) (k p : ℕ) (s : Stamp) (b : Body) → RequestFine x parts h k p s b → Low s
  request_low h k p s b f = let l = f.life in let e : s.life ≡ 256 * l.0 + k = l.2 in let i : k < 256 = l.3 in let j : l.0 < 2 ^ 24 = l.4 in (omega arith, f.low)

  delivered_tied : (w : World) (c : Core) (ok : Circumstance) (p k : ℕ) (i : Message) → Tied x parts w c → In (sent p k i) w.sent → Goes c (delivered w ok p k i)
  delivered_tied w c ok p k Setup t n = to_master_tied w c p k Setup (w.masters k) t refl n
  delivered_tied w c ok p k (Request s b) t n =
      let r : RequestFine x parts (past w c) k p s b = t.sent (sent p k (Request s b)) n in
      let u = went x parts (past w c) w.facts p k (sender w k) (w.at p) ok s b (request_low (past w c) k p s b r) (record { reached = t.reached; marks = t.marks; good = t.good }) (t.elements p) n r.means in
      let heard = hears p (w.at p) (sender w k) ok s b in
      (u.core, u.turned.leads, murmurs_tied (to_element w p k heard) u.core p ok.others (element_tied x parts w c p k heard t u))
  delivered_tied w c ok p k (Reply s b) t n = to_master_tied w c p k (Reply s b) (w.masters k) t refl n
  delivered_tied w c ok p k (Holds s e b) t n = to_master_tied w c p k (Holds s e b) (w.masters k) t refl n
  delivered_tied w c ok p k (Tells s z e b) t n = to_master_tied w c p k (Tells s z e b) (w.masters k) t refl n
  delivered_tied w c ok p k Beat t n = to_master_tied w c p k Beat (w.masters k) t refl n
  delivered_tied w c ok p k (Unread s e) t n = to_master_tied w c p k (Unread s e) (w.masters k) t refl n
  delivered_tied w c ok p k Other_up t n = to_master_tied w c p k Other_up (w.masters k) t refl n
  delivered_tied w c ok p k Other_down t n = stays (says w (murmurs p ok.others)) c (murmurs_tied w c p ok.others t)

  delivers_tied : (w : World) (c : Core) (ok : Circumstance) (i : ℕ) (o : Option Sent) → Tied x parts w c → numbered w.sent i ≡ o → Goes c (delivers w ok o)
  delivers_tied w c ok i None t e = stays w c t
  delivers_tied w c ok i (Some s) t e = delivered_tied w c ok s.element s.controller s.message t (in_numbered s w.sent i e)

  -- a life begins
  start_tied : (w : World) (c : Core) (k r : ℕ) → Tied x parts w c → k < 256 → (r < 2 ^ 24) × (0 < r) → among r (w.used k) ≡ false → Tied x parts (starts w k r) c
  start_tied w c k r t small few new =
      let h = past w c in
      let g = past (starts w k r) c in
      let e = 256 * r + k in
      let l : Later x parts h g = record {
        decided = λ _ _ i. i;
        told = λ _ i. i;
        final = λ q s o i. i;
        sent = λ _ i. i;
        used = λ j n. put_rest (λ j v. In n (w.used j) → In n v) w.used k (r ∷ w.used k) (λ i. inr i) (λ _ _ i. i) j;
        born = λ b. b;
        closed = λ _ _ s. s;
        rises = λ _ _ l. l;
        crew = λ _ a. a;
      } in
      let fresh = λ (j : ℕ) (v : Lives h j e). fresh_life w c k r j small new v in
      let life : Lives g k e = (r, subst (In r) (sym (put_here w.used k (r ∷ w.used k))) (inl refl), refl, small, few.0, few.1) in
      record {
        reached = t.reached;
        inside = t.inside;
        elements = λ q. el_on x parts h g l q (w.at q) (c.at q) (c.at q) refl (t.elements q);
        masters = put_rest (LifeFine x parts g) w.masters k (Some (new_master e w.network.elements))
            (record {
              life = life;
              low = omega arith;
              jobs = record {
                decided = none_or (c.decided e) (λ d i. let v = t.decided e d i in fresh v.0 v.1);
                each = tt;
                once = tt;
                numbers = λ i b. let v = t.owner b in absurd (fresh v.0 (subst (Lives h v.0) (sym i) v.1));
                made = λ _ a b. absurd (omega arith);
              };
              forgets = record {
                inside = t.inside;
                manned = λ q a. a;
                reached = λ p a. cc;
                known = λ p a. cc;
                owed = λ p f i. none_some f i;
                floors = λ p j s f a i. let u : RequestFine x parts h j p s (Floor f) = t.sent (sent p j (Request s (Floor f))) a in absurd (fresh j (subst (Lives h j) i u.life));
              };
              peers = λ q. record {
                low = (omega arith, omega arith);
                waits = λ o i. none_some o i;
                counts = λ j s b a i. let f : RequestFine x parts h j q s b = t.sent (sent q j (Request s b)) a in absurd (fresh j (subst (Lives h j) i f.life));
              };
            })
            (λ j n. life_on x parts h g l j (w.masters j) (λ v _. record { decided = refl; asked = λ p i s b a _. a; born = λ _ b. b; silent = λ p i s e ns a. inl a }) (t.masters j));
        sent = λ s i. sent_on x parts h g l s (t.sent s i);
        unique = t.unique;
        decided = λ f d i. let v = t.decided f d i in (v.0, lives_on x parts h g l v.0 f v.1);
        owner = λ b. let v = t.owner b in (v.0, lives_on x parts h g l v.0 x.epoch v.1);
        marks = t.marks;
        good = t.good;
      }

  stop_tied : (w : World) (c : Core) (k : ℕ) → Tied x parts w c → Tied x parts (record w { masters = put w.masters k None }) c
  stop_tied w c k t = record {
    reached = t.reached;
    inside = t.inside;
    elements = t.elements;
    masters = put_rest (LifeFine x parts (past w c)) w.masters k None tt (λ j _. t.masters j);
    sent = t.sent;
    unique = t.unique;
    decided = t.decided;
    owner = t.owner;
    marks = t.marks;
    good = t.good;
  }

  some_or : (b : Bool) (o : Option Job) (j : Job) → b ≡ true → is_some (or_next o (cond b (Some j) None)) ≡ true
  some_or true None j e = refl
  some_or true (Some i) j e = refl
  some_or false o j e = cc

  or_some : (o t : Option Job) → is_some o ≡ true → is_some (or_next o t) ≡ true
  or_some None t e = cc
  or_some (Some j) t e = refl

  same_txn : (a b : Txn) → a.epoch ≡ b.epoch → a.number ≡ b.number → a ≡ b
  same_txn a b e n = ap (λ (v : ℕ). record { epoch = v; number = a.number }) e ∙ ap (λ (v : ℕ). record { epoch = b.epoch; number = v }) n

  not_last : (n b : ℕ) → n ≤ b + 1 → (n == b + 1) ≡ false → n ≤ b
  not_last n b l e = grind arith

  add_find : (b : Bool) (o : Option Job) (j : Job) → b ≡ false → or_next o (cond b (Some j) None) ≡ o
  add_find true o j e = cc
  add_find false None j e = refl
  add_find false (Some i) j e = refl

  -- a new job is above each floor of its life
  begin_forgets : (w : World) (c : Core) (k : ℕ) (m : Master) (ps : List ℕ) (changes : ℕ → ℕ) (scopes : ℕ → Scope) (y : Txn) → y ≡ record { epoch = m.epoch; number = m.begun + 1 } → Forgets x parts (past (with_master w k m w.sent) c) m
      → Forgets x parts (past (with_master (with_begun w (record { txn = y; parts = ps })) k (record m { begun = m.begun + 1; jobs = m.jobs ++ new_job y ps changes scopes ∷ [] }) w.sent) c) (record m { begun = m.begun + 1; jobs = m.jobs ++ new_job y ps changes scopes ∷ [] })
  begin_forgets w c k m ps changes scopes y made f =
      let j = new_job y ps changes scopes in
      let n = record m { begun = m.begun + 1; jobs = m.jobs ++ j ∷ [] } in
      let above = λ (g : Txn) (v : FloorKnown x parts m g) (u : is_under x g ≡ true) (s : same x y ≡ true).
      let e = same_true x y s ∙ made in
      let at : x.epoch ≡ m.epoch = ap (λ (t : Txn). t.epoch) e in
      let now : x.number ≡ m.begun + 1 = ap (λ (t : Txn). t.number) e in
      let floor : g.epoch ≡ m.epoch = v.2 in
      let top : g.number ≤ m.begun + 1 = v.0 in
      ⊎_elim (λ i. below_self x.epoch g.epoch m.epoch i at floor) (λ i. let l : x.number < g.number = i.1 in absurd {A = ⊥} (omega arith)) (under_of x g u) in
      let floor_on : (g : Txn) → FloorKnown x parts m g → FloorKnown x parts n g = λ g v. (
        (let top : g.number ≤ m.begun + 1 = v.0 in omega arith),
        (λ u. let z = v.1 u in (z.0, (λ i e p a. ⊎_elim (λ s. absurd (above g v u s)) (λ s. z.1 i (sym (find_append x m.jobs j ∙ add_find (same x y) (find x m.jobs) j s) ∙ e) p a) (both (same x y))))),
        v.2,
      ) in
      record {
        inside = f.inside;
        manned = f.manned;
        reached = f.reached;
        known = λ p a e. ⊎_elim (λ u. inl (ap is_some (find_append x m.jobs j) ∙ or_some (find x m.jobs) _ u)) (λ u. inr u) (f.known p a e);
        owed = λ p g i. let v = f.owed p g i in (floor_on g v.0, v.1);
        floors = λ p i s g a e. floor_on g (f.floors p i s g a e);
      }
    where
      below_self : (a b d : ℕ) → a < b → a ≡ d → b ≡ d → ⊥
      below_self a b d l e f = absurd (omega arith)

  -- a transaction is begun
  begin_tied : (w : World) (c : Core) (k : ℕ) (m : Master) (ps : List ℕ) (changes : ℕ → ℕ) (scopes : ℕ → Scope) (y : Txn) → m.begun + 1 ≤ last_count → y ≡ record { epoch = m.epoch; number = m.begun + 1 } → Tied x parts (with_master w k m w.sent) c → Named x parts (record { txn = y; parts = ps } ∷ w.begun)
      → Tied x parts (with_master (with_begun w (record { txn = y; parts = ps })) k (record m { begun = m.begun + 1; jobs = m.jobs ++ new_job y ps changes scopes ∷ [] }) w.sent) c
  begin_tied w c k m ps changes scopes y room made t named =
      let b : Begun = record { txn = y; parts = ps } in
      let n = record m { begun = m.begun + 1; jobs = m.jobs ++ new_job y ps changes scopes ∷ [] } in
      let h = past w c in
      let g = past (with_master (with_begun w b) k n w.sent) c in
      let l : Later x parts h g = record { decided = λ _ _ i. i; told = λ _ i. i; final = λ q s o i. i; sent = λ _ i. i; used = λ _ _ i. i; born = λ o. (o.0, inr o.1, o.2, o.3); closed = λ _ _ s. s; rises = λ _ _ l. l; crew = λ _ a. a } in
      let f = master_of w c k m w.sent t in
      let at_own = λ (i : y ≡ x). ap (λ (v : Txn). v.epoch) (sym made) ∙ ap (λ (v : Txn). v.epoch) i in
      let number = λ (i : y ≡ x). ap (λ (v : Txn). v.number) (sym made) ∙ ap (λ (v : Txn). v.number) i in
      let born_or : Born x parts g → (y ≡ x) ⊎ Born x parts h = λ o. ⊎_elim (λ i. inl (ap (λ (v : Begun). v.txn) (sym i) ∙ o.2)) (λ i. inr (o.0, i, o.2, o.3)) o.1 in
      record {
        reached = t.reached;
        inside = t.inside;
        elements = λ q. el_on x parts h g l q (w.at q) (c.at q) (c.at q) refl (t.elements q);
        masters = put_rest (LifeFine x parts g) w.masters k (Some n)
            (record {
              life = f.life;
              low = room;
              jobs = jobs_add x parts g m.epoch (m.begun + 1) m.jobs (new_job y ps changes scopes) (all_on _ _ m.jobs (job_on x parts h g l m.epoch) f.jobs.each) f.jobs.once f.jobs.decided refl
                  (λ s. none_or (find x m.jobs) (λ j i.
                  let u : y ≡ x = sym (same_true x y s) in
                  let r = found_in x m.jobs j i in
                  let old = (all_in (JobFine x parts h m.epoch) j m.jobs f.jobs.each r.0 r.1).born in
                  let low : x.number ≤ m.begun = (f.jobs.numbers (at_own u) old).0 in
                  let now : m.begun + 1 ≡ x.number = number u in
                  absurd (omega arith)))
                  (λ u. record {
                    named = named b (inl refl) u;
                    born = (b, inl refl, u, (let now : m.begun + 1 ≡ x.number = number u in omega arith));
                    low = let same : m.epoch ≡ x.epoch = at_own u in omega arith;
                    mine = λ _. at_own u;
                    other = λ v. cc;
                    answers = λ p a v. cc;
                    found = λ v. cc;
                    settled = λ p v. cc;
                  })
                  (λ i o. ⊎_elim (λ u. let now : m.begun + 1 ≡ x.number = number u in (omega arith, some_or (same x y) (find x m.jobs) (new_job y ps changes scopes) (same_of x y (sym u))))
                  (λ u. let v = f.jobs.numbers i u in let low : x.number ≤ m.begun = v.0 in (omega arith, or_some (find x m.jobs) _ v.1)) (born_or o))
                  (λ i a v. ⊎_elim (λ z. some_or (same x y) (find x m.jobs) (new_job y ps changes scopes) (same_of x y (same_txn x y (sym i ∙ sym (ap (λ (v : Txn). v.epoch) made)) (eqb-true x.number (m.begun + 1) z ∙ sym (ap (λ (v : Txn). v.number) made)))))
                  (λ z. or_some (find x m.jobs) _ (f.jobs.made i a (not_last x.number m.begun v z))) (both (x.number == m.begun + 1)));
              forgets = begin_forgets w c k m ps changes scopes y made f.forgets;
              peers = λ q. record { low = (f.peers q).low; waits = (f.peers q).waits; counts = (f.peers q).counts };
            })
            (λ j d. life_on x parts h g l j (w.masters j) (λ v i. record {
              decided = refl;
              asked = λ p i s b a _. a;
              born = λ u o. ⊎_elim (λ r. absurd (other_life h j k v m (master_is h j (w.masters j) v i (other_of w c k m w.sent t j d)) f d (u ∙ sym (at_own r)))) (λ r. r) (born_or o);
              silent = λ p i s e ns a. inl a;
            }) (other_of w c k m w.sent t j d));
        sent = λ s i. sent_on x parts h g l s (t.sent s i);
        unique = t.unique;
        decided = t.decided;
        owner = λ o. ⊎_elim (λ u. (k, subst (Lives g k) (at_own u) f.life)) (λ u. t.owner u) (born_or o);
        marks = t.marks;
        good = t.good;
      }

  silent : (w : World) (c : Core) (k : ℕ) (m : Master) → Tied x parts (with_master w k m w.sent) c → Tied x parts (with_master w k m (w.sent ++ [])) c
  silent w c k m t = subst (λ v. Tied x parts (with_master w k m v) c) (sym (append_none w.sent)) t

  begin_by_tied : (w : World) (c : Core) (k : ℕ) (ps : List ℕ) (changes : ℕ → ℕ) (scopes : ℕ → Scope) (m : Master) (r : Option Refusal) → begin_refusal m ps changes scopes ≡ r → Tied x parts w c → w.masters k ≡ Some m → Named x parts (begin_by w k ps changes scopes m r).begun → Goes c (begin_by w k ps changes scopes m r)
  begin_by_tied w c k ps changes scopes m (Some r) q t e n = stays w c t
  begin_by_tied w c k ps changes scopes m None q t e n =
      let b : Begun = record { txn = record { epoch = m.epoch; number = m.begun + 1 }; parts = ps } in
      let u = begin_tied w c k m ps changes scopes b.txn (begin_low m ps changes scopes q) refl (enter w c k m t e) n in
      speak_tied (with_begun w b) c k (begins m ps changes scopes) [] (silent (with_begun w b) c k (begins m ps changes scopes) u)

  begin_at_tied : (w : World) (c : Core) (k : ℕ) (ps : List ℕ) (changes : ℕ → ℕ) (scopes : ℕ → Scope) (o : Option Master) → Tied x parts w c → w.masters k ≡ o → Named x parts (begin_at w k ps changes scopes o).begun → Goes c (begin_at w k ps changes scopes o)
  begin_at_tied w c k ps changes scopes None t e n = stays w c t
  begin_at_tied w c k ps changes scopes (Some m) t e n = begin_by_tied w c k ps changes scopes m (begin_refusal m ps changes scopes) refl t e n

  give_up_by_tied : (w : World) (c : Core) (k : ℕ) (y : Txn) (m : Master) (r : Option Refusal) → Tied x parts w c → w.masters k ≡ Some m → Goes c (give_up_by w k y m r)
  give_up_by_tied w c k y m (Some r) t e = stays w c t
  give_up_by_tied w c k y m None t e =
      let a = enter w c k m t e in
      let f = master_of w c k m w.sent a in
      let d = give_up_fine x parts (past w c) m.epoch m.begun m.jobs y f.jobs in
      let r = speak_tied w d.core k (gives_up m y) [] (silent w d.core k (gives_up m y) (decided_tied w c k m w.sent (map (given_up y) m.jobs) (give_up_grows x parts y m.jobs) a d)) in
      (r.0, leads_then x.epoch parts c d.core r.0 d.ruled.leads r.1, r.2)

  give_up_at_tied : (w : World) (c : Core) (k : ℕ) (y : Txn) (o : Option Master) → Tied x parts w c → w.masters k ≡ o → Goes c (give_up_at w k y o)
  give_up_at_tied w c k y None t e = stays w c t
  give_up_at_tied w c k y (Some m) t e = give_up_by_tied w c k y m (give_up_refusal m y) t e

  -- a floor is wanted
  forgets_fine : (h : Past) (k : ℕ) (m : Master) → MayForget m → MasterFine x parts h k m → MasterFine x parts h k (forgets m)
  forgets_fine h k m may f =
      let t = f.forgets in
      let settled_job = λ (j : Job) (e : find x m.jobs ≡ Some j) (p : ℕ) (a : among p parts ≡ true).
      let v = found_in x m.jobs j e in
      let o = all_in (JobFine x parts h m.epoch) j m.jobs f.jobs.each v.0 v.1 in
      o.settled p (settled_part j j.parts p (may.settled j v.0) (ap (among p) o.named ∙ a)) in
      let settling : Settling x parts m.jobs = λ j e p a. let d = settled_job j e p a in ap is_some d.1 in
      let closed_by = λ (s : is_some (find x m.jobs) ≡ true) (q : ℕ) (a : among q parts ≡ true). let v = some_is (find x m.jobs) s in (settled_job v.0 v.1 q a).3 in
      let means : Means x parts h m.epoch 0 (Floor (next_txn m)) = (
        refl,
        (λ u pos q a.
            ⊎_elim (λ l. ⊎_elim (λ s. closed_by s q a) (λ s. s.0) (t.known q (may.ready q (t.inside q a)) l))
            (λ l. let n : x.number < m.begun + 1 = l.1 in closed_by (f.jobs.made (sym l.0) pos (omega arith)) q a) (under_of x (next_txn m) u)),
        last_of m.begun may.room,
        (λ q a. t.reached q (may.ready q (t.manned q a))),
      ) in
      record {
        life = f.life;
        low = f.low;
        jobs = f.jobs;
        peers = λ q. record { low = (f.peers q).low; waits = (f.peers q).waits; counts = (f.peers q).counts };
        forgets = record {
          inside = t.inside;
          manned = t.manned;
          reached = t.reached;
          known = t.known;
          owed = λ p g i. let e : next_txn m ≡ g = some_same _ _ i in subst (λ v. FloorKnown x parts (forgets m) v × Means x parts h m.epoch p (Floor v)) e ((at_most (m.begun + 1), (λ u. (may.ready, settling)), refl), means);
          floors = t.floors;
        };
      }
    where
      last_of : (n : ℕ) → n < last_count → n + 1 ≤ last_count
      last_of n l = omega arith

      at_most : (n : ℕ) → n ≤ n
      at_most n = omega arith

  forget_by_tied : (w : World) (c : Core) (k : ℕ) (m : Master) (r : Option Refusal) → forget_refusal m ≡ r → Tied x parts w c → w.masters k ≡ Some m → Goes c (forget_by w k m r)
  forget_by_tied w c k m (Some r) q t e = stays w c t
  forget_by_tied w c k m None q t e =
      let a = enter w c k m t e in
      speak_tied w c k (forgets m) [] (silent w c k (forgets m) (swap w c k m (forgets m) w.sent a (forgets_fine (past (with_master w k m w.sent) c) k m (may_forget m q) (master_of w c k m w.sent a))))

  forget_at_tied : (w : World) (c : Core) (k : ℕ) (o : Option Master) → Tied x parts w c → w.masters k ≡ o → Goes c (forget_at w k o)
  forget_at_tied w c k None t e = stays w c t
  forget_at_tied w c k (Some m) t e = forget_by_tied w c k m (forget_refusal m) refl t e

  resend_at_tied : (w : World) (c : Core) (k p : ℕ) (o : Option Master) → Tied x parts w c → w.masters k ≡ o → Tied x parts (resend_at w k p o) c
  resend_at_tied w c k p None t e = t
  resend_at_tied w c k p (Some m) t e =
      let f = master_is (past w c) k (w.masters k) m e (t.masters k) in
      repeat_tied w c (again k p (m.at p).waits) t (λ s i. inl (again_old (past w c) k p m.epoch (m.at p) (m.at p).waits refl (f.peers p) s i))

  open_tied : (w : World) (c : Core) (p k : ℕ) → Tied x parts w c → Tied x parts (says w (sent p k Setup ∷ [])) c
  open_tied w c p k t = repeat_tied w c (sent p k Setup ∷ []) t (λ s i. ⊎_elim (λ e. inr (inl (ap (λ (v : Sent). v.message) e))) (λ n. absurd n) i)

  -- an element that resumes has all that counts here
  restart_tied : (w : World) (c : Core) (p : ℕ) → Tied x parts w c → Tied x parts (restarts w p) c
  restart_tied w c p t =
      let f = t.elements p in
      record {
        reached = t.reached;
        inside = t.inside;
        elements = put_rest (λ q v. ElFine x parts (past w c) q v (c.at q)) w.at p (resumed (w.at p)) (record { epoch = f.epoch; state = f.state; gone = f.gone; floor = f.floor; entries = f.entries; single = f.single; kept = f.kept; low = f.low }) (λ q _. t.elements q);
        masters = t.masters;
        sent = t.sent;
        unique = t.unique;
        decided = t.decided;
        owner = t.owner;
        marks = t.marks;
        good = t.good;
      }

  -- a plain change is sent at once
  change_by_tied : (w : World) (c : Core) (k p : ℕ) (m : Master) (r : Option Refusal) → plain_refusal m p ≡ r → Tied x parts w c → w.masters k ≡ Some m → Tied x parts (change_by w k p m r) c
  change_by_tied w c k p m (Some r) q t e = t
  change_by_tied w c k p m None q t e =
      send_tied w c k m (w.sent ++ []) p (Some Plain) (silent w c k m (enter w c k m t e)) (λ b i. subst (λ v. DueOf x parts (past (with_master w k m (w.sent ++ [])) c) m p v × (count_of v (m.at p) < last_count)) (some_same _ _ i) ((tt, (λ u. cc), (λ f e. cc)), plain_low m p q))

  change_at_tied : (w : World) (c : Core) (k p : ℕ) (o : Option Master) → Tied x parts w c → w.masters k ≡ o → Tied x parts (change_at w k p o) c
  change_at_tied w c k p None t e = t
  change_at_tied w c k p (Some m) t e = change_by_tied w c k p m (plain_refusal m p) refl t e

  pub happens_tied : (w : World) (c : Core) (s : Step) → Named x parts (happens w s).begun → Tied x parts w c → Goes c (happens w s)
  happens_tied w c (Open p k) n t =
      cond_all (Goes c) (among p w.network.elements && is_some (controller_of w.network.controllers k)) (says w (sent p k Setup ∷ [])) w (λ _. stays (says w (sent p k Setup ∷ [])) c (open_tied w c p k t)) (λ _. stays w c t)
  happens_tied w c (Moment p ks) n t = cond_all (Goes c) (among p w.network.elements) (says w (murmurs p ks)) w (λ _. stays (says w (murmurs p ks)) c (murmurs_tied w c p ks t)) (λ _. stays w c t)
  happens_tied w c (Change k p) n t = stays (change_at w k p (w.masters k)) c (change_at_tied w c k p (w.masters k) t refl)
  happens_tied w c (Deliver i ok) n t = delivers_tied w c ok i (numbered w.sent i) t refl
  happens_tied w c (Start k r) n t = cond_all (Goes c) (may_start w k r) (starts w k r) w (λ e. let v = may_start_is w k r e in stays (starts w k r) c (start_tied w c k r t v.0 v.1 v.2)) (λ _. stays w c t)
  happens_tied w c (Stop k) n t = stays (record w { masters = put w.masters k None }) c (stop_tied w c k t)
  happens_tied w c (Begin k ps changes scopes) n t = begin_at_tied w c k ps changes scopes (w.masters k) t refl n
  happens_tied w c (Give_up k y) n t = give_up_at_tied w c k y (w.masters k) t refl
  happens_tied w c (Resend k p) n t = stays (resend_at w k p (w.masters k)) c (resend_at_tied w c k p (w.masters k) t refl)
  happens_tied w c (Forget k) n t = forget_at_tied w c k (w.masters k) t refl
  happens_tied w c (Restart p) n t = cond_all (Goes c) (among p w.network.elements) (restarts w p) w (λ _. stays (restarts w p) c (restart_tied w c p t)) (λ _. stays w c t)

  pub first_tied : (net : Network) → ((q : ℕ) → among q parts ≡ true → among q net.elements ≡ true) → Tied x parts (first_world net) start
  first_tied net inside = record {
    reached = ([], refl);
    inside = inside;
    elements = λ p. record { epoch = refl; state = λ _. refl; gone = λ b. cc; floor = λ f i. none_some f i; entries = tt; single = tt; kept = tt; low = (omega arith, omega arith) };
    masters = λ _. tt;
    sent = λ s i. absurd i;
    unique = λ p j k s a b i n e. absurd i;
    decided = λ e d i. none_some d i;
    owner = λ b. absurd b.1;
    marks = λ p. record { was = λ _ i. absurd i; opened = λ e. cc; prepared = λ e. cc; settled = λ d i. absurd i; ended = λ d e. start_over d e };
    good = tt;
  }
    where
      start_over : {P : Type 0} (d : Decision) → Absent ≡ done d → P
      start_over Complete e = cc
      start_over Abort e = cc
