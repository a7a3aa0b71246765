-- What is sent where messages are due, element by element.
use Rattle.std.proofs.Common.{◌≡◌, ℕ, ◌+◌, ◌==◌, ◌&&◌, ◌||◌, not, Bool, true, false, cond, List, [], ◌∷◌, ◌++◌, Option, Some, None, ⊎_elim, refl, sym, ap, ◌∙◌, subst, arith, eqb-true, eq-eqb}
use Rattle.fc_agreement.specs.CleanRound.{is_notice}
use Rattle.fc_protocol.specs.Collections.{among}
use Rattle.fc_protocol.specs.MasterMachine.{Peer, Master, due, stamp_of, sending, Speaks, sends_one, sends_all}
use Rattle.fc_protocol.specs.Messages.{Body, Request, Sent, sent}
use Rattle.fc_protocol.proofs.Puts.{put_here}
use Rattle.fc_protocol.proofs.Basics.{In, in_either, both, put_other}
use Rattle.fc_agreement.proofs.Calm.{one_due, sent_due, not_same, or_false}

-- how many of these messages concern the element q, but for notices
abbrev pub busy : ℕ → List Sent → ℕ
busy q [] = 0
busy q (s ∷ ss) = cond (q == s.element && not (is_notice s.message)) 1 0 + busy q ss

pub busy_append : (q : ℕ) (xs ys : List Sent) → busy q (xs ++ ys) ≡ busy q xs + busy q ys
busy_append q [] ys = omega arith
busy_append q (x ∷ xs) ys = let r = busy_append q xs ys in omega arith

-- the peer after what is due there was sent
abbrev pub sent_peer : ℕ → Peer → Option Body → Peer
sent_peer e y None = y
sent_peer e y (Some b) = sending y (record { stamp = stamp_of e b y; body = b })

abbrev pub due_count : Option Body → ℕ
due_count None = 0
due_count (Some b) = 1

-- of what was sent to these elements, from m on
pub record Sends (k : ℕ) (es : List ℕ) (m : Master) (r : Speaks) : Type 0 where
  pub inside : (q : ℕ) → among q es ≡ true → r.master.at q ≡ sent_peer m.epoch (m.at q) (due m q)
  pub outside : (q : ℕ) → among q es ≡ false → r.master.at q ≡ m.at q
  pub says : (s : Sent) → In s r.says → (among s.element es ≡ true) × (b : Body) × (due m s.element ≡ Some b) × (s ≡ sent s.element k (Request (stamp_of m.epoch b (m.at s.element)) b))
  pub busy_inside : (q : ℕ) → among q es ≡ true → busy q r.says ≡ due_count (due m q)
  pub busy_outside : (q : ℕ) → among q es ≡ false → busy q r.says ≡ 0
  pub deposed : r.master.deposed ≡ m.deposed

-- of what was sent to p alone
record One (k p : ℕ) (m n : Master) (ss : List Sent) : Type 0 where
  here : n.at p ≡ sent_peer m.epoch (m.at p) (due m p)
  there : (q : ℕ) → (q == p) ≡ false → n.at q ≡ m.at q
  epoch : n.epoch ≡ m.epoch
  deposed : n.deposed ≡ m.deposed
  says : (s : Sent) → In s ss → (s.element ≡ p) × (b : Body) × (due m s.element ≡ Some b) × (s ≡ sent s.element k (Request (stamp_of m.epoch b (m.at s.element)) b))
  busy_here : busy p ss ≡ due_count (due m p)
  busy_there : (q : ℕ) → (q == p) ≡ false → busy q ss ≡ 0
  due_here : due n p ≡ None
  due_there : (q : ℕ) → (q == p) ≡ false → due n q ≡ due m q

module _ (k : ℕ) (p : ℕ) (m : Master) where
  abbrev one : Option Body → Master
  one o = (sends_one k m p o).master

  one_here : (o : Option Body) → (one o).at p ≡ sent_peer m.epoch (m.at p) o
  one_here None = refl
  one_here (Some b) = put_here m.at p (sending (m.at p) (record { stamp = stamp_of m.epoch b (m.at p); body = b }))

  one_there : (o : Option Body) (q : ℕ) → (q ≡ p → ⊥) → (one o).at q ≡ m.at q
  one_there None q n = refl
  one_there (Some b) q n = put_other m.at p (sending (m.at p) (record { stamp = stamp_of m.epoch b (m.at p); body = b })) q n

  one_epoch : (o : Option Body) → (one o).epoch ≡ m.epoch
  one_epoch None = refl
  one_epoch (Some b) = refl

  one_deposed : (o : Option Body) → (one o).deposed ≡ m.deposed
  one_deposed None = refl
  one_deposed (Some b) = refl

  one_says : (o : Option Body) (s : Sent) → due m p ≡ o → In s (sends_one k m p o).says → (s.element ≡ p) × (b : Body) × (due m s.element ≡ Some b) × (s ≡ sent s.element k (Request (stamp_of m.epoch b (m.at s.element)) b))
  one_says None s d i = absurd i
  one_says (Some b) s d i =
      ⊎_elim (λ e.
      let z : s.element ≡ p = ap (λ (v : Sent). v.element) e in
      (z, b, (ap (due m) z ∙ d), subst (λ v. s ≡ sent v k (Request (stamp_of m.epoch b (m.at v)) b)) (sym z) e)) (λ n. absurd n) i

  one_busy : (o : Option Body) → busy p (sends_one k m p o).says ≡ due_count o
  one_busy None = refl
  one_busy (Some b) = ap (λ (v : Bool). cond (v && true) 1 0 + 0) (eq-eqb p p refl)

  one_idle : (o : Option Body) (q : ℕ) → (q == p) ≡ false → busy q (sends_one k m p o).says ≡ 0
  one_idle None q e = refl
  one_idle (Some b) q e = ap (λ (v : Bool). cond (v && true) 1 0 + 0) e

  one_is : One k p m (one (due m p)) (sends_one k m p (due m p)).says
  one_is = record {
    here = one_here (due m p);
    there = λ q e. one_there (due m p) q (not_same q p e);
    epoch = one_epoch (due m p);
    deposed = one_deposed (due m p);
    says = λ s i. one_says (due m p) s refl i;
    busy_here = one_busy (due m p);
    busy_there = λ q e. one_idle (due m p) q e;
    due_here = sent_due k m p (due m p) refl;
    due_there = λ q e. one_due k m p (due m p) q (not_same q p e);
  }

no_count : (o : Option Body) → o ≡ None → due_count o ≡ 0
no_count o e = ap due_count e

or_both : (a b : Bool) → (a || b) ≡ false → (a ≡ false) × (b ≡ false)
or_both true b e = cc
or_both false b e = (refl, e)

or_true : (a b : Bool) → a ≡ true → (a || b) ≡ true
or_true true b e = refl
or_true false b e = cc

or_second : (a b : Bool) → b ≡ true → (a || b) ≡ true
or_second true b e = refl
or_second false b e = e

-- p first, and then the others
module _ (k p : ℕ) (ps : List ℕ) (m n : Master) (ss : List Sent) (r : Speaks) (h : One k p m n ss) (t : Sends k ps n r) where
  at_p : r.master.at p ≡ sent_peer m.epoch (m.at p) (due m p)
  at_p = ⊎_elim (λ a. t.inside p a ∙ ap (sent_peer n.epoch (n.at p)) h.due_here ∙ h.here) (λ a. t.outside p a ∙ h.here) (both (among p ps))

  none_p : busy p r.says ≡ 0
  none_p = ⊎_elim (λ a. t.busy_inside p a ∙ no_count _ h.due_here) (λ a. t.busy_outside p a) (both (among p ps))

  busy_p : busy p (ss ++ r.says) ≡ due_count (due m p)
  busy_p = let a = busy_append p ss r.says in let b = none_p in let c = h.busy_here in omega arith

  inside_other : (q : ℕ) → (q == p) ≡ false → among q ps ≡ true → r.master.at q ≡ sent_peer m.epoch (m.at q) (due m q)
  inside_other q u a =
      t.inside q a ∙ ap (λ v. sent_peer v (n.at q) (due n q)) h.epoch ∙ ap (λ v. sent_peer m.epoch v (due n q)) (h.there q u) ∙ ap (sent_peer m.epoch (m.at q)) (h.due_there q u)

  busy_other : (q : ℕ) → (q == p) ≡ false → busy q (ss ++ r.says) ≡ busy q r.says
  busy_other q u = let a = busy_append q ss r.says in let b = h.busy_there q u in omega arith

  abbrev Said : Sent → Type 0
  Said s = (among s.element (p ∷ ps) ≡ true) × (b : Body) × (due m s.element ≡ Some b) × (s ≡ sent s.element k (Request (stamp_of m.epoch b (m.at s.element)) b))

  said_here : (s : Sent) → In s ss → Said s
  said_here s i = let v = h.says s i in (or_true (s.element == p) _ (eq-eqb s.element p v.0), v.1, v.2, v.3)

  said_there : (s : Sent) → In s r.says → Said s
  said_there s i =
      let v = t.says s i in
      ⊎_elim (λ a. let clash : None ≡ Some v.1 = sym h.due_here ∙ ap (due n) (sym (eqb-true s.element p a)) ∙ v.2 in cc)
      (λ a. (
        or_second (s.element == p) _ v.0,
        v.1,
        sym (h.due_there s.element a) ∙ v.2,
        v.3 ∙ ap (λ (y : Peer). sent s.element k (Request (stamp_of n.epoch v.1 y) v.1)) (h.there s.element a) ∙ ap (λ z. sent s.element k (Request (stamp_of z v.1 (m.at s.element)) v.1)) h.epoch,
      ))
      (both (s.element == p))

  both_send : Sends k (p ∷ ps) m (record { master = r.master; says = ss ++ r.says })
  both_send = record {
    inside = λ q e. ⊎_elim (λ u. subst (λ v. r.master.at v ≡ sent_peer m.epoch (m.at v) (due m v)) (sym (eqb-true q p u)) at_p) (λ u. inside_other q u (or_false (q == p) _ u e)) (both (q == p));
    outside = λ q e. let z = or_both (q == p) _ e in t.outside q z.1 ∙ h.there q z.0;
    says = λ s i. ⊎_elim (λ u. said_here s u) (λ u. said_there s u) (in_either s ss r.says i);
    busy_inside = λ q e. ⊎_elim (λ u. subst (λ v. busy v (ss ++ r.says) ≡ due_count (due m v)) (sym (eqb-true q p u)) busy_p)
        (λ u. busy_other q u ∙ t.busy_inside q (or_false (q == p) _ u e) ∙ ap due_count (h.due_there q u)) (both (q == p));
    busy_outside = λ q e. let z = or_both (q == p) _ e in busy_other q z.0 ∙ t.busy_outside q z.1;
    deposed = t.deposed ∙ h.deposed;
  }

pub sends_all_is : (k : ℕ) (es : List ℕ) (m : Master) → Sends k es m (sends_all k es m)
sends_all_is k [] m = record { inside = λ q e. cc; outside = λ q e. refl; says = λ s i. absurd i; busy_inside = λ q e. cc; busy_outside = λ q e. refl; deposed = refl }
sends_all_is k (p ∷ ps) m =
    let n = (sends_one k m p (due m p)).master in both_send k p ps m n (sends_one k m p (due m p)).says (sends_all k ps n) (one_is k p m) (sends_all_is k ps n)
