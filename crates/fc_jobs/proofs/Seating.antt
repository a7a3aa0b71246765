-- The seats of elements, of which no two are the same: one seat that changes, and the protocol's peers.
use Rattle.std.proofs.Common.{◌≡◌, ℕ, zero, suc, ◌<◌, ◌==◌, Bool, true, false, not, ◌&&◌, ◌||◌, cond, List, [], ◌∷◌, length, get_or, Option, ◌⊎◌, inl, inr, ⊎_elim, refl, sym, ap, ◌∙◌, arith, eqb-true, eq-eqb}
use Rattle.std.proofs.Math.ListN.{set}
use Rattle.std.proofs.Math.Path.{fun_ext}
use Rattle.fc_base.specs.Ids.{Txn}
use Rattle.fc_protocol.specs.Collections.{among, put}
use Rattle.fc_protocol.specs.MasterMachine.{Peer, at_put}
use Rattle.fc_jobs.specs.declared.seat.Seat.{Seat}
use Rattle.fc_jobs.specs.declared.job.Job.{Job as Kept}
use Rattle.fc_jobs.specs.Seats.{peer_of, peer_at, elements_of}
use Rattle.fc_jobs.specs.Sending.{Begun, are_apart, core_by}

pub both : (b : Bool) → (b ≡ true) ⊎ (b ≡ false)
both true = inl refl
both false = inr refl

pub and_first : (a b : Bool) → (a && b) ≡ true → a ≡ true
and_first true b e = refl
and_first false b e = e

pub and_second : (a b : Bool) → (a && b) ≡ true → b ≡ true
and_second true b e = e
and_second false b e = cc

or_later : (a b : Bool) → b ≡ true → (a || b) ≡ true
or_later true b e = refl
or_later false b e = e

not_false : (b : Bool) → not b ≡ true → b ≡ false
not_false true e = cc
not_false false e = refl

same_self : (p : ℕ) → (p == p) ≡ true
same_self p = eq-eqb p p refl

among_seat : (ss : List Seat) (i : ℕ) (s : Seat) → i < length ss → s ≡ get_or ss i s → among s.element (elements_of ss) ≡ true
among_seat [] i s l e = absurd (omega arith)
among_seat (t ∷ ss) zero s l e = ap (λ (u : Seat). (s.element == u.element) || among s.element (elements_of ss)) (sym e) ∙ ap (λ b. b || among s.element (elements_of ss)) (same_self s.element)
among_seat (t ∷ ss) (suc i) s l e = or_later (s.element == t.element) _ (among_seat ss i s (omega arith) e)

-- an element among those behind the first is not the first
other_than : (p t : ℕ) (ps : List ℕ) → are_apart (t ∷ ps) ≡ true → among p ps ≡ true → (p == t) ≡ false
other_than p t ps a m =
    let none : among t ps ≡ false = not_false _ (and_first (not (among t ps)) _ a) in
    ⊎_elim (λ u. let z : true ≡ false = sym m ∙ (ap (λ n. among n ps) (eqb-true p t u) ∙ none) in cc) (λ u. u) (both (p == t))

pub swap : {A : Type 0} (b c : Bool) (x y z : A) → (b ≡ true → c ≡ true → ⊥) → cond b x (cond c y z) ≡ cond c y (cond b x z)
swap true true x y z n = absurd (n refl refl)
swap true false x y z n = refl
swap false true x y z n = refl
swap false false x y z n = refl

pub hidden : {A : Type 0} (b : Bool) (x y z : A) → cond b x z ≡ cond b x (cond b y z)
hidden true x y z = refl
hidden false x y z = refl

module _ (e : ℕ) (w : Option Txn) where
  pub peer_found : (ss : List Seat) (i : ℕ) (s : Seat) → i < length ss → s ≡ get_or ss i s → are_apart (elements_of ss) ≡ true → peer_at e w ss s.element ≡ peer_of e s
  peer_found [] i s l g a = absurd (omega arith)
  peer_found (t ∷ ss) zero s l g a = ap (λ (u : Seat). cond (s.element == u.element) (peer_of e u) (peer_at e w ss s.element)) (sym g) ∙ ap (λ b. cond b (peer_of e s) (peer_at e w ss s.element)) (same_self s.element)
  peer_found (t ∷ ss) (suc i) s l g a =
      ap (λ b. cond b (peer_of e t) (peer_at e w ss s.element)) (other_than s.element t.element (elements_of ss) a (among_seat ss i s (omega arith) g))
      ∙ peer_found ss i s (omega arith) g (and_second (not (among t.element (elements_of ss))) _ a)

  -- the seat i becomes n, which is of the same element
  peer_set_at : (ss : List Seat) (i : ℕ) (s n : Seat) → i < length ss → s ≡ get_or ss i s → are_apart (elements_of ss) ≡ true → n.element ≡ s.element → (q : ℕ) → peer_at e w (set ss i n) q ≡ put (peer_at e w ss) s.element (peer_of e n) q
  unfolding put
  peer_set_at [] i s n l g a h q = absurd (omega arith)
  peer_set_at (t ∷ ss) zero s n l g a h q =
      ap (λ p. cond (q == p) (peer_of e n) (peer_at e w ss q)) h ∙ hidden (q == s.element) (peer_of e n) (peer_of e s) (peer_at e w ss q)
      ∙ ap (λ (u : Seat). cond (q == s.element) (peer_of e n) (cond (q == u.element) (peer_of e u) (peer_at e w ss q))) g
  peer_set_at (t ∷ ss) (suc i) s n l g a h q =
      let d = other_than s.element t.element (elements_of ss) a (among_seat ss i s (omega arith) g) in
      ap (cond (q == t.element) (peer_of e t)) (peer_set_at ss i s n (omega arith) g (and_second (not (among t.element (elements_of ss))) _ a) h q)
      ∙ swap (q == t.element) (q == s.element) (peer_of e t) (peer_of e n) (peer_at e w ss q)
      (λ u v. let z : true ≡ false = sym (eq-eqb s.element t.element (sym (eqb-true q s.element v) ∙ eqb-true q t.element u)) ∙ d in cc)

  pub peer_set : (ss : List Seat) (i : ℕ) (s n : Seat) → i < length ss → s ≡ get_or ss i s → are_apart (elements_of ss) ≡ true → n.element ≡ s.element → peer_at e w (set ss i n) ≡ put (peer_at e w ss) s.element (peer_of e n)
  peer_set ss i s n l g a h = fun_ext (peer_set_at ss i s n l g a h)

pub elements_set : (ss : List Seat) (i : ℕ) (s n : Seat) → i < length ss → s ≡ get_or ss i s → n.element ≡ s.element → elements_of (set ss i n) ≡ elements_of ss
elements_set [] i s n l g h = absurd (omega arith)
elements_set (t ∷ ss) zero s n l g h = ap (λ p. p ∷ elements_of ss) (h ∙ ap (λ (u : Seat). u.element) g)
elements_set (t ∷ ss) (suc i) s n l g h = ap (λ ps. t.element ∷ ps) (elements_set ss i s n (omega arith) g h)

-- a peer that changes is a seat that changes
pub core_set : (e : ℕ) (ss : List Seat) (js : List Kept) (begun : Begun) (d : Option ℕ) (i : ℕ) (s n : Seat) (y : Peer) → i < length ss → s ≡ get_or ss i s → are_apart (elements_of ss) ≡ true → n.element ≡ s.element
    → peer_of e n ≡ y → core_by e (set ss i n) js begun d ≡ at_put (core_by e ss js begun d) s.element y
core_set e ss js begun d i s n y l g a h f =
    let m = core_by e ss js begun d in
    ap (λ (es : List ℕ). record { epoch = e; elements = es; at = peer_at e begun.wanted (set ss i n); jobs = m.jobs; begun = begun.count; deposed = d }) (elements_set ss i s n l g h)
    ∙ ap (λ (t : ℕ → Peer). record { epoch = e; elements = m.elements; at = t; jobs = m.jobs; begun = begun.count; deposed = d })
    (peer_set e begun.wanted ss i s n l g a h ∙ ap (put (peer_at e begun.wanted ss) s.element) f)
