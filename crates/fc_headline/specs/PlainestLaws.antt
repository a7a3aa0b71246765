-- That the plainest masters and the plainest configuration keep the laws; a trait can be kept only by what stands in specs/. This profile's own.
use Rattle.std.proofs.Common.{◌≡◌, ◌≢◌, ℕ, ◌==◌, ◌&&◌, Bool, true, false, cond, List, [], ◌∷◌, ◌++◌, Some, None, refl, sym, ap, ◌∙◌, eqb-true, eq-eqb}
use Rattle.std.specs.List.{AllByRecursion}
use Rattle.fc_base.specs.Ids.{Txn}
use Rattle.fc_machine.specs.Ground.{Place, Lawful, Commute}
use Rattle.fc_machine.specs.Plainest.{Pair, Set, set_part, set_effect, part_place, pairs}
use Rattle.fc_headline.specs.PlainestMasters.{spelled, spelled_body, all_spelled, with_changes, plainest}
use Rattle.fc_machine.specs.Views.{view}
use Rattle.fc_machine.specs.WorldSteps.{viewed, MastersFit, SpelledMessage, Spelled, MastersSpell}
use Rattle.fc_protocol.specs.Scopes.{same_place}
use Rattle.fc_protocol.specs.MasterMachine as protocol
use Rattle.fc_protocol.specs.Messages as said
use Rattle.fc_protocol.specs.Messages.{same, Stamp, Body, Claim, Sot, Mot, Eot, Trcomp, Abt, Floor, Malformed, Plain, Ask, Ask_record, Sent, sent}

body_back : (Op : Type 0) (f : Txn → ℕ → List Op) (m : Stamp) (b : Body) → view (spelled_body f m b) ≡ said.Request m b
body_back Op f m (Claim w) = refl
body_back Op f m (Sot x ps sc) = refl
body_back Op f m (Mot x i) = refl
body_back Op f m (Eot x) = refl
body_back Op f m (Trcomp x) = refl
body_back Op f m (Abt x) = refl
body_back Op f m (Floor y) = refl
body_back Op f m Malformed = refl
body_back Op f m Plain = refl
body_back Op f m Ask = refl
body_back Op f m (Ask_record x) = refl

one_if : (b : Bool) (c : ℕ) → (c == 0) ≡ b → cond b 0 c ≡ c
one_if true c e = sym (eqb-true c 0 e)
one_if false c e = refl

view_back : (Op : Type 0) (f : Txn → ℕ → List Op) (m : said.Message) → view (spelled f m) ≡ m
view_back Op f said.Setup = refl
view_back Op f said.Beat = refl
view_back Op f (said.Request m b) = body_back Op f m b
view_back Op f (said.Reply m code) = ap (said.Reply m) (one_if (code == 0) code refl)
view_back Op f (said.Holds m e ns) = refl
view_back Op f (said.Tells m x e s) = refl
view_back Op f (said.Unread m e) = refl
view_back Op f said.Other_up = refl
view_back Op f said.Other_down = refl

all_back : (Op : Type 0) (f : Txn → ℕ → ℕ → List Op) (ss : List Sent) → viewed (all_spelled f ss) ≡ ss
all_back Op f [] = refl
all_back Op f (s ∷ ss) = ap (λ m. sent s.element s.controller m ∷ viewed (all_spelled f ss)) (view_back Op (λ x. f x s.element) s.message) ∙ ap (λ v. s ∷ v) (all_back Op f ss)

-- the plainest masters do what the protocol says
pub plainest_fit : (Op : Type 0) → MastersFit (plainest Op) (λ _. Unit {0})
plainest_fit Op = record {
  born = λ e es l. (tt, refl);
  hears = λ k m p x g. (tt, refl, all_back Op m.changes (protocol.at_once k m.core p (view x) ++ (protocol.finish k (protocol.heard m.core p (view x))).says));
  begins = λ k m plan g. record { refused = refl; taken = λ _. (tt, refl, all_back Op (with_changes (protocol.next_txn m.core) plan.changes m.changes) (protocol.finish k (protocol.begins m.core plan.parts plan.counts plan.scopes)).says) };
  changes = λ k m p c g. record { refused = refl; taken = λ _. (tt, refl, all_back Op m.changes (protocol.sends_one k m.core p (Some Plain)).says) };
  gives_up = λ k m x g. record { refused = refl; taken = λ _. (tt, refl, all_back Op m.changes (protocol.finish k (protocol.gives_up m.core x)).says) };
  forgets = λ k m g. record { refused = refl; taken = λ _. (tt, refl, all_back Op m.changes (protocol.finish k (protocol.forgets m.core)).says) };
  resends = λ k m p g. all_back Op m.changes (protocol.again k p (m.core.at p).waits);
}

-- The configuration of two numbers

refused_by : (b : Bool) (c d : Pair) → (cond {A = Pair × ℕ} b (c, 14) (d, 0)).1 ≢ 0 → (cond {A = Pair × ℕ} b (c, 14) (d, 0)).0 ≡ c
refused_by true c d n = refl
refused_by false c d n = absurd (n refl)

by_guards : (a b : Bool) (i j : Bool) (v w : ℕ) → same_place (part_place i) (part_place j) ≡ false → (c : Pair)
    → let one = λ (d : Pair). cond {A = Pair × ℕ} a (d, 14) (set_part i d v, 0) in let two = λ (d : Pair). cond {A = Pair × ℕ} b (d, 14) (set_part j d w, 0) in
    ((two (one c).0).1 ≡ (two c).1) × ((one (two c).0).1 ≡ (one c).1) × ((two (one c).0).0 ≡ (one (two c).0).0)
by_guards true true i j v w e c = (refl, refl, refl)
by_guards true false i j v w e c = (refl, refl, refl)
by_guards false true i j v w e c = (refl, refl, refl)
by_guards false false true true v w e c = cc
by_guards false false true false v w e c = (refl, refl, refl)
by_guards false false false true v w e c = (refl, refl, refl)
by_guards false false false false v w e c = cc

apart_pairs : (a b : Set) (p q : Place) → Some (part_place a.is_first) ≡ Some p → Some (part_place b.is_first) ≡ Some q → same_place p q ≡ false → Commute set_effect a b
apart_pairs a b p q e f n =
    let i : part_place a.is_first ≡ p = cc in
    let j : part_place b.is_first ≡ q = cc in
    let m : same_place (part_place a.is_first) (part_place b.is_first) ≡ false = ap (λ x. same_place x (part_place b.is_first)) i ∙ ap (same_place p) j ∙ n in
    let all = by_guards (a.value == 0) (b.value == 0) a.is_first b.is_first a.value b.value m in
    record { code = λ c. (all c).0; back = λ c. (all c).1; state = λ c. (all c).2 }

-- the two numbers are a lawful store
pub pairs_lawful : Lawful pairs
pairs_lawful = record {
  refused = λ c op n. refused_by (op.value == 0) c (set_part op.is_first c op.value) n;
  placeless = λ c op e. some_none (part_place op.is_first) e;
  apart = apart_pairs;
}
  where
    some_none : {A : Type 0} (p : Place) → Some p ≡ None → A
    some_none p e = cc

-- Their spelling

body_spelled : (Op : Type 0) (f : Txn → ℕ → List Op) (x : Txn) (h : ℕ → List Op) (m : Stamp) (b : Body) → f x ≡ h → SpelledMessage x h (spelled_body f m b)
body_spelled Op f x h m (Claim w) d = tt
body_spelled Op f x h m (Sot y ps sc) d = λ e. (record { lost = refl; astray = refl; mode = refl; ack = refl }, refl)
body_spelled Op f x h m (Mot y i) d = λ e. (record { lost = refl; astray = refl; mode = refl; ack = refl }, ap (λ z. f z i) e ∙ ap (λ (z : ℕ → List Op). z i) d)
body_spelled Op f x h m (Eot y) d = λ e. record { lost = refl; astray = refl; mode = refl; ack = refl }
body_spelled Op f x h m (Trcomp y) d = λ e. record { lost = refl; astray = refl; mode = refl; ack = refl }
body_spelled Op f x h m (Abt y) d = tt
body_spelled Op f x h m (Floor y) d = tt
body_spelled Op f x h m Malformed d = tt
body_spelled Op f x h m Plain d = tt
body_spelled Op f x h m Ask d = tt
body_spelled Op f x h m (Ask_record y) d = tt

message_spelled : (Op : Type 0) (f : Txn → ℕ → List Op) (x : Txn) (h : ℕ → List Op) (m : said.Message) → f x ≡ h → SpelledMessage x h (spelled f m)
message_spelled Op f x h said.Setup d = tt
message_spelled Op f x h said.Beat d = tt
message_spelled Op f x h (said.Request m b) d = body_spelled Op f x h m b d
message_spelled Op f x h (said.Reply m code) d = tt
message_spelled Op f x h (said.Holds m e ns) d = tt
message_spelled Op f x h (said.Tells m y e s) d = tt
message_spelled Op f x h (said.Unread m e) d = tt
message_spelled Op f x h said.Other_up d = tt
message_spelled Op f x h said.Other_down d = tt

each_spelled : (Op : Type 0) (f : Txn → ℕ → ℕ → List Op) (x : Txn) (h : ℕ → ℕ → List Op) (ss : List Sent) → f x ≡ h → AllByRecursion (Spelled x h) (all_spelled f ss)
each_spelled Op f x h [] d = tt
each_spelled Op f x h (s ∷ ss) d = (message_spelled Op (λ y. f y s.element) x (h s.element) s.message (ap (λ (z : ℕ → ℕ → List Op). z s.element) d), each_spelled Op f x h ss d)

both_true : (a b : Bool) → a ≡ true → b ≡ true → (a && b) ≡ true
both_true true b e f = f
both_true false b e f = cc

itself : (x : Txn) → same x x ≡ true
itself x = both_true (x.epoch == x.epoch) (x.number == x.number) (eq-eqb x.epoch x.epoch refl) (eq-eqb x.number x.number refl)

chosen : {A : Type 0} (b : Bool) (v w : A) → b ≡ true → cond b v w ≡ v
chosen true v w e = refl
chosen false v w e = cc

-- the plainest masters spell a transaction as its plan says
pub plainest_spell : (Op : Type 0) → MastersSpell (plainest Op) (λ _. Unit {0}) (λ m x plan. m.changes x ≡ plan.changes)
plainest_spell Op = record {
  begins = λ k m plan g e.
      let x = protocol.next_txn m.core in
      let d = chosen (same x x) plan.changes (m.changes x) (itself x) in
      (d, each_spelled Op (with_changes x plan.changes m.changes) x plan.changes (protocol.finish k (protocol.begins m.core plan.parts plan.counts plan.scopes)).says d);
  hears = λ k m p y x plan g d. (d, each_spelled Op m.changes x plan.changes (protocol.at_once k m.core p (view y) ++ (protocol.finish k (protocol.heard m.core p (view y))).says) d);
}
