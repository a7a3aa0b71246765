-- Why calls of a master are refused.
use Rattle.std.proofs.Common.{◌≡◌, ℕ, ◌+◌, ◌<◌, ◌≤◌, Bool, true, false, not, ◌||◌, nat_le, nat_lt, List, Option, Some, None, IfSome, is_some, refl, sym, ap, ◌∙◌, arith}
use Rattle.fc_base.specs.Ids.{Txn}
use Rattle.fc_protocol.specs.Collections.{among, or_next}
use Rattle.fc_protocol.specs.Jobs.{Job as Work}
use Rattle.fc_protocol.specs.MasterMachine.{Master as Core, Peer, Refusal, Stranger, NotReady, Busy, busy_at, busy_by, is_engaged, last_count, part_refusal, refused_if}
use Rattle.fc_protocol.specs.Scopes.{Scope}
use Rattle.fc_jobs.specs.Seats.{alone}
use Rattle.fc_master.specs.Refusals.{peer_refusal}

-- an element of the master, and what is none
pub part_is : (m : Core) (p : ℕ) (sc : Scope) (y : Peer) (b : Bool) → b ≡ true → b ≡ among p m.elements → m.at p ≡ y → peer_refusal y p sc m.jobs ≡ part_refusal m p sc
part_is m p sc y b t l f =
    ap (λ z. peer_refusal z p sc m.jobs) (sym f)
    ∙ ap (λ c. or_next (refused_if (not c) (Stranger p)) (peer_refusal (m.at p) p sc m.jobs)) (sym t ∙ l)

pub stranger_is : (m : Core) (p : ℕ) (sc : Scope) (b : Bool) → b ≡ false → b ≡ among p m.elements → Some (Stranger p) ≡ part_refusal m p sc
stranger_is m p sc b t l = ap (λ c. or_next (refused_if (not c) (Stranger p)) (peer_refusal (m.at p) p sc m.jobs)) (sym t ∙ l)

-- a refusal that is there is the first of two
pub first_of : (o r next : Option Refusal) → r ≡ o → is_some r ≡ true → r ≡ or_next o next
first_of None r next e s = let z : false ≡ true = sym (ap is_some e) ∙ s in cc
first_of (Some x) r next e s = e

pub next_of : (o next : Option Refusal) → None ≡ o → next ≡ or_next o next
next_of o next e = ap (λ z. or_next z next) e

second_none : (a b : Option Refusal) → or_next a b ≡ None → b ≡ None
second_none None b e = e
second_none (Some x) b e = cc

unrefused : (b : Bool) (r : Refusal) → refused_if b r ≡ None → b ≡ false
unrefused true r e = cc
unrefused false r e = refl

first_false : (a b : Bool) → (a || b) ≡ false → a ≡ false
first_false true b e = e
first_false false b e = refl

-- a transaction that may begin has a number
pub numbered : (a b c : Option Refusal) (n : ℕ) (s : Bool) (r : Refusal) → or_next a (or_next b (or_next c (refused_if (nat_lt last_count (n + 1) || s) r))) ≡ None → n < last_count
numbered a b c n s r e =
    let f : nat_lt last_count (n + 1) ≡ false = first_false _ s (unrefused _ r (second_none c _ (second_none b _ (second_none a _ e)))) in
    let l : n + 1 ≤ last_count = grind (arith, f) in omega (arith, l)

-- a plain change that may be sent has a sequence
pub unspent : (a b : Option Refusal) (n : ℕ) (r : Refusal) → or_next a (or_next b (refused_if (nat_le last_count n) r)) ≡ None → n < last_count
unspent a b n r e = let f : nat_le last_count n ≡ false = unrefused _ r (second_none b _ (second_none a _ e)) in grind (arith, f)

second_false : (a b : Bool) → (a || b) ≡ false → b ≡ false
second_false true b e = cc
second_false false b e = e

-- elements may forget only where a number is left
pub left : (a b c d : Option Refusal) (s : Bool) (n : ℕ) (r : Refusal) → or_next a (or_next b (or_next c (or_next d (refused_if (s || nat_le last_count n) r)))) ≡ None → n < last_count
left a b c d s n r e =
    let f : nat_le last_count n ≡ false = second_false s _ (unrefused _ r (second_none d _ (second_none c _ (second_none b _ (second_none a _ e))))) in grind (arith, f)

-- an element of which this is kept, and that nothing keeps from taking part but what it has not answered
pub idle_is : (y : Peer) (p : ℕ) (sc : Scope) (js : List Work) (b : Bool) (o : Option Txn) (r : Option Refusal) → b ≡ false → b ≡ (not y.answered || (y.doubt || y.lost)) → o ≡ None → o ≡ busy_at p sc js → r ≡ refused_if (is_engaged y) (Busy p None)
    → r ≡ peer_refusal y p sc js
idle_is y p sc js b o r t u n f h =
    h ∙ ap (busy_by (alone 0 y js None) p) (sym n ∙ f)
    ∙ ap (λ c. or_next (refused_if c (NotReady p)) (busy_by (alone 0 y js None) p (busy_at p sc js))) (sym t ∙ u)

-- what a refusal tells
pub refused_by : (o r : Option Refusal) → o ≡ r → IfSome o (λ x. r ≡ Some x)
refused_by None r e = tt
refused_by (Some x) r e = sym e

-- five tests in their order
module _ (d u e s l : Option Refusal) where
  abbrev pub five : Option Refusal
  five = or_next d (or_next u (or_next e (or_next s l)))

  pub second_told : (r : Option Refusal) → d ≡ None → r ≡ u → is_some r ≡ true → r ≡ five
  second_told r a f t = first_of u r (or_next e (or_next s l)) f t ∙ ap (λ o. or_next o (or_next u (or_next e (or_next s l)))) (sym a)

  pub third_told : (r : Option Refusal) → d ≡ None → u ≡ None → r ≡ e → is_some r ≡ true → r ≡ five
  third_told r a b f t = first_of e r (or_next s l) f t ∙ ap (λ o. or_next o (or_next e (or_next s l))) (sym b) ∙ ap (λ o. or_next o (or_next u (or_next e (or_next s l)))) (sym a)

  pub fourth_told : (r : Option Refusal) → d ≡ None → u ≡ None → e ≡ None → r ≡ s → is_some r ≡ true → r ≡ five
  fourth_told r a b c f t =
      first_of s r l f t ∙ ap (λ o. or_next o (or_next s l)) (sym c) ∙ ap (λ o. or_next o (or_next e (or_next s l))) (sym b) ∙ ap (λ o. or_next o (or_next u (or_next e (or_next s l)))) (sym a)

  pub last_told : d ≡ None → u ≡ None → e ≡ None → s ≡ None → l ≡ five
  last_told a b c f =
      ap (λ o. or_next o l) (sym f) ∙ ap (λ o. or_next o (or_next s l)) (sym c) ∙ ap (λ o. or_next o (or_next e (or_next s l))) (sym b) ∙ ap (λ o. or_next o (or_next u (or_next e (or_next s l)))) (sym a)

-- the last test
pub spent_first : (x y : Bool) (r : Refusal) → x ≡ true → Some r ≡ refused_if (x || y) r
spent_first x y r t = ap (λ b. refused_if (b || y) r) (sym t)

pub spent_second : (x y : Bool) (r : Refusal) → y ≡ true → Some r ≡ refused_if (x || y) r
spent_second true y r t = refl
spent_second false y r t = ap (λ b. refused_if b r) (sym t)

pub spent_not : (x y : Bool) (r : Refusal) → x ≡ false → y ≡ false → None ≡ refused_if (x || y) r
spent_not x y r t f = ap (λ b. refused_if b r) (sym f) ∙ ap (λ b. refused_if (b || y) r) (sym t)

pub is_last : (n : ℕ) → last_count ≤ n → nat_le last_count n ≡ true
is_last n l = grind (arith, l)

pub not_last : (n : ℕ) → n < last_count → nat_le last_count n ≡ false
not_last n l = grind (arith, l)
