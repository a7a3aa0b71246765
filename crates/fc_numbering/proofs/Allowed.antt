-- A call that is not refused has numbers left: of transactions, and of messages.
use Rattle.std.proofs.Common.{◌≡◌, ◌≤◌, ℕ, ◌+◌, ◌/◌, ◌%◌, ◌<◌, ◌^◌, ◌&&◌, ◌||◌, ◌==◌, Bool, true, false, not, nat_lt, nat_le, List, [], length, Option, Some, None, refl, arith}
use Rattle.fc_protocol.specs.Collections.{or_next}
use Rattle.fc_protocol.specs.MasterMachine.{Master, Refusal, Spent, TooMany, any_last, any_spent, begin_refusal, deposed_by, engaged, first_refusal, forget_refusal, last_count, next_txn, part_refusal, plain_refusal, refused_if, unready, unsettled}
use Rattle.fc_protocol.specs.Messages.{is_epoch}
use Rattle.fc_protocol.specs.Scopes.{Scope}
use Rattle.fc_protocol.proofs.Basics.{and_true}
use Rattle.fc_protocol.proofs.Puts.{both_second}
use Rattle.fc_numbering.specs.Numbering.{IsTxn, IsWord}

or_none : (a b : Option Refusal) → or_next a b ≡ None → (a ≡ None) × (b ≡ None)
or_none None b e = (refl, e)
or_none (Some r) b e = cc

refused_none : (b : Bool) (r : Refusal) → refused_if b r ≡ None → b ≡ false
refused_none true r e = cc
refused_none false r e = refl

or_first : (a b : Bool) → (a || b) ≡ false → a ≡ false
or_first true b e = cc
or_first false b e = refl

or_second : (a b : Bool) → (a || b) ≡ false → b ≡ false
or_second true b e = cc
or_second false b e = e

not_above : (n : ℕ) → nat_lt last_count n ≡ false → IsWord n
not_above n h = grind arith

not_last : (n : ℕ) → nat_le last_count n ≡ false → IsWord (n + 1)
not_last n h = grind arith

pub not_spent : (n : ℕ) → nat_le last_count n ≡ false → nat_lt n last_count ≡ true
not_spent n h = grind arith

below : (m n : ℕ) → nat_lt m n ≡ true → m < n
below m n h = grind arith

pub epoch_word : (e : ℕ) → is_epoch e ≡ true → IsWord e
epoch_word e h = below e (2 ^ 32) (both_second (not (e % 256 == 0)) (nat_lt e (2 ^ 32)) (both_second (not (e / 256 == 0)) (not (e % 256 == 0) && nat_lt e (2 ^ 32)) h))

counted : (n : ℕ) → not (n + 1 == 0) ≡ true
counted n = grind arith

-- the next transaction, while there are numbers left
pub next_named : (m : Master) → is_epoch m.epoch ≡ true → IsWord (m.begun + 1) → IsTxn (next_txn m)
next_named m e h = ((epoch_word m.epoch e, h), and_true (is_epoch m.epoch) (not (m.begun + 1 == 0)) e (counted m.begun))

not_more : (m n : ℕ) → nat_lt m n ≡ false → n ≤ m
not_more m n h = grind arith

pub begin_few : (m : Master) (ps : List ℕ) (changes : ℕ → ℕ) (scopes : ℕ → Scope) → begin_refusal m ps changes scopes ≡ None → length ps ≤ 64
begin_few m ps changes scopes e =
    let a = or_none (deposed_by m.deposed) _ e in
    let b = or_none (refused_if (nat_lt 64 (length ps)) (TooMany (length ps))) _ a.1 in
    not_more 64 (length ps) (refused_none (nat_lt 64 (length ps)) (TooMany (length ps)) b.0)

pub begin_word : (m : Master) (ps : List ℕ) (changes : ℕ → ℕ) (scopes : ℕ → Scope) → begin_refusal m ps changes scopes ≡ None → IsWord (m.begun + 1)
begin_word m ps changes scopes e =
    let spent = nat_lt last_count (m.begun + 1) || any_spent m ps changes in
    let a = or_none (deposed_by m.deposed) _ e in
    let b = or_none (refused_if (nat_lt 64 (length ps)) (TooMany (length ps))) _ a.1 in
    let c = or_none (first_refusal m ps scopes) (refused_if spent Spent) b.1 in
    not_above (m.begun + 1) (or_first (nat_lt last_count (m.begun + 1)) (any_spent m ps changes) (refused_none spent Spent c.1))

pub forget_word : (m : Master) → forget_refusal m ≡ None → IsWord (m.begun + 1)
forget_word m e =
    let spent = any_last m m.elements || nat_le last_count m.begun in
    let a = or_none (deposed_by m.deposed) _ e in
    let b = or_none (unready m m.elements) _ a.1 in
    let c = or_none (engaged m m.elements) _ b.1 in
    let d = or_none (unsettled m.jobs) (refused_if spent Spent) c.1 in
    not_last m.begun (or_second (any_last m m.elements) (nat_le last_count m.begun) (refused_none spent Spent d.1))

pub plain_counts : (m : Master) (p : ℕ) → plain_refusal m p ≡ None → nat_lt (m.at p).last last_count ≡ true
plain_counts m p e =
    let spent = nat_le last_count (m.at p).last in
    let a = or_none (deposed_by m.deposed) _ e in
    let b = or_none (part_refusal m p []) (refused_if spent Spent) a.1 in
    not_spent (m.at p).last (refused_none spent Spent b.1)
