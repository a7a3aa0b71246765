-- Conditions and tests.
use Rattle.std.proofs.Common.{◌≡◌, ℕ, ◌<◌, ◌≤◌, ◌==◌, nat_lt, Bool, true, false, ◌&&◌, ◌||◌, cond, refl, arith, ◌⊎◌, inl, inr}

pub then_is : {A : Type 0} (b : Bool) (x y : A) → b ≡ true → cond b x y ≡ x
then_is true x y e = refl
then_is false x y e = cc

pub else_is : {A : Type 0} (b : Bool) (x y : A) → b ≡ false → cond b x y ≡ y
else_is true x y e = cc
else_is false x y e = refl

pub below : (m n : ℕ) → m < n → nat_lt m n ≡ true
below m n h = grind arith

pub not_below : (m n : ℕ) → n ≤ m → nat_lt m n ≡ false
not_below m n h = grind arith

pub below_is : (m n : ℕ) → nat_lt m n ≡ true → m < n
below_is m n h = grind arith

pub not_below_is : (m n : ℕ) → nat_lt m n ≡ false → n ≤ m
not_below_is m n h = grind arith

pub both : (a b : Bool) → (a && b) ≡ true → (a ≡ true) × (b ≡ true)
both true b e = (refl, e)
both false b e = cc

pub neither : (a b : Bool) → (a || b) ≡ false → (a ≡ false) × (b ≡ false)
neither true b e = cc
neither false b e = (refl, e)

pub true_or_false : (b : Bool) → (b ≡ true) ⊎ (b ≡ false)
true_or_false true = inl refl
true_or_false false = inr refl

pub not_true : (b : Bool) → (b ≡ true → ⊥) → b ≡ false
not_true true h = absurd (h refl)
not_true false h = refl

pub some_left : (n : ℕ) → false ≡ (n == 0) → 0 < n
some_left n e = grind arith

pub none_left : (n : ℕ) → true ≡ (n == 0) → n ≡ 0
none_left n e = grind arith
