-- A choice whose truth value is known.
use Rattle.std.proofs.Common.{◌≡◌, Bool, true, false, cond, refl}

pub skip : {A : Type 0} (b : Bool) (x y : A) → b ≡ false → cond b x y ≡ y
skip true x y e = cc
skip false x y e = refl

pub stay : {A : Type 0} (b : Bool) (x y : A) → b ≡ true → cond b x y ≡ x
stay true x y e = refl
stay false x y e = cc
