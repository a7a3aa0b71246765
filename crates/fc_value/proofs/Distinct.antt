-- The test for distinct members, and what it says.
use Rattle.std.proofs.Common.{◌≡◌, refl, Bool, true, false, not, List, [], ◌∷◌}
use Rattle.std.specs.List.{AllByRecursion, IsDistinct, list_any}
use Rattle.fc_types.specs.Ids.{is_distinct}
use Rattle.fc_value.proofs.Conditions.{both, neither}

was_false : (a : Bool) → not a ≡ true → a ≡ false
was_false true e = cc
was_false false e = refl

none_from_any : {X : Type 0} (same : X → X → Bool) (x : X) (ys : List X) → list_any (same x) ys ≡ false → AllByRecursion (λ y. same x y ≡ false) ys
none_from_any same x [] e = tt
none_from_any same x (y ∷ ys) e = let a : (same x y ≡ false) × (list_any (same x) ys ≡ false) = neither _ _ e in (a.0, none_from_any same x ys a.1)

any_from_none : {X : Type 0} (same : X → X → Bool) (x : X) (ys : List X) → AllByRecursion (λ y. same x y ≡ false) ys → list_any (same x) ys ≡ false
any_from_none same x [] all = refl
any_from_none same x (y ∷ ys) all = rw all.0 (any_from_none same x ys all.1)

pub distinct_from_test : {X : Type 0} (same : X → X → Bool) (xs : List X) → is_distinct same xs ≡ true → IsDistinct same xs
unfolding IsDistinct
distinct_from_test same [] e = tt
distinct_from_test same (x ∷ xs) e =
    let parts : (not (list_any (same x) xs) ≡ true) × (is_distinct same xs ≡ true) = both _ _ e in
    (none_from_any same x xs (was_false _ parts.0), distinct_from_test same xs parts.1)

pub test_from_distinct : {X : Type 0} (same : X → X → Bool) (xs : List X) → IsDistinct same xs → is_distinct same xs ≡ true
unfolding IsDistinct
test_from_distinct same [] d = refl
test_from_distinct same (x ∷ xs) d = rw (any_from_none same x xs d.0) (test_from_distinct same xs d.1)
