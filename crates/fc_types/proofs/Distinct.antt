-- IDs are different where no two places have the same one.
use Rattle.std.proofs.Common.{◌≡◌, ◌≢◌, ◌==◌, refl, ap, ap₂, ℕ, nat_eq, Bool, true, false, not, List, [], ◌∷◌}
use Rattle.std.specs.Bool.{Decides}
use Rattle.std.proofs.lemmas.Bool.Decides.{Decides-and, Decides-eqb, Decides-like}
use Rattle.std.proofs.lemmas.Map.Made.{AllPairs-from_IsDistinct, IsDistinct-from_AllPairs}
use Rattle.std.specs.List.{AllByRecursion, AllPairs, IsDistinct, list_any}
use Rattle.fc_types.proofs.Bools.{both, neither, was_false}
use Rattle.fc_types.specs.Ids.{is_distinct}
use Rattle.fc_types.specs.Libraries.{same_instance}

none_from_any : {X : Type 0} (same : X → X → Bool) (x : X) (ys : List X) → list_any (same x) ys ≡ false → AllByRecursion (λ y. same x y ≡ false) ys
none_from_any same x [] e = tt
none_from_any same x (y ∷ ys) e = let a : (same x y ≡ false) × (list_any (same x) ys ≡ false) = neither _ _ e in (a.0, none_from_any same x ys a.1)

any_from_none : {X : Type 0} (same : X → X → Bool) (x : X) (ys : List X) → AllByRecursion (λ y. same x y ≡ false) ys → list_any (same x) ys ≡ false
any_from_none same x [] all = refl
any_from_none same x (y ∷ ys) all = rw all.0 (any_from_none same x ys all.1)

pub distinct_from_test : {X : Type 0} (same : X → X → Bool) (xs : List X) → is_distinct same xs ≡ true → IsDistinct same xs
unfolding IsDistinct
distinct_from_test same [] e = tt
distinct_from_test same (x ∷ xs) e =
    let parts : (not (list_any (same x) xs) ≡ true) × (is_distinct same xs ≡ true) = both _ _ e in
    (none_from_any same x xs (was_false _ parts.0), distinct_from_test same xs parts.1)

pub test_from_distinct : {X : Type 0} (same : X → X → Bool) (xs : List X) → IsDistinct same xs → is_distinct same xs ≡ true
unfolding IsDistinct
test_from_distinct same [] d = refl
test_from_distinct same (x ∷ xs) d = rw (any_from_none same x xs d.0) (test_from_distinct same xs d.1)

pub ids_apart : (ids : List ℕ) → is_distinct nat_eq ids ≡ true → AllPairs (λ id other. id ≢ other) ids
ids_apart ids e = AllPairs-from_IsDistinct {eq = nat_eq} Decides-eqb ids (distinct_from_test nat_eq ids e)

pub ids_told : (ids : List ℕ) → AllPairs (λ id other. id ≢ other) ids → is_distinct nat_eq ids ≡ true
ids_told ids d = test_from_distinct nat_eq ids (IsDistinct-from_AllPairs {eq = nat_eq} Decides-eqb ids d)

Decides-same_instance : (p q : ℕ × ℕ) → Decides (same_instance p q) (p ≡ q)
Decides-same_instance p q =
    Decides-like (same_instance p q) (λ e. ap₂ (λ a b. (a, b)) e.0 e.1) (λ e. (ap (λ r. r.0) e, ap (λ r. r.1) e))
    (Decides-and (p.0 == q.0) (p.1 == q.1) (Decides-eqb p.0 q.0) (Decides-eqb p.1 q.1))

pub instances_apart : (pairs : List (ℕ × ℕ)) → is_distinct same_instance pairs ≡ true → AllPairs (λ p q. p ≢ q) pairs
instances_apart pairs e = AllPairs-from_IsDistinct {eq = same_instance} Decides-same_instance pairs (distinct_from_test same_instance pairs e)

pub instances_told : (pairs : List (ℕ × ℕ)) → AllPairs (λ p q. p ≢ q) pairs → is_distinct same_instance pairs ≡ true
instances_told pairs d = test_from_distinct same_instance pairs (IsDistinct-from_AllPairs {eq = same_instance} Decides-same_instance pairs d)
