-- Instances and IDs in their order: those that rise are the sorted ones of which no two are the same.
use Rattle.std.proofs.Common.{◌≡◌, refl, arith, ℕ, ◌≤◌, true, false, List, length, count_by, nat_eq}
use Rattle.std.proofs.lemmas.Bool.Decides.{nat_tests}
use Rattle.std.proofs.lemmas.List.Sorted.{length_permutation}
use Rattle.std.proofs.lemmas.List.Sums.{count_by-le-length}
use Rattle.std.specs.Cmp.{IsTotalOrder, then_total, on_total, nat_cmp_total}
use Rattle.std.specs.List.Sorted.{IsSorted, IsPermutation}
use Rattle.std.specs.Ordering.{is_lt, nat_cmp}
use Rattle.std.specs.declared.cmp.Ordering.TheVariants.{Less}
use Rattle.fc_types.specs.Ids.{is_distinct, is_rising}
use Rattle.fc_types.specs.Libraries.{AreInstances, AreRising, is_own_instance, pair_cmp, same_instance}
use Rattle.fc_types.proofs.Ordered.{IsSameBy}
use Rattle.fc_types.proofs.Ordered as ordered

pair_cmp_total : IsTotalOrder pair_cmp
pair_cmp_total = then_total (on_total (λ (p : ℕ × ℕ). p.0) nat_cmp_total) (on_total (λ (p : ℕ × ℕ). p.1) nat_cmp_total)

pairs_apart : (p q : ℕ × ℕ) → pair_cmp p q ≡ Less → same_instance p q ≡ false
pairs_apart p q e = grind (arith, nat_tests)

-- neighbours of which neither is below the other are the same
pairs_level : (p q : ℕ × ℕ) → is_lt (pair_cmp p q) ≡ false → is_lt (pair_cmp q p) ≡ false → same_instance p q ≡ true
pairs_level p q e f = grind (arith, nat_tests)

pairs_flip : (p q : ℕ × ℕ) → same_instance p q ≡ same_instance q p
pairs_flip p q = grind (arith, nat_tests)

same_pairs : IsSameBy pair_cmp same_instance
same_pairs = record { apart = pairs_apart; level = pairs_level; flips = pairs_flip }

ids_apart : (p q : ℕ) → nat_cmp p q ≡ Less → nat_eq p q ≡ false
ids_apart p q e = grind (arith, nat_tests)

ids_level : (p q : ℕ) → is_lt (nat_cmp p q) ≡ false → is_lt (nat_cmp q p) ≡ false → nat_eq p q ≡ true
ids_level p q e f = grind (arith, nat_tests)

ids_flip : (p q : ℕ) → nat_eq p q ≡ nat_eq q p
ids_flip p q = grind (arith, nat_tests)

same_ids : IsSameBy nat_cmp nat_eq
same_ids = record { apart = ids_apart; level = ids_level; flips = ids_flip }

pub rises : (ps : List (ℕ × ℕ)) → is_rising pair_cmp ps ≡ true → AreRising ps
rises ps e = ordered.rises pair_cmp pair_cmp_total same_instance same_pairs ps e

pub rising_distinct : (ps : List (ℕ × ℕ)) → AreRising ps → is_distinct same_instance ps ≡ true
rising_distinct ps up = ordered.rising_distinct pair_cmp pair_cmp_total same_instance same_pairs ps up

pub distinct_sorted : (ps qs : List (ℕ × ℕ)) → IsPermutation ps qs → is_rising pair_cmp qs ≡ true → is_distinct same_instance ps ≡ true
distinct_sorted ps qs moves e = ordered.distinct_sorted pair_cmp pair_cmp_total same_instance same_pairs ps qs moves e

pub repeated_sorted : (ps qs : List (ℕ × ℕ)) → IsPermutation ps qs → IsSorted pair_cmp qs → is_rising pair_cmp qs ≡ false → is_distinct same_instance ps ≡ false
repeated_sorted ps qs moves up e = ordered.repeated_sorted pair_cmp pair_cmp_total same_instance same_pairs ps qs moves up e

pub distinct_rises : (ps qs : List (ℕ × ℕ)) → IsPermutation ps qs → IsSorted pair_cmp qs → is_distinct same_instance ps ≡ true → AreRising qs
distinct_rises ps qs moves up e = ordered.distinct_rises pair_cmp pair_cmp_total same_instance same_pairs ps qs moves up e

-- IDs that were sorted rise exactly where no two were the same
pub ids_rise : (ids sorted : List ℕ) → IsPermutation ids sorted → IsSorted nat_cmp sorted → is_rising nat_cmp sorted ≡ is_distinct nat_eq ids
ids_rise ids sorted moves up = ordered.sorted_rises nat_cmp nat_cmp_total nat_eq same_ids ids sorted moves up

-- instances that were put into order, and rise
pub instances_of : (ps qs : List (ℕ × ℕ)) → IsPermutation ps qs → is_rising pair_cmp qs ≡ true → length ps ≤ 4096 → AreInstances qs
instances_of ps qs moves rising short =
    let kept : length qs ≡ length ps = length_permutation ps qs moves in
    let counted : count_by is_own_instance qs ≤ length qs = count_by-le-length is_own_instance qs in
    record { rising = rises qs rising; few = omega arith; all = omega arith }
