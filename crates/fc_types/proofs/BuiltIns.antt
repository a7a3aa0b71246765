-- A library with the built-in classes, and its instances with one of each.
use Rattle.std.proofs.Common.{◌≡◌, refl, ap, ◌∙◌, arith, ℕ, ◌+◌, ◌≤◌, ◌==◌, nat_eq, Bool, true, false, not, ◌&&◌, ◌||◌, List, [], ◌∷◌, ◌++◌, map, count_by, cond, length, length-append, inl, inr}
use Rattle.std.proofs.lemmas.Bool.Decides.{nat_tests}
use Rattle.std.proofs.lemmas.List.{map-append}
use Rattle.std.proofs.lemmas.List.Folds.{list_all-append, list_any-append, list_all-map}
use Rattle.std.proofs.lemmas.List.Sorted.{sum_by-IsPermutation, length_permutation}
use Rattle.std.proofs.lemmas.List.Sums.{sum_by-append, sum_by-cons}
use Rattle.std.specs.List.{list_all, list_any}
use Rattle.std.specs.List.Sorted.{IsPermutation, IsSorted}
use Rattle.fc_types.proofs.Bools.{both, not_either, or_true, true_or_false}
use Rattle.fc_types.specs.Ids.{is_distinct}
use Rattle.fc_types.specs.BuiltIn.{built_in_ids, built_in_instances, is_built_in}
use Rattle.fc_types.specs.Classes.{class_keeps}
use Rattle.fc_types.specs.Libraries.{AreInstances, AreKnown, AreRising, IsLibrary, KeepRules, class_id, is_known, is_own, is_own_instance, pair_cmp, same_instance}
use Rattle.fc_types.specs.declared.class.Class.{Class}
use Rattle.fc_types.proofs.Faults.{known_moved}
use Rattle.fc_types.proofs.Rising.{distinct_rises, rising_distinct}

from_eq : (n m : ℕ) → (n == m) ≡ true → n ≡ m
from_eq n m e = grind (arith, nat_tests)

own_class_step : (c : Class) (classes : List Class) (n : ℕ) → is_own c ≡ true
    → ((n == c.id) || list_any (λ id. n == id) (map class_id classes)) ≡ true
    → (list_any (λ id. n == id) (map class_id classes) ≡ true → not (is_built_in n) ≡ true) → not (is_built_in n) ≡ true
own_class_step c classes n own known more =
    elim (true_or_false (n == c.id)) [
      | inl here ↦ ap (λ m. not (is_built_in m)) (from_eq n c.id here) ∙ own
      | inr later ↦ more (rw later at known)
    ]

-- a class that is named by an own one is none of the built-in ones
own_class : (classes : List Class) (n : ℕ) → list_all is_own classes ≡ true → list_any (λ id. n == id) (map class_id classes) ≡ true
    → not (is_built_in n) ≡ true
own_class [] n own known = absurd (cc)
own_class (c ∷ classes) n own known =
    let parts : (is_own c ≡ true) × (list_all is_own classes ≡ true) = both _ _ own in
    own_class_step c classes n parts.0 known (own_class classes n parts.1)

pub own_pairs : (classes : List Class) (ps : List (ℕ × ℕ)) → list_all is_own classes ≡ true → AreKnown classes ps
    → list_all is_own_instance ps ≡ true
own_pairs classes [] own known = refl
own_pairs classes (p ∷ ps) own known =
    let parts : (is_known classes p ≡ true) × (list_all (is_known classes) ps ≡ true) = both _ _ known in
    rw (own_class classes p.0 own parts.0) (own_pairs classes ps own parts.1)

pub distinct_joined : {X : Type 0} (same : X → X → Bool) (xs ys : List X) → is_distinct same xs ≡ true → is_distinct same ys ≡ true
    → list_all (λ x. not (list_any (same x) ys)) xs ≡ true → is_distinct same (xs ++ ys) ≡ true
distinct_joined same [] ys dx dy apart = dy
distinct_joined same (x ∷ xs) ys dx dy apart =
    let d : (not (list_any (same x) xs) ≡ true) × (is_distinct same xs ≡ true) = both _ _ dx in
    let a : (not (list_any (same x) ys) ≡ true) × (list_all (λ x. not (list_any (same x) ys)) xs ≡ true) = both _ _ apart in
    let none : not (list_any (same x) (xs ++ ys)) ≡ true = ap not (list_any-append (same x) xs ys) ∙ not_either _ _ d.0 a.0 in
    rw none (distinct_joined same xs ys d.1 dy a.1)

not_with : (a b c k : Bool) → not (a || (b || (c || false))) ≡ true → not ((a && k) || ((b && k) || ((c && k) || false))) ≡ true
not_with true b c k e = absurd (cc)
not_with false true c k e = absurd (cc)
not_with false false true k e = absurd (cc)
not_with false false false k e = refl

apart_pairs : (ps : List (ℕ × ℕ)) → list_all is_own_instance ps ≡ true
    → list_all (λ (p : ℕ × ℕ). not (list_any (same_instance p) built_in_instances)) ps ≡ true
apart_pairs [] e = refl
apart_pairs (p ∷ ps) e =
    let parts : (not (is_built_in p.0) ≡ true) × (list_all is_own_instance ps ≡ true) = both _ _ e in
    let none : not (list_any (same_instance p) built_in_instances) ≡ true = not_with (p.0 == 1) (p.0 == 2) (p.0 == 126977) (p.1 == 1) parts.0 in
    rw none (apart_pairs ps parts.1)

distinct_with : (ps : List (ℕ × ℕ)) → AreRising ps → list_all is_own_instance ps ≡ true
    → is_distinct same_instance (ps ++ built_in_instances) ≡ true
distinct_with ps up own = distinct_joined same_instance ps built_in_instances (rising_distinct ps up) refl (apart_pairs ps own)

-- instances that are none of the built-in classes' are counted whole
count_own : (ps : List (ℕ × ℕ)) → list_all is_own_instance ps ≡ true → count_by is_own_instance ps ≡ length ps
count_own [] e = refl
count_own (p ∷ ps) e =
    let parts : (is_own_instance p ≡ true) × (list_all is_own_instance ps ≡ true) = both _ _ e in
    let more : count_by is_own_instance ps ≡ length ps = count_own ps parts.1 in
    let step : count_by is_own_instance (p ∷ ps) ≡ cond (is_own_instance p) 1 0 + count_by is_own_instance ps = sum_by-cons (λ x. cond (is_own_instance x) 1 0) p ps in
    let one : cond {A = ℕ} (is_own_instance p) 1 0 ≡ 1 = rw parts.0 refl in
    omega arith

pub instances_with : (ps qs : List (ℕ × ℕ)) → AreInstances ps → list_all is_own_instance ps ≡ true → IsPermutation (ps ++ built_in_instances) qs
    → IsSorted pair_cmp qs → AreInstances qs
instances_with ps qs held own moves up =
    let joined : count_by is_own_instance (ps ++ built_in_instances) ≡ count_by is_own_instance ps + 0 = sum_by-append (λ p. cond (is_own_instance p) 1 0) ps built_in_instances in
    let counted : count_by is_own_instance qs ≡ count_by is_own_instance (ps ++ built_in_instances) = sum_by-IsPermutation (λ p. cond (is_own_instance p) 1 0) _ _ moves in
    let few : count_by is_own_instance ps ≤ 4096 = held.few in
    let whole : count_by is_own_instance ps ≡ length ps = count_own ps own in
    let long : length (ps ++ built_in_instances) ≡ length ps + 3 = length-append ps built_in_instances in
    let kept : length qs ≡ length (ps ++ built_in_instances) = length_permutation (ps ++ built_in_instances) qs moves in
    record { rising = distinct_rises (ps ++ built_in_instances) qs moves up (distinct_with ps held.rising own); few = omega arith; all = omega arith }

-- no class with a built-in ID is an own one
none_own : (classes : List Class) → list_all is_built_in (map class_id classes) ≡ true → count_by is_own classes ≡ 0
none_own [] e = refl
none_own (c ∷ classes) e =
    let parts : (is_built_in c.id ≡ true) × (list_all is_built_in (map class_id classes) ≡ true) = both _ _ e in
    rw parts.0 (none_own classes parts.1)

pub library_with : (classes own : List Class) → IsLibrary classes → map class_id own ≡ built_in_ids → KeepRules own → list_all is_own classes ≡ true
    → IsLibrary (classes ++ own)
library_with classes own l ids kept absent = record {
  few =
      let none : count_by is_own own ≡ 0 = none_own own (ap (list_all is_built_in) ids) in
      let joined : count_by is_own (classes ++ own) ≡ count_by is_own classes + count_by is_own own = sum_by-append (λ c. cond (is_own c) 1 0) classes own in
      let small : count_by is_own classes ≤ 256 = l.few in
      omega arith;
  distinct =
      ap (is_distinct nat_eq) (map-append class_id classes own ∙ ap (λ more. map class_id classes ++ more) ids)
      ∙ distinct_joined nat_eq (map class_id classes) built_in_ids l.distinct refl
      (list_all-map (λ id. not (is_built_in id)) class_id classes ∙ absent);
  kept = λ rule. list_all-append (class_keeps rule) classes own ∙ rw (l.kept rule, kept rule) refl;
}

-- what is known among some classes is known among more
more_known : (classes own : List Class) (ps : List (ℕ × ℕ)) → AreKnown classes ps → AreKnown (classes ++ own) ps
more_known classes own [] known = refl
more_known classes own (p ∷ ps) known =
    let parts : (is_known classes p ≡ true) × (list_all (is_known classes) ps ≡ true) = both _ _ known in
    let here : is_known (classes ++ own) p ≡ true = ap (list_any (λ id. p.0 == id)) (map-append class_id classes own) ∙ list_any-append (λ id. p.0 == id) (map class_id classes) (map class_id own) ∙ rw parts.0 refl in
    rw here (more_known classes own ps parts.1)

built_in_known : (classes own : List Class) (n : ℕ) → map class_id own ≡ built_in_ids → is_built_in n ≡ true → list_any (λ id. n == id) (map class_id (classes ++ own)) ≡ true
built_in_known classes own n ids e =
    ap (list_any (λ id. n == id)) (map-append class_id classes own) ∙ list_any-append (λ id. n == id) (map class_id classes) (map class_id own)
    ∙ or_true _ _ (ap (list_any (λ id. n == id)) ids ∙ e)

pub known_with : (classes own : List Class) (ps qs : List (ℕ × ℕ)) → map class_id own ≡ built_in_ids → AreKnown classes ps
    → IsPermutation (ps ++ built_in_instances) qs → AreKnown (classes ++ own) qs
known_with classes own ps qs ids known moves =
    known_moved (classes ++ own) (ps ++ built_in_instances) qs
    (list_all-append (is_known (classes ++ own)) ps built_in_instances
    ∙ rw (more_known classes own ps known, built_in_known classes own 1 ids refl, built_in_known classes own 2 ids refl, built_in_known classes own 126977 ids refl) refl)
    moves
