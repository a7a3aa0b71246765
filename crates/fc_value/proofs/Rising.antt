-- Bytes in their order: sorted ones rise exactly where no two are the same.
use Rattle.std.proofs.Common.{◌≡◌, refl, sym, ap, ◌∙◌, arith, ℕ, suc, ◌+◌, ◌≤◌, ◌<◌, Bool, true, false, not, ◌||◌, List, [], ◌∷◌, map, length, get_or, bytes_eq}
use Rattle.std.proofs.lemmas.Cmp.{nat_list_cmp_total}
use Rattle.std.proofs.lemmas.List.Sorted.{IsPermutation-sym, IsPermutation-map}
use Rattle.std.proofs.lemmas.Map.Keys.{IsDistinct-IsPermutation}
use Rattle.std.proofs.lemmas.Map.Text.{is_eq-slice_cmp}
use Rattle.std.specs.Cmp.{both_ways}
use Rattle.std.specs.Cmp.Lexicographic.{slice_cmp}
use Rattle.std.specs.List.{AllByRecursion, list_any}
use Rattle.std.specs.List.Sorted.{IsSorted, IsPermutation}
use Rattle.std.specs.Ordering.{nat_cmp, is_lt, is_eq, ordering_reverse}
use Rattle.std.specs.declared.cmp.Ordering.{Ordering}
use Rattle.std.specs.declared.cmp.Ordering.TheVariants.{Less}
use Rattle.fc_types.specs.Ids.{is_distinct}
use Rattle.fc_value.specs.Keys.{is_below, is_rising}
use Rattle.fc_value.proofs.Conditions.{both}
use Rattle.fc_value.proofs.Distinct.{distinct_from_test, test_from_distinct}

abbrev cmp : List ℕ → List ℕ → Ordering
cmp = slice_cmp nat_cmp

less_is : (o : Ordering) → is_lt o ≡ true → o ≡ Less
less_is o e = grind arith

apart : (p q : List ℕ) → cmp p q ≡ Less → bytes_eq p q ≡ false
apart p q e = sym (is_eq-slice_cmp p q) ∙ ap is_eq e

all_above : (p q : List ℕ) (qs : List (List ℕ)) → cmp p q ≡ Less → AllByRecursion (λ r. cmp q r ≡ Less) qs → AllByRecursion (λ r. cmp p r ≡ Less) qs
all_above p q [] e all = tt
all_above p q (r ∷ qs) e all = (nat_list_cmp_total.trans p q r e all.0, all_above p q qs e all.1)

none_same : (p : List ℕ) (qs : List (List ℕ)) → AllByRecursion (λ q. cmp p q ≡ Less) qs → list_any (bytes_eq p) qs ≡ false
none_same p [] all = refl
none_same p (q ∷ qs) all = rw (apart p q all.0) (none_same p qs all.1)

-- what rises is above its first
above_first : (p : List ℕ) (qs : List (List ℕ)) → is_rising (p ∷ qs) ≡ true → AllByRecursion (λ q. cmp p q ≡ Less) qs
above_first p [] e = tt
above_first p (q ∷ qs) e =
    let parts : (is_lt (cmp p q) ≡ true) × (is_rising (q ∷ qs) ≡ true) = both _ _ e in
    let less : cmp p q ≡ Less = less_is _ parts.0 in
    (less, all_above p q qs less (above_first q qs parts.1))

pub rising_distinct : (ps : List (List ℕ)) → is_rising ps ≡ true → is_distinct bytes_eq ps ≡ true
rising_distinct [] e = refl
rising_distinct (p ∷ ps) e =
    let parts : (is_below p ps ≡ true) × (is_rising ps ≡ true) = both _ _ e in
    rw (none_same p ps (above_first p ps e)) (rising_distinct ps parts.1)

-- neighbours of which the second is not below the first, and that are not the same
less_of : (a b : Ordering) → a ≡ ordering_reverse b → is_lt b ≡ false → is_eq a ≡ false → is_lt a ≡ true
less_of a b e f g = grind arith

sorted_rest : {X : Type 0} (R : X → X → Ordering) (x : X) (xs : List X) → IsSorted R (x ∷ xs) → IsSorted R xs
sorted_rest R x xs up = λ k d low high. let e : suc k + 1 ≡ suc (k + 1) = omega arith in let h : suc k + 1 < length (x ∷ xs) = omega arith in rw e at (up (suc k) d (omega arith) h)

sorted_two : {X : Type 0} (R : X → X → Ordering) (x y : X) (xs : List X) → IsSorted R (x ∷ y ∷ xs) → is_lt (R y x) ≡ false
sorted_two R x y xs up = up 0 x (omega arith) (omega arith)

first_apart : (p q : List ℕ) (qs : List (List ℕ)) → is_distinct bytes_eq (p ∷ q ∷ qs) ≡ true → (bytes_eq p q ≡ false) × (is_distinct bytes_eq (q ∷ qs) ≡ true)
first_apart p q qs e =
    let parts : (not (list_any (bytes_eq p) (q ∷ qs)) ≡ true) × (is_distinct bytes_eq (q ∷ qs) ≡ true) = both _ _ e in
    (first_not (bytes_eq p q) _ parts.0, parts.1)
  where
    first_not : (a b : Bool) → not (a || b) ≡ true → a ≡ false
    first_not true b e = cc
    first_not false b e = refl

module _ {X : Type 0} (f : X → List ℕ) where
  abbrev by : X → X → Ordering
  by x y = cmp (f x) (f y)

  pub distinct_rises : (xs : List X) → IsSorted by xs → is_distinct bytes_eq (map f xs) ≡ true → is_rising (map f xs) ≡ true
  distinct_rises [] up e = refl
  distinct_rises (x ∷ []) up e = refl
  distinct_rises (x ∷ y ∷ xs) up e =
      let parts : (bytes_eq (f x) (f y) ≡ false) × (is_distinct bytes_eq (map f (y ∷ xs)) ≡ true) = first_apart (f x) (f y) (map f xs) e in
      let less : is_lt (cmp (f x) (f y)) ≡ true =
      less_of (cmp (f x) (f y)) (cmp (f y) (f x)) (nat_list_cmp_total.antisymm (f x) (f y)) (sorted_two by x y xs up) (is_eq-slice_cmp (f x) (f y) ∙ parts.0) in
      rw less (distinct_rises (y ∷ xs) (sorted_rest by x (y ∷ xs) up) parts.1)

  pub below_first : (p : List ℕ) (xs : List X) (d : X) (b : Bool) → 1 ≤ length xs → b ≡ is_lt (cmp p (f (get_or xs 0 d))) → b ≡ is_below p (map f xs)
  below_first p [] d b h e = absurd (omega arith)
  below_first p (x ∷ xs) d b h e = e

  bytes_symm : (p q : List ℕ) → bytes_eq p q ≡ bytes_eq q p
  bytes_symm p q = sym (is_eq-slice_cmp p q) ∙ ap is_eq (nat_list_cmp_total.antisymm p q) ∙ turned (cmp q p) ∙ is_eq-slice_cmp q p
    where
      turned : (o : Ordering) → is_eq (ordering_reverse o) ≡ is_eq o
      turned o = grind arith

  distinct_moved : (ps qs : List (List ℕ)) → IsPermutation ps qs → is_distinct bytes_eq ps ≡ true → is_distinct bytes_eq qs ≡ true
  distinct_moved ps qs moves e = test_from_distinct bytes_eq qs (IsDistinct-IsPermutation bytes_eq bytes_symm ps qs moves (distinct_from_test bytes_eq ps e))

  -- what was sorted rises exactly where no two were the same
  pub sorted_rises : (xs ys : List X) → IsPermutation xs ys → IsSorted by ys → is_rising (map f ys) ≡ is_distinct bytes_eq (map f xs)
  sorted_rises xs ys moves up =
      let there = IsPermutation-map f xs ys moves in
      both_ways (is_rising (map f ys)) (is_distinct bytes_eq (map f xs))
      (λ e. distinct_moved (map f ys) (map f xs) (IsPermutation-sym _ _ there) (rising_distinct (map f ys) e))
      (λ e. distinct_rises ys up (distinct_moved (map f xs) (map f ys) there e))
