-- Members of a list in their order: those that rise are the sorted ones of which no two are the same.
use Rattle.std.proofs.Common.{◌≡◌, refl, arith, ℕ, suc, ◌+◌, ◌≤◌, ◌<◌, Bool, true, false, List, [], ◌∷◌, length, inl, inr}
use Rattle.std.proofs.lemmas.List.Sorted.{IsPermutation-sym}
use Rattle.std.proofs.lemmas.Map.Keys.{IsDistinct-IsPermutation}
use Rattle.std.specs.Cmp.{IsTotalOrder}
use Rattle.std.specs.List.{AllByRecursion, list_any}
use Rattle.std.specs.List.Sorted.{IsStrictlySortedBy, IsSorted, IsPermutation}
use Rattle.std.specs.Ordering.{is_lt}
use Rattle.std.specs.declared.cmp.Ordering.{Ordering}
use Rattle.std.specs.declared.cmp.Ordering.TheVariants.{Less}
use Rattle.fc_types.proofs.Bools.{both, not_both, and_false, true_or_false}
use Rattle.fc_types.specs.Ids.{is_distinct, is_rising}
use Rattle.fc_types.proofs.Distinct.{distinct_from_test, test_from_distinct}

less_from_is_lt : (o : Ordering) → is_lt o ≡ true → o ≡ Less
less_from_is_lt o e = grind arith

-- a test by which two members are the same exactly where neither is below the other
pub record IsSameBy {X : Type 0} (cmp : X → X → Ordering) (same : X → X → Bool) : Type 0 where
  pub apart : (p q : X) → cmp p q ≡ Less → same p q ≡ false
  pub level : (p q : X) → is_lt (cmp p q) ≡ false → is_lt (cmp q p) ≡ false → same p q ≡ true
  pub flips : (p q : X) → same p q ≡ same q p

module _ {X : Type 0} (cmp : X → X → Ordering) (total : IsTotalOrder cmp) (same : X → X → Bool) (by : IsSameBy cmp same) where
  -- what is above a member is above those below it
  all_above : (p q : X) (qs : List X) → cmp p q ≡ Less → AllByRecursion (λ r. cmp q r ≡ Less) qs → AllByRecursion (λ r. cmp p r ≡ Less) qs
  all_above p q [] e all = tt
  all_above p q (r ∷ qs) e all = (total.trans p q r e all.0, all_above p q qs e all.1)

  pub rises : (ps : List X) → is_rising cmp ps ≡ true → IsStrictlySortedBy cmp ps
  unfolding IsStrictlySortedBy
  rises [] e = tt
  rises (p ∷ []) e = (tt, tt)
  rises (p ∷ q ∷ qs) e =
      let parts : (is_lt (cmp p q) ≡ true) × (is_rising cmp (q ∷ qs) ≡ true) = both _ _ e in
      let less : cmp p q ≡ Less = less_from_is_lt _ parts.0 in
      let more : IsStrictlySortedBy cmp (q ∷ qs) = rises (q ∷ qs) parts.1 in
      ((less, all_above p q qs less more.0), more)

  none_same : (p : X) (qs : List X) → AllByRecursion (λ q. cmp p q ≡ Less) qs → list_any (same p) qs ≡ false
  none_same p [] all = refl
  none_same p (q ∷ qs) all = rw (by.apart p q all.0) (none_same p qs all.1)

  pub rising_distinct : (ps : List X) → IsStrictlySortedBy cmp ps → is_distinct same ps ≡ true
  unfolding IsStrictlySortedBy
  rising_distinct [] up = refl
  rising_distinct (p ∷ ps) up = rw (none_same p ps up.0) (rising_distinct ps up.1)

  distinct_moved : (ps qs : List X) → IsPermutation ps qs → is_distinct same ps ≡ true → is_distinct same qs ≡ true
  distinct_moved ps qs moves e = test_from_distinct same qs (IsDistinct-IsPermutation same by.flips ps qs moves (distinct_from_test same ps e))

  pub distinct_sorted : (ps qs : List X) → IsPermutation ps qs → is_rising cmp qs ≡ true → is_distinct same ps ≡ true
  distinct_sorted ps qs moves e = distinct_moved qs ps (IsPermutation-sym ps qs moves) (rising_distinct qs (rises qs e))

  -- a sort of a list with a first item sorts the rest
  sorted_rest : (p : X) (ps : List X) → IsSorted cmp (p ∷ ps) → IsSorted cmp ps
  sorted_rest p ps up = λ k d low high. let e : suc k + 1 ≡ suc (k + 1) = omega arith in let h : suc k + 1 < length (p ∷ ps) = omega arith in rw e at (up (suc k) d (omega arith) h)

  -- the first two items of a sorted list
  sorted_two : (p q : X) (qs : List X) → IsSorted cmp (p ∷ q ∷ qs) → is_lt (cmp q p) ≡ false
  sorted_two p q qs up = up 0 p (omega arith) (omega arith)

  repeats_first : (p q : X) (qs : List X) → same p q ≡ true → is_distinct same (p ∷ q ∷ qs) ≡ false
  repeats_first p q qs e = rw e refl

  repeated : (qs : List X) → IsSorted cmp qs → is_rising cmp qs ≡ false → is_distinct same qs ≡ false
  repeated [] up e = absurd (cc)
  repeated (p ∷ []) up e = absurd (cc)
  repeated (p ∷ q ∷ qs) up e =
      elim (not_both (is_lt (cmp p q)) (is_rising cmp (q ∷ qs)) e) [
        | inl alike ↦ repeats_first p q qs (by.level p q alike (sorted_two p q qs up))
        | inr later ↦ and_false _ _ (repeated (q ∷ qs) (sorted_rest p (q ∷ qs) up) later)
      ]

  pub repeated_sorted : (ps qs : List X) → IsPermutation ps qs → IsSorted cmp qs → is_rising cmp qs ≡ false → is_distinct same ps ≡ false
  repeated_sorted ps qs moves up e =
      elim (true_or_false (is_distinct same ps)) [
        | inl apart_all ↦ let t : is_distinct same qs ≡ true = distinct_moved ps qs moves apart_all in let f : is_distinct same qs ≡ false = repeated qs up e in absurd (cc)
        | inr found ↦ found
      ]

  pub distinct_rises : (ps qs : List X) → IsPermutation ps qs → IsSorted cmp qs → is_distinct same ps ≡ true → IsStrictlySortedBy cmp qs
  distinct_rises ps qs moves up e =
      elim (true_or_false (is_rising cmp qs)) [
        | inl rising ↦ rises qs rising
        | inr found ↦ let f : is_distinct same ps ≡ false = repeated_sorted ps qs moves up found in absurd (cc)
      ]

  -- what was sorted rises exactly where no two were the same
  pub sorted_rises : (ps qs : List X) → IsPermutation ps qs → IsSorted cmp qs → is_rising cmp qs ≡ is_distinct same ps
  sorted_rises ps qs moves up =
      elim (true_or_false (is_rising cmp qs)) [
        | inl rising ↦ let d : is_distinct same ps ≡ true = distinct_sorted ps qs moves rising in cc
        | inr found ↦ let f : is_distinct same ps ≡ false = repeated_sorted ps qs moves up found in cc
      ]
