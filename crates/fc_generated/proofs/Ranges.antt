-- Lists over numbers from one on.
use Rattle.std.proofs.Common.{◌≡◌, ◌<◌, ◌≤◌, ℕ, zero, suc, ◌+◌, ◌-◌, ◌*◌, ◌&&◌, Bool, true, false, List, [], ◌∷◌, ◌++◌, append-nil, append_assoc, map, length, length-append, refl, sym, ap, ◌∙◌, arith}
use Rattle.std.specs.List.{AllByRecursion, flat_map, list_all}
use Rattle.fc_scripts.specs.Steps.{numbers_from}

pub both : (a b : Bool) → a ≡ true → b ≡ true → (a && b) ≡ true
both true b h k = k
both false b h k = cc

-- ---- loops that go over them
pub none_left : (i last : ℕ) → last ≤ i → last - i ≡ 0
none_left i last above = omega (arith, above)

pub one_left : (i last : ℕ) → i < last → last - i ≡ suc (last - (i + 1))
one_left i last less = omega (arith, less)

module _ {A : Type 0} (g : ℕ → A) where
  -- one item more
  pub one_more : (i last : ℕ) (xs new whole : List A) → new ≡ xs ++ g i ∷ [] → xs ++ map g (numbers_from i (last - i)) ≡ whole → i < last → new ++ map g (numbers_from (i + 1) (last - (i + 1))) ≡ whole
  one_more i last xs new whole is h less =
      let more = map g (numbers_from (i + 1) (last - (i + 1))) in
      ap (λ (ys : List A). ys ++ more) is ∙ append_assoc xs (g i ∷ []) more ∙ sym (ap (λ (n : ℕ). xs ++ map g (numbers_from i n)) (one_left i last less)) ∙ h

  -- and no more
  pub no_more : (i last : ℕ) (xs whole : List A) → xs ++ map g (numbers_from i (last - i)) ≡ whole → last ≤ i → xs ≡ whole
  no_more i last xs whole h above = sym (append-nil xs) ∙ sym (ap (λ (n : ℕ). xs ++ map g (numbers_from i n)) (none_left i last above)) ∙ h

  -- what holds of each
  pub each_holds : (P : A → Type 0) (a n : ℕ) → ((k : ℕ) → a ≤ k → k < a + n → P (g k)) → AllByRecursion P (map g (numbers_from a n))
  each_holds P a zero h = tt
  each_holds P a (suc n) h = (h a (omega arith) (omega arith), each_holds P (a + 1) n (λ k low high. h k (omega (arith, low)) (omega (arith, high))))

  pub each_passes : (test : A → Bool) (a n : ℕ) → ((k : ℕ) → a ≤ k → k < a + n → test (g k) ≡ true) → list_all test (map g (numbers_from a n)) ≡ true
  each_passes test a zero h = refl
  each_passes test a (suc n) h = both _ _ (h a (omega arith) (omega arith)) (each_passes test (a + 1) n (λ k low high. h k (omega (arith, low)) (omega (arith, high))))

  pub so_many : (a n : ℕ) → length (map g (numbers_from a n)) ≡ n
  so_many a zero = refl
  so_many a (suc n) = ap suc (so_many (a + 1) n)

pub joined : {A : Type 0} (P : A → Type 0) (xs ys : List A) → AllByRecursion P xs → AllByRecursion P ys → AllByRecursion P (xs ++ ys)
joined P [] ys h k = k
joined P (x ∷ xs) ys h k = (h.0, joined P xs ys h.1 k)

-- ---- the same of lists for each number, one after the other
module _ {A : Type 0} (g : ℕ → List A) where
  pub some_more : (i last : ℕ) (xs new whole : List A) → new ≡ xs ++ g i → xs ++ flat_map g (numbers_from i (last - i)) ≡ whole → i < last → new ++ flat_map g (numbers_from (i + 1) (last - (i + 1))) ≡ whole
  some_more i last xs new whole is h less =
      let more = flat_map g (numbers_from (i + 1) (last - (i + 1))) in
      ap (λ (ys : List A). ys ++ more) is ∙ append_assoc xs (g i) more ∙ sym (ap (λ (n : ℕ). xs ++ flat_map g (numbers_from i n)) (one_left i last less)) ∙ h

  pub nothing_more : (i last : ℕ) (xs whole : List A) → xs ++ flat_map g (numbers_from i (last - i)) ≡ whole → last ≤ i → xs ≡ whole
  nothing_more i last xs whole h above = sym (append-nil xs) ∙ sym (ap (λ (n : ℕ). xs ++ flat_map g (numbers_from i n)) (none_left i last above)) ∙ h

  pub all_hold : (P : A → Type 0) (a n : ℕ) → ((k : ℕ) → a ≤ k → k < a + n → AllByRecursion P (g k)) → AllByRecursion P (flat_map g (numbers_from a n))
  all_hold P a zero h = tt
  all_hold P a (suc n) h = joined P (g a) _ (h a (omega arith) (omega arith)) (all_hold P (a + 1) n (λ k low high. h k (omega (arith, low)) (omega (arith, high))))

  -- where there are at most 65 for each
  pub few_each : (a n : ℕ) → ((k : ℕ) → length (g k) ≤ 65) → length (flat_map g (numbers_from a n)) ≤ 65 * n
  few_each a zero h = omega arith
  few_each a (suc n) h = omega (arith, h a, few_each (a + 1) n h, length-append (g a) (flat_map g (numbers_from (a + 1) n)))
