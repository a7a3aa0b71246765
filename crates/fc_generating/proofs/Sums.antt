-- Sums over numbers from one on.
use Rattle.std.proofs.Common.{◌≡◌, ◌∙◌, ◌<◌, ◌≤◌, ℕ, suc, ◌+◌, ◌-◌, List, [], ◌∷◌, fold, map, sum, ap, arith}
use Rattle.fc_scripts.specs.Steps.{numbers_from}

one_left : (i last : ℕ) → i < last → last - i ≡ suc (last - (i + 1))
one_left i last less = omega (arith, less)

none_left : (i last : ℕ) → last ≤ i → last - i ≡ 0
none_left i last above = omega (arith, above)

sum_from : (a : ℕ) (xs : List ℕ) → fold ◌+◌ a xs ≡ a + sum xs
sum_from a [] = omega (arith)
sum_from a (x ∷ xs) =
    let whole : fold ◌+◌ (a + x) xs ≡ (a + x) + sum xs = sum_from (a + x) xs in
    let rest : sum (x ∷ xs) ≡ (0 + x) + sum xs = sum_from (0 + x) xs in
    omega (arith, whole, rest)

sum_more : (x : ℕ) (xs : List ℕ) → sum (x ∷ xs) ≡ x + sum xs
sum_more x xs = let whole : sum (x ∷ xs) ≡ (0 + x) + sum xs = sum_from (0 + x) xs in omega (arith, whole)

module _ (g : ℕ → ℕ) where
  -- one number more
  pub one_more : (i last before new whole : ℕ) → new ≡ before + g i → before + sum (map g (numbers_from i (last - i))) ≡ whole → i < last → new + sum (map g (numbers_from (i + 1) (last - (i + 1)))) ≡ whole
  one_more i last before new whole is h less =
      let split : sum (map g (numbers_from i (last - i))) ≡ g i + sum (map g (numbers_from (i + 1) (last - (i + 1)))) =
      ap (λ n. sum (map g (numbers_from i n))) (one_left i last less) ∙ sum_more (g i) (map g (numbers_from (i + 1) (last - (i + 1)))) in
      omega (arith, is, h, split)

  -- and no more
  pub no_more : (i last before whole : ℕ) → before + sum (map g (numbers_from i (last - i))) ≡ whole → last ≤ i → before ≡ whole
  no_more i last before whole h above =
      let nothing : sum (map g (numbers_from i (last - i))) ≡ 0 = ap (λ n. sum (map g (numbers_from i n))) (none_left i last above) in
      omega (arith, h, nothing)
