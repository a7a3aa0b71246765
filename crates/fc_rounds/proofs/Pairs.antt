-- Two lists whose items go together, one by one.
use Rattle.std.proofs.Common.{ℕ, zero, suc, List, [], ◌∷◌, ◌++◌, slice_get, Option, Some, None}
use Rattle.fc_store.specs.Stores.{Pairwise}

-- both are there and go together, or neither is there
abbrev pub BothOrNone : {A B : Type 0} → (A → B → Type 0) → Option A → Option B → Type 0
BothOrNone R None None = Unit {0}
BothOrNone R None (Some b) = ⊥
BothOrNone R (Some a) None = ⊥
BothOrNone R (Some a) (Some b) = R a b

module _ {A B : Type 0} (R : A → B → Type 0) where
  pub pairs_more : (xs us : List A) (ys vs : List B) → Pairwise R xs ys → Pairwise R us vs → Pairwise R (xs ++ us) (ys ++ vs)
  pairs_more [] us [] vs first more = more
  pairs_more [] us (y ∷ ys) vs first more = absurd first
  pairs_more (x ∷ xs) us [] vs first more = absurd first
  pairs_more (x ∷ xs) us (y ∷ ys) vs first more = (first.0, pairs_more xs us ys vs first.1 more)

  pub pair_at : (i : ℕ) (xs : List A) (ys : List B) → Pairwise R xs ys → BothOrNone R (slice_get xs i) (slice_get ys i)
  pair_at i [] [] pairs = tt
  pair_at i [] (y ∷ ys) pairs = absurd pairs
  pair_at i (x ∷ xs) [] pairs = absurd pairs
  pair_at zero (x ∷ xs) (y ∷ ys) pairs = pairs.0
  pair_at (suc i) (x ∷ xs) (y ∷ ys) pairs = pair_at i xs ys pairs.1
