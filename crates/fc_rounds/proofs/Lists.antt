-- Lists whose items go together, from their fronts on.
use Rattle.std.proofs.Common.{[], ◌≡◌, ℕ, zero, suc, ◌+◌, List, ◌∷◌, ◌++◌, length, slice_get, Some, refl, ap, subst, arith}
use Rattle.std.specs.List.{AllByRecursion}
use Rattle.fc_store.specs.Stores.{Pairwise}
use Rattle.fc_rounds.proofs.Pairs.{BothOrNone, pair_at}

pub cancel : {A : Type 0} (xs ys zs : List A) → xs ++ ys ≡ xs ++ zs → ys ≡ zs
cancel [] ys zs e = e
cancel (x ∷ xs) ys zs e = cancel xs ys zs cc

pub regroup : {A : Type 0} (xs : List A) (x : A) (ys zs : List A) → (xs ++ x ∷ ys) ++ zs ≡ (xs ++ x ∷ []) ++ (ys ++ zs)
regroup [] x ys zs = refl
regroup (y ∷ xs) x ys zs = ap (λ v. y ∷ v) (regroup xs x ys zs)

pub there : {A : Type 0} (xs : List A) (x : A) (ys : List A) (n : ℕ) → length xs ≡ n → slice_get (xs ++ x ∷ ys) n ≡ Some x
there [] x ys zero e = refl
there [] x ys (suc n) e = absurd (omega arith)
there (y ∷ xs) x ys zero e = absurd (omega arith)
there (y ∷ xs) x ys (suc n) e = there xs x ys n (omega arith)

pub length_one : {A : Type 0} (xs : List A) (x : A) → length (xs ++ x ∷ []) ≡ length xs + 1
length_one [] x = refl
length_one (y ∷ xs) x = let e : length (xs ++ x ∷ []) ≡ length xs + 1 = length_one xs x in omega arith

pub all_both : {A : Type 0} (P Q : A → Type 0) (xs : List A) → AllByRecursion P xs → AllByRecursion Q xs → AllByRecursion (λ x. P x × Q x) xs
all_both P Q [] h k = tt
all_both P Q (x ∷ xs) h k = ((h.0, k.0), all_both P Q xs h.1 k.1)

pub all_as : {A : Type 0} (P Q : A → Type 0) (xs : List A) → ((x : A) → P x → Q x) → AllByRecursion P xs → AllByRecursion Q xs
all_as P Q [] to h = tt
all_as P Q (x ∷ xs) to h = (to x h.0, all_as P Q xs to h.1)

module _ {A B : Type 0} (R : A → B → Type 0) where
  pub pairs_length : (xs : List A) (ys : List B) → Pairwise R xs ys → length xs ≡ length ys
  pairs_length [] [] h = refl
  pairs_length [] (y ∷ ys) h = absurd h
  pairs_length (x ∷ xs) [] h = absurd h
  pairs_length (x ∷ xs) (y ∷ ys) h = ap suc (pairs_length xs ys h.1)

  -- what stands behind
  pub pairs_drop : (xs us : List A) (ys vs : List B) → Pairwise R xs ys → Pairwise R (xs ++ us) (ys ++ vs) → Pairwise R us vs
  pairs_drop [] us [] vs h k = k
  pairs_drop [] us (y ∷ ys) vs h k = absurd h
  pairs_drop (x ∷ xs) us [] vs h k = absurd h
  pairs_drop (x ∷ xs) us (y ∷ ys) vs h k = pairs_drop xs us ys vs h.1 k.1

  pub none_paired : (us : List A) → Pairwise R us [] → us ≡ []
  none_paired [] h = refl
  none_paired (u ∷ us) h = absurd h

  -- the first of what waits
  pub record Head (xs : List A) (y : B) (ys : List B) : Type 0 where
    pub first : A
    pub others : List A
    pub whole : xs ≡ first ∷ others
    pub here : R first y
    pub behind : Pairwise R others ys

  pub head_of : (xs : List A) (y : B) (ys : List B) → Pairwise R xs (y ∷ ys) → Head xs y ys
  head_of [] y ys h = absurd h
  head_of (x ∷ xs) y ys h = record { first = x; others = xs; whole = refl; here = h.0; behind = h.1 }

  pub pair_here : (n : ℕ) (xs : List A) (ys : List B) (x : A) (y : B) → Pairwise R xs ys → slice_get xs n ≡ Some x → slice_get ys n ≡ Some y → R x y
  pair_here n xs ys x y h ex ey = subst (λ o. BothOrNone R (Some x) o) ey (subst (λ o. BothOrNone R o (slice_get ys n)) ex (pair_at R n xs ys h))

pub pairs_as : {A B : Type 0} (R Q : A → B → Type 0) → ((x : A) (y : B) → R x y → Q x y) → (xs : List A) (ys : List B) → Pairwise R xs ys → Pairwise Q xs ys
pairs_as R Q to [] [] h = tt
pairs_as R Q to [] (y ∷ ys) h = absurd h
pairs_as R Q to (x ∷ xs) [] h = absurd h
pairs_as R Q to (x ∷ xs) (y ∷ ys) h = (to x y h.0, pairs_as R Q to xs ys h.1)
