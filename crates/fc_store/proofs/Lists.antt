-- Lists: a member that is set, the place of the first that passes a test, and two lists whose members belong together.
use Rattle.std.proofs.Common.{◌≡◌, ℕ, zero, suc, ◌+◌, ◌<◌, Bool, true, false, List, [], ◌∷◌, ◌++◌, length, map, take, slice_get, slice_set, slice_index_or, refl, sym, ap, subst, ◌∙◌, drop, arith, Option, Some, None, option_map, find, position}
use Rattle.std.specs.List.{AllByRecursion, position_or_len}
use Rattle.std.proofs.lemmas.Bool.Decides.{nat_tests}
use Rattle.fc_store.specs.Scopes.{at, at_one, each_at}
use Rattle.fc_store.specs.Stores.{Pairwise, map_from}

pub none_some : {A : Type 0} (x : A) → None ≡ Some x → ⊥
none_some x e = cc

pub some_is : {A : Type 0} (x y : A) → Some x ≡ Some y → x ≡ y
some_is x y e = cc

-- ---- a member that is set
pub get_set : {A : Type 0} (xs : List A) (i : ℕ) (x y : A) → slice_get xs i ≡ Some x → slice_get (slice_set xs i y) i ≡ Some y
get_set [] i x y e = absurd (none_some x e)
get_set (z ∷ xs) zero x y e = refl
get_set (z ∷ xs) (suc i) x y e = get_set xs i x y e

pub set_same : {A : Type 0} (xs : List A) (i : ℕ) (x : A) → slice_get xs i ≡ Some x → slice_set xs i x ≡ xs
set_same [] i x e = refl
set_same (z ∷ xs) zero x e = ap (λ y. y ∷ xs) (sym (some_is z x e))
set_same (z ∷ xs) (suc i) x e = ap (λ ys. z ∷ ys) (set_same xs i x e)

pub set_twice : {A : Type 0} (xs : List A) (i : ℕ) (x y : A) → slice_set (slice_set xs i x) i y ≡ slice_set xs i y
set_twice [] i x y = refl
set_twice (z ∷ xs) zero x y = refl
set_twice (z ∷ xs) (suc i) x y = ap (λ ys. z ∷ ys) (set_twice xs i x y)

pub set_swap : {A : Type 0} (xs : List A) (i j : ℕ) (x y : A) → (i ≡ j → ⊥) → slice_set (slice_set xs i x) j y ≡ slice_set (slice_set xs j y) i x
set_swap [] i j x y ne = refl
set_swap (z ∷ xs) zero zero x y ne = absurd (ne refl)
set_swap (z ∷ xs) zero (suc j) x y ne = refl
set_swap (z ∷ xs) (suc i) zero x y ne = refl
set_swap (z ∷ xs) (suc i) (suc j) x y ne = ap (λ ys. z ∷ ys) (set_swap xs i j x y (λ e. ne (ap suc e)))

pub get_other : {A : Type 0} (xs : List A) (i j : ℕ) (x : A) → (i ≡ j → ⊥) → slice_get (slice_set xs i x) j ≡ slice_get xs j
get_other [] i j x ne = refl
get_other (z ∷ xs) zero zero x ne = absurd (ne refl)
get_other (z ∷ xs) zero (suc j) x ne = refl
get_other (z ∷ xs) (suc i) zero x ne = refl
get_other (z ∷ xs) (suc i) (suc j) x ne = get_other xs i j x (λ e. ne (ap suc e))

pub map_set : {A B : Type 0} (f : A → B) (xs : List A) (i : ℕ) (x : A) → map f (slice_set xs i x) ≡ slice_set (map f xs) i (f x)
map_set f [] i x = refl
map_set f (z ∷ xs) zero x = refl
map_set f (z ∷ xs) (suc i) x = ap (λ ys. f z ∷ ys) (map_set f xs i x)

pub get_map : {A B : Type 0} (f : A → B) (xs : List A) (i : ℕ) → slice_get (map f xs) i ≡ option_map f (slice_get xs i)
get_map f [] i = refl
get_map f (x ∷ xs) zero = refl
get_map f (x ∷ xs) (suc i) = get_map f xs i

pub index_map : {A B : Type 0} (f : A → B) (xs : List A) (i : ℕ) (d : A) → slice_index_or (map f xs) i (f d) ≡ f (slice_index_or xs i d)
index_map f [] i d = refl
index_map f (x ∷ xs) zero d = refl
index_map f (x ∷ xs) (suc i) d = index_map f xs i d

pub length_map : {A B : Type 0} (f : A → B) (xs : List A) → length (map f xs) ≡ length xs
length_map f [] = refl
length_map f (x ∷ xs) = let n : length (map f xs) ≡ length xs = length_map f xs in omega (arith, n)

pub map_append : {A B : Type 0} (f : A → B) (xs ys : List A) → map f (xs ++ ys) ≡ map f xs ++ map f ys
map_append f [] ys = refl
map_append f (x ∷ xs) ys = ap (λ zs. f x ∷ zs) (map_append f xs ys)

pub get_read : {A : Type 0} (xs : List A) (i : ℕ) (x : A) → i < length xs → x ≡ slice_index_or xs i x → slice_get xs i ≡ Some x
get_read [] i x lt e = absurd (omega arith)
get_read (y ∷ xs) zero x lt e = ap Some (sym e)
get_read (y ∷ xs) (suc i) x lt e = get_read xs i x (omega arith) e

pub get_again : {A : Type 0} (xs : List A) (i : ℕ) (d : A) → i < length xs → slice_index_or xs i d ≡ slice_index_or xs i (slice_index_or xs i d)
get_again [] i d lt = absurd (omega arith)
get_again (x ∷ xs) zero d lt = refl
get_again (x ∷ xs) (suc i) d lt = get_again xs i d (omega arith)

pub get_within : {A : Type 0} (xs : List A) (i : ℕ) (x : A) → slice_get xs i ≡ Some x → i < length xs
get_within [] i x e = absurd (none_some x e)
get_within (y ∷ xs) zero x e = omega arith
get_within (y ∷ xs) (suc i) x e = let n : i < length xs = get_within xs i x e in omega (arith, n)

pub take_one : {A : Type 0} (xs : List A) (i : ℕ) (x : A) → i < length xs → x ≡ slice_index_or xs i x → take (i + 1) xs ≡ take i xs ++ x ∷ []
take_one [] i x lt e = absurd (omega arith)
take_one (y ∷ xs) zero x lt e = ap (λ z. z ∷ []) (sym e)
take_one (y ∷ xs) (suc i) x lt e =
    let n : suc i + 1 ≡ suc (i + 1) = omega arith in
    ap (λ k. take k (y ∷ xs)) n ∙ ap (λ zs. y ∷ zs) (take_one xs i x (omega arith) e)

pub drop_one : {A : Type 0} (xs : List A) (i : ℕ) (x : A) → i < length xs → x ≡ slice_index_or xs i x → drop i xs ≡ x ∷ drop (i + 1) xs
drop_one [] i x lt e = absurd (omega arith)
drop_one (y ∷ xs) zero x lt e = ap (λ z. z ∷ xs) (sym e)
drop_one (y ∷ xs) (suc i) x lt e =
    let n : suc i + 1 ≡ suc (i + 1) = omega arith in
    drop_one xs i x (omega arith) e ∙ sym (ap (λ k. x ∷ drop k (y ∷ xs)) n)

-- ---- a member that is changed
pub at_is : {A : Type 0} (change : A → A) (xs : List A) (i : ℕ) (x : A) → slice_get xs i ≡ Some x → at change i xs ≡ slice_set xs i (change x)
at_is change xs i x e = ap (at_one change i xs) e

pub at_none : {A : Type 0} (change : A → A) (xs : List A) (i : ℕ) → slice_get xs i ≡ None → at change i xs ≡ xs
at_none change xs i e = ap (at_one change i xs) e

map_at_by : {A B : Type 0} (v : A → B) (f : A → A) (g : B → B) (xs : List A) (i : ℕ) (o : Option A) → ((x : A) → v (f x) ≡ g (v x)) → slice_get xs i ≡ o
    → map v (at_one f i xs o) ≡ at g i (map v xs)
map_at_by v f g xs i None same e = sym (at_none g (map v xs) i (get_map v xs i ∙ ap (option_map v) e))
map_at_by v f g xs i (Some x) same e = map_set v xs i (f x) ∙ ap (slice_set (map v xs) i) (same x) ∙ sym (at_is g (map v xs) i (v x) (get_map v xs i ∙ ap (option_map v) e))

pub map_at : {A B : Type 0} (v : A → B) (f : A → A) (g : B → B) (xs : List A) (i : ℕ) → ((x : A) → v (f x) ≡ g (v x)) → map v (at f i xs) ≡ at g i (map v xs)
map_at v f g xs i same = map_at_by v f g xs i (slice_get xs i) same refl

pub map_each : {A B : Type 0} (v : A → B) (f : A → A) (g : B → B) (ms : List (ℕ × ℕ)) (xs : List A) → ((x : A) → v (f x) ≡ g (v x)) → map v (each_at f ms xs) ≡ each_at g ms (map v xs)
map_each v f g [] xs same = refl
map_each v f g (m ∷ ms) xs same = map_each v f g ms (at f m.0 xs) same ∙ ap (each_at g ms) (map_at v f g xs m.0 same)

apart_by : {A : Type 0} (f g : A → A) (i j : ℕ) (xs : List A) (o p : Option A) → (i ≡ j → ⊥) → slice_get xs i ≡ o → slice_get xs j ≡ p
    → at g j (at_one f i xs o) ≡ at f i (at_one g j xs p)
apart_by f g i j xs None None ne e q = ap (at_one g j xs) q ∙ sym (ap (at_one f i xs) e)
apart_by f g i j xs None (Some k) ne e q = ap (at_one g j xs) q ∙ sym (ap (at_one f i (slice_set xs j (g k))) (get_other xs j i (g k) (λ r. ne (sym r)) ∙ e))
apart_by f g i j xs (Some h) None ne e q = ap (at_one g j (slice_set xs i (f h))) (get_other xs i j (f h) ne ∙ q) ∙ sym (ap (at_one f i xs) e)
apart_by f g i j xs (Some h) (Some k) ne e q =
    ap (at_one g j (slice_set xs i (f h))) (get_other xs i j (f h) ne ∙ q) ∙ set_swap xs i j (f h) (g k) ne
    ∙ sym (ap (at_one f i (slice_set xs j (g k))) (get_other xs j i (g k) (λ r. ne (sym r)) ∙ e))

-- changes at different places may be made in either order
pub apart : {A : Type 0} (f g : A → A) (i j : ℕ) (xs : List A) → (i ≡ j → ⊥) → at g j (at f i xs) ≡ at f i (at g j xs)
apart f g i j xs ne = apart_by f g i j xs (slice_get xs i) (slice_get xs j) ne refl refl

pub map_same : {A B : Type 0} (f g : A → B) (xs : List A) → ((x : A) → f x ≡ g x) → map f xs ≡ map g xs
map_same f g [] same = refl
map_same f g (x ∷ xs) same = ap (λ y. y ∷ map f xs) (same x) ∙ ap (λ ys. g x ∷ ys) (map_same f g xs same)

pub map_map_from : {A B : Type 0} (v : A → B) (f : ℕ → A → A) (g : ℕ → B → B) (n : ℕ) (xs : List A) → ((i : ℕ) (x : A) → v (f i x) ≡ g i (v x)) → map v (map_from f n xs) ≡ map_from g n (map v xs)
map_map_from v f g n [] same = refl
map_map_from v f g n (x ∷ xs) same = ap (λ y. y ∷ map v (map_from f (n + 1) xs)) (same n x) ∙ ap (λ ys. g n (v x) ∷ ys) (map_map_from v f g (n + 1) xs same)

-- ---- the first that passes a test
found : {X : Type 0} (p : X → Bool) (x : X) (xs : List X) (b : Bool) → p x ≡ b → position_or_len p (x ∷ xs) < length (x ∷ xs)
    → (position_or_len p xs < length xs → (y : X) × (slice_get xs (position_or_len p xs) ≡ Some y) × (p y ≡ true))
    → (y : X) × (slice_get (x ∷ xs) (position_or_len p (x ∷ xs)) ≡ Some y) × (p y ≡ true)
found p x xs true e lt more = let n : position_or_len p (x ∷ xs) ≡ 0 = rw e refl in (x, ap (slice_get (x ∷ xs)) n, e)
found p x xs false e lt more =
    let n : position_or_len p (x ∷ xs) ≡ suc (position_or_len p xs) = rw e (omega arith) in
    let m = more (omega (arith, n, lt)) in
    (m.0, ap (slice_get (x ∷ xs)) n ∙ m.1, m.2)

first_passes : {X : Type 0} (p : X → Bool) (xs : List X) → position_or_len p xs < length xs → (y : X) × (slice_get xs (position_or_len p xs) ≡ Some y) × (p y ≡ true)
first_passes p [] lt = absurd (omega arith)
first_passes p (x ∷ xs) lt = found p x xs (p x) refl lt (first_passes p xs)

-- the member at the place of the first that passes a test passes it
pub at_position : {X : Type 0} (p : X → Bool) (xs : List X) (i : ℕ) → position p xs ≡ Some i → (y : X) × (slice_get xs i ≡ Some y) × (p y ≡ true)
at_position p xs i e =
    let t : (position_or_len p xs ≡ i) × (position_or_len p xs < length xs) = (grind (arith, nat_tests, e), grind (arith, nat_tests, e)) in
    let m = first_passes p xs t.1 in
    (m.0, ap (slice_get xs) (sym t.0) ∙ m.1, m.2)

find_by : {X : Type 0} (p : X → Bool) (x : X) (xs : List X) (y : X) (b : Bool) → p x ≡ b → find p (x ∷ xs) ≡ Some y → (find p xs ≡ Some y → p y ≡ true) → p y ≡ true
find_by p x xs y true e f more = let n : find p (x ∷ xs) ≡ Some x = rw e refl in ap p (sym (some_is x y (sym n ∙ f))) ∙ e
find_by p x xs y false e f more = let n : find p (x ∷ xs) ≡ find p xs = rw e refl in more (sym n ∙ f)

pub found_passes : {X : Type 0} (p : X → Bool) (xs : List X) (y : X) → find p xs ≡ Some y → p y ≡ true
found_passes p [] y f = absurd (none_some y f)
found_passes p (x ∷ xs) y f = find_by p x xs y (p x) refl f (found_passes p xs y)

-- ---- members that belong together
pub pair_get : {A B : Type 0} (R : A → B → Type 0) (xs : List A) (ys : List B) (i : ℕ) (x : A) → Pairwise R xs ys → slice_get xs i ≡ Some x
    → (y : B) × (slice_get ys i ≡ Some y) × R x y
pair_get R [] [] i x p e = absurd (none_some x e)
pair_get R [] (y ∷ ys) i x p e = absurd p
pair_get R (z ∷ xs) [] i x p e = absurd p
pair_get R (z ∷ xs) (y ∷ ys) zero x p e = (y, refl, subst (λ w. R w y) (some_is z x e) p.0)
pair_get R (z ∷ xs) (y ∷ ys) (suc i) x p e = pair_get R xs ys i x p.1 e

pub pair_set : {A B : Type 0} (R : A → B → Type 0) (xs : List A) (ys : List B) (i : ℕ) (y : B) → Pairwise R xs ys → ((x : A) → slice_get xs i ≡ Some x → R x y)
    → Pairwise R xs (slice_set ys i y)
pair_set R [] [] i y p r = p
pair_set R [] (z ∷ ys) i y p r = absurd p
pair_set R (x ∷ xs) [] i y p r = absurd p
pair_set R (x ∷ xs) (z ∷ ys) zero y p r = (r x refl, p.1)
pair_set R (x ∷ xs) (z ∷ ys) (suc i) y p r = (p.0, pair_set R xs ys i y p.1 r)

pair_at_by : {A B : Type 0} (R : A → B → Type 0) (f : B → B) (xs : List A) (ys : List B) (i : ℕ) (o : Option B) → ((x : A) (y : B) → R x y → R x (f y)) → Pairwise R xs ys → slice_get ys i ≡ o
    → Pairwise R xs (at_one f i ys o)
pair_at_by R f xs ys i None w p e = p
pair_at_by R f xs ys i (Some y) w p e =
    pair_set R xs ys i (f y) p (λ x g. let m = pair_get R xs ys i x p g in w x y (subst (λ z. R x z) (some_is m.0 y (sym m.1 ∙ e)) m.2))

pub pair_at : {A B : Type 0} (R : A → B → Type 0) (f : B → B) (xs : List A) (ys : List B) (i : ℕ) → ((x : A) (y : B) → R x y → R x (f y)) → Pairwise R xs ys → Pairwise R xs (at f i ys)
pair_at R f xs ys i w p = pair_at_by R f xs ys i (slice_get ys i) w p refl

pub pair_each : {A B : Type 0} (R : A → B → Type 0) (f : B → B) (ms : List (ℕ × ℕ)) (xs : List A) (ys : List B) → ((x : A) (y : B) → R x y → R x (f y)) → Pairwise R xs ys → Pairwise R xs (each_at f ms ys)
pair_each R f [] xs ys w p = p
pair_each R f (m ∷ ms) xs ys w p = pair_each R f ms xs (at f m.0 ys) w (pair_at R f xs ys m.0 w p)

pub pair_from : {A B : Type 0} (R : A → B → Type 0) (f : ℕ → B → B) (n : ℕ) (xs : List A) (ys : List B) → ((i : ℕ) (x : A) (y : B) → R x y → R x (f i y)) → Pairwise R xs ys → Pairwise R xs (map_from f n ys)
pair_from R f n [] [] w p = p
pair_from R f n [] (z ∷ ys) w p = absurd p
pair_from R f n (x ∷ xs) [] w p = absurd p
pair_from R f n (x ∷ xs) (y ∷ ys) w p = (w n x y p.0, pair_from R f (n + 1) xs ys w p.1)

pub pair_more : {A B : Type 0} (R : A → B → Type 0) (xs : List A) (ys : List B) (x : A) (y : B) → Pairwise R xs ys → R x y → Pairwise R (xs ++ x ∷ []) (ys ++ y ∷ [])
pair_more R [] [] x y p r = (r, tt)
pair_more R [] (z ∷ ys) x y p r = absurd p
pair_more R (w ∷ xs) [] x y p r = absurd p
pair_more R (w ∷ xs) (z ∷ ys) x y p r = (p.0, pair_more R xs ys x y p.1 r)

pub pair_take : {A B : Type 0} (R : A → B → Type 0) (xs : List A) (ys : List B) (i : ℕ) (x : A) (y : B) → Pairwise R (take i xs) ys → i < length xs → x ≡ slice_index_or xs i x → R x y
    → Pairwise R (take (i + 1) xs) (ys ++ y ∷ [])
pair_take R xs ys i x y p lt e r = subst (λ zs. Pairwise R zs (ys ++ y ∷ [])) (sym (take_one xs i x lt e)) (pair_more R (take i xs) ys x y p r)

pub pair_weaker : {A B : Type 0} (R S : A → B → Type 0) (xs : List A) (ys : List B) → ((x : A) (y : B) → R x y → S x y) → Pairwise R xs ys → Pairwise S xs ys
pair_weaker R S [] [] w p = p
pair_weaker R S [] (z ∷ ys) w p = absurd p
pair_weaker R S (x ∷ xs) [] w p = absurd p
pair_weaker R S (x ∷ xs) (y ∷ ys) w p = (w x y p.0, pair_weaker R S xs ys w p.1)

pub pair_same : {A B C : Type 0} (f : A → C) (g : B → C) (R : A → B → Type 0) (xs : List A) (ys : List B) → ((x : A) (y : B) → R x y → g y ≡ f x) → Pairwise R xs ys → map g ys ≡ map f xs
pair_same f g R [] [] w p = refl
pair_same f g R [] (z ∷ ys) w p = absurd p
pair_same f g R (x ∷ xs) [] w p = absurd p
pair_same f g R (x ∷ xs) (y ∷ ys) w p = ap (λ z. z ∷ map g ys) (w x y p.0) ∙ ap (λ zs. f x ∷ zs) (pair_same f g R xs ys w p.1)

pub pair_length : {A B : Type 0} (R : A → B → Type 0) (xs : List A) (ys : List B) → Pairwise R xs ys → length ys ≡ length xs
pair_length R [] [] p = refl
pair_length R [] (z ∷ ys) p = absurd p
pair_length R (x ∷ xs) [] p = absurd p
pair_length R (x ∷ xs) (y ∷ ys) p = let n : length ys ≡ length xs = pair_length R xs ys p.1 in omega (arith, n)

pub pair_map : {A B C : Type 0} (R : A → B → Type 0) (S : A → C → Type 0) (f : B → C) (xs : List A) (ys : List B) → ((x : A) (y : B) → R x y → S x (f y)) → Pairwise R xs ys → Pairwise S xs (map f ys)
pair_map R S f [] [] w p = p
pair_map R S f [] (z ∷ ys) w p = absurd p
pair_map R S f (x ∷ xs) [] w p = absurd p
pair_map R S f (x ∷ xs) (y ∷ ys) w p = (w x y p.0, pair_map R S f xs ys w p.1)

-- ---- what holds of all
pub all_more : {A : Type 0} (P : A → Type 0) (xs : List A) (x : A) → AllByRecursion P xs → P x → AllByRecursion P (xs ++ x ∷ [])
all_more P [] x a p = (p, tt)
all_more P (y ∷ xs) x a p = (a.0, all_more P xs x a.1 p)

pub all_take : {A : Type 0} (P : A → Type 0) (n : ℕ) (xs : List A) → AllByRecursion P xs → AllByRecursion P (take n xs)
all_take P zero xs a = tt
all_take P (suc n) [] a = tt
all_take P (suc n) (x ∷ xs) a = (a.0, all_take P n xs a.1)

pub all_index : {A : Type 0} (P : A → Type 0) (xs : List A) (i : ℕ) (d : A) → AllByRecursion P xs → P d → P (slice_index_or xs i d)
all_index P [] i d a p = p
all_index P (x ∷ xs) zero d a p = a.0
all_index P (x ∷ xs) (suc i) d a p = all_index P xs i d a.1 p
