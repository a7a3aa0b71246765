-- Changes at the places of the instances that a scope has.
use Rattle.std.proofs.Common.{◌≡◌, ℕ, zero, suc, ◌+◌, Bool, true, false, List, [], ◌∷◌, map, slice_get, refl, sym, ap, ◌∙◌, arith, Option, Some, None, if◌then◌else◌}
use Rattle.fc_store.specs.Scopes.{at, at_one, each_at}
use Rattle.fc_store.specs.Stores.{is_in, places_in}
use Rattle.fc_store.proofs.Lists.{set_same}

-- ---- one place
pub at_nil : {A : Type 0} (f : A → A) (i : ℕ) → at f i [] ≡ []
at_nil f i = refl

next_by : {A : Type 0} (f : A → A) (i : ℕ) (x : A) (xs : List A) (o : Option A) → at_one f (suc i) (x ∷ xs) o ≡ x ∷ at_one f i xs o
next_by f i x xs None = refl
next_by f i x xs (Some y) = refl

-- what is first is not at a place behind it
pub at_next : {A : Type 0} (f : A → A) (i : ℕ) (x : A) (xs : List A) → at f (suc i) (x ∷ xs) ≡ x ∷ at f i xs
at_next f i x xs = next_by f i x xs (slice_get xs i)

id_by : {A : Type 0} (i : ℕ) (xs : List A) (o : Option A) → slice_get xs i ≡ o → at_one (λ x. x) i xs o ≡ xs
id_by i xs None e = refl
id_by i xs (Some x) e = set_same xs i x e

pub at_id : {A : Type 0} (i : ℕ) (xs : List A) → at (λ x. x) i xs ≡ xs
at_id i xs = id_by i xs (slice_get xs i) refl

pub each_id : {A : Type 0} (ms : List (ℕ × ℕ)) (xs : List A) → each_at (λ x. x) ms xs ≡ xs
each_id [] xs = refl
each_id (m ∷ ms) xs = ap (each_at (λ x. x) ms) (at_id m.0 xs) ∙ each_id ms xs

-- changes that may be made in either order of one member may be so of a list
at_swap : {A : Type 0} (f g : A → A) → ((x : A) → f (g x) ≡ g (f x)) → (i j : ℕ) (xs : List A) → at f i (at g j xs) ≡ at g j (at f i xs)
at_swap f g c i j [] = refl
at_swap f g c zero zero (x ∷ xs) = ap (λ y. y ∷ xs) (c x)
at_swap f g c zero (suc j) (x ∷ xs) = ap (at f 0) (at_next g j x xs) ∙ sym (at_next g j (f x) xs)
at_swap f g c (suc i) zero (x ∷ xs) = at_next f i (g x) xs ∙ sym (ap (at g 0) (at_next f i x xs))
at_swap f g c (suc i) (suc j) (x ∷ xs) =
    ap (at f (suc i)) (at_next g j x xs) ∙ at_next f i x (at g j xs) ∙ ap (λ ys. x ∷ ys) (at_swap f g c i j xs)
    ∙ sym (ap (at g (suc j)) (at_next f i x xs) ∙ at_next g j x (at f i xs))

pub at_each : {A : Type 0} (f g : A → A) → ((x : A) → f (g x) ≡ g (f x)) → (i : ℕ) (ms : List (ℕ × ℕ)) (xs : List A) → at f i (each_at g ms xs) ≡ each_at g ms (at f i xs)
at_each f g c i [] xs = refl
at_each f g c i (m ∷ ms) xs = at_each f g c i ms (at g m.0 xs) ∙ ap (each_at g ms) (at_swap f g c i m.0 xs)

-- ---- the places of a scope
abbrev each_place : {A : Type 0} → (A → A) → List ℕ → List A → List A
each_place f [] xs = xs
each_place f (n ∷ ns) xs = each_place f ns (at f n xs)

by_places : {A : Type 0} (f : A → A) (ms : List (ℕ × ℕ)) (xs : List A) → each_at f ms xs ≡ each_place f (map (λ m. m.0) ms) xs
by_places f [] xs = refl
by_places f (m ∷ ms) xs = by_places f ms (at f m.0 xs)

place_nil : {A : Type 0} (f : A → A) (ns : List ℕ) → each_place f ns [] ≡ []
place_nil f [] = refl
place_nil f (n ∷ ns) = place_nil f ns

place_next : {A : Type 0} (f : A → A) (ns : List ℕ) (x : A) (xs : List A) → each_place f (map suc ns) (x ∷ xs) ≡ x ∷ each_place f ns xs
place_next f [] x xs = refl
place_next f (n ∷ ns) x xs = ap (each_place f (map suc ns)) (at_next f n x xs) ∙ place_next f ns x (at f n xs)

abbrev places_by : List (ℕ × ℕ) → ℕ → List (ℕ × ℕ) → Bool → List ℕ
places_by scope n pairs b = if b then n ∷ places_in scope (n + 1) pairs else places_in scope (n + 1) pairs

shifted_by : (scope : List (ℕ × ℕ)) (n m : ℕ) (pairs : List (ℕ × ℕ)) (b : Bool) → m ≡ suc n → places_in scope (m + 1) pairs ≡ map suc (places_in scope (n + 1) pairs)
    → places_by scope m pairs b ≡ map suc (places_by scope n pairs b)
shifted_by scope n m pairs true e more = ap (λ k. k ∷ places_in scope (m + 1) pairs) e ∙ ap (λ ns. suc n ∷ ns) more
shifted_by scope n m pairs false e more = more

shifted : (scope : List (ℕ × ℕ)) (n m : ℕ) (pairs : List (ℕ × ℕ)) → m ≡ suc n → places_in scope m pairs ≡ map suc (places_in scope n pairs)
shifted scope n m [] e = refl
shifted scope n m (p ∷ pairs) e = shifted_by scope n m pairs (is_in scope p) e (shifted scope (n + 1) (m + 1) pairs (omega (arith, e)))

abbrev pub changed_if : {A : Type 0} → (A → A) → Bool → A → A
changed_if f b x = if b then f x else x

-- the members at the instances of a scope changed
abbrev pub within : {A : Type 0} → (A → A) → List (ℕ × ℕ) → List (ℕ × ℕ) → List A → List A
within f scope [] xs = xs
within f scope (p ∷ pairs) [] = []
within f scope (p ∷ pairs) (x ∷ xs) = changed_if f (is_in scope p) x ∷ within f scope pairs xs

within_by : {A : Type 0} (f : A → A) (scope pairs : List (ℕ × ℕ)) (x : A) (xs : List A) (b : Bool) → each_place f (places_in scope 0 pairs) xs ≡ within f scope pairs xs
    → each_place f (places_by scope 0 pairs b) (x ∷ xs) ≡ changed_if f b x ∷ within f scope pairs xs
within_by f scope pairs x xs true more =
    ap (λ ns. each_place f ns (f x ∷ xs)) (shifted scope 0 1 pairs (omega arith)) ∙ place_next f (places_in scope 0 pairs) (f x) xs ∙ ap (λ ys. f x ∷ ys) more
within_by f scope pairs x xs false more =
    ap (λ ns. each_place f ns (x ∷ xs)) (shifted scope 0 1 pairs (omega arith)) ∙ place_next f (places_in scope 0 pairs) x xs ∙ ap (λ ys. x ∷ ys) more

is_within : {A : Type 0} (f : A → A) (scope pairs : List (ℕ × ℕ)) (xs : List A) → each_place f (places_in scope 0 pairs) xs ≡ within f scope pairs xs
is_within f scope [] xs = refl
is_within f scope (p ∷ pairs) [] = place_nil f (places_in scope 0 (p ∷ pairs))
is_within f scope (p ∷ pairs) (x ∷ xs) = within_by f scope pairs x xs (is_in scope p) (is_within f scope pairs xs)

-- a mark whose places are those of a scope is over its instances
pub over_scope : {A : Type 0} (f : A → A) (scope pairs : List (ℕ × ℕ)) (ms : List (ℕ × ℕ)) (xs : List A) → map (λ m. m.0) ms ≡ places_in scope 0 pairs → each_at f ms xs ≡ within f scope pairs xs
over_scope f scope pairs ms xs e = by_places f ms xs ∙ ap (λ ns. each_place f ns xs) e ∙ is_within f scope pairs xs

undone_if : {A : Type 0} (f g : A → A) (b : Bool) (x : A) → g (f x) ≡ x → changed_if g b (changed_if f b x) ≡ x
undone_if f g true x e = e
undone_if f g false x e = refl

-- what is undone for each member is undone for the scope
pub within_undone : {A : Type 0} (f g : A → A) → ((x : A) → g (f x) ≡ x) → (scope pairs : List (ℕ × ℕ)) (xs : List A) → within g scope pairs (within f scope pairs xs) ≡ xs
within_undone f g e scope [] xs = refl
within_undone f g e scope (p ∷ pairs) [] = refl
within_undone f g e scope (p ∷ pairs) (x ∷ xs) =
    ap (λ y. y ∷ within g scope pairs (within f scope pairs xs)) (undone_if f g (is_in scope p) x (e x)) ∙ ap (λ ys. x ∷ ys) (within_undone f g e scope pairs xs)
