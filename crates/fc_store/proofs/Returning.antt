-- What a mark gives back.
use Rattle.std.proofs.Common.{◌≡◌, ℕ, zero, suc, ◌+◌, ◌<◌, Bool, true, false, List, [], ◌∷◌, ◌++◌, map, slice_get, refl, sym, ap, ◌∙◌, arith, Option, Some, None, option_map, if◌then◌else◌}
use Rattle.fc_store.specs.Scopes.{at, at_one, each_at}
use Rattle.fc_store.specs.Stores.{Stored, Tree, gone_back, is_in, mark_of, marks_of, over_mark, places_in}
use Rattle.fc_store.proofs.Lists.{get_other, get_set, none_some, some_is}
use Rattle.fc_store.proofs.Scoped.{front_of, last_of}
use Rattle.fc_store.proofs.Doing.{same_tree}

at_other : {A : Type 0} (f : A → A) (xs : List A) (i j : ℕ) (o : Option A) → (i ≡ j → ⊥) → slice_get (at_one f i xs o) j ≡ slice_get xs j
at_other f xs i j None ne = refl
at_other f xs i j (Some x) ne = get_other xs i j (f x) ne

at_here : {A : Type 0} (f : A → A) (xs : List A) (i : ℕ) (o : Option A) → slice_get xs i ≡ o → slice_get (at_one f i xs o) i ≡ option_map f o
at_here f xs i None e = e
at_here f xs i (Some x) e = get_set xs i x (f x) e

-- the places from one on, each with a number
abbrev numbered : (ℕ → ℕ) → List (ℕ × ℕ) → ℕ → List (ℕ × ℕ) → List (ℕ × ℕ)
numbered d scope n pairs = map (λ i. (i, d i)) (places_in scope n pairs)

abbrev numbered_by : (ℕ → ℕ) → List (ℕ × ℕ) → ℕ → List (ℕ × ℕ) → Bool → List (ℕ × ℕ)
numbered_by d scope n pairs b = map (λ i. (i, d i)) (if b then n ∷ places_in scope (n + 1) pairs else places_in scope (n + 1) pairs)

-- a place before all of them stays
before_by : {A : Type 0} (f : A → A) (d : ℕ → ℕ) (scope : List (ℕ × ℕ)) (n : ℕ) (pairs : List (ℕ × ℕ)) (xs : List A) (i : ℕ) (b : Bool) → i < n
    → ((ys : List A) → slice_get (each_at f (numbered d scope (n + 1) pairs) ys) i ≡ slice_get ys i) → slice_get (each_at f (numbered_by d scope n pairs b) xs) i ≡ slice_get xs i
before_by f d scope n pairs xs i true lt more = more (at f n xs) ∙ at_other f xs n i (slice_get xs n) (λ e. omega (arith, e, lt))
before_by f d scope n pairs xs i false lt more = more xs

before : {A : Type 0} (f : A → A) (d : ℕ → ℕ) (scope : List (ℕ × ℕ)) (n : ℕ) (pairs : List (ℕ × ℕ)) (xs : List A) (i : ℕ) → i < n → slice_get (each_at f (numbered d scope n pairs) xs) i ≡ slice_get xs i
before f d scope n [] xs i lt = refl
before f d scope n (p ∷ pairs) xs i lt = before_by f d scope n pairs xs i (is_in scope p) lt (λ ys. before f d scope (n + 1) pairs ys i (omega (arith, lt)))

abbrev changed_if : {A : Type 0} → (A → A) → Bool → Option A → Option A
changed_if f b o = if b then option_map f o else o

here_by : {A : Type 0} (f : A → A) (d : ℕ → ℕ) (scope : List (ℕ × ℕ)) (n : ℕ) (pairs : List (ℕ × ℕ)) (xs : List A) (i : ℕ) (b : Bool) → i ≡ n
    → slice_get (each_at f (numbered_by d scope n pairs b) xs) i ≡ changed_if f b (slice_get xs i)
here_by f d scope n pairs xs i true e =
    before f d scope (n + 1) pairs (at f n xs) i (omega (arith, e)) ∙ ap (λ k. slice_get (at f n xs) k) e ∙ at_here f xs n (slice_get xs n) refl ∙ ap (λ k. option_map f (slice_get xs k)) (sym e)
here_by f d scope n pairs xs i false e = before f d scope (n + 1) pairs xs i (omega (arith, e))

later_by : {A : Type 0} (f : A → A) (d : ℕ → ℕ) (scope : List (ℕ × ℕ)) (n : ℕ) (pairs : List (ℕ × ℕ)) (xs : List A) (i : ℕ) (b c : Bool) → (n ≡ i → ⊥)
    → ((ys : List A) → slice_get (each_at f (numbered d scope (n + 1) pairs) ys) i ≡ changed_if f c (slice_get ys i))
    → slice_get (each_at f (numbered_by d scope n pairs b) xs) i ≡ changed_if f c (slice_get xs i)
later_by f d scope n pairs xs i true c ne more = more (at f n xs) ∙ ap (changed_if f c) (at_other f xs n i (slice_get xs n) ne)
later_by f d scope n pairs xs i false c ne more = more xs

-- what stands at the place of an instance of the scope is changed once, and all else stays
over : {A : Type 0} (f : A → A) (d : ℕ → ℕ) (scope : List (ℕ × ℕ)) (n : ℕ) (pairs : List (ℕ × ℕ)) (xs : List A) (j i : ℕ) (p : ℕ × ℕ) → slice_get pairs j ≡ Some p → i ≡ n + j
    → slice_get (each_at f (numbered d scope n pairs) xs) i ≡ changed_if f (is_in scope p) (slice_get xs i)
over f d scope n [] xs j i p e k = absurd (none_some p e)
over f d scope n (q ∷ pairs) xs zero i p e k =
    here_by f d scope n pairs xs i (is_in scope q) (omega (arith, k)) ∙ ap (λ r. changed_if f (is_in scope r) (slice_get xs i)) (some_is q p e)
over f d scope n (q ∷ pairs) xs (suc j) i p e k =
    later_by f d scope n pairs xs i (is_in scope q) (is_in scope p) (λ g. omega (arith, g, k)) (λ ys. over f d scope (n + 1) pairs ys j i p e (omega (arith, k)))

back_is : (t u : Tree) → u.held ≡ t.held ++ t.now ∷ [] → gone_back u ≡ t
back_is t u e = same_tree (gone_back u) t (last_of t.held t.now u.held u.now e) (front_of t.held t.now u.held e)

pub gives_back : (s now : Stored) (scope : List (ℕ × ℕ)) (i : ℕ) (pair : ℕ × ℕ) (t u : Tree) → slice_get s.instances i ≡ Some pair → is_in scope pair ≡ true → slice_get now.trees i ≡ Some u
    → u.held ≡ t.held ++ t.now ∷ [] → slice_get (over_mark gone_back (mark_of scope s) now).trees i ≡ Some t
gives_back s now scope i pair t u e b g h =
    over gone_back (λ k. marks_of (slice_get s.trees k)) scope 0 s.instances now.trees i i pair e (omega arith)
    ∙ ap (λ c. changed_if gone_back c (slice_get now.trees i)) b ∙ ap (option_map gone_back) g ∙ ap Some (back_is t u h)

pub leaves : (s now : Stored) (scope : List (ℕ × ℕ)) (i : ℕ) (pair : ℕ × ℕ) → slice_get s.instances i ≡ Some pair → is_in scope pair ≡ false
    → slice_get (over_mark gone_back (mark_of scope s) now).trees i ≡ slice_get now.trees i
leaves s now scope i pair e b =
    over gone_back (λ k. marks_of (slice_get s.trees k)) scope 0 s.instances now.trees i i pair e (omega arith)
    ∙ ap (λ c. changed_if gone_back c (slice_get now.trees i)) b
