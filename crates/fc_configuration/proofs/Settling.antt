-- What a settled copy has of an instance.
use Rattle.std.proofs.Common.{◌≡◌, ℕ, zero, suc, ◌+◌, ◌<◌, ◌==◌, Bool, true, false, cond, List, [], ◌∷◌, ◌++◌, length, map, find, slice_get, slice_index_or, refl, sym, ap, ◌∙◌, arith, Option, Some, None, option_map, if◌then◌else◌}
use Rattle.std.specs.List.{AllByRecursion}
use Rattle.std.proofs.lemmas.Bool.Decides.{nat_tests}
use Rattle.fc_store.specs.Stores.{Components, Stored, Tree, depth_in, depth_of, held_at, is_in, map_from, mark_of, marks_of, or_else, places_in, settled, settled_tree}
use Rattle.fc_store.proofs.Lists.{none_some, some_is}
use Rattle.fc_configuration.specs.Marking.{HasNoMarks, IsBeside, Marking, bare, marks_of_all}

abbrev has : ℕ → ℕ × ℕ → Bool
has i m = m.0 == i

same_test : (m n : ℕ) → m ≡ n → (m == n) ≡ true
same_test m n e = grind (arith, nat_tests)

other_test : (m n : ℕ) → (m ≡ n → ⊥) → (m == n) ≡ false
other_test m n ne = by (m == n) refl
  where
    by : (b : Bool) → (m == n) ≡ b → (m == n) ≡ false
    by false t = t
    by true t = absurd (ne (grind (arith, nat_tests, t)))

taken : (i : ℕ) (m : ℕ × ℕ) (ms : List (ℕ × ℕ)) → m.0 ≡ i → depth_of (m ∷ ms) i ≡ Some m.1
taken i m ms e = ap (λ (b : Bool). option_map (λ (n : ℕ × ℕ). n.1) (cond b (Some m) (find (has i) ms))) (same_test m.0 i e)

passed : (i : ℕ) (m : ℕ × ℕ) (ms : List (ℕ × ℕ)) → (m.0 ≡ i → ⊥) → depth_of (m ∷ ms) i ≡ depth_of ms i
passed i m ms ne = ap (λ (b : Bool). option_map (λ (n : ℕ × ℕ). n.1) (cond b (Some m) (find (has i) ms))) (other_test m.0 i ne)

-- the places from one on, each with a number
abbrev numbered : (ℕ → ℕ) → List (ℕ × ℕ) → ℕ → List (ℕ × ℕ) → List (ℕ × ℕ)
numbered d scope n pairs = map (λ i. (i, d i)) (places_in scope n pairs)

abbrev numbered_by : (ℕ → ℕ) → List (ℕ × ℕ) → ℕ → List (ℕ × ℕ) → Bool → List (ℕ × ℕ)
numbered_by d scope n pairs b = map (λ i. (i, d i)) (if b then n ∷ places_in scope (n + 1) pairs else places_in scope (n + 1) pairs)

before_by : (d : ℕ → ℕ) (scope : List (ℕ × ℕ)) (n : ℕ) (pairs : List (ℕ × ℕ)) (i : ℕ) (b : Bool) → i < n → depth_of (numbered d scope (n + 1) pairs) i ≡ None → depth_of (numbered_by d scope n pairs b) i ≡ None
before_by d scope n pairs i true lt more = passed i (n, d n) (numbered d scope (n + 1) pairs) (λ e. omega (arith, e, lt)) ∙ more
before_by d scope n pairs i false lt more = more

before : (d : ℕ → ℕ) (scope : List (ℕ × ℕ)) (n : ℕ) (pairs : List (ℕ × ℕ)) (i : ℕ) → i < n → depth_of (numbered d scope n pairs) i ≡ None
before d scope n [] i lt = refl
before d scope n (p ∷ pairs) i lt = before_by d scope n pairs i (is_in scope p) lt (before d scope (n + 1) pairs i (omega (arith, lt)))

abbrev number_if : Bool → ℕ → Option ℕ
number_if b n = if b then Some n else None

here_by : (d : ℕ → ℕ) (scope : List (ℕ × ℕ)) (n : ℕ) (pairs : List (ℕ × ℕ)) (i : ℕ) (b : Bool) → i ≡ n → depth_of (numbered_by d scope n pairs b) i ≡ number_if b (d i)
here_by d scope n pairs i true e = taken i (n, d n) (numbered d scope (n + 1) pairs) (sym e) ∙ ap (λ k. Some (d k)) (sym e)
here_by d scope n pairs i false e = before d scope (n + 1) pairs i (omega (arith, e))

later_by : (d : ℕ → ℕ) (scope : List (ℕ × ℕ)) (n : ℕ) (pairs : List (ℕ × ℕ)) (i : ℕ) (b : Bool) (o : Option ℕ) → (n ≡ i → ⊥) → depth_of (numbered d scope (n + 1) pairs) i ≡ o
    → depth_of (numbered_by d scope n pairs b) i ≡ o
later_by d scope n pairs i true o ne more = passed i (n, d n) (numbered d scope (n + 1) pairs) ne ∙ more
later_by d scope n pairs i false o ne more = more

-- the number at the place of an instance of the scope
over : (d : ℕ → ℕ) (scope : List (ℕ × ℕ)) (n : ℕ) (pairs : List (ℕ × ℕ)) (j i : ℕ) (p : ℕ × ℕ) → slice_get pairs j ≡ Some p → i ≡ n + j
    → depth_of (numbered d scope n pairs) i ≡ number_if (is_in scope p) (d i)
over d scope n [] j i p e k = absurd (none_some p e)
over d scope n (q ∷ pairs) zero i p e k =
    here_by d scope n pairs i (is_in scope q) (omega (arith, k)) ∙ ap (λ r. number_if (is_in scope r) (d i)) (some_is q p e)
over d scope n (q ∷ pairs) (suc j) i p e k =
    later_by d scope n pairs i (is_in scope q) (number_if (is_in scope p) (d i)) (λ g. omega (arith, g, k)) (over d scope (n + 1) pairs j i p e (omega (arith, k)))

depth_over : (m : Marking) (i : ℕ) (pair : ℕ × ℕ) → slice_get m.store.instances i ≡ Some pair → depth_of (mark_of m.scope m.store) i ≡ number_if (is_in m.scope pair) (marks_of (slice_get m.store.trees i))
depth_over m i pair e = over (λ k. marks_of (slice_get m.store.trees k)) m.scope 0 m.store.instances i i pair e (omega arith)

-- marks that are not over the instance count for nothing
depth_past : (markings : List Marking) (rest : List Marking) (i : ℕ) (pair : ℕ × ℕ) → AllByRecursion (IsBeside i pair) markings → depth_in (marks_of_all (markings ++ rest)) i ≡ depth_in (marks_of_all rest) i
depth_past [] rest i pair a = refl
depth_past (m ∷ markings) rest i pair a =
    ap (λ o. or_else o (depth_in (marks_of_all (markings ++ rest)) i)) (depth_over m i pair a.0.0 ∙ ap (λ b. number_if b (marks_of (slice_get m.store.trees i))) a.0.1)
    ∙ depth_past markings rest i pair a.1

depth_none : (markings : List Marking) (i : ℕ) (pair : ℕ × ℕ) → AllByRecursion (IsBeside i pair) markings → depth_in (marks_of_all markings) i ≡ None
depth_none [] i pair a = refl
depth_none (m ∷ markings) i pair a =
    ap (λ o. or_else o (depth_in (marks_of_all markings) i)) (depth_over m i pair a.0.0 ∙ ap (λ b. number_if b (marks_of (slice_get m.store.trees i))) a.0.1)
    ∙ depth_none markings i pair a.1

depth_first : (before after : List Marking) (m : Marking) (i : ℕ) (pair : ℕ × ℕ) (t : Tree) → AllByRecursion (IsBeside i pair) before → slice_get m.store.instances i ≡ Some pair → is_in m.scope pair ≡ true
    → slice_get m.store.trees i ≡ Some t → depth_in (marks_of_all (before ++ m ∷ after)) i ≡ Some (length t.held)
depth_first before after m i pair t a e b g =
    depth_past before (m ∷ after) i pair a
    ∙ ap (λ o. or_else o (depth_in (marks_of_all after) i))
    (depth_over m i pair e ∙ ap (λ c. number_if c (marks_of (slice_get m.store.trees i))) b ∙ ap (λ o. Some (marks_of o)) g)

get_from : {A B : Type 0} (f : ℕ → A → B) (n : ℕ) (xs : List A) (j : ℕ) (x : A) → slice_get xs j ≡ Some x → slice_get (map_from f n xs) j ≡ Some (f (n + j) x)
get_from f n [] j x e = absurd (none_some x e)
get_from f n (y ∷ xs) zero x e = let k : n ≡ n + 0 = omega arith in ap (λ z. Some (f n z)) (some_is y x e) ∙ ap (λ m. Some (f m x)) k
get_from f n (y ∷ xs) (suc j) x e = let k : (n + 1) + j ≡ n + suc j = omega arith in get_from f (n + 1) xs j x e ∙ ap (λ m. Some (f m x)) k

here_settled : (now : Stored) (marks : List (List (ℕ × ℕ))) (i : ℕ) (u : Tree) (o : Option ℕ) → slice_get now.trees i ≡ Some u → depth_in marks i ≡ o
    → slice_get (settled marks now).trees i ≡ Some (record { now = held_at o u; held = [] })
here_settled now marks i u o e d =
    let k : 0 + i ≡ i = omega arith in
    get_from (settled_tree marks) 0 now.trees i u e ∙ ap (λ n. Some (settled_tree marks n u)) k ∙ ap (λ p. Some (record { now = held_at p u; held = [] })) d

held_there : (xs : List Components) (x : Components) (ys : List Components) (d : Components) → slice_index_or (xs ++ x ∷ ys) (length xs) d ≡ x
held_there [] x ys d = refl
held_there (y ∷ xs) x ys d = held_there xs x ys d

pub copy_goes_back : (now : Stored) (before after : List Marking) (m : Marking) (i : ℕ) (pair : ℕ × ℕ) (t u : Tree) (later : List Components) → AllByRecursion (IsBeside i pair) before
    → slice_get m.store.instances i ≡ Some pair → is_in m.scope pair ≡ true → slice_get m.store.trees i ≡ Some t → slice_get now.trees i ≡ Some u → u.held ≡ t.held ++ t.now ∷ later
    → slice_get (settled (marks_of_all (before ++ m ∷ after)) now).trees i ≡ Some (bare t)
copy_goes_back now before after m i pair t u later a e b g h k =
    here_settled now (marks_of_all (before ++ m ∷ after)) i u (Some (length t.held)) h (depth_first before after m i pair t a e b g)
    ∙ ap (λ (c : Components). Some (record { now = c; held = [] })) (ap (λ hs. slice_index_or hs (length t.held) u.now) k ∙ held_there t.held t.now later u.now)

pub copy_leaves : (now : Stored) (markings : List Marking) (i : ℕ) (pair : ℕ × ℕ) (u : Tree) → AllByRecursion (IsBeside i pair) markings → slice_get now.trees i ≡ Some u
    → slice_get (settled (marks_of_all markings) now).trees i ≡ Some (bare u)
copy_leaves now markings i pair u a e = here_settled now (marks_of_all markings) i u None e (depth_none markings i pair a)

none_stand : (marks : List (List (ℕ × ℕ))) (n : ℕ) (ts : List Tree) → AllByRecursion HasNoMarks (map_from (settled_tree marks) n ts)
none_stand marks n [] = tt
none_stand marks n (t ∷ ts) = (refl, none_stand marks (n + 1) ts)

pub copy_is_bare : (now : Stored) (markings : List Marking) → AllByRecursion HasNoMarks (settled (marks_of_all markings) now).trees
copy_is_bare now markings = none_stand (marks_of_all markings) 0 now.trees
