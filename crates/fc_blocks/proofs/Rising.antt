-- Instances that rise are those of any order, put in their order.
use Rattle.std.proofs.Common.{◌≡◌, ℕ, zero, suc, ◌+◌, ◌<◌, ◌==◌, ◌&&◌, ◌||◌, nat_lt, Bool, true, false, if◌then◌else◌, List, [], ◌∷◌, ◌++◌, Result, Ok, Err, refl, sym, ap, subst, ◌∙◌, arith}
use Rattle.std.proofs.lemmas.Bool.Decides.{nat_tests}
use Rattle.std.proofs.lemmas.List.Sums.{sum_by-cons}
use Rattle.std.proofs.lemmas.Map.Keys.{sorted_head, sorted_tail}
use Rattle.std.proofs.lemmas.List.Sorted.{sum_by-IsPermutation, IsPermutation-append_left}
use Rattle.std.specs.List.{AllByRecursion, sum_by}
use Rattle.std.specs.List.Sorted.{IsPermutation}
use Rattle.std.specs.Ordering.{nat_cmp}
use Rattle.std.specs.Prelude.{IfOk}
use Rattle.std.specs.declared.cmp.Ordering.{Ordering}
use Rattle.std.specs.declared.cmp.Ordering.TheVariants.{Less, Equal, Greater}
use Rattle.fc_types.specs.BuiltIn.{built_in_instances}
use Rattle.fc_types.specs.Libraries.{AreRising, pair_cmp, same_instance}
use Rattle.fc_types.specs.declared.class.Class.{Class}
use Rattle.fc_lfbs.specs.BuiltIns.{built_in}
use Rattle.fc_store.specs.Stores.{opened}
use Rattle.fc_blocks.specs.Opening.{goes_before, opened_store, placed, rising, with_own}

abbrev Pair : Type 0
Pair = ℕ × ℕ

-- ---- the order
irreflexive : (p : Pair) → goes_before p p ≡ false
irreflexive p = grind (arith, nat_tests)

transitive : (p q r : Pair) → goes_before p q ≡ true → goes_before q r ≡ true → goes_before p r ≡ true
transitive p q r h k = grind (arith, nat_tests)

either : (p q : Pair) → goes_before p q ≡ false → goes_before q p ≡ false → (p.0 ≡ q.0) × (p.1 ≡ q.1)
either p q h k = (grind (arith, nat_tests), grind (arith, nat_tests))

is_same : (p : Pair) → same_instance p p ≡ true
is_same p = grind (arith, nat_tests)

same_parts : (p q : Pair) → same_instance p q ≡ true → (p.0 ≡ q.0) × (p.1 ≡ q.1)
same_parts p q h = (grind (arith, nat_tests), grind (arith, nat_tests))

pair_is : (p q : Pair) → p.0 ≡ q.0 → p.1 ≡ q.1 → p ≡ q
pair_is p q e f = λ i. (e i, f i)

below : (m n : ℕ) → nat_cmp m n ≡ Less → nat_lt m n ≡ true
below m n e = grind (arith, nat_tests)

level : (m n : ℕ) → nat_cmp m n ≡ Equal → (m == n) ≡ true
level m n e = grind (arith, nat_tests)

less_before : (p q : Pair) → pair_cmp p q ≡ Less → goes_before p q ≡ true
less_before p q e = by (nat_cmp p.0 q.0) refl e
  where
    first : nat_lt p.0 q.0 ≡ true → goes_before p q ≡ true
    first h = ap (λ b. b || ((p.0 == q.0) && nat_lt p.1 q.1)) h

    second : (b : Bool) → (p.0 == q.0) ≡ true → nat_lt p.1 q.1 ≡ true → (b || ((p.0 == q.0) && nat_lt p.1 q.1)) ≡ true
    second true h k = refl
    second false h k = ap (λ b. b && nat_lt p.1 q.1) h ∙ k

    by : (o : Ordering) → nat_cmp p.0 q.0 ≡ o → Rattle.std.specs.Ordering.ordering_then o (nat_cmp p.1 q.1) ≡ Less → goes_before p q ≡ true
    by Less h f = first (below p.0 q.0 h)
    by Equal h f = second (nat_lt p.0 q.0) (level p.0 q.0 h) (below p.1 q.1 f)
    by Greater h f = absurd (cc)

-- ---- lists in which no later one goes before an earlier one
abbrev NotBefore : Pair → Pair → Type 0
NotBefore p q = goes_before q p ≡ false

abbrev InOrder : List Pair → Type 0
InOrder [] = Unit {0}
InOrder (p ∷ ps) = AllByRecursion (NotBefore p) ps × InOrder ps

not_true : (b : Bool) → (b ≡ true → ⊥) → b ≡ false
not_true true h = absurd (h refl)
not_true false h = refl

no_true : true ≡ false → ⊥
no_true e = cc

-- what goes before a pair goes before all that no pair of an order goes before
weaker : (p q r : Pair) → goes_before p q ≡ true → NotBefore q r → NotBefore p r
weaker p q r h k = not_true (goes_before r p) (λ e. no_true (sym (transitive r p q e h) ∙ k))

all_weaker : (p q : Pair) (ps : List Pair) → goes_before p q ≡ true → AllByRecursion (NotBefore q) ps → AllByRecursion (NotBefore p) ps
all_weaker p q [] h all = tt
all_weaker p q (r ∷ rs) h all = (weaker p q r h all.0, all_weaker p q rs h all.1)

opposite : (p q : Pair) → goes_before p q ≡ true → goes_before q p ≡ false
opposite p q h = not_true (goes_before q p) (λ e. no_true (sym (transitive p q p h e) ∙ irreflexive p))

if_placed : (q p : Pair) (r : Pair) (rs more : List Pair) (b : Bool) → NotBefore q p → AllByRecursion (NotBefore q) (r ∷ rs) → AllByRecursion (NotBefore q) more
    → AllByRecursion (NotBefore q) (if b then p ∷ r ∷ rs else r ∷ more)
if_placed q p r rs more true h all m = (h, all)
if_placed q p r rs more false h all m = (all.0, m)

placed_after : (q p : Pair) (ps : List Pair) → NotBefore q p → AllByRecursion (NotBefore q) ps → AllByRecursion (NotBefore q) (placed p ps)
placed_after q p [] h all = (h, tt)
placed_after q p (r ∷ rs) h all = if_placed q p r rs (placed p rs) (goes_before p r) h all (placed_after q p rs h all.1)

placed_order : (p : Pair) (ps : List Pair) → InOrder ps → InOrder (placed p ps)
placed_order p [] h = (tt, tt)
placed_order p (q ∷ qs) h = by (placed_order p qs h.1) (goes_before p q) refl
  where
    by : InOrder (placed p qs) → (b : Bool) → goes_before p q ≡ b → InOrder (if b then p ∷ q ∷ qs else q ∷ placed p qs)
    by more true e = ((opposite p q e, all_weaker p q qs e h.0), h)
    by more false e = (placed_after q p qs e h.0, more)

rising_order : (ps : List Pair) → InOrder (rising ps)
rising_order [] = tt
rising_order (p ∷ ps) = placed_order p (rising ps) (rising_order ps)

-- ---- how often a pair stands in a list
abbrev bit : Bool → ℕ
bit true = 1
bit false = 0

abbrev count : Pair → List Pair → ℕ
count p ps = sum_by (λ q. bit (same_instance p q)) ps

more_count : (p q : Pair) (ps : List Pair) → count p (q ∷ ps) ≡ bit (same_instance p q) + count p ps
more_count p q ps = sum_by-cons (λ r. bit (same_instance p r)) q ps

placed_count : (x p : Pair) (ps : List Pair) → count x (placed p ps) ≡ bit (same_instance x p) + count x ps
placed_count x p [] = more_count x p []
placed_count x p (q ∷ qs) = by (placed_count x p qs) (goes_before p q)
  where
    swapped : (a b c d : ℕ) → d ≡ a + c → b + d ≡ a + (b + c)
    swapped a b c d e = omega (arith, e)

    by : count x (placed p qs) ≡ bit (same_instance x p) + count x qs → (b : Bool) → count x (if b then p ∷ q ∷ qs else q ∷ placed p qs) ≡ bit (same_instance x p) + count x (q ∷ qs)
    by more true = more_count x p (q ∷ qs)
    by more false =
        more_count x q (placed p qs) ∙ swapped (bit (same_instance x p)) (bit (same_instance x q)) (count x qs) (count x (placed p qs)) more
        ∙ ap (λ n. bit (same_instance x p) + n) (sym (more_count x q qs))

rising_count : (x : Pair) (ps : List Pair) → count x (rising ps) ≡ count x ps
rising_count x [] = refl
rising_count x (p ∷ ps) = placed_count x p (rising ps) ∙ ap (λ n. bit (same_instance x p) + n) (rising_count x ps) ∙ sym (more_count x p ps)

-- what goes before the first of an order is not in it
not_there : (x y : Pair) (ps : List Pair) → goes_before x y ≡ true → AllByRecursion (NotBefore y) ps → count x ps ≡ 0
not_there x y [] h all = refl
not_there x y (p ∷ ps) h all =
    both_none (count x (p ∷ ps)) (bit (same_instance x p)) (count x ps) (more_count x p ps) (ap bit (not_true (same_instance x p) (λ e. no_true (sym (moved e) ∙ all.0)))) (not_there x y ps h all.1)
  where
    both_none : (a b c : ℕ) → a ≡ b + c → b ≡ 0 → c ≡ 0 → a ≡ 0
    both_none a b c e f g = omega (arith, e, f, g)

    moved : same_instance x p ≡ true → goes_before p y ≡ true
    moved e = let s = same_parts x p e in subst (λ (r : Pair). goes_before r y ≡ true) (pair_is x p s.0 s.1) h

first_count : (x : Pair) (ps : List Pair) → 0 < count x (x ∷ ps)
first_count x ps = omega (arith, more_count x x ps, ap bit (is_same x))

abbrev SameCounts : List Pair → List Pair → Type 0
SameCounts ps qs = (x : Pair) → count x ps ≡ count x qs

earlier_twice : (x y : Pair) (xs ys : List Pair) → goes_before x y ≡ true → AllByRecursion (NotBefore y) ys → SameCounts (x ∷ xs) (y ∷ ys) → ⊥
earlier_twice x y xs ys h all same = absurd (omega (arith, first_count x xs, same x, not_there x y (y ∷ ys) h (irreflexive y, all)))

fewer : (a b c : ℕ) → a + b ≡ a + c → b ≡ c
fewer a b c e = omega (arith, e)

one_order : (xs ys : List Pair) → InOrder xs → InOrder ys → SameCounts xs ys → xs ≡ ys
one_order [] [] h k same = refl
one_order [] (y ∷ ys) h k same = absurd (omega (arith, first_count y ys, same y))
one_order (x ∷ xs) [] h k same = absurd (omega (arith, first_count x xs, same x))
one_order (x ∷ xs) (y ∷ ys) h k same = by (one_order xs ys h.1 k.1) (goes_before x y) (goes_before y x) refl refl
  where
    by : (SameCounts xs ys → xs ≡ ys) → (a b : Bool) → goes_before x y ≡ a → goes_before y x ≡ b → (x ∷ xs) ≡ (y ∷ ys)
    by more true b e f = absurd (earlier_twice x y xs ys e k.0 same)
    by more false true e f = absurd (earlier_twice y x ys xs f h.0 (λ z. sym (same z)))
    by more false false e f =
        let s = either x y e f in
        let first : x ≡ y = pair_is x y s.0 s.1 in
        let rest : xs ≡ ys = more
        (λ z. fewer (bit (same_instance z x)) (count z xs) (count z ys) (sym (more_count z x xs) ∙ same z ∙ more_count z y ys ∙ ap (λ (p : Pair). bit (same_instance z p) + count z ys) (sym first))) in
        ap (λ p. p ∷ xs) first ∙ ap (λ ps. y ∷ ps) rest

-- ---- the same instances in any order
pub rising_same : (xs ys : List Pair) → IsPermutation xs ys → rising xs ≡ rising ys
rising_same xs ys m =
    one_order (rising xs) (rising ys) (rising_order xs) (rising_order ys)
    (λ x. rising_count x xs ∙ sym (sum_by-IsPermutation (λ q. bit (same_instance x q)) xs ys m) ∙ sym (rising_count x ys))

strict_order : (ps : List Pair) → AreRising ps → InOrder ps
strict_order [] h = tt
strict_order (p ∷ ps) h = (all_after p ps (sorted_head pair_cmp p ps h), strict_order ps (sorted_tail pair_cmp p ps h))
  where
    all_after : (p : Pair) (qs : List Pair) → AllByRecursion (λ q. pair_cmp p q ≡ Less) qs → AllByRecursion (NotBefore p) qs
    all_after p [] all = tt
    all_after p (q ∷ qs) all = (opposite p q (less_before p q all.0), all_after p qs all.1)

rising_is : (ps : List Pair) → AreRising ps → rising ps ≡ ps
rising_is ps h = one_order (rising ps) ps (rising_order ps) (strict_order ps h) (λ x. rising_count x ps)

-- the instances that a library has with those of the built-in classes
pub own_is : (instances pairs : List Pair) → IsPermutation (instances ++ built_in_instances) pairs → AreRising pairs → pairs ≡ with_own instances
own_is instances pairs m h = sym (rising_is pairs h) ∙ sym (rising_same (instances ++ built_in_instances) pairs m)

pub own_same : (one other : List Pair) → IsPermutation one other → with_own one ≡ with_own other
own_same one other m = rising_same (one ++ built_in_instances) (other ++ built_in_instances) (IsPermutation-append_left built_in_instances one other m)

-- an element holds the same in whatever order the instances are given
pub store_same : (library : List Class) (one other : List Pair) → IsPermutation one other → opened_store library one ≡ opened_store library other
store_same library one other m = ap (opened (library ++ built_in)) (own_same one other m)

-- what a call makes of a library and instances
pub store_made : (library all : List Class) (instances pairs : List Pair) → all ≡ library ++ built_in → IsPermutation (instances ++ built_in_instances) pairs → AreRising pairs
    → opened all pairs ≡ opened_store library instances
store_made library all instances pairs same m h = ap (λ (l : List Class). opened l pairs) same ∙ ap (opened (library ++ built_in)) (own_is instances pairs m h)

-- what a call gives is also what this is
pub given_is : {A E : Type 0} (r : Result A E) (a b : A) → a ≡ b → IfOk r (λ x. x ≡ a) → IfOk r (λ x. x ≡ b)
given_is (Ok x) a b e h = h ∙ e
given_is (Err fault) a b e h = tt
