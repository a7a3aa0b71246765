-- What stands at the place of an instance while transactions are held.
use Rattle.std.proofs.Common.{◌≡◌, ℕ, zero, suc, ◌+◌, Bool, true, false, List, [], ◌∷◌, ◌++◌, length, map, slice_get, refl, sym, ap, ◌∙◌, arith, Option, Some, None, option_map, if◌then◌else◌}
use Rattle.std.proofs.lemmas.Grind.{fold-append}
use Rattle.std.specs.List.{AllByRecursion}
use Rattle.fc_exec.proofs.Named.{folded_stay}
use Rattle.fc_protocol.specs.Scopes.{Scope}
use Rattle.fc_store.specs.Stores.{Components, Stored, Tree, gone_back, is_in, mark_of, marks_of, places_in, with_mark}
use Rattle.fc_store.proofs.Lists.{get_map, none_some, some_is}
use Rattle.fc_standing.specs.Holding.{AreHeld, Holding, IsApart, IsSettled, LieIn, held_on, marking, standing}
use Rattle.fc_standing.proofs.Over.{AreDisjoint, disjoint, each_within, get_outside, over, within_get, within_length}
use Rattle.fc_standing.proofs.Standing.{IsWithin, held_instances, held_undone, standing_instances}

-- a transaction leaves the instances outside its scope
held_leaves : (s : Stored) (h : Holding) (i : ℕ) (pair : ℕ × ℕ) → LieIn h.scope h.ops → slice_get s.instances i ≡ Some pair → is_in h.scope pair ≡ false → slice_get (held_on s h).trees i ≡ slice_get s.trees i
held_leaves s h i pair a e o =
    let u = held_on s h in
    sym (ap (λ (t : Stored). slice_get t.trees i) (sym (held_undone s h a)) ∙ ap (λ ts. slice_get ts i) (each_within gone_back h.scope u.instances u.trees)
    ∙ get_outside gone_back h.scope u.instances u.trees i pair (ap (λ ps. slice_get ps i) (held_instances s h) ∙ e) o)

abbrev pub IsBeside : ℕ × ℕ → Holding → Type 0
IsBeside pair h = is_in h.scope pair ≡ false

pub standing_leaves : (s : Stored) (hs : List Holding) (i : ℕ) (pair : ℕ × ℕ) → AllByRecursion IsWithin hs → slice_get s.instances i ≡ Some pair → AllByRecursion (IsBeside pair) hs
    → slice_get (standing s hs).trees i ≡ slice_get s.trees i
standing_leaves s [] i pair a e o = refl
standing_leaves s (h ∷ hs) i pair a e o =
    standing_leaves (held_on s h) hs i pair a.1 (ap (λ ps. slice_get ps i) (held_instances s h) ∙ e) o.1 ∙ held_leaves s h i pair a.0 e o.0

-- and at those in its scope there stands one mark more
record Marked (t : Tree) (o : Option Tree) : Type 0 where
  u : Tree
  is : o ≡ Some u
  held : u.held ≡ t.held ++ t.now ∷ []

abbrev holds : Tree → List Components
holds t = t.held

marked_by : (t : Tree) (o : Option Tree) → option_map holds o ≡ Some (t.held ++ t.now ∷ []) → Marked t o
marked_by t None e = absurd (none_some (t.held ++ t.now ∷ []) e)
marked_by t (Some u) e = record { u = u; is = refl; held = some_is u.held (t.held ++ t.now ∷ []) e }

held_marks : (s : Stored) (h : Holding) (i : ℕ) (pair : ℕ × ℕ) (t : Tree) → slice_get s.instances i ≡ Some pair → is_in h.scope pair ≡ true → slice_get s.trees i ≡ Some t → Marked t (slice_get (held_on s h).trees i)
held_marks s h i pair t e b g =
    let set = over with_mark h.scope s in
    marked_by t (slice_get (held_on s h).trees i)
    (sym (get_map holds (held_on s h).trees i) ∙ ap (λ hs. slice_get hs i) (folded_stay set h.ops) ∙ get_map holds set.trees i
    ∙ ap (option_map holds) (ap (λ ts. slice_get ts i) (each_within with_mark h.scope s.instances s.trees) ∙ within_get with_mark h.scope s.instances s.trees i pair true e b
    ∙ ap (λ (o : Option Tree). option_map with_mark o) g))

pub standing_marks : (c : Stored) (before more : List Holding) (h : Holding) (i : ℕ) (pair : ℕ × ℕ) (t : Tree) → AllByRecursion IsWithin before → AllByRecursion IsWithin more
    → slice_get c.instances i ≡ Some pair → is_in h.scope pair ≡ true → AllByRecursion (IsBeside pair) before → AllByRecursion (IsBeside pair) more → slice_get c.trees i ≡ Some t
    → (u : Tree) × ((slice_get (standing c (before ++ h ∷ more)).trees i ≡ Some u) × (u.held ≡ t.held ++ t.now ∷ []))
standing_marks c before more h i pair t a b e g o p is =
    let s = standing c before in
    let at : slice_get s.instances i ≡ Some pair = ap (λ ps. slice_get ps i) (standing_instances c before) ∙ e in
    let m = held_marks s h i pair t at g (standing_leaves c before i pair a e o ∙ is) in (
      m.u,
      (
        ap (λ (x : Stored). slice_get x.trees i) (fold-append held_on c before (h ∷ more))
            ∙ standing_leaves (held_on s h) more i pair b (ap (λ ps. slice_get ps i) (held_instances s h) ∙ at) p ∙ m.is,
        m.held,
      ),
    )

pub standing_length : (s : Stored) (hs : List Holding) → AllByRecursion IsWithin hs → length (standing s hs).trees ≡ length s.trees
standing_length s [] a = refl
standing_length s (h ∷ hs) a = standing_length (held_on s h) hs a.1 ∙ sym (ap (λ (t : Stored). length t.trees) (sym (held_undone s h a.0))
    ∙ ap length (each_within gone_back h.scope (held_on s h).instances (held_on s h).trees) ∙ within_length gone_back h.scope (held_on s h).instances (held_on s h).trees)

-- ---- the marks of a scope where no mark stands
abbrev numbers : (ℕ → ℕ) → ℕ → Scope → List (ℕ × ℕ) → List (ℕ × ℕ)
numbers d n scope pairs = map (λ i. (i, d i)) (places_in scope n pairs)

abbrev numbers_by : (ℕ → ℕ) → ℕ → Scope → List (ℕ × ℕ) → Bool → List (ℕ × ℕ)
numbers_by d n scope pairs b = map (λ i. (i, d i)) (if b then n ∷ places_in scope (n + 1) pairs else places_in scope (n + 1) pairs)

abbrev zero_at : ℕ → ℕ
zero_at n = 0

zeros_by : (d : ℕ → ℕ) (scope : Scope) (n : ℕ) (pairs : List (ℕ × ℕ)) (b : Bool) → (b ≡ true → d n ≡ 0) → numbers d (n + 1) scope pairs ≡ numbers zero_at (n + 1) scope pairs
    → numbers_by d n scope pairs b ≡ numbers_by zero_at n scope pairs b
zeros_by d scope n pairs true z more = λ i. (n, z refl i) ∷ more i
zeros_by d scope n pairs false z more = more

zeros : (d : ℕ → ℕ) (scope : Scope) (n : ℕ) (pairs : List (ℕ × ℕ)) → ((j : ℕ) (p : ℕ × ℕ) → slice_get pairs j ≡ Some p → is_in scope p ≡ true → d (n + j) ≡ 0) → numbers d n scope pairs ≡ numbers zero_at n scope pairs
zeros d scope n [] z = refl
zeros d scope n (p ∷ pairs) z =
    zeros_by d scope n pairs (is_in scope p) (λ e. let k : n ≡ n + 0 = omega arith in ap d k ∙ z 0 p refl e)
    (zeros d scope (n + 1) pairs (λ j q e f. let k : (n + 1) + j ≡ n + suc j = omega arith in ap d k ∙ z (suc j) q e f))

none_marked : (ts : List Tree) (i : ℕ) → AllByRecursion (λ (t : Tree). t.held ≡ []) ts → marks_of (slice_get ts i) ≡ 0
none_marked [] i a = refl
none_marked (t ∷ ts) zero a = ap length a.0
none_marked (t ∷ ts) (suc i) a = none_marked ts i a.1

pub first_marks : (c s : Stored) (scope : Scope) → IsSettled c → s.instances ≡ c.instances → ((i : ℕ) (pair : ℕ × ℕ) → slice_get c.instances i ≡ Some pair → is_in scope pair ≡ true → slice_get s.trees i ≡ slice_get c.trees i)
    → mark_of scope s ≡ marking scope c.instances
first_marks c s scope a e same =
    ap (numbers (λ i. marks_of (slice_get s.trees i)) 0 scope) e
    ∙ zeros (λ i. marks_of (slice_get s.trees i)) scope 0 c.instances (λ j p g b. let k : 0 + j ≡ j = omega arith in
    ap (λ n. marks_of (slice_get s.trees n)) k ∙ ap marks_of (same j p g b) ∙ none_marked c.trees j a)

-- ---- transactions whose scopes do not meet
beside_one : (h g : Holding) (pair : ℕ × ℕ) → AreDisjoint h.scope g.scope → is_in h.scope pair ≡ true → is_in g.scope pair ≡ false
beside_one h g pair n e = by (is_in g.scope pair) refl
  where
    by : (b : Bool) → is_in g.scope pair ≡ b → b ≡ false
    by true f = absurd (n pair e f)
    by false f = refl

pub all_beside : (h : Holding) (hs : List Holding) (pair : ℕ × ℕ) → AllByRecursion (IsApart h) hs → is_in h.scope pair ≡ true → AllByRecursion (IsBeside pair) hs
all_beside h [] pair a e = tt
all_beside h (g ∷ hs) pair a e = (beside_one h g pair (disjoint h.scope g.scope a.0) e, all_beside h hs pair a.1 e)

before_last : (hs : List Holding) (x : Holding) (pair : ℕ × ℕ) → AreHeld (hs ++ x ∷ []) → is_in x.scope pair ≡ true → AllByRecursion (IsBeside pair) hs
before_last [] x pair a e = tt
before_last (h ∷ hs) x pair a e = (by (is_in h.scope pair) refl, before_last hs x pair a.1.1 e)
  where
    among : (gs : List Holding) → AllByRecursion (IsApart h) (gs ++ x ∷ []) → IsApart h x
    among [] b = b.0
    among (g ∷ gs) b = among gs b.1

    by : (b : Bool) → is_in h.scope pair ≡ b → b ≡ false
    by true f = absurd (disjoint h.scope x.scope (among hs a.1.0) pair f e)
    by false f = refl

all_but_last : (hs : List Holding) (x : Holding) → AreHeld (hs ++ x ∷ []) → AllByRecursion IsWithin hs
all_but_last [] x a = tt
all_but_last (h ∷ hs) x a = (a.0, all_but_last hs x a.1.1)

pub begun_is : (c : Stored) (hs : List Holding) (scope : Scope) → AreHeld (hs ++ record { scope = scope; ops = [] } ∷ []) → IsSettled c → mark_of scope (standing c hs) ≡ marking scope c.instances
begun_is c hs scope a b =
    let x : Holding = record { scope = scope; ops = [] } in
    first_marks c (standing c hs) scope b (standing_instances c hs) (λ i pair e f. standing_leaves c hs i pair (all_but_last hs x a) e (before_last hs x pair a f))
