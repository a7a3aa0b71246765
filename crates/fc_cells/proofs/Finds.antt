-- What is found in a list, and what a change of the list leaves of it.
use Rattle.std.proofs.Common.{◌≡◌, ℕ, zero, suc, ◌+◌, ◌<◌, ◌==◌, nat_lt, Bool, true, false, not, ◌||◌, cond, List, [], ◌∷◌, length, map, position, find, slice_get, slice_set, bytes_eq, refl, sym, ap, subst, ◌∙◌, arith, Option, Some, None, option_map, option_and_then, eqb-true, ◌⊎◌, inl, inr}
use Rattle.std.specs.List.{position_or_len, remove, list_any, list_all, AllByRecursion}
use Rattle.std.specs.Ordering.{nat_cmp}
use Rattle.std.specs.declared.cmp.Ordering.{Ordering}
use Rattle.std.specs.declared.cmp.Ordering.TheVariants.{Less, Equal, Greater}
use Rattle.std.specs.FinMap.Entries.{put, by_order}
use Rattle.std.proofs.lemmas.Bool.Decides.{nat_tests}
use Rattle.std.proofs.lemmas.Slice.Eq.{bytes_eq-Decides}
use Rattle.fc_types.specs.Ids.{is_distinct}
use Rattle.fc_types.proofs.Bools.{both, neither, was_false}
use Rattle.fc_value.specs.FullForm.{AreRising}
use Rattle.fc_value.specs.declared.value.Value.{Value}

abbrev pub Entry : Type 0
Entry = ℕ × Value

abbrev pub Entries : Type 0
Entries = List Entry

abbrev pub has : ℕ → Entry → Bool
has s e = e.0 == s

-- ---- small facts
pub some_same : {A : Type 0} (x y : A) → ◌≡◌ {A = Option A} (Some x) (Some y) → x ≡ y
some_same x y e = cc

pub no_some : {A : Type 0} {X : Type 0} (x : A) → ◌≡◌ {A = Option A} None (Some x) → X
no_some x e = absurd (cc)

pub true_false : {X : Type 0} (b : Bool) → b ≡ true → b ≡ false → X
true_false b t f = absurd (cc)

pub same_test : (m n : ℕ) → m ≡ n → (m == n) ≡ true
same_test m n e = grind (arith, nat_tests)

pub turned_test : (m n : ℕ) → (m == n) ≡ (n == m)
turned_test m n = grind (arith, nat_tests)

-- two numbers of which one is tested for a third
pub other_test : (m n s : ℕ) → m ≡ n → (n == s) ≡ false → (m == s) ≡ false
other_test m n s e f = ap (λ (k : ℕ). k == s) e ∙ f

-- ---- positions
shifted : (n m : ℕ) → cond (nat_lt (1 + n) (suc m)) (Some (1 + n)) None ≡ option_map suc (cond (nat_lt n m) (Some n) None)
shifted n m =
    let l : nat_lt (1 + n) (suc m) ≡ nat_lt n m = grind (arith, nat_tests) in
    let s : 1 + n ≡ suc n = omega arith in
    ap (λ (b : Bool). cond b (Some (1 + n)) None) l ∙ ap (λ (k : ℕ). cond (nat_lt n m) (Some k) None) s ∙ by (nat_lt n m)
  where
    by : (b : Bool) → cond b (Some (suc n)) None ≡ option_map suc (cond b (Some n) None)
    by true = refl
    by false = refl

pub position_step : {X : Type 0} (p : X → Bool) (x : X) (xs : List X) → position p (x ∷ xs) ≡ cond (p x) (Some zero) (option_map suc (position p xs))
position_step p x xs = by (p x)
  where
    by : (b : Bool) → cond (nat_lt (cond (not b) (1 + position_or_len p xs) 0) (suc (length xs))) (Some (cond (not b) (1 + position_or_len p xs) 0)) None ≡ cond b (Some zero) (option_map suc (position p xs))
    by true = let t : nat_lt 0 (suc (length xs)) ≡ true = grind (arith, nat_tests) in ap (λ (b : Bool). cond b (Some zero) None) t
    by false = shifted (position_or_len p xs) (length xs)

-- the member at the first position that passes
pub record Found {X : Type 0} (p : X → Bool) (xs : List X) (i : ℕ) : Type 0 where
  pub item : X
  pub got : slice_get xs i ≡ Some item
  pub passes : p item ≡ true

found_later : {X : Type 0} (p : X → Bool) (x : X) (xs : List X) (j : ℕ) → Found p xs j → Found p (x ∷ xs) (suc j)
found_later p x xs j f = record { item = f.item; got = f.got; passes = f.passes }

pub found : {X : Type 0} (p : X → Bool) (xs : List X) (i : ℕ) → position p xs ≡ Some i → Found p xs i
found p [] i e = no_some i e
found p (x ∷ xs) i e = by (λ j g. found p xs j g) (p x) refl (position p xs) refl (sym (position_step p x xs) ∙ e)
  where
    by : ((j : ℕ) → position p xs ≡ Some j → Found p xs j) → (b : Bool) → p x ≡ b → (o : Option ℕ) → position p xs ≡ o → cond b (Some zero) (option_map suc o) ≡ Some i → Found p (x ∷ xs) i
    by more true t o q g = subst (Found p (x ∷ xs)) (some_same zero i g) (record { item = x; got = refl; passes = t })
    by more false t None q g = no_some i g
    by more false t (Some j) q g = subst (Found p (x ∷ xs)) (some_same (suc j) i g) (found_later p x xs j (more j q))

pub found_at : {X : Type 0} (p : X → Bool) (xs : List X) → option_and_then (slice_get xs) (position p xs) ≡ find p xs
found_at p [] = refl
found_at p (x ∷ xs) = ap (option_and_then (slice_get (x ∷ xs))) (position_step p x xs) ∙ by (found_at p xs) (p x) (position p xs) refl
  where
    by : option_and_then (slice_get xs) (position p xs) ≡ find p xs → (b : Bool) → (o : Option ℕ) → position p xs ≡ o
        → option_and_then (slice_get (x ∷ xs)) (cond b (Some zero) (option_map suc o)) ≡ cond b (Some x) (find p xs)
    by more true o q = refl
    by more false None q = sym (ap (option_and_then (slice_get xs)) q) ∙ more
    by more false (Some j) q = sym (ap (option_and_then (slice_get xs)) q) ∙ more

-- what is at different positions of two tests of which no member passes both
pub apart : {X : Type 0} (p q : X → Bool) (xs : List X) (i k : ℕ) → ((x : X) → p x ≡ true → q x ≡ false) → position p xs ≡ Some i → position q xs ≡ Some k → (i == k) ≡ false
apart p q xs i k differ e g = by (i == k) refl
  where
    by : (b : Bool) → (i == k) ≡ b → (i == k) ≡ false
    by false t = t
    by true t =
        let f : Found p xs i = found p xs i e in
        let h : Found q xs k = found q xs k g in
        let same : f.item ≡ h.item = some_same f.item h.item (sym f.got ∙ ap (slice_get xs) (eqb-true i k t) ∙ h.got) in
        true_false (q h.item) h.passes (ap q (sym same) ∙ differ f.item f.passes)

-- ---- members
abbrev pub In : {X : Type 0} → X → List X → Type 0
In e [] = ⊥
In e (x ∷ xs) = (x ≡ e) ⊎ In e xs

pub in_found : {X : Type 0} (p : X → Bool) (xs : List X) (e : X) → find p xs ≡ Some e → In e xs × (p e ≡ true)
in_found p [] e g = no_some e g
in_found p (x ∷ xs) e g = by (λ h. in_found p xs e h) (p x) refl g
  where
    by : (find p xs ≡ Some e → In e xs × (p e ≡ true)) → (b : Bool) → p x ≡ b → cond b (Some x) (find p xs) ≡ Some e → In e (x ∷ xs) × (p e ≡ true)
    by more true t h = let s : x ≡ e = some_same x e h in (inl s, ap p (sym s) ∙ t)
    by more false t h = let m : In e xs × (p e ≡ true) = more h in (inr m.0, m.1)

pub all_in : {X : Type 0} (q : X → Bool) (xs : List X) (e : X) → list_all q xs ≡ true → In e xs → q e ≡ true
all_in q [] e a h = absurd h
all_in q (x ∷ xs) e a (inl s) = let t : (q x ≡ true) × (list_all q xs ≡ true) = both _ _ a in ap q (sym s) ∙ t.0
all_in q (x ∷ xs) e a (inr h) = let t : (q x ≡ true) × (list_all q xs ≡ true) = both _ _ a in all_in q xs e t.1 h

pub in_got : {X : Type 0} (xs : List X) (i : ℕ) (x : X) → slice_get xs i ≡ Some x → In x xs
in_got [] i x g = no_some x g
in_got (y ∷ ys) zero x g = inl (some_same y x g)
in_got (y ∷ ys) (suc i) x g = inr (in_got ys i x g)

-- ---- another member at a place
pub find_set_same : {X : Type 0} (p : X → Bool) (xs : List X) (i : ℕ) (y : X) → position p xs ≡ Some i → p y ≡ true → find p (slice_set xs i y) ≡ Some y
find_set_same p [] i y e t = no_some i e
find_set_same p (x ∷ xs) i y e t = by (λ j g. find_set_same p xs j y g t) i (p x) refl (position p xs) refl (sym (position_step p x xs) ∙ e)
  where
    by : ((j : ℕ) → position p xs ≡ Some j → find p (slice_set xs j y) ≡ Some y) → (i : ℕ) → (b : Bool) → p x ≡ b → (o : Option ℕ) → position p xs ≡ o → cond b (Some zero) (option_map suc o) ≡ Some i
        → find p (slice_set (x ∷ xs) i y) ≡ Some y
    by more zero b s o q g = first b s o g
      where
        first : (b : Bool) → p x ≡ b → (o : Option ℕ) → cond b (Some zero) (option_map suc o) ≡ Some zero → cond (p y) (Some y) (find p xs) ≡ Some y
        first b s o g = ap (λ (c : Bool). cond c (Some y) (find p xs)) t
    by more (suc i) true s o q g = absurd (cc)
    by more (suc i) false s None q g = no_some (suc i) g
    by more (suc i) false s (Some j) q g =
        let k : suc j ≡ suc i = some_same (suc j) (suc i) g in
        let l : j ≡ i = omega arith in
        ap (λ (c : Bool). cond c (Some x) (find p (slice_set xs i y))) s ∙ more i (q ∙ ap (λ (n : ℕ). Some n) l)

pub find_set_other : {X : Type 0} (p : X → Bool) (xs : List X) (i : ℕ) (x y : X) → slice_get xs i ≡ Some x → p x ≡ false → p y ≡ false → find p (slice_set xs i y) ≡ find p xs
find_set_other p [] i x y g f h = refl
find_set_other p (z ∷ xs) zero x y g f h =
    ap (λ (c : Bool). cond c (Some y) (find p xs)) h ∙ sym (ap (λ (c : Bool). cond c (Some z) (find p xs)) (ap p (some_same z x g) ∙ f))
find_set_other p (z ∷ xs) (suc i) x y g f h = ap (λ (o : Option _). cond (p z) (Some z) o) (find_set_other p xs i x y g f h)

pub in_set : (es : Entries) (i : ℕ) (x e : Entry) (w : Value) → In e es → slice_get es i ≡ Some x → (x.0 == e.0) ≡ false → In e (slice_set es i (x.0, w))
in_set [] i x e w h g f = absurd h
in_set (y ∷ ys) zero x e w (inl s) g f =
    let k : x.0 ≡ e.0 = ap (λ (z : Entry). z.0) (sym (some_same y x g) ∙ s) in true_false (x.0 == e.0) (same_test x.0 e.0 k) f
in_set (y ∷ ys) zero x e w (inr h) g f = inr h
in_set (y ∷ ys) (suc i) x e w (inl s) g f = inl s
in_set (y ∷ ys) (suc i) x e w (inr h) g f = inr (in_set ys i x e w h g f)

-- ---- an entry that is put
greater_apart : (s t : ℕ) → nat_cmp s t ≡ Greater → (t == s) ≡ false
greater_apart s t e = grind (arith, nat_tests)

equal_same : (s t : ℕ) → nat_cmp s t ≡ Equal → t ≡ s
equal_same s t e = grind (arith, nat_tests)

pub find_put_same : (es : Entries) (s : ℕ) (w : Value) → find (has s) (put nat_cmp s w es) ≡ Some (s, w)
find_put_same [] s w = ap (λ (b : Bool). cond b (Some (s, w)) None) (same_test s s refl)
find_put_same (y ∷ ys) s w = by (find_put_same ys s w) (nat_cmp s y.0) refl
  where
    by : find (has s) (put nat_cmp s w ys) ≡ Some (s, w) → (o : Ordering) → nat_cmp s y.0 ≡ o → find (has s) (by_order o ((s, w) ∷ y ∷ ys) ((y.0, w) ∷ ys) (y ∷ put nat_cmp s w ys)) ≡ Some (s, w)
    by more Less e = ap (λ (b : Bool). cond b (Some (s, w)) (find (has s) (y ∷ ys))) (same_test s s refl)
    by more Equal e =
        let k : y.0 ≡ s = equal_same s y.0 e in
        ap (λ (b : Bool). cond b (Some (y.0, w)) (find (has s) ys)) (same_test y.0 s k) ∙ ap (λ (n : ℕ). Some (n, w)) k
    by more Greater e = ap (λ (b : Bool). cond b (Some y) (find (has s) (put nat_cmp s w ys))) (greater_apart s y.0 e) ∙ more

pub find_put_other : (es : Entries) (s j : ℕ) (w : Value) → (s == j) ≡ false → find (has j) (put nat_cmp s w es) ≡ find (has j) es
find_put_other [] s j w f = ap (λ (b : Bool). cond b (Some (s, w)) None) f
find_put_other (y ∷ ys) s j w f = by (find_put_other ys s j w f) (nat_cmp s y.0) refl
  where
    by : find (has j) (put nat_cmp s w ys) ≡ find (has j) ys → (o : Ordering) → nat_cmp s y.0 ≡ o → find (has j) (by_order o ((s, w) ∷ y ∷ ys) ((y.0, w) ∷ ys) (y ∷ put nat_cmp s w ys)) ≡ find (has j) (y ∷ ys)
    by more Less e = ap (λ (b : Bool). cond b (Some (s, w)) (find (has j) (y ∷ ys))) f
    by more Equal e =
        let k : (y.0 == j) ≡ false = other_test y.0 s j (equal_same s y.0 e) f in
        ap (λ (b : Bool). cond b (Some (y.0, w)) (find (has j) ys)) k ∙ sym (ap (λ (b : Bool). cond b (Some y) (find (has j) ys)) k)
    by more Greater e = ap (λ (o : Option Entry). cond (has j y) (Some y) o) more

pub in_put : (es : Entries) (s : ℕ) (w : Value) (e : Entry) → In e es → (s == e.0) ≡ false → In e (put nat_cmp s w es)
in_put [] s w e h f = absurd h
in_put (y ∷ ys) s w e h f = by (λ g. in_put ys s w e g f) (nat_cmp s y.0) refl h
  where
    by : (In e ys → In e (put nat_cmp s w ys)) → (o : Ordering) → nat_cmp s y.0 ≡ o → In e (y ∷ ys) → In e (by_order o ((s, w) ∷ y ∷ ys) ((y.0, w) ∷ ys) (y ∷ put nat_cmp s w ys))
    by more Less t h = inr h
    by more Equal t (inl g) = true_false (s == e.0) (same_test s e.0 (sym (equal_same s y.0 t) ∙ ap (λ (z : Entry). z.0) g)) f
    by more Equal t (inr g) = inr g
    by more Greater t (inl g) = inl g
    by more Greater t (inr g) = inr (more g)

-- ---- an entry that is taken out
pub find_without : (p : Entry → Bool) (es : Entries) (i : ℕ) (x : Entry) → slice_get es i ≡ Some x → p x ≡ false → find p (remove es i) ≡ find p es
find_without p [] i x g f = no_some x g
find_without p (y ∷ ys) zero x g f = sym (ap (λ (b : Bool). cond b (Some y) (find p ys)) (ap p (some_same y x g) ∙ f))
find_without p (y ∷ ys) (suc i) x g f = ap (λ (o : Option Entry). cond (p y) (Some y) o) (find_without p ys i x g f)

pub find_remains : (p : Entry → Bool) (es : Entries) (i : ℕ) (x e : Entry) → slice_get es i ≡ Some x → (x.0 == e.0) ≡ false → find p es ≡ Some e → find p (remove es i) ≡ Some e
find_remains p [] i x e g f h = no_some x g
find_remains p (y ∷ ys) zero x e g f h = by (p y) refl h
  where
    by : (b : Bool) → p y ≡ b → cond b (Some y) (find p ys) ≡ Some e → find p ys ≡ Some e
    by true t q = let k : x.0 ≡ e.0 = ap (λ (z : Entry). z.0) (sym (some_same y x g) ∙ some_same y e q) in true_false (x.0 == e.0) (same_test x.0 e.0 k) f
    by false t q = q
find_remains p (y ∷ ys) (suc i) x e g f h = by (λ q. find_remains p ys i x e g f q) (p y) h
  where
    by : (find p ys ≡ Some e → find p (remove ys i) ≡ Some e) → (b : Bool) → cond b (Some y) (find p ys) ≡ Some e → cond b (Some y) (find p (remove ys i)) ≡ Some e
    by more true q = q
    by more false q = more q

-- ---- entries that rise
pub above_all : (s : ℕ) (es : Entries) → AllByRecursion (λ (f : Entry). s < f.0) es → find (has s) es ≡ None
above_all s [] a = refl
above_all s (y ∷ ys) a =
    let l : s < y.0 = a.0 in
    let f : (y.0 == s) ≡ false = grind (arith, nat_tests) in
    ap (λ (b : Bool). cond b (Some y) (find (has s) ys)) f ∙ above_all s ys a.1

above_got : (s : ℕ) (es : Entries) (i : ℕ) (x : Entry) → AllByRecursion (λ (f : Entry). s < f.0) es → slice_get es i ≡ Some x → s < x.0
above_got s [] i x a g = no_some x g
above_got s (y ∷ ys) zero x a g = subst (λ (z : Entry). s < z.0) (some_same y x g) a.0
above_got s (y ∷ ys) (suc i) x a g = above_got s ys i x a.1 g

above_in : (s : ℕ) (es : Entries) (e : Entry) → AllByRecursion (λ (f : Entry). s < f.0) es → In e es → s < e.0
above_in s [] e a h = absurd h
above_in s (y ∷ ys) e a (inl g) = subst (λ (z : Entry). s < z.0) g a.0
above_in s (y ∷ ys) e a (inr h) = above_in s ys e a.1 h

below_apart : (m n : ℕ) → m < n → (m == n) ≡ false
below_apart m n l = grind (arith, nat_tests)

pub position_rising : (es : Entries) (i : ℕ) (x : Entry) → AreRising es → slice_get es i ≡ Some x → position (has x.0) es ≡ Some i
position_rising [] i x up g = no_some x g
position_rising (y ∷ ys) zero x up g =
    position_step (has x.0) y ys ∙ ap (λ (b : Bool). cond b (Some zero) (option_map suc (position (has x.0) ys))) (same_test y.0 x.0 (ap (λ (z : Entry). z.0) (some_same y x g)))
position_rising (y ∷ ys) (suc i) x up g =
    position_step (has x.0) y ys ∙ ap (λ (b : Bool). cond b (Some zero) (option_map suc (position (has x.0) ys))) (below_apart y.0 x.0 (above_got y.0 ys i x up.0 g))
    ∙ ap (option_map suc) (position_rising ys i x up.1 g)

pub find_rising : (es : Entries) (e : Entry) → AreRising es → In e es → find (has e.0) es ≡ Some e
find_rising [] e up h = absurd h
find_rising (y ∷ ys) e up (inl s) = ap (λ (b : Bool). cond b (Some y) (find (has e.0) ys)) (same_test y.0 e.0 (ap (λ (z : Entry). z.0) s)) ∙ ap (λ (z : Entry). Some z) s
find_rising (y ∷ ys) e up (inr h) = ap (λ (b : Bool). cond b (Some y) (find (has e.0) ys)) (below_apart y.0 e.0 (above_in y.0 ys e up.0 h)) ∙ find_rising ys e up.1 h

pub none_left : (es : Entries) (i : ℕ) (x : Entry) → AreRising es → slice_get es i ≡ Some x → find (has x.0) (remove es i) ≡ None
none_left [] i x up g = no_some x g
none_left (y ∷ ys) zero x up g =
    ap (λ (s : ℕ). find (has s) ys) (sym (ap (λ (z : Entry). z.0) (some_same y x g))) ∙ above_all y.0 ys up.0
none_left (y ∷ ys) (suc i) x up g =
    ap (λ (b : Bool). cond b (Some y) (find (has x.0) (remove ys i))) (below_apart y.0 x.0 (above_got y.0 ys i x up.0 g)) ∙ none_left ys i x up.1 g

-- ---- entries that differ in their keys
bytes_same : (p q : List ℕ) → bytes_eq p q ≡ true → p ≡ q
bytes_same p q e = (bytes_eq-Decides p q).0 e

bytes_test : (p q : List ℕ) → p ≡ q → bytes_eq p q ≡ true
bytes_test p q e = (bytes_eq-Decides p q).1 e

module _ (f : Entry → List ℕ) where
  any_in : (q : List ℕ) (es : Entries) (e : Entry) → In e es → q ≡ f e → list_any (bytes_eq q) (map f es) ≡ true
  any_in q [] e h s = absurd h
  any_in q (y ∷ ys) e (inl g) s = ap (λ (b : Bool). b || list_any (bytes_eq q) (map f ys)) (bytes_test q (f y) (s ∙ ap f (sym g)))
  any_in q (y ∷ ys) e (inr h) s = ap (λ (b : Bool). bytes_eq q (f y) || b) (any_in q ys e h s) ∙ last (bytes_eq q (f y))
    where
      last : (b : Bool) → (b || true) ≡ true
      last true = refl
      last false = refl

  -- the first of two entries with one key is the other
  clash : {X : Type 0} (y : Entry) (ys : Entries) (e : Entry) (k : List ℕ) → is_distinct bytes_eq (map f (y ∷ ys)) ≡ true → In e ys → bytes_eq (f e) k ≡ true → bytes_eq (f y) k ≡ true → X
  clash y ys e k d h t u =
      let parts : (not (list_any (bytes_eq (f y)) (map f ys)) ≡ true) × (is_distinct bytes_eq (map f ys) ≡ true) = both _ _ d in
      true_false (list_any (bytes_eq (f y)) (map f ys)) (any_in (f y) ys e h (bytes_same (f y) k u ∙ sym (bytes_same (f e) k t))) (was_false _ parts.0)

  pub find_distinct : (es : Entries) (e : Entry) (k : List ℕ) → is_distinct bytes_eq (map f es) ≡ true → In e es → bytes_eq (f e) k ≡ true → find (λ x. bytes_eq (f x) k) es ≡ Some e
  find_distinct [] e k d h t = absurd h
  find_distinct (y ∷ ys) e k d (inl s) t = ap (λ (b : Bool). cond b (Some y) (find (λ x. bytes_eq (f x) k) ys)) (ap (λ (z : Entry). bytes_eq (f z) k) s ∙ t) ∙ ap (λ (z : Entry). Some z) s
  find_distinct (y ∷ ys) e k d (inr h) t = by (find_distinct ys e k rest h t) (bytes_eq (f y) k) refl
    where
      rest : is_distinct bytes_eq (map f ys) ≡ true
      rest = let parts : (not (list_any (bytes_eq (f y)) (map f ys)) ≡ true) × (is_distinct bytes_eq (map f ys) ≡ true) = both _ _ d in parts.1

      by : find (λ x. bytes_eq (f x) k) ys ≡ Some e → (b : Bool) → bytes_eq (f y) k ≡ b → cond b (Some y) (find (λ x. bytes_eq (f x) k) ys) ≡ Some e
      by more true u = clash y ys e k d h t u
      by more false u = more

  none_same : (y : Entry) (ys : Entries) (k : List ℕ) → list_any (bytes_eq (f y)) (map f ys) ≡ false → bytes_eq (f y) k ≡ true → find (λ x. bytes_eq (f x) k) ys ≡ None
  none_same y [] k a t = refl
  none_same y (z ∷ zs) k a t =
      let parts : (bytes_eq (f y) (f z) ≡ false) × (list_any (bytes_eq (f y)) (map f zs) ≡ false) = neither _ _ a in by parts.0 (none_same y zs k parts.1 t) (bytes_eq (f z) k) refl
    where
      by : bytes_eq (f y) (f z) ≡ false → find (λ x. bytes_eq (f x) k) zs ≡ None → (b : Bool) → bytes_eq (f z) k ≡ b → cond b (Some z) (find (λ x. bytes_eq (f x) k) zs) ≡ None
      by n more true u = true_false (bytes_eq (f y) (f z)) (bytes_test (f y) (f z) (bytes_same (f y) k t ∙ sym (bytes_same (f z) k u))) n
      by n more false u = more

  -- the key of an entry that is taken out is free
  pub key_free : (es : Entries) (i : ℕ) (x : Entry) (k : List ℕ) → is_distinct bytes_eq (map f es) ≡ true → slice_get es i ≡ Some x → bytes_eq (f x) k ≡ true → find (λ e. bytes_eq (f e) k) (remove es i) ≡ None
  key_free [] i x k d g t = no_some x g
  key_free (y ∷ ys) zero x k d g t =
      let parts : (not (list_any (bytes_eq (f y)) (map f ys)) ≡ true) × (is_distinct bytes_eq (map f ys) ≡ true) = both _ _ d in
      none_same y ys k (was_false _ parts.0) (ap (λ (z : Entry). bytes_eq (f z) k) (some_same y x g) ∙ t)
  key_free (y ∷ ys) (suc i) x k d g t = by (key_free ys i x k rest g t) (bytes_eq (f y) k) refl
    where
      rest : is_distinct bytes_eq (map f ys) ≡ true
      rest = let parts : (not (list_any (bytes_eq (f y)) (map f ys)) ≡ true) × (is_distinct bytes_eq (map f ys) ≡ true) = both _ _ d in parts.1

      by : find (λ e. bytes_eq (f e) k) (remove ys i) ≡ None → (b : Bool) → bytes_eq (f y) k ≡ b → cond b (Some y) (find (λ e. bytes_eq (f e) k) (remove ys i)) ≡ None
      by more true u = clash y ys x k d (in_got ys i x g) t u
      by more false u = more
