-- Entries that rise, and what holds of each of them, after a change.
use Rattle.std.proofs.Common.{◌≡◌, ℕ, zero, suc, ◌<◌, ◌≤◌, Bool, true, false, not, ◌&&◌, ◌||◌, List, [], ◌∷◌, length, map, slice_get, slice_set, bytes_eq, refl, sym, ap, subst, ◌∙◌, arith, Some}
use Rattle.std.specs.List.{AllByRecursion, list_any, remove}
use Rattle.std.specs.Ordering.{nat_cmp}
use Rattle.std.specs.declared.cmp.Ordering.{Ordering}
use Rattle.std.specs.declared.cmp.Ordering.TheVariants.{Less, Equal, Greater}
use Rattle.std.specs.FinMap.Entries.{put, by_order}
use Rattle.fc_types.specs.Ids.{is_distinct}
use Rattle.fc_types.specs.declared.ty.Field.{Field}
use Rattle.fc_types.specs.declared.ty.KeyDecl.{KeyDecl}
use Rattle.fc_types.proofs.Bools.{both, neither, was_false}
use Rattle.fc_value.specs.FullForm.{AreRising}
use Rattle.fc_value.specs.Keys.{differ_in, key_value, keys_differ}
use Rattle.fc_value.specs.declared.value.Value.{Value}
use Rattle.fc_cells.proofs.Finds.{Entries, Entry, no_some, some_same}

abbrev Above : ℕ → Entries → Type 0
Above s es = AllByRecursion (λ (f : Entry). s < f.0) es

-- ---- what holds of each
module _ (P : Entry → Type 0) where
  pub all_got : (es : Entries) (i : ℕ) (x : Entry) → AllByRecursion P es → slice_get es i ≡ Some x → P x
  all_got [] i x a g = no_some x g
  all_got (y ∷ ys) zero x a g = subst P (some_same y x g) a.0
  all_got (y ∷ ys) (suc i) x a g = all_got ys i x a.1 g

  pub all_set : (es : Entries) (i : ℕ) (x : Entry) → AllByRecursion P es → P x → AllByRecursion P (slice_set es i x)
  all_set [] i x a p = tt
  all_set (y ∷ ys) zero x a p = (p, a.1)
  all_set (y ∷ ys) (suc i) x a p = (a.0, all_set ys i x a.1 p)

  pub all_removed : (es : Entries) (i : ℕ) → AllByRecursion P es → AllByRecursion P (remove es i)
  all_removed [] zero a = tt
  all_removed [] (suc i) a = tt
  all_removed (y ∷ ys) zero a = a.1
  all_removed (y ∷ ys) (suc i) a = (a.0, all_removed ys i a.1)

  pub all_put : (s : ℕ) (w : Value) (es : Entries) → ((t : ℕ) → t ≡ s → P (t, w)) → AllByRecursion P es → AllByRecursion P (put nat_cmp s w es)
  all_put s w [] p a = (p s refl, tt)
  all_put s w (y ∷ ys) p a = by (all_put s w ys p a.1) (nat_cmp s y.0) refl
    where
      same : nat_cmp s y.0 ≡ Equal → y.0 ≡ s
      same e = grind arith

      by : AllByRecursion P (put nat_cmp s w ys) → (o : Ordering) → nat_cmp s y.0 ≡ o → AllByRecursion P (by_order o ((s, w) ∷ y ∷ ys) ((y.0, w) ∷ ys) (y ∷ put nat_cmp s w ys))
      by more Less e = (p s refl, a)
      by more Equal e = (p y.0 (same e), a.1)
      by more Greater e = (a.0, more)

-- ---- lengths
pub length_set : (es : Entries) (i : ℕ) (x : Entry) → length (slice_set es i x) ≡ length es
length_set [] i x = refl
length_set (y ∷ ys) zero x = refl
length_set (y ∷ ys) (suc i) x = let l : length (slice_set ys i x) ≡ length ys = length_set ys i x in ap suc l

pub length_removed : (es : Entries) (i : ℕ) → length (remove es i) ≤ length es
length_removed [] zero = omega arith
length_removed [] (suc i) = omega arith
length_removed (y ∷ ys) zero = omega arith
length_removed (y ∷ ys) (suc i) = let l : length (remove ys i) ≤ length ys = length_removed ys i in omega arith

pub length_put : (s : ℕ) (w : Value) (es : Entries) → length (put nat_cmp s w es) ≤ suc (length es)
length_put s w [] = omega arith
length_put s w (y ∷ ys) = by (length_put s w ys) (nat_cmp s y.0)
  where
    by : length (put nat_cmp s w ys) ≤ suc (length ys) → (o : Ordering) → length (by_order o ((s, w) ∷ y ∷ ys) ((y.0, w) ∷ ys) (y ∷ put nat_cmp s w ys)) ≤ suc (length (y ∷ ys))
    by more Less = omega arith
    by more Equal = omega arith
    by more Greater = omega arith

-- ---- rising
higher : (s t : ℕ) (es : Entries) → s < t → Above t es → Above s es
higher s t [] l a = tt
higher s t (e ∷ es) l a = (omega (arith, l, a.0), higher s t es l a.1)

pub rising_set : (es : Entries) (i : ℕ) (x : Entry) (d : Value) → AreRising es → slice_get es i ≡ Some x → AreRising (slice_set es i (x.0, d))
rising_set [] i x d up g = no_some x g
rising_set (y ∷ ys) zero x d up g = (subst (λ (z : Entry). Above z.0 ys) (some_same y x g) up.0, up.1)
rising_set (y ∷ ys) (suc i) x d up g =
    (all_set (λ (f : Entry). y.0 < f.0) ys i (x.0, d) up.0 (all_got (λ (f : Entry). y.0 < f.0) ys i x up.0 g), rising_set ys i x d up.1 g)

pub rising_removed : (es : Entries) (i : ℕ) → AreRising es → AreRising (remove es i)
rising_removed [] zero up = tt
rising_removed [] (suc i) up = tt
rising_removed (y ∷ ys) zero up = up.1
rising_removed (y ∷ ys) (suc i) up = (all_removed (λ (f : Entry). y.0 < f.0) ys i up.0, rising_removed ys i up.1)

pub rising_put : (s : ℕ) (w : Value) (es : Entries) → AreRising es → AreRising (put nat_cmp s w es)
rising_put s w [] up = (tt, tt)
rising_put s w (y ∷ ys) up = by (rising_put s w ys up.1) (nat_cmp s y.0) refl
  where
    less : nat_cmp s y.0 ≡ Less → s < y.0
    less e = grind arith

    more_than : nat_cmp s y.0 ≡ Greater → y.0 < s
    more_than e = grind arith

    by : AreRising (put nat_cmp s w ys) → (o : Ordering) → nat_cmp s y.0 ≡ o → AreRising (by_order o ((s, w) ∷ y ∷ ys) ((y.0, w) ∷ ys) (y ∷ put nat_cmp s w ys))
    by more Less e = ((less e, higher s y.0 ys (less e) up.0), up)
    by more Equal e = up
    by more Greater e = (all_put (λ (f : Entry). y.0 < f.0) s w ys (λ t q. subst (λ (k : ℕ). y.0 < k) (sym q) (more_than e)) up.0, more)

-- ---- keys
none_removed : (f : Entry → List ℕ) (k : List ℕ) (es : Entries) (i : ℕ) → list_any (bytes_eq k) (map f es) ≡ false → list_any (bytes_eq k) (map f (remove es i)) ≡ false
none_removed f k [] zero n = refl
none_removed f k [] (suc i) n = refl
none_removed f k (y ∷ ys) zero n = let parts : (bytes_eq k (f y) ≡ false) × (list_any (bytes_eq k) (map f ys) ≡ false) = neither _ _ n in parts.1
none_removed f k (y ∷ ys) (suc i) n =
    let parts : (bytes_eq k (f y) ≡ false) × (list_any (bytes_eq k) (map f ys) ≡ false) = neither _ _ n in
    ap (λ (b : Bool). b || list_any (bytes_eq k) (map f (remove ys i))) parts.0 ∙ none_removed f k ys i parts.1

distinct_removed : (f : Entry → List ℕ) (es : Entries) (i : ℕ) → is_distinct bytes_eq (map f es) ≡ true → is_distinct bytes_eq (map f (remove es i)) ≡ true
distinct_removed f [] zero d = refl
distinct_removed f [] (suc i) d = refl
distinct_removed f (y ∷ ys) zero d = let parts : (not (list_any (bytes_eq (f y)) (map f ys)) ≡ true) × (is_distinct bytes_eq (map f ys) ≡ true) = both _ _ d in parts.1
distinct_removed f (y ∷ ys) (suc i) d =
    let parts : (not (list_any (bytes_eq (f y)) (map f ys)) ≡ true) × (is_distinct bytes_eq (map f ys) ≡ true) = both _ _ d in
    ap (λ (b : Bool). not b && is_distinct bytes_eq (map f (remove ys i))) (none_removed f (f y) ys i (was_false _ parts.0)) ∙ distinct_removed f ys i parts.1

pub differ_removed : (fields : List Field) (keys : List KeyDecl) (es : Entries) (i : ℕ) → keys_differ fields keys es ≡ true → keys_differ fields keys (remove es i) ≡ true
differ_removed fields [] es i d = refl
differ_removed fields (key ∷ keys) es i d =
    let parts : (differ_in fields es key ≡ true) × (keys_differ fields keys es ≡ true) = both _ _ d in
    ap (λ (b : Bool). b && keys_differ fields keys (remove es i)) (distinct_removed (λ (e : Entry). key_value fields key e.1) es i parts.0) ∙ differ_removed fields keys es i parts.1
