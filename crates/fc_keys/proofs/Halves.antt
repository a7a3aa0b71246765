-- What stands where in a list of entries by rising key, around one of them.
use Rattle.std.proofs.Common.{◌≡◌, Bool, true, false, cond, T, ◌&&◌, not, List, [], ◌∷◌, ◌++◌, refl, sym, ap, subst, ◌∙◌, Some, None}
use Rattle.std.specs.Bool.{IsTrue}
use Rattle.std.specs.Ordering.{is_lt, eq_by_cmp, ordering_reverse}
use Rattle.std.specs.declared.cmp.Ordering.{Ordering}
use Rattle.std.specs.declared.cmp.Ordering.TheVariants.{Less, Equal, Greater}
use Rattle.std.specs.Cmp.{IsTotalOrder}
use Rattle.std.specs.FinMap.{find, put, is_sorted}
use Rattle.std.specs.FinMap.Entries.{below_all, where_key, by_order}

pub test : (b : Bool) → IsTrue b → T b
test b e = subst T (sym e) tt

pub tested : (b : Bool) → T b → IsTrue b
tested true h = refl
tested false h = absurd h

both : (a b : Bool) → T a → T b → T (a && b)
both true b p q = q
both false b p q = p

halves : (a b : Bool) → T (a && b) → T a × T b
halves true b h = (tt, h)
halves false b h = absurd h

less : (r : Ordering) → T (is_lt r) → r ≡ Less
less Less p = refl
less Equal p = absurd p
less Greater p = absurd p

module _ {K : Type 0} (R : K → K → Ordering) (o : IsTotalOrder R) where
  past : (q : K) (x e : K) → R x e ≡ Less → R q e ≡ Greater → R q x ≡ Greater
  past q x e l p = o.antisymm q x ∙ ap ordering_reverse (o.trans x e q l (o.antisymm e q ∙ ap ordering_reverse p))

  past_tied : (q : K) (x e : K) → R x e ≡ Less → R q e ≡ Equal → R q x ≡ Greater
  past_tied q x e l p = o.congr q e x p ∙ o.antisymm e x ∙ ap ordering_reverse l

module _ {K X : Type 0} (R : K → K → Ordering) (o : IsTotalOrder R) where
  -- q is above each key
  abbrev Above : K → List (K × X) → Type 0
  Above q [] = Unit {0}
  Above q (x ∷ xs) = (R q x.0 ≡ Greater) × Above q xs

  parts : (x : K × X) (xs : List (K × X)) → T (is_sorted R (x ∷ xs)) → T (below_all R x.0 xs) × T (is_sorted R xs)
  parts x xs s = halves (below_all R x.0 xs) (is_sorted R xs) s

  lower : (q : K) (x : K × X) (xs : List (K × X)) → T (below_all R q (x ∷ xs)) → (R q x.0 ≡ Less) × T (below_all R q xs)
  lower q x xs b = let h : T (is_lt (R q x.0)) × T (below_all R q xs) = halves (is_lt (R q x.0)) (below_all R q xs) b in (less _ h.0, h.1)

  below_front : (q : K) (l m : List (K × X)) → T (below_all R q (l ++ m)) → T (below_all R q l)
  below_front q [] m b = tt
  below_front q (x ∷ l) m b =
      let h : T (is_lt (R q x.0)) × T (below_all R q (l ++ m)) = halves (is_lt (R q x.0)) (below_all R q (l ++ m)) b in
      both _ _ h.0 (below_front q l m h.1)

  below_middle : (q : K) (l : List (K × X)) (e : K × X) (r : List (K × X)) → T (below_all R q (l ++ e ∷ r)) → R q e.0 ≡ Less
  below_middle q [] e r b = (lower q e r b).0
  below_middle q (x ∷ l) e r b = below_middle q l e r (lower q x (l ++ e ∷ r) b).1

  below_more : (q x : K) (xs : List (K × X)) → R q x ≡ Less → T (below_all R x xs) → T (below_all R q xs)
  below_more q x [] l b = tt
  below_more q x (y ∷ ys) l b =
      let h : (R x y.0 ≡ Less) × T (below_all R x ys) = lower x y ys b in
      both _ _ (subst (λ r. T (is_lt r)) (sym (o.trans q x y.0 l h.0)) tt) (below_more q x ys l h.1)

  below_tied : (q x : K) (xs : List (K × X)) → R q x ≡ Equal → T (below_all R x xs) → T (below_all R q xs)
  below_tied q x [] l b = tt
  below_tied q x (y ∷ ys) l b =
      let h : (R x y.0 ≡ Less) × T (below_all R x ys) = lower x y ys b in
      both _ _ (subst (λ r. T (is_lt r)) (sym (o.congr q x y.0 l ∙ h.0)) tt) (below_tied q x ys l h.1)

  pub front_sorted : (l m : List (K × X)) → T (is_sorted R (l ++ m)) → T (is_sorted R l)
  front_sorted [] m s = tt
  front_sorted (x ∷ l) m s =
      let h : T (below_all R x.0 (l ++ m)) × T (is_sorted R (l ++ m)) = parts x (l ++ m) s in
      both _ _ (below_front x.0 l m h.0) (front_sorted l m h.1)

  back_sorted : (l m : List (K × X)) → T (is_sorted R (l ++ m)) → T (is_sorted R m)
  back_sorted [] m s = s
  back_sorted (x ∷ l) m s = back_sorted l m (parts x (l ++ m) s).1

  pub right_sorted : (l : List (K × X)) (e : K × X) (r : List (K × X)) → T (is_sorted R (l ++ e ∷ r)) → T (is_sorted R r)
  right_sorted l e r s = (parts e r (back_sorted l (e ∷ r) s)).1

  -- ---- a key that is below an entry is below all behind it
  under : (q : K) (l : List (K × X)) (e : K × X) (r : List (K × X)) → R q e.0 ≡ Less → T (is_sorted R (l ++ e ∷ r)) → T (below_all R q (e ∷ r))
  under q l e r p s =
      both _ _ (subst (λ r. T (is_lt r)) (sym p) tt) (below_more q e.0 r p (parts e r (back_sorted l (e ∷ r) s)).0)

  find_under : (q : K) (xs : List (K × X)) → T (below_all R q xs) → find R q xs ≡ None
  find_under q [] b = refl
  find_under q (x ∷ xs) b =
      let h : (R q x.0 ≡ Less) × T (below_all R q xs) = lower q x xs b in
      rw h.0 (find_under q xs h.1)

  keep_under : (q : K) (xs : List (K × X)) → T (below_all R q xs) → where_key R (λ x. not (eq_by_cmp R q x)) xs ≡ xs
  keep_under q [] b = refl
  keep_under q (x ∷ xs) b =
      let h : (R q x.0 ≡ Less) × T (below_all R q xs) = lower q x xs b in
      rw h.0 (ap (λ (ys : List (K × X)). x ∷ ys) (keep_under q xs h.1))

  find_before : (q : K) (l m : List (K × X)) → T (below_all R q m) → find R q (l ++ m) ≡ find R q l
  find_before q [] m b = find_under q m b
  find_before q (x ∷ l) m b = ap (cond (eq_by_cmp R q x.0) (Some x.1)) (find_before q l m b)

  pub find_left : (q : K) (l : List (K × X)) (e : K × X) (r : List (K × X)) → R q e.0 ≡ Less → T (is_sorted R (l ++ e ∷ r)) → find R q (l ++ e ∷ r) ≡ find R q l
  find_left q l e r p s = find_before q l (e ∷ r) (under q l e r p s)

  pub put_left : (q : K) (v : X) (l : List (K × X)) (e : K × X) (r : List (K × X)) → R q e.0 ≡ Less → put R q v (l ++ e ∷ r) ≡ put R q v l ++ e ∷ r
  put_left q v [] e r p = rw p refl
  put_left q v (x ∷ l) e r p = elim (R q x.0) as (λ c. by_order c ((q, v) ∷ x ∷ (l ++ e ∷ r)) ((x.0, v) ∷ (l ++ e ∷ r)) (x ∷ put R q v (l ++ e ∷ r)) ≡ by_order c ((q, v) ∷ x ∷ l) ((x.0, v) ∷ l) (x ∷ put R q v l) ++ e ∷ r) [ Less ↦ refl | Equal ↦ refl | Greater ↦ ap (λ (ys : List (K × X)). x ∷ ys) (put_left q v l e r p) ]

  keep_before : (q : K) (l m : List (K × X)) → T (below_all R q m) → where_key R (λ x. not (eq_by_cmp R q x)) (l ++ m) ≡ where_key R (λ x. not (eq_by_cmp R q x)) l ++ m
  keep_before q [] m b = keep_under q m b
  keep_before q (x ∷ l) m b =
      let rest = keep_before q l m b in
      elim (not (eq_by_cmp R q x.0)) as (λ c. cond c (x ∷ where_key R (λ x. not (eq_by_cmp R q x)) (l ++ m)) (where_key R (λ x. not (eq_by_cmp R q x)) (l ++ m))
      ≡ cond c (x ∷ where_key R (λ x. not (eq_by_cmp R q x)) l) (where_key R (λ x. not (eq_by_cmp R q x)) l) ++ m) [
        | true ↦ ap (λ (ys : List (K × X)). x ∷ ys) rest
        | false ↦ rest
      ]

  pub keep_left : (q : K) (l : List (K × X)) (e : K × X) (r : List (K × X)) → R q e.0 ≡ Less → T (is_sorted R (l ++ e ∷ r))
      → where_key R (λ x. not (eq_by_cmp R q x)) (l ++ e ∷ r) ≡ where_key R (λ x. not (eq_by_cmp R q x)) l ++ e ∷ r
  keep_left q l e r p s = keep_before q l (e ∷ r) (under q l e r p s)

  -- ---- a key that is not below an entry is above all before it
  above_right : (q : K) (l : List (K × X)) (e : K × X) (r : List (K × X)) → R q e.0 ≡ Greater → T (is_sorted R (l ++ e ∷ r)) → Above q l
  above_right q [] e r p s = tt
  above_right q (x ∷ l) e r p s =
      let h : T (below_all R x.0 (l ++ e ∷ r)) × T (is_sorted R (l ++ e ∷ r)) = parts x (l ++ e ∷ r) s in
      (past R o q x.0 e.0 (below_middle x.0 l e r h.0) p, above_right q l e r p h.1)

  above_here : (q : K) (l : List (K × X)) (e : K × X) (r : List (K × X)) → R q e.0 ≡ Equal → T (is_sorted R (l ++ e ∷ r)) → Above q l
  above_here q [] e r p s = tt
  above_here q (x ∷ l) e r p s =
      let h : T (below_all R x.0 (l ++ e ∷ r)) × T (is_sorted R (l ++ e ∷ r)) = parts x (l ++ e ∷ r) s in
      (past_tied R o q x.0 e.0 (below_middle x.0 l e r h.0) p, above_here q l e r p h.1)

  find_past : (q : K) (l m : List (K × X)) → Above q l → find R q (l ++ m) ≡ find R q m
  find_past q [] m a = refl
  find_past q (x ∷ l) m a = rw a.0 (find_past q l m a.1)

  put_past : (q : K) (v : X) (l m : List (K × X)) → Above q l → put R q v (l ++ m) ≡ l ++ put R q v m
  put_past q v [] m a = refl
  put_past q v (x ∷ l) m a = rw a.0 (ap (λ (ys : List (K × X)). x ∷ ys) (put_past q v l m a.1))

  keep_past : (q : K) (l m : List (K × X)) → Above q l → where_key R (λ x. not (eq_by_cmp R q x)) (l ++ m) ≡ l ++ where_key R (λ x. not (eq_by_cmp R q x)) m
  keep_past q [] m a = refl
  keep_past q (x ∷ l) m a = rw a.0 (ap (λ (ys : List (K × X)). x ∷ ys) (keep_past q l m a.1))

  pub find_right : (q : K) (l : List (K × X)) (e : K × X) (r : List (K × X)) → R q e.0 ≡ Greater → T (is_sorted R (l ++ e ∷ r)) → find R q (l ++ e ∷ r) ≡ find R q r
  find_right q l e r p s = find_past q l (e ∷ r) (above_right q l e r p s) ∙ rw p refl

  pub put_right : (q : K) (v : X) (l : List (K × X)) (e : K × X) (r : List (K × X)) → R q e.0 ≡ Greater → T (is_sorted R (l ++ e ∷ r)) → put R q v (l ++ e ∷ r) ≡ l ++ e ∷ put R q v r
  put_right q v l e r p s = put_past q v l (e ∷ r) (above_right q l e r p s) ∙ rw p refl

  pub keep_right : (q : K) (l : List (K × X)) (e : K × X) (r : List (K × X)) → R q e.0 ≡ Greater → T (is_sorted R (l ++ e ∷ r))
      → where_key R (λ x. not (eq_by_cmp R q x)) (l ++ e ∷ r) ≡ l ++ e ∷ where_key R (λ x. not (eq_by_cmp R q x)) r
  keep_right q l e r p s = keep_past q l (e ∷ r) (above_right q l e r p s) ∙ rw p refl

  pub find_here : (q : K) (l : List (K × X)) (e : K × X) (r : List (K × X)) → R q e.0 ≡ Equal → T (is_sorted R (l ++ e ∷ r)) → find R q (l ++ e ∷ r) ≡ Some e.1
  find_here q l e r p s = find_past q l (e ∷ r) (above_here q l e r p s) ∙ rw p refl

  pub keep_here : (q : K) (l : List (K × X)) (e : K × X) (r : List (K × X)) → R q e.0 ≡ Equal → T (is_sorted R (l ++ e ∷ r))
      → where_key R (λ x. not (eq_by_cmp R q x)) (l ++ e ∷ r) ≡ l ++ r
  keep_here q l e r p s =
      keep_past q l (e ∷ r) (above_here q l e r p s)
      ∙ rw p (ap (λ (ys : List (K × X)). l ++ ys) (keep_under q r (below_tied q e.0 r p (parts e r (back_sorted l (e ∷ r) s)).0)))
