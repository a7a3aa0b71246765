-- What a change of entries whose keys rise does to the map that they stand for.
use Rattle.std.proofs.Common.{◌≡◌, ℕ, zero, suc, ◌<◌, ◌≤◌, ◌+◌, Bool, true, false, cond, T, ◌&&◌, not, List, [], ◌∷◌, ◌++◌, length, take, drop, refl, sym, ap, subst, ◌∙◌, arith, Option, Some, None, option_map, slice_get, slice_set, slice_index_or, Result, Ok, Err}
use Rattle.std.specs.Bool.{IsTrue}
use Rattle.std.specs.List.{insert, remove, AllWithin, HoldsAt, filter}
use Rattle.std.specs.List.Sorted.{IsBinarySearchResult, IsPartitionPoint, IsNonDecreasingBy, IsSearchInRange}
use Rattle.std.specs.Ordering.{is_lt, is_eq, eq_by_cmp, ordering_reverse, ordering_index}
use Rattle.std.specs.declared.cmp.Ordering.{Ordering}
use Rattle.std.specs.declared.cmp.Ordering.TheVariants.{Less, Equal, Greater}
use Rattle.std.specs.Cmp.{IsTotalOrder, tied_itself, tied_back, alike_right, eq_by_cmp_equiv}
use Rattle.std.specs.FinMap as finmap
use Rattle.std.specs.FinMap.{FinMap, find, put, is_sorted, from_sorted, entries, entries-from_sorted, entries-insert, same_entries_map, same_map, empty, empty_of_len, len-entries, IsAntisymmetric, get, get_tied, get-remove, get-from_sorted}
use Rattle.std.specs.FinMap.Entries.{below_all, is_sorted-put, where_key, is_sorted-where_key, find-where_key}
use Rattle.fc_tree.specs.Places.{Stands, Belongs, IsPlace}

pub test : (b : Bool) → IsTrue b → T b
test b e = subst T (sym e) tt

pub tested : (b : Bool) → T b → IsTrue b
tested true h = refl
tested false h = absurd h

halves : (a b : Bool) → T (a && b) → T a × T b
halves true b h = (tt, h)
halves false b h = absurd h

less : (r : Ordering) → T (is_lt r) → r ≡ Less
less Less p = refl
less Equal p = absurd p
less Greater p = absurd p

apart : Less ≡ Equal → ⊥
apart e = cc

apart_too : Less ≡ Greater → ⊥
apart_too e = cc

equal : (r : Ordering) → is_eq r ≡ true → r ≡ Equal
equal Less e = cc
equal Equal e = refl
equal Greater e = cc

no_less : (r : Ordering) → ordering_index r ≤ 0 → r ≡ Less
no_less Less h = refl
no_less Equal h = absurd (omega arith)
no_less Greater h = absurd (omega arith)

no_more : (r : Ordering) → 2 ≤ ordering_index r → r ≡ Greater
no_more Less h = absurd (omega arith)
no_more Equal h = absurd (omega arith)
no_more Greater h = refl

turned : {A : Type 0} (b : Bool) (x y : A) → cond (not b) x y ≡ cond b y x
turned true x y = refl
turned false x y = refl

module _ {K : Type 0} (R : K → K → Ordering) (o : IsTotalOrder R) where
  turned_less : (x k : K) → R x k ≡ Less → R k x ≡ Greater
  turned_less x k e = o.antisymm k x ∙ ap ordering_reverse e

  turned_greater : (x k : K) → R x k ≡ Greater → R k x ≡ Less
  turned_greater x k e = o.antisymm k x ∙ ap ordering_reverse e

  not_tied_less : (x k : K) → R x k ≡ Less → eq_by_cmp R k x ≡ false
  not_tied_less x k e = ap is_eq (turned_less x k e)

  not_tied_greater : (x k : K) → R k x ≡ Less → eq_by_cmp R k x ≡ false
  not_tied_greater x k e = ap is_eq e

  climbs : (x y k : K) (r q : Ordering) → R x k ≡ r → R y k ≡ q → R x y ≡ Less → ordering_index r ≤ ordering_index q
  climbs x y k Less q e f l = omega arith
  climbs x y k Equal Less e f l = absurd (apart (sym (o.trans x y k l f) ∙ e))
  climbs x y k Equal Equal e f l = omega arith
  climbs x y k Equal Greater e f l = omega arith
  climbs x y k Greater Less e f l = absurd (apart_too (sym (o.trans x y k l f) ∙ e))
  climbs x y k Greater Equal e f l = absurd (apart_too (sym l ∙ alike_right o y k x f ∙ e))
  climbs x y k Greater Greater e f l = omega arith

module _ {K X : Type 0} (R : K → K → Ordering) (o : IsTotalOrder R) (same : IsAntisymmetric R) where
  parts : (e : K × X) (es : List (K × X)) → T (is_sorted R (e ∷ es)) → T (below_all R e.0 es) × T (is_sorted R es)
  parts e es s = halves (below_all R e.0 es) (is_sorted R es) s

  lower : (x : K) (e : K × X) (es : List (K × X)) → T (below_all R x (e ∷ es)) → (R x e.0 ≡ Less) × T (below_all R x es)
  lower x e es b = let h : T (is_lt (R x e.0)) × T (below_all R x es) = halves (is_lt (R x e.0)) (below_all R x es) b in (less _ h.0, h.1)

  -- nothing is found where all is above
  find_under : (k : K) (es : List (K × X)) → T (below_all R k es) → find R k es ≡ None
  find_under k [] b = refl
  find_under k (e ∷ es) b =
      let h : (R k e.0 ≡ Less) × T (below_all R k es) = lower k e es b in
      rw h.0 (find_under k es h.1)

  keep_under : (k : K) (es : List (K × X)) → T (below_all R k es) → where_key R (λ x. not (eq_by_cmp R k x)) es ≡ es
  keep_under k [] b = refl
  keep_under k (e ∷ es) b =
      let h : (R k e.0 ≡ Less) × T (below_all R k es) = lower k e es b in
      rw h.0 (ap (λ (xs : List (K × X)). e ∷ xs) (keep_under k es h.1))

  below_more : (k x : K) (es : List (K × X)) → R k x ≡ Less → T (below_all R x es) → T (below_all R k es)
  below_more k x [] l b = tt
  below_more k x (e ∷ es) l b =
      let h : (R x e.0 ≡ Less) × T (below_all R x es) = lower x e es b in
      rw (o.trans k x e.0 l h.0) (below_more k x es l h.1)

  below_tied : (k x : K) (es : List (K × X)) → R x k ≡ Equal → T (below_all R x es) → T (below_all R k es)
  below_tied k x [] l b = tt
  below_tied k x (e ∷ es) l b =
      let h : (R x e.0 ≡ Less) × T (below_all R x es) = lower x e es b in
      rw (sym (o.congr x k e.0 l) ∙ h.0) (below_tied k x es l h.1)

  pub put_belongs : (k : K) (v : X) (i : ℕ) (es : List (K × X)) → Belongs R k i es → insert es i (k, v) ≡ put R k v es
  put_belongs k v zero [] b = refl
  put_belongs k v (suc i) [] b = absurd b
  put_belongs k v zero (e ∷ es) b = rw (turned_greater R o e.0 k b) refl
  put_belongs k v (suc i) (e ∷ es) b = rw (turned_less R o e.0 k b.0) (ap (λ (xs : List (K × X)). e ∷ xs) (put_belongs k v i es b.1))

  pub find_belongs : (k : K) (i : ℕ) (es : List (K × X)) → T (is_sorted R es) → Belongs R k i es → find R k es ≡ None
  find_belongs k i [] s b = refl
  find_belongs k zero (e ∷ es) s b =
      let l : R k e.0 ≡ Less = turned_greater R o e.0 k b in
      rw l (find_under k es (below_more k e.0 es l (parts e es s).0))
  find_belongs k (suc i) (e ∷ es) s b = rw (turned_less R o e.0 k b.0) (find_belongs k i es (parts e es s).1 b.1)

  -- what stands behind an entry is not below it
  behind : (x k : K) (i : ℕ) (es : List (K × X)) → T (below_all R x es) → Stands R k i es → R x k ≡ Less
  behind x k i [] b t = absurd t
  behind x k zero (e ∷ es) b t = sym (alike_right o e.0 k x t) ∙ (lower x e es b).0
  behind x k (suc i) (e ∷ es) b t = behind x k i es (lower x e es b).1 t

  pub find_stands : (k : K) (i : ℕ) (es : List (K × X)) → T (is_sorted R es) → Stands R k i es → find R k es ≡ option_map (λ e. e.1) (slice_get es i)
  find_stands k i [] s t = absurd t
  find_stands k zero (e ∷ es) s t = rw (tied_back o e.0 k t) refl
  find_stands k (suc i) (e ∷ es) s t =
      rw (turned_less R o e.0 k (behind e.0 k i es (parts e es s).0 t)) (find_stands k i es (parts e es s).1 t)

  pub remove_stands : (k : K) (i : ℕ) (es : List (K × X)) → T (is_sorted R es) → Stands R k i es
      → remove es i ≡ where_key R (λ x. not (eq_by_cmp R k x)) es
  remove_stands k i [] s t = absurd t
  remove_stands k zero (e ∷ es) s t =
      rw (tied_back o e.0 k t) (sym (keep_under k es (below_tied k e.0 es t (parts e es s).0)))
  remove_stands k (suc i) (e ∷ es) s t =
      rw (turned_less R o e.0 k (behind e.0 k i es (parts e es s).0 t)) (ap (λ (xs : List (K × X)). e ∷ xs) (remove_stands k i es (parts e es s).1 t))

  pub put_stands : (k : K) (v : X) (i : ℕ) (es : List (K × X)) (x : K × X) → T (is_sorted R es) → Stands R k i es → slice_get es i ≡ Some x
      → slice_set es i (x.0, v) ≡ put R k v es
  put_stands k v i [] x s t g = absurd t
  put_stands k v zero (e ∷ es) x s t g =
      let is : e ≡ x = cc g in
      rw (tied_back o e.0 k t) (ap (λ (y : K × X). (y.0, v) ∷ es) (sym is))
  put_stands k v (suc i) (e ∷ es) x s t g =
      rw (turned_less R o e.0 k (behind e.0 k i es (parts e es s).0 t)) (ap (λ (xs : List (K × X)). e ∷ xs) (put_stands k v i es x (parts e es s).1 t g))

  -- ---- the maps that the entries stand for
  pub found : (es : List (K × X)) (k : K) (i : ℕ) → IsTrue (is_sorted R es) → Stands R k i es → get (from_sorted {R = R} es) k ≡ option_map (λ e. e.1) (slice_get es i)
  found es k i s t = get-from_sorted R es k (test _ s) ∙ find_stands k i es (test _ s) t

  pub missing : (es : List (K × X)) (k : K) (i : ℕ) → IsTrue (is_sorted R es) → Belongs R k i es → get (from_sorted {R = R} es) k ≡ None
  missing es k i s b = get-from_sorted R es k (test _ s) ∙ find_belongs k i es (test _ s) b

  pub entered : (es fs : List (K × X)) (k : K) (v : X) (i : ℕ) → IsTrue (is_sorted R es) → Belongs R k i es → fs ≡ insert es i (k, v)
      → IsTrue (is_sorted R fs) × (from_sorted {R = R} fs ≡ finmap.insert (from_sorted es) k v)
  entered es fs k v i s b e =
      let f : fs ≡ put R k v es = e ∙ put_belongs k v i es b in
      let t : T (is_sorted R fs) = subst (λ (xs : List (K × X)). T (is_sorted R xs)) (sym f) (is_sorted-put R o k v es (test _ s)) in
      (tested _ t, same_entries_map _ _ (entries-from_sorted R fs t ∙ f ∙ ap (put R k v) (sym (entries-from_sorted R es (test _ s))) ∙ sym (entries-insert o (from_sorted es) k v)))

  pub replaced : (es fs : List (K × X)) (k : K) (v : X) (i : ℕ) (x : K × X) → IsTrue (is_sorted R es) → Stands R k i es → slice_get es i ≡ Some x → fs ≡ slice_set es i (x.0, v)
      → IsTrue (is_sorted R fs) × (from_sorted {R = R} fs ≡ finmap.insert (from_sorted es) k v)
  replaced es fs k v i x s b g e =
      let f : fs ≡ put R k v es = e ∙ put_stands k v i es x (test _ s) b g in
      let t : T (is_sorted R fs) = subst (λ (xs : List (K × X)). T (is_sorted R xs)) (sym f) (is_sorted-put R o k v es (test _ s)) in
      (tested _ t, same_entries_map _ _ (entries-from_sorted R fs t ∙ f ∙ ap (put R k v) (sym (entries-from_sorted R es (test _ s))) ∙ sym (entries-insert o (from_sorted es) k v)))

  pub left : (es fs : List (K × X)) (k : K) (i : ℕ) → IsTrue (is_sorted R es) → Stands R k i es → fs ≡ remove es i
      → IsTrue (is_sorted R fs) × (from_sorted {R = R} fs ≡ finmap.remove (from_sorted es) k)
  left es fs k i s b e =
      let f : fs ≡ where_key R (λ x. not (eq_by_cmp R k x)) es = e ∙ remove_stands k i es (test _ s) b in
      let t : T (is_sorted R fs) = subst (λ (xs : List (K × X)). T (is_sorted R xs)) (sym f) (is_sorted-where_key R (λ x. not (eq_by_cmp R k x)) es (test _ s)) in
      let alike : (q x : K) → R q x ≡ Equal → not (eq_by_cmp R k x) ≡ not (eq_by_cmp R k q) = λ q x e. ap (λ r. not (is_eq r)) (sym (alike_right o q x k e)) in (
        tested _ t,
        same_map o same _ _ (λ q. get-from_sorted R fs q t ∙ ap (find R q) f ∙ find-where_key R (λ x. not (eq_by_cmp R k x)) q (alike q) es
            ∙ turned (eq_by_cmp R k q) _ _ ∙ ap (λ b. cond b None (find R q es)) ((eq_by_cmp_equiv o).symm k q)
            ∙ ap (λ (x : Option X). cond (eq_by_cmp R q k) None x) (sym (get-from_sorted R es q (test _ s))) ∙ sym (get-remove o (from_sorted es) k q)),
      )

  -- a key that is not there can be taken out
  pub stayed : (es : List (K × X)) (k : K) (i : ℕ) → IsTrue (is_sorted R es) → Belongs R k i es → from_sorted {R = R} es ≡ finmap.remove (from_sorted es) k
  stayed es k i s b = same_map o same _ _ (λ q. (elim (eq_by_cmp R q k) as (λ b. eq_by_cmp R q k ≡ b → get (from_sorted {R = R} es) q ≡ cond b None (get (from_sorted {R = R} es) q)) [
    | true ↦ λ e. sym (get_tied o (from_sorted es) q k (equal _ e)) ∙ missing es k i s b
    | false ↦ λ e. refl
  ] refl) ∙ sym (get-remove o (from_sorted es) k q))

  -- ---- what a search by halves tells
  pub stands_at : (k : K) (i : ℕ) (es : List (K × X)) → i < length es → HoldsAt (λ e. R e.0 k ≡ Equal) es i → Stands R k i es
  stands_at k i [] lt h = absurd (omega arith)
  stands_at k zero (e ∷ es) lt h = h e
  stands_at k (suc i) (e ∷ es) lt h = stands_at k i es (omega arith) (λ d. h d)

  pub belongs_at : (k : K) (i : ℕ) (es : List (K × X)) → i ≤ length es → AllWithin (λ e. R e.0 k ≡ Less) es 0 i
      → AllWithin (λ e. R e.0 k ≡ Greater) es i (length es) → Belongs R k i es
  belongs_at k zero [] le l g = tt
  belongs_at k (suc i) [] le l g = absurd (omega arith)
  belongs_at k zero (e ∷ es) le l g = g zero e (omega arith) (omega arith)
  belongs_at k (suc i) (e ∷ es) le l g =
      (l zero e (omega arith) (omega arith), belongs_at k i es (omega arith) (λ j d p q. l (suc j) d (omega arith) (omega arith)) (λ j d p q. g (suc j) d (omega arith) (omega arith)))

  under_at : (x : K) (es : List (K × X)) (j : ℕ) (d : K × X) → T (below_all R x es) → j < length es → R x (slice_index_or es j d).0 ≡ Less
  under_at x [] j d b lt = absurd (omega arith)
  under_at x (e ∷ es) zero d b lt = (lower x e es b).0
  under_at x (e ∷ es) (suc j) d b lt = under_at x es j d (lower x e es b).1 (omega arith)

  pub rising : (k : K) (es : List (K × X)) → T (is_sorted R es) → IsNonDecreasingBy (λ e. ordering_index (R e.0 k)) es
  rising k [] s i j d le lt = absurd (omega arith)
  rising k (e ∷ es) s zero zero d le lt = omega arith
  rising k (e ∷ es) s zero (suc j) d le lt =
      climbs R o e.0 (slice_index_or es j d).0 k (R e.0 k) (R (slice_index_or es j d).0 k) refl refl (under_at e.0 es j d (parts e es s).0 (omega arith))
  rising k (e ∷ es) s (suc i) zero d le lt = absurd (omega arith)
  rising k (e ∷ es) s (suc i) (suc j) d le lt = rising k es (parts e es s).1 i j d (omega arith) (omega arith)

  -- what holds of one entry holds of all before it, or of all after it
  pub all_below : (k : K) (es : List (K × X)) (m : ℕ) → IsTrue (is_sorted R es) → m < length es → HoldsAt (λ e. R e.0 k ≡ Less) es m
      → AllWithin (λ e. R e.0 k ≡ Less) es 0 (m + 1)
  all_below k es m s lt h = λ j d p q.
      no_less _ (let n : ordering_index (R (slice_index_or es j d).0 k) ≤ ordering_index (R (slice_index_or es m d).0 k) = rising k es (test _ s) j m d (omega arith) lt in
      let z : ordering_index (R (slice_index_or es m d).0 k) ≡ 0 = ap ordering_index (h d) in omega arith)

  pub all_above : (k : K) (es : List (K × X)) (m : ℕ) → IsTrue (is_sorted R es) → m < length es → HoldsAt (λ e. R e.0 k ≡ Greater) es m
      → AllWithin (λ e. R e.0 k ≡ Greater) es m (length es)
  all_above k es m s lt h = λ j d p q.
      no_more _ (let n : ordering_index (R (slice_index_or es m d).0 k) ≤ ordering_index (R (slice_index_or es j d).0 k) = rising k es (test _ s) m j d p q in
      let z : ordering_index (R (slice_index_or es m d).0 k) ≡ 2 = ap ordering_index (h d) in omega arith)

pub none : {K : Type 0} (R : K → K → Ordering) (X : Type 0) → from_sorted {X = X} {R = R} [] ≡ empty
none R X = empty_of_len (from_sorted []) (len-entries (from_sorted []) ∙ ap length (entries-from_sorted R [] tt))
