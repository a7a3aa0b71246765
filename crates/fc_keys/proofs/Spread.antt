-- Where a key is found in a table of search trees, and what becomes of the table where one of them changes.
use Rattle.std.proofs.Common.{◌≡◌, ℕ, zero, suc, ◌<◌, ◌≤◌, Bool, true, false, not, cond, if◌then◌else◌, T, refl, sym, ap, subst, ◌∙◌, List, [], ◌∷◌, ◌++◌, length, get_or, Option, Some, None, is_some, arith, eqb, replicate, set}
use Rattle.std.proofs.lemmas.Bool.{eqb-true, eqb-false}
use Rattle.std.proofs.lemmas.List.{get_or-set_same, get_or-set_other, length-set, set-set}
use Rattle.std.specs.Bool.{IsTrue}
use Rattle.std.specs.Option.{option_or}
use Rattle.std.specs.Ordering.{eq_by_cmp, is_eq}
use Rattle.std.specs.declared.cmp.Ordering.{Ordering}
use Rattle.std.specs.Cmp.{alike_right, eq_by_cmp_equiv}
use Rattle.std.specs.Cmp.Lexicographic.{nat_list_cmp_total}
use Rattle.std.specs.FinMap as map
use Rattle.std.specs.FinMap.{get-empty, get-from_entries, get-insert, get-remove, same_map, slice_cmp-IsAntisymmetric, nat_cmp-IsAntisymmetric, is_sorted, find, put}
use Rattle.std.specs.FinMap.Entries.{is_sorted-put, is_sorted-where_key, find-where_key, find-put}
use Rattle.fc_keys.specs.Keys.{KeyMap, Pairs, key_cmp, without, is_other}
use Rattle.fc_keys.specs.Trees.{pairs_of}
use Rattle.fc_keys.specs.Buckets.{IsSpread, map_of, pairs_in, place_of, tree_at}
use Rattle.fc_keys.specs.declared.tree.Tree.{Tree}
use Rattle.fc_keys.specs.declared.tree.Tree.TheVariants.{Leaf}
use Rattle.fc_keys.proofs.Halves.{test, tested}
use Rattle.fc_keys.proofs.Indexed.{key_is}

-- ---- what is found among the pairs of all trees
picked : (b : Bool) (v : ℕ) (r s : Option ℕ) → cond b (Some v) (option_or r s) ≡ option_or (cond b (Some v) r) s
picked true v r s = refl
picked false v r s = refl

pub find_both : (q : List ℕ) (xs ys : Pairs) → find key_cmp q (xs ++ ys) ≡ option_or (find key_cmp q xs) (find key_cmp q ys)
find_both q [] ys = refl
find_both q (x ∷ xs) ys =
    ap (cond (eq_by_cmp key_cmp q x.0) (Some x.1)) (find_both q xs ys) ∙ picked (eq_by_cmp key_cmp q x.0) x.1 (find key_cmp q xs) (find key_cmp q ys)

pub or_none : (o : Option ℕ) → option_or o None ≡ o
or_none None = refl
or_none (Some x) = refl

none_in : (q : List ℕ) (trees : List Tree) → ((k : ℕ) → find key_cmp q (pairs_of (tree_at trees k)) ≡ None) → find key_cmp q (pairs_in trees) ≡ None
none_in q [] h = refl
none_in q (t ∷ ts) h =
    find_both q (pairs_of t) (pairs_in ts) ∙ ap (λ (o : Option ℕ). option_or o (find key_cmp q (pairs_in ts))) (h zero) ∙ none_in q ts (λ k. h (suc k))

only_in : (q : List ℕ) (trees : List Tree) (p : ℕ) → ((k : ℕ) → (k ≡ p → ⊥) → find key_cmp q (pairs_of (tree_at trees k)) ≡ None)
    → find key_cmp q (pairs_in trees) ≡ find key_cmp q (pairs_of (tree_at trees p))
only_in q [] p h = refl
only_in q (t ∷ ts) zero h =
    find_both q (pairs_of t) (pairs_in ts) ∙ ap (option_or (find key_cmp q (pairs_of t))) (none_in q ts (λ k. h (suc k) (λ e. omega arith))) ∙ or_none (find key_cmp q (pairs_of t))
only_in q (t ∷ ts) (suc p) h =
    find_both q (pairs_of t) (pairs_in ts) ∙ ap (λ (o : Option ℕ). option_or o (find key_cmp q (pairs_in ts))) (h zero (λ e. omega arith))
    ∙ only_in q ts p (λ k n. h (suc k) (λ e. n (omega arith)))

not_there : (o : Option ℕ) → (is_some o ≡ true → ⊥) → o ≡ None
not_there None h = refl
not_there (Some x) h = absurd (h refl)

-- a key is found at its place alone
pub found_in : (q : List ℕ) (trees : List Tree) → IsSpread trees → map.get (map_of trees) q ≡ find key_cmp q (pairs_of (tree_at trees (place_of q (length trees))))
found_in q trees s =
    get-from_entries nat_list_cmp_total (pairs_in trees) q
    ∙ only_in q trees (place_of q (length trees)) (λ k n. not_there (find key_cmp q (pairs_of (tree_at trees k))) (λ e. n (sym (s.placed k q e))))

pub found_at : (m : KeyMap) (q : List ℕ) (p : ℕ) (trees : List Tree) → map_of trees ≡ m → IsSpread trees → p ≡ place_of q (length trees) → map.get m q ≡ find key_cmp q (pairs_of (tree_at trees p))
found_at m q p trees seen s is =
    ap (λ (n : KeyMap). map.get n q) (sym seen) ∙ found_in q trees s ∙ ap (λ (j : ℕ). find key_cmp q (pairs_of (tree_at trees j))) (sym is)

-- a tree that is read is the one at its place
same_at : (trees : List Tree) (p : ℕ) (d e : Tree) → p < length trees → get_or trees p d ≡ get_or trees p e
same_at [] p d e h = absurd (omega arith)
same_at (t ∷ ts) zero d e h = refl
same_at (t ∷ ts) (suc p) d e h = same_at ts p d e (omega arith)

pub read_at : (trees : List Tree) (p : ℕ) (t : Tree) → p < length trees → t ≡ get_or trees p t → t ≡ tree_at trees p
read_at trees p t h e = e ∙ same_at trees p t Leaf h

-- ---- a table without a pair
pub leaf_at : (n p : ℕ) → tree_at (replicate n Leaf) p ≡ Leaf
leaf_at zero p = refl
leaf_at (suc n) zero = refl
leaf_at (suc n) (suc p) = leaf_at n p

pub no_pairs_in : (n : ℕ) → pairs_in (replicate n Leaf) ≡ []
no_pairs_in zero = refl
no_pairs_in (suc n) = no_pairs_in n

pub leaves_spread : (n : ℕ) → IsSpread (replicate n Leaf)
leaves_spread n = record {
  sorted = λ p. subst (λ (t : Tree). IsTrue (is_sorted key_cmp (pairs_of t))) (sym (leaf_at n p)) refl;
  placed = λ p q e. absurd (nothing (ap (λ (t : Tree). is_some (find key_cmp q (pairs_of t))) (sym (leaf_at n p)) ∙ e));
}
  where
    nothing : false ≡ true → ⊥
    nothing e = cc

-- ---- one tree changes
-- what holds of the new tree at its place, and of each old one elsewhere, holds of each
at_set : (trees : List Tree) (p : ℕ) (t : Tree) → p < length trees → (P : Tree → Type 0) (j : ℕ) → (j ≡ p → P t) → ((j ≡ p → ⊥) → P (tree_at trees j)) → P (tree_at (set trees p t) j)
at_set trees p t within P j here there = by (eqb j p) refl
  where
    by : (b : Bool) → eqb j p ≡ b → P (tree_at (set trees p t) j)
    by true e =
        let is : j ≡ p = eqb-true j p e in
        subst P (sym (ap (λ (n : ℕ). tree_at (set trees p t) n) is ∙ get_or-set_same trees p t Leaf within)) (here is)
    by false e = let ne : j ≡ p → ⊥ = eqb-false j p e in subst P (sym (get_or-set_other trees p j t Leaf ne)) (there ne)

not_true : (b : Bool) → (b ≡ true → ⊥) → b ≡ false
not_true true h = absurd (h refl)
not_true false h = refl

pub record IsChanged (after : List Tree) (m : KeyMap) : Type 0 where
  pub spread : IsSpread after
  pub made : map_of after ≡ m

-- the tree at the place of a key is put in the place of one that differs from it at this key alone
module _ (trees : List Tree) (t : Tree) (k : List ℕ) (w : Option ℕ) (p : ℕ) (is : place_of k (length trees) ≡ p) (within : p < length trees) (s : IsSpread trees)
    (rising : IsTrue (is_sorted key_cmp (pairs_of t)))
    (found : (q : List ℕ) → find key_cmp q (pairs_of t) ≡ cond (eq_by_cmp key_cmp q k) w (find key_cmp q (pairs_of (tree_at trees p)))) where
  own_place : (q : List ℕ) → (b : Bool) → eq_by_cmp key_cmp q k ≡ b → is_some (cond b w (find key_cmp q (pairs_of (tree_at trees p)))) ≡ true → place_of q (length trees) ≡ p
  own_place q true e h = ap (λ (x : List ℕ). place_of x (length trees)) (key_is q k e) ∙ is
  own_place q false e h = s.placed p q h

  placed_after : (j : ℕ) (q : List ℕ) → is_some (find key_cmp q (pairs_of (tree_at (set trees p t) j))) ≡ true → place_of q (length trees) ≡ j
  placed_after j q = at_set trees p t within (λ (x : Tree). is_some (find key_cmp q (pairs_of x)) ≡ true → place_of q (length trees) ≡ j) j
      (λ e h. own_place q (eq_by_cmp key_cmp q k) refl (ap is_some (sym (found q)) ∙ h) ∙ sym e)
      (λ ne h. s.placed j q h)

  spread_after : IsSpread (set trees p t)
  spread_after = record {
    sorted = λ j. at_set trees p t within (λ (x : Tree). IsTrue (is_sorted key_cmp (pairs_of x))) j (λ e. rising) (λ ne. s.sorted j);
    placed = λ j q h. ap (place_of q) (length-set trees p t) ∙ placed_after j q h;
  }

  found_after : (q : List ℕ) → find key_cmp q (pairs_of (tree_at (set trees p t) (place_of q (length trees)))) ≡ cond (eq_by_cmp key_cmp q k) w (map.get (map_of trees) q)
  found_after q = at_set trees p t within (λ (x : Tree). find key_cmp q (pairs_of x) ≡ cond (eq_by_cmp key_cmp q k) w (map.get (map_of trees) q)) (place_of q (length trees))
      (λ e. found q ∙ ap (cond (eq_by_cmp key_cmp q k) w) (ap (λ (j : ℕ). find key_cmp q (pairs_of (tree_at trees j))) (sym e) ∙ sym (found_in q trees s)))
      (λ ne. sym (found_in q trees s) ∙ ap (λ (b : Bool). cond b w (map.get (map_of trees) q))
      (sym (not_true (eq_by_cmp key_cmp q k) (λ e. ne (ap (λ (x : List ℕ). place_of x (length trees)) (key_is q k e) ∙ is)))))

  changed : (m : KeyMap) → ((q : List ℕ) → map.get m q ≡ cond (eq_by_cmp key_cmp q k) w (map.get (map_of trees) q)) → IsChanged (set trees p t) m
  changed m got = record {
    spread = spread_after;
    made = same_map nat_list_cmp_total (slice_cmp-IsAntisymmetric nat_cmp-IsAntisymmetric) _ _ (λ q. found_in q (set trees p t) spread_after
        ∙ ap (λ (n : ℕ). find key_cmp q (pairs_of (tree_at (set trees p t) (place_of q n)))) (length-set trees p t) ∙ found_after q ∙ sym (got q));
  }

-- where a key is looked up by itself, nothing differs from what is found
own : (b : Bool) (q k : List ℕ) (f : List ℕ → Option ℕ) → eq_by_cmp key_cmp q k ≡ b → f q ≡ cond b (f k) (f q)
own true q k f e = ap f (key_is q k e)
own false q k f e = refl

turned : {A : Type 0} (b : Bool) (x y : A) → cond (not b) x y ≡ cond b y x
turned true x y = refl
turned false x y = refl

find_without : (q k : List ℕ) (es : Pairs) → find key_cmp q (without k es) ≡ cond (eq_by_cmp key_cmp q k) None (find key_cmp q es)
find_without q k es =
    find-where_key key_cmp (is_other k) q (λ x e. ap (λ (r : Ordering). not (is_eq r)) (sym (alike_right nat_list_cmp_total q x k e))) es
    ∙ turned (eq_by_cmp key_cmp k q) _ _ ∙ ap (λ (c : Bool). cond c None (find key_cmp q es)) ((eq_by_cmp_equiv nat_list_cmp_total).symm k q)

-- ---- a key is entered
pub record IsEntered (m : KeyMap) (after : List Tree) (k : List ℕ) (v : ℕ) (back : Bool) : Type 0 where
  pub spread : IsSpread after
  pub made : map_of after ≡ (if back then m else map.insert m k v)
  pub answer : back ≡ map.contains_key m k

enter_by : (trees : List Tree) (t : Tree) (k : List ℕ) (v p : ℕ) (back : Bool) → place_of k (length trees) ≡ p → p < length trees → IsSpread trees
    → pairs_of t ≡ (if back then pairs_of (tree_at trees p) else put key_cmp k v (pairs_of (tree_at trees p)))
    → IsChanged (set trees p t) (if back then map_of trees else map.insert (map_of trees) k v)
enter_by trees t k v p true is within s f = changed trees t k (find key_cmp k (pairs_of (tree_at trees p))) p is within s
    (subst (λ (es : Pairs). IsTrue (is_sorted key_cmp es)) (sym f) (s.sorted p))
    (λ q. ap (find key_cmp q) f ∙ own (eq_by_cmp key_cmp q k) q k (λ (x : List ℕ). find key_cmp x (pairs_of (tree_at trees p))) refl)
    (map_of trees)
    (λ q. own (eq_by_cmp key_cmp q k) q k (map.get (map_of trees)) refl
    ∙ ap (λ (o : Option ℕ). cond (eq_by_cmp key_cmp q k) o (map.get (map_of trees) q)) (found_in k trees s ∙ ap (λ (j : ℕ). find key_cmp k (pairs_of (tree_at trees j))) is))
enter_by trees t k v p false is within s f = changed trees t k (Some v) p is within s
    (tested _ (subst (λ (es : Pairs). T (is_sorted key_cmp es)) (sym f) (is_sorted-put key_cmp nat_list_cmp_total k v (pairs_of (tree_at trees p)) (test _ (s.sorted p)))))
    (λ q. ap (find key_cmp q) f ∙ find-put key_cmp nat_list_cmp_total q k v (pairs_of (tree_at trees p)))
    (map.insert (map_of trees) k v)
    (λ q. get-insert nat_list_cmp_total (map_of trees) k v q)

-- where a tree is lent from its place, a key entered in it, and the tree put back
pub entered : (m : KeyMap) (trees mid after : List Tree) (old other t : Tree) (k : List ℕ) (v p : ℕ) (back : Bool) → map_of trees ≡ m → IsSpread trees
    → p ≡ place_of k (length trees) → p < length trees → old ≡ tree_at trees p
    → (IsTrue (is_sorted key_cmp (pairs_of old)) → back ≡ is_some (find key_cmp k (pairs_of old)))
    → (IsTrue (is_sorted key_cmp (pairs_of old)) → pairs_of t ≡ (if back then pairs_of old else put key_cmp k v (pairs_of old)))
    → mid ≡ set trees p other → after ≡ set mid p t → IsEntered m after k v back
entered m trees mid after old other t k v p back seen s is within o b f e a =
    let rising : IsTrue (is_sorted key_cmp (pairs_of old)) = subst (λ (x : Tree). IsTrue (is_sorted key_cmp (pairs_of x))) (sym o) (s.sorted p) in
    let d = enter_by trees t k v p back (sym is) within s (f rising ∙ ap (λ (x : Tree). if back then pairs_of x else put key_cmp k v (pairs_of x)) o) in
    let whole : set trees p t ≡ after = sym (a ∙ ap (λ (ts : List Tree). set ts p t) e ∙ set-set trees p other t) in
    record {
      spread = subst IsSpread whole d.spread;
      made = ap map_of (sym whole) ∙ d.made ∙ ap (λ (n : KeyMap). if back then n else map.insert n k v) seen;
      answer = b rising ∙ ap is_some (ap (λ (x : Tree). find key_cmp k (pairs_of x)) o ∙ sym (found_at m k p trees seen s is));
    }

-- ---- a key is taken out
pub record IsTaken (m : KeyMap) (after : List Tree) (k : List ℕ) (there : Option ℕ) : Type 0 where
  pub spread : IsSpread after
  pub made : map_of after ≡ map.remove m k
  pub answer : there ≡ map.get m k

pub taken : (m : KeyMap) (trees mid after : List Tree) (old other t : Tree) (k : List ℕ) (p : ℕ) (there : Option ℕ) → map_of trees ≡ m → IsSpread trees
    → p ≡ place_of k (length trees) → p < length trees → old ≡ tree_at trees p
    → (IsTrue (is_sorted key_cmp (pairs_of old)) → there ≡ find key_cmp k (pairs_of old))
    → (IsTrue (is_sorted key_cmp (pairs_of old)) → pairs_of t ≡ without k (pairs_of old))
    → mid ≡ set trees p other → after ≡ set mid p t → IsTaken m after k there
taken m trees mid after old other t k p there seen s is within o b f e a =
    let rising : IsTrue (is_sorted key_cmp (pairs_of old)) = subst (λ (x : Tree). IsTrue (is_sorted key_cmp (pairs_of x))) (sym o) (s.sorted p) in
    let whole : set trees p t ≡ after = sym (a ∙ ap (λ (ts : List Tree). set ts p t) e ∙ set-set trees p other t) in
    let kept : pairs_of t ≡ without k (pairs_of (tree_at trees p)) = f rising ∙ ap (λ (x : Tree). without k (pairs_of x)) o in
    let d = changed trees t k None p (sym is) within s
    (tested _ (subst (λ (es : Pairs). T (is_sorted key_cmp es)) (sym kept) (is_sorted-where_key key_cmp (is_other k) (pairs_of (tree_at trees p)) (test _ (s.sorted p)))))
    (λ q. ap (find key_cmp q) kept ∙ find_without q k (pairs_of (tree_at trees p)))
    (map.remove (map_of trees) k)
    (λ q. get-remove nat_list_cmp_total (map_of trees) k q) in
    record {
      spread = subst IsSpread whole d.spread;
      made = ap map_of (sym whole) ∙ d.made ∙ ap (λ (n : KeyMap). map.remove n k) seen;
      answer = b rising ∙ ap (λ (x : Tree). find key_cmp k (pairs_of x)) o ∙ sym (found_at m k p trees seen s is);
    }

-- ---- where there is no bucket, there is no key
pub none_there : (m : KeyMap) (trees : List Tree) (p : ℕ) (k : List ℕ) → map_of trees ≡ m → (0 < length trees → p < length trees) → length trees ≤ p → None ≡ map.get m k
none_there m [] p k seen w l = sym (ap (λ (n : KeyMap). map.get n k) (sym seen) ∙ get-empty key_cmp k)
none_there m (t ∷ ts) p k seen w l = absurd (omega (arith, w (omega arith)))

same_none : (b : Bool) → ◌≡◌ {A = Option ℕ} None (cond b None None)
same_none true = refl
same_none false = refl

none_removed : (k : List ℕ) → ◌≡◌ {A = KeyMap} map.empty (map.remove map.empty k)
none_removed k = same_map nat_list_cmp_total (slice_cmp-IsAntisymmetric nat_cmp-IsAntisymmetric) _ _
    (λ q. get-empty key_cmp q ∙ same_none (eq_by_cmp key_cmp q k) ∙ ap (cond (eq_by_cmp key_cmp q k) None) (sym (get-empty key_cmp q)) ∙ sym (get-remove nat_list_cmp_total map.empty k q))

pub none_taken : (m : KeyMap) (trees : List Tree) (p : ℕ) (k : List ℕ) → map_of trees ≡ m → (0 < length trees → p < length trees) → length trees ≤ p → m ≡ map.remove m k
none_taken m [] p k seen w l = subst (λ (n : KeyMap). n ≡ map.remove n k) seen (none_removed k)
none_taken m (t ∷ ts) p k seen w l = absurd (omega (arith, w (omega arith)))

-- ---- pairs are moved
abbrev pub one_pair : List ℕ → ℕ → List ℕ → Option ℕ
one_pair k v q = cond (eq_by_cmp key_cmp q k) (Some v) None

or_assoc : (a b c : Option ℕ) → option_or (option_or a b) c ≡ option_or a (option_or b c)
or_assoc None b c = refl
or_assoc (Some x) b c = refl

or_picked : (b : Bool) (v : ℕ) (o : Option ℕ) → cond b (Some v) o ≡ option_or (cond b (Some v) None) o
or_picked true v o = refl
or_picked false v o = refl

-- what a key that was entered, where it was not there, adds to what is found
entered_found : (m : KeyMap) (k : List ℕ) (v : ℕ) (q : List ℕ) (back b : Bool) → back ≡ map.contains_key m k → eq_by_cmp key_cmp q k ≡ b
    → map.get (if back then m else map.insert m k v) q ≡ option_or (map.get m q) (cond b (Some v) None)
entered_found m k v q true false h e = sym (or_none (map.get m q))
entered_found m k v q true true h e = some_first (map.get m q) (Some v) (ap (λ (x : List ℕ). map.contains_key m x) (key_is q k e) ∙ sym h)
  where
    some_first : (o r : Option ℕ) → is_some o ≡ true → o ≡ option_or o r
    some_first None r h = cc
    some_first (Some x) r h = refl
entered_found m k v q false false h e = get-insert nat_list_cmp_total m k v q ∙ ap (λ (c : Bool). cond c (Some v) (map.get m q)) e ∙ sym (or_none (map.get m q))
entered_found m k v q false true h e =
    get-insert nat_list_cmp_total m k v q ∙ ap (λ (c : Bool). cond c (Some v) (map.get m q)) e
    ∙ ap (λ (o : Option ℕ). option_or o (Some v)) (none_here (map.get m q) (ap (λ (x : List ℕ). map.contains_key m x) (key_is q k e) ∙ sym h))
  where
    none_here : (o : Option ℕ) → is_some o ≡ false → None ≡ o
    none_here None h = refl
    none_here (Some x) h = cc

-- a tree is moved: what is left of its root, then the root, and then what is right of it
pub moved : (whole left right : Pairs) (m m_left m_root m_right : KeyMap) (k : List ℕ) (v : ℕ) (back : Bool) → whole ≡ left ++ (k, v) ∷ right
    → ((q : List ℕ) → map.get m_left q ≡ option_or (map.get m q) (find key_cmp q left))
    → back ≡ map.contains_key m_left k → m_root ≡ (if back then m_left else map.insert m_left k v)
    → ((q : List ℕ) → map.get m_right q ≡ option_or (map.get m_root q) (find key_cmp q right))
    → (q : List ℕ) → map.get m_right q ≡ option_or (map.get m q) (find key_cmp q whole)
moved whole left right m m_left m_root m_right k v back w l b r f q =
    f q
    ∙ ap (λ (n : KeyMap). option_or (map.get n q) (find key_cmp q right)) r
    ∙ ap (λ (o : Option ℕ). option_or o (find key_cmp q right)) (entered_found m_left k v q back (eq_by_cmp key_cmp q k) b refl
    ∙ ap (λ (o : Option ℕ). option_or o (one_pair k v q)) (l q) ∙ or_assoc (map.get m q) (find key_cmp q left) (one_pair k v q))
    ∙ or_assoc (map.get m q) (option_or (find key_cmp q left) (one_pair k v q)) (find key_cmp q right)
    ∙ ap (option_or (map.get m q)) (or_assoc (find key_cmp q left) (one_pair k v q) (find key_cmp q right)
    ∙ ap (option_or (find key_cmp q left)) (sym (or_picked (eq_by_cmp key_cmp q k) v (find key_cmp q right)))
    ∙ sym (find_both q left ((k, v) ∷ right)) ∙ ap (find key_cmp q) (sym w))

-- one tree more is moved
pub moved_on : (all : Option ℕ) (q : List ℕ) (trees rest : List Tree) (t : Tree) (m n : KeyMap) → option_or (map.get m q) (find key_cmp q (pairs_in trees)) ≡ all → trees ≡ t ∷ rest
    → map.get n q ≡ option_or (map.get m q) (find key_cmp q (pairs_of t)) → option_or (map.get n q) (find key_cmp q (pairs_in rest)) ≡ all
moved_on all q trees rest t m n h e f =
    ap (λ (o : Option ℕ). option_or o (find key_cmp q (pairs_in rest))) f ∙ or_assoc (map.get m q) (find key_cmp q (pairs_of t)) (find key_cmp q (pairs_in rest))
    ∙ ap (option_or (map.get m q)) (sym (find_both q (pairs_of t) (pairs_in rest)) ∙ ap (λ (ts : List Tree). find key_cmp q (pairs_in ts)) (sym e)) ∙ h

-- a table into which all pairs of another one were moved, and none stood there before
pub all_moved : (trees : List Tree) (m n : KeyMap) → m ≡ map.empty → ((q : List ℕ) → map.get n q ≡ option_or (map.get m q) (find key_cmp q (pairs_in trees))) → n ≡ map_of trees
all_moved trees m n e f = same_map nat_list_cmp_total (slice_cmp-IsAntisymmetric nat_cmp-IsAntisymmetric) _ _
    (λ q. f q ∙ ap (λ (o : Option ℕ). option_or o (find key_cmp q (pairs_in trees))) (ap (λ (x : KeyMap). map.get x q) e ∙ get-empty key_cmp q) ∙ sym (get-from_entries nat_list_cmp_total (pairs_in trees) q))
