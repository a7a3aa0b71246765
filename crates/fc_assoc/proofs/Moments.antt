-- The control elements that are silent, and those that stay, among the pairs and in the map.
use Rattle.std.proofs.Common.{◌≡◌, ℕ, ◌<◌, ◌≤◌, Bool, true, false, cond, not, T, [], ◌∷◌, ◌++◌, map, length, refl, sym, ap, subst, ◌∙◌, arith, Some, None, append_assoc}
use Rattle.std.specs.Bool.{IsTrue}
use Rattle.std.specs.List.{AllByRecursion, filter}
use Rattle.std.specs.Ordering.{nat_cmp}
use Rattle.std.specs.declared.cmp.Ordering.TheVariants.{Equal}
use Rattle.std.specs.Cmp.{nat_cmp_total}
use Rattle.std.specs.FinMap.{find, is_sorted, get, retain_keys, entries, same_map, get-retain_keys, nat_cmp-IsAntisymmetric}
use Rattle.std.specs.FinMap.Entries.{below_all, find-where_key, is_sorted-where_key}
use Rattle.fc_assoc.specs.declared.heard.Heard.{Heard}
use Rattle.fc_assoc.specs.Associations.{AssociationMap, is_past, is_silent, silent, still_heard}
use Rattle.fc_assoc.specs.Places.{AreBelow}
use Rattle.fc_assoc.proofs.Maps.{Pairs, map_of, test, tested, parts, lower, is_less, find_front, find_here, got, pairs_are}
use Rattle.fc_assoc.proofs.Effects.{Kept}

alike : (p : ℕ → Bool) (q x : ℕ) → nat_cmp q x ≡ Equal → p x ≡ p q
alike p q x e = ap p (sym (nat_cmp-IsAntisymmetric q x e))

sorted_filter : (es : Pairs) (p : ℕ → Bool) → IsTrue (is_sorted nat_cmp es) → IsTrue (is_sorted nat_cmp (filter (λ e. p e.0) es))
sorted_filter es p s = tested _ (is_sorted-where_key nat_cmp p es (test _ s))

-- the map without some keys is that of the pairs without them
retained : (es : Pairs) (p : ℕ → Bool) → IsTrue (is_sorted nat_cmp es) → map_of (filter (λ e. p e.0) es) ≡ retain_keys (map_of es) p
retained es p s =
    same_map nat_cmp_total nat_cmp-IsAntisymmetric (map_of (filter (λ e. p e.0) es)) (retain_keys (map_of es) p) (λ q.
    got (filter (λ e. p e.0) es) q (sorted_filter es p s) ∙ find-where_key nat_cmp p q (alike p q) es ∙ sym (get-retain_keys (map_of es) p q (alike p q) ∙ ap (λ o. cond (p q) o None) (got es q s)))

below_middle : (x : ℕ) (ps : Pairs) (e : ℕ × Heard) (es : Pairs) → T (below_all nat_cmp x (ps ++ e ∷ es)) → x < e.0
below_middle x [] e es b = is_less x e.0 (nat_cmp x e.0) refl (lower x e es b).0
below_middle x (p ∷ ps) e es b = below_middle x ps e es (lower x p (ps ++ e ∷ es) b).1

below_front : (front : Pairs) (e : ℕ × Heard) (es : Pairs) → T (is_sorted nat_cmp (front ++ e ∷ es)) → AreBelow e.0 front
below_front [] e es s = tt
below_front (p ∷ ps) e es s =
    let l : T (below_all nat_cmp p.0 (ps ++ e ∷ es)) × T (is_sorted nat_cmp (ps ++ e ∷ es)) = parts p (ps ++ e ∷ es) s in
    (below_middle p.0 ps e es l.0, below_front ps e es l.1)

-- each pair is found by its key
each_after : (front es : Pairs) → T (is_sorted nat_cmp (front ++ es)) → AllByRecursion (λ e. find nat_cmp e.0 (front ++ es) ≡ Some e.1) es
each_after front [] s = tt
each_after front (e ∷ es) s =
    let joined : (front ++ e ∷ []) ++ es ≡ front ++ e ∷ es = append_assoc front (e ∷ []) es in
    let rest : AllByRecursion (λ d. find nat_cmp d.0 ((front ++ e ∷ []) ++ es) ≡ Some d.1) es = each_after (front ++ e ∷ []) es (subst (λ (xs : Pairs). T (is_sorted nat_cmp xs)) (sym joined) s) in
    (find_front e.0 front (e ∷ es) (below_front front e es s) ∙ find_here e.0 e.1 es, subst (λ (xs : Pairs). AllByRecursion (λ d. find nat_cmp d.0 xs ≡ Some d.1) es) joined rest)

same_filter : (p q : ℕ × Heard → Bool) (es : Pairs) → AllByRecursion (λ e. p e ≡ q e) es → filter p es ≡ filter q es
same_filter p q [] same = refl
same_filter p q (e ∷ es) same = ap (λ b. cond b (e ∷ filter p es) (filter p es)) same.0 ∙ ap (λ (xs : Pairs). cond (q e) (e ∷ xs) xs) (same_filter p q es same.1)

all_map : (P Q : ℕ × Heard → Type 0) → ((e : ℕ × Heard) → P e → Q e) → (es : Pairs) → AllByRecursion P es → AllByRecursion Q es
all_map P Q f [] a = tt
all_map P Q f (e ∷ es) a = (f e a.0, all_map P Q f es a.1)

-- of a pair and of its key the same is said
says : (es : Pairs) (now dead : ℕ) → IsTrue (is_sorted nat_cmp es) → AllByRecursion (λ e. is_past e.1 now dead ≡ is_silent (get (map_of es) e.0) now dead) es
says es now dead s =
    all_map (λ e. find nat_cmp e.0 es ≡ Some e.1) (λ e. is_past e.1 now dead ≡ is_silent (get (map_of es) e.0) now dead)
    (λ e found. sym (ap (λ o. is_silent o now dead) (got es e.0 s ∙ found))) es (each_after [] es (test _ s))

says_not : (es : Pairs) (now dead : ℕ) → IsTrue (is_sorted nat_cmp es) → AllByRecursion (λ e. not (is_past e.1 now dead) ≡ not (is_silent (get (map_of es) e.0) now dead)) es
says_not es now dead s =
    all_map (λ e. is_past e.1 now dead ≡ is_silent (get (map_of es) e.0) now dead) (λ e. not (is_past e.1 now dead) ≡ not (is_silent (get (map_of es) e.0) now dead))
    (λ e same. ap not same) es (says es now dead s)

pub silent_are : (m : AssociationMap) (es : Pairs) (now dead : ℕ) → map_of es ≡ m → Kept es → map (λ e. e.0) (filter (λ e. is_past e.1 now dead) es) ≡ silent m now dead
silent_are m es now dead view kept =
    let at : map (λ e. e.0) (filter (λ e. is_past e.1 now dead) es) ≡ silent (map_of es) now dead =
    ap (λ (xs : Pairs). map (λ e. e.0) xs) (same_filter _ _ es (says es now dead kept.0)
    ∙ sym (pairs_are _ (sorted_filter es (λ ce. is_silent (get (map_of es) ce) now dead) kept.0))
    ∙ ap (λ (n : AssociationMap). entries n) (retained es (λ ce. is_silent (get (map_of es) ce) now dead) kept.0)) in
    at ∙ ap (λ (n : AssociationMap). silent n now dead) view

pub record Stay (m : AssociationMap) (es fs : Pairs) (now dead : ℕ) : Type 0 where
  pub kept : Kept fs
  pub after : map_of fs ≡ still_heard m now dead

filter_short : (p : ℕ × Heard → Bool) (es : Pairs) → length (filter p es) ≤ length es
filter_short p [] = omega arith
filter_short p (e ∷ es) = elim (p e) as (λ b. length (cond b (e ∷ filter p es) (filter p es)) ≤ length (e ∷ es)) [ true ↦ omega (arith, filter_short p es) | false ↦ omega (arith, filter_short p es) ]

pub stays : (m : AssociationMap) (es fs : Pairs) (now dead : ℕ) → map_of es ≡ m → Kept es → fs ≡ filter (λ e. not (is_past e.1 now dead)) es → Stay m es fs now dead
stays m es fs now dead view kept e =
    let by_key : fs ≡ filter (λ d. not (is_silent (get (map_of es) d.0) now dead)) es = e ∙ same_filter _ _ es (says_not es now dead kept.0) in
    let short : length fs ≤ length es = subst (λ (xs : Pairs). length xs ≤ length es) (sym e) (filter_short _ es) in
    record {
      kept = (subst (λ (xs : Pairs). IsTrue (is_sorted nat_cmp xs)) (sym by_key) (sorted_filter es (λ ce. not (is_silent (get (map_of es) ce) now dead)) kept.0), omega arith);
      after = ap map_of by_key ∙ retained es (λ ce. not (is_silent (get (map_of es) ce) now dead)) kept.0 ∙ ap (λ (n : AssociationMap). still_heard n now dead) view;
    }
