-- What a change of the pairs does to the map that they stand for.
use Rattle.std.proofs.Common.{◌≡◌, ℕ, ◌<◌, Bool, true, false, cond, T, ◌&&◌, List, [], ◌∷◌, ◌++◌, length, set, refl, sym, ap, subst, ◌∙◌, arith, Some, None, eqb-true}
use Rattle.std.specs.Bool.{IsTrue}
use Rattle.std.specs.List.{insert, remove}
use Rattle.std.specs.Ordering.{nat_cmp, is_lt, eq_by_cmp}
use Rattle.std.specs.declared.cmp.Ordering.{Ordering}
use Rattle.std.specs.declared.cmp.Ordering.TheVariants.{Less, Equal, Greater}
use Rattle.std.specs.Cmp.{nat_cmp_is, ranked, nat_cmp_total, unsigned_tied}
use Rattle.std.proofs.lemmas.Grind.{common_steps}
use Rattle.std.specs.FinMap as finmap
use Rattle.std.specs.FinMap.{find, put, is_sorted, from_sorted, entries, entries-from_sorted, entries-insert, same_entries_map, get, get-from_sorted, same_map, get-remove, nat_cmp-IsAntisymmetric}
use Rattle.std.specs.FinMap.Entries.{below_all, is_sorted-put}
use Rattle.std.proofs.Math.Seq.{set-append_seam}
use Rattle.fc_assoc.specs.declared.heard.Heard.{Heard}
use Rattle.fc_assoc.specs.Associations.{AssociationMap}
use Rattle.fc_assoc.specs.Places.{AreBelow, BeginsAbove, StandsAt, BelongsAt}

abbrev pub Pairs : Type 0
Pairs = List (ℕ × Heard)

abbrev pub map_of : Pairs → AssociationMap
map_of es = from_sorted es

pub test : (b : Bool) → IsTrue b → T b
test b e = subst T (sym e) tt

pub tested : (b : Bool) → T b → IsTrue b
tested true h = refl
tested false h = absurd h

less_is : (x y : ℕ) → x < y → nat_cmp x y ≡ Less
less_is x y l = sym (nat_cmp_is x y Less l)

greater_is : (x y : ℕ) → y < x → nat_cmp x y ≡ Greater
greater_is x y l = sym (nat_cmp_is x y Greater l)

equal_is : (x : ℕ) → nat_cmp x x ≡ Equal
equal_is x = sym (nat_cmp_is x x Equal refl)

pub is_less : (x y : ℕ) (r : Ordering) → r ≡ nat_cmp x y → T (is_lt r) → x < y
is_less x y Less e h = ranked x y Less e
is_less x y Equal e h = absurd h
is_less x y Greater e h = absurd h

halves : (a b : Bool) → T (a && b) → T a × T b
halves true b h = (tt, h)
halves false b h = absurd h

joined : (a b : Bool) → T a → T b → T (a && b)
joined true b h k = k
joined false b h k = absurd h

-- the parts of an order
pub parts : (p : ℕ × Heard) (ps : Pairs) → T (is_sorted nat_cmp (p ∷ ps)) → T (below_all nat_cmp p.0 ps) × T (is_sorted nat_cmp ps)
parts p ps s = halves (below_all nat_cmp p.0 ps) (is_sorted nat_cmp ps) s

pub lower : (x : ℕ) (q : ℕ × Heard) (qs : Pairs) → T (below_all nat_cmp x (q ∷ qs)) → T (is_lt (nat_cmp x q.0)) × T (below_all nat_cmp x qs)
lower x q qs b = halves (is_lt (nat_cmp x q.0)) (below_all nat_cmp x qs) b

put_front : (ce : ℕ) (v : Heard) (front back : Pairs) → AreBelow ce front → put nat_cmp ce v (front ++ back) ≡ front ++ put nat_cmp ce v back
put_front ce v [] back b = refl
put_front ce v (p ∷ ps) back b = rw (greater_is ce p.0 b.0) (ap (λ (xs : Pairs). p ∷ xs) (put_front ce v ps back b.1))

put_here : (ce : ℕ) (h v : Heard) (back : Pairs) → put nat_cmp ce v ((ce, h) ∷ back) ≡ (ce, v) ∷ back
put_here ce h v back = rw (equal_is ce) refl

put_before : (ce : ℕ) (v : Heard) (back : Pairs) → BeginsAbove ce back → put nat_cmp ce v back ≡ (ce, v) ∷ back
put_before ce v [] a = refl
put_before ce v (p ∷ ps) a = rw (less_is ce p.0 a) refl

pub find_front : (ce : ℕ) (front back : Pairs) → AreBelow ce front → find nat_cmp ce (front ++ back) ≡ find nat_cmp ce back
find_front ce [] back b = refl
find_front ce (p ∷ ps) back b = rw (greater_is ce p.0 b.0) (find_front ce ps back b.1)

pub find_here : (ce : ℕ) (h : Heard) (back : Pairs) → find nat_cmp ce ((ce, h) ∷ back) ≡ Some h
find_here ce h back = rw (equal_is ce) refl

above_more : (ce : ℕ) (p : ℕ × Heard) (ps : Pairs) → ce < p.0 → T (is_sorted nat_cmp (p ∷ ps)) → BeginsAbove ce ps
above_more ce p [] l s = tt
above_more ce p (q ∷ qs) l s = let k : p.0 < q.0 = is_less p.0 q.0 (nat_cmp p.0 q.0) refl (lower p.0 q qs (parts p (q ∷ qs) s).0).0 in omega arith

begins_above : (p : ℕ × Heard) (ps : Pairs) → T (is_sorted nat_cmp (p ∷ ps)) → BeginsAbove p.0 ps
begins_above p [] s = tt
begins_above p (q ∷ qs) s = is_less p.0 q.0 (nat_cmp p.0 q.0) refl (lower p.0 q qs (parts p (q ∷ qs) s).0).0

find_above : (ce : ℕ) (back : Pairs) → T (is_sorted nat_cmp back) → BeginsAbove ce back → find nat_cmp ce back ≡ None
find_above ce [] s a = refl
find_above ce (p ∷ ps) s a = rw (less_is ce p.0 a) (find_above ce ps (parts p ps s).1 (above_more ce p ps a s))

sorted_back : (front back : Pairs) → T (is_sorted nat_cmp (front ++ back)) → T (is_sorted nat_cmp back)
sorted_back [] back s = s
sorted_back (p ∷ ps) back s = sorted_back ps back (parts p (ps ++ back) s).1

lower_without : (x : ℕ) (front : Pairs) (p : ℕ × Heard) (back : Pairs) → T (below_all nat_cmp x (front ++ p ∷ back)) → T (below_all nat_cmp x (front ++ back))
lower_without x [] p back b = (lower x p back b).1
lower_without x (q ∷ qs) p back b =
    let l : T (is_lt (nat_cmp x q.0)) × T (below_all nat_cmp x (qs ++ p ∷ back)) = lower x q (qs ++ p ∷ back) b in
    joined (is_lt (nat_cmp x q.0)) (below_all nat_cmp x (qs ++ back)) l.0 (lower_without x qs p back l.1)

sorted_without : (front : Pairs) (p : ℕ × Heard) (back : Pairs) → T (is_sorted nat_cmp (front ++ p ∷ back)) → T (is_sorted nat_cmp (front ++ back))
sorted_without [] p back s = (parts p back s).1
sorted_without (q ∷ qs) p back s =
    let l : T (below_all nat_cmp q.0 (qs ++ p ∷ back)) × T (is_sorted nat_cmp (qs ++ p ∷ back)) = parts q (qs ++ p ∷ back) s in
    joined (below_all nat_cmp q.0 (qs ++ back)) (is_sorted nat_cmp (qs ++ back)) (lower_without q.0 qs p back l.0) (sorted_without qs p back l.1)

-- the pairs of a map
pub pairs_are : (es : Pairs) → IsTrue (is_sorted nat_cmp es) → entries (map_of es) ≡ es
pairs_are es s = entries-from_sorted nat_cmp es (test _ s)

pub got : (es : Pairs) (ce : ℕ) → IsTrue (is_sorted nat_cmp es) → get (map_of es) ce ≡ find nat_cmp ce es
got es ce s = get-from_sorted nat_cmp es ce (test _ s)

-- the pairs with one more are the map with one more
inserted : (es fs : Pairs) (ce : ℕ) (v : Heard) → IsTrue (is_sorted nat_cmp es) → put nat_cmp ce v es ≡ fs → IsTrue (is_sorted nat_cmp fs) × (map_of fs ≡ finmap.insert (map_of es) ce v)
inserted es fs ce v s e =
    let f : T (is_sorted nat_cmp fs) = subst (λ (xs : Pairs). T (is_sorted nat_cmp xs)) e (is_sorted-put nat_cmp nat_cmp_total ce v es (test _ s)) in
    (tested _ f, same_entries_map _ _ (entries-from_sorted nat_cmp fs f ∙ sym e ∙ ap (put nat_cmp ce v) (sym (pairs_are es s)) ∙ sym (entries-insert nat_cmp_total (map_of es) ce v)))

pub found : (es : Pairs) (ce place : ℕ) → IsTrue (is_sorted nat_cmp es) → (at : StandsAt es ce place) → get (map_of es) ce ≡ Some at.heard
found es ce place s at = got es ce s ∙ ap (find nat_cmp ce) at.split ∙ find_front ce at.front _ at.below ∙ find_here ce at.heard at.back

pub missing : (es : Pairs) (ce place : ℕ) → IsTrue (is_sorted nat_cmp es) → (at : BelongsAt es ce place) → get (map_of es) ce ≡ None
missing es ce place s at =
    let sorted : T (is_sorted nat_cmp (at.front ++ at.back)) = subst (λ (xs : Pairs). T (is_sorted nat_cmp xs)) at.split (test _ s) in
    got es ce s ∙ ap (find nat_cmp ce) at.split ∙ find_front ce at.front _ at.below ∙ find_above ce at.back (sorted_back at.front at.back sorted) at.above

pub renew : (es fs : Pairs) (ce place : ℕ) (v : Heard) → IsTrue (is_sorted nat_cmp es) → StandsAt es ce place → fs ≡ set es place (ce, v) → IsTrue (is_sorted nat_cmp fs) × (map_of fs ≡ finmap.insert (map_of es) ce v)
renew es fs ce place v s at e =
    inserted es fs ce v s (ap (put nat_cmp ce v) at.split ∙ put_front ce v at.front _ at.below ∙ ap (λ (xs : Pairs). at.front ++ xs) (put_here ce at.heard v at.back)
    ∙ sym (e ∙ ap (λ (xs : Pairs). set xs place (ce, v)) at.split ∙ ap (λ (n : ℕ). set (at.front ++ (ce, at.heard) ∷ at.back) n (ce, v)) (sym at.at) ∙ set-append_seam at.front (ce, at.heard) at.back (ce, v)))

insert_seam : (front back : Pairs) (x : ℕ × Heard) → insert (front ++ back) (length front) x ≡ front ++ x ∷ back
insert_seam front back x = grind (arith, common_steps)

remove_seam : (front : Pairs) (x : ℕ × Heard) (back : Pairs) → remove (front ++ x ∷ back) (length front) ≡ front ++ back
remove_seam [] x back = refl
remove_seam (p ∷ ps) x back = ap (λ (xs : Pairs). p ∷ xs) (remove_seam ps x back)

pub enter : (es fs : Pairs) (ce place : ℕ) (v : Heard) → IsTrue (is_sorted nat_cmp es) → BelongsAt es ce place → fs ≡ insert es place (ce, v) → IsTrue (is_sorted nat_cmp fs) × (map_of fs ≡ finmap.insert (map_of es) ce v)
enter es fs ce place v s at e =
    inserted es fs ce v s (ap (put nat_cmp ce v) at.split ∙ put_front ce v at.front _ at.below ∙ ap (λ (xs : Pairs). at.front ++ xs) (put_before ce v at.back at.above)
    ∙ sym (e ∙ ap (λ (xs : Pairs). insert xs place (ce, v)) at.split ∙ ap (λ (n : ℕ). insert (at.front ++ at.back) n (ce, v)) (sym at.at) ∙ insert_seam at.front at.back (ce, v)))

-- what is found after one pair is taken out
find_without : (q ce : ℕ) (h : Heard) (front back : Pairs) → eq_by_cmp nat_cmp q ce ≡ false → find nat_cmp q (front ++ (ce, h) ∷ back) ≡ find nat_cmp q (front ++ back)
find_without q ce h [] back other = rw other refl
find_without q ce h (p ∷ ps) back other = ap (cond (eq_by_cmp nat_cmp q p.0) (Some p.1)) (find_without q ce h ps back other)

key_is : (q ce : ℕ) → eq_by_cmp nat_cmp q ce ≡ true → q ≡ ce
key_is q ce e = eqb-true q ce (sym (unsigned_tied q ce) ∙ e)

removed : (es fs : Pairs) (ce : ℕ) → IsTrue (is_sorted nat_cmp es) → IsTrue (is_sorted nat_cmp fs) → find nat_cmp ce fs ≡ None → ((q : ℕ) → eq_by_cmp nat_cmp q ce ≡ false → find nat_cmp q es ≡ find nat_cmp q fs) → map_of fs ≡ finmap.remove (map_of es) ce
removed es fs ce s t gone others =
    same_map nat_cmp_total nat_cmp-IsAntisymmetric (map_of fs) (finmap.remove (map_of es) ce) (λ q.
    got fs q t ∙ (elim (eq_by_cmp nat_cmp q ce) as (λ b. eq_by_cmp nat_cmp q ce ≡ b → find nat_cmp q fs ≡ cond b None (get (map_of es) q)) [
      | true ↦ λ e. ap (λ (x : ℕ). find nat_cmp x fs) (key_is q ce e) ∙ gone
      | false ↦ λ e. sym (others q e) ∙ sym (got es q s)
    ] refl) ∙ sym (get-remove nat_cmp_total (map_of es) ce q))

pub leave : (es fs : Pairs) (ce place : ℕ) → IsTrue (is_sorted nat_cmp es) → StandsAt es ce place → fs ≡ remove es place → IsTrue (is_sorted nat_cmp fs) × (map_of fs ≡ finmap.remove (map_of es) ce)
leave es fs ce place s at e =
    let whole : T (is_sorted nat_cmp (at.front ++ (ce, at.heard) ∷ at.back)) = subst (λ (xs : Pairs). T (is_sorted nat_cmp xs)) at.split (test _ s) in
    let f : fs ≡ at.front ++ at.back = e ∙ ap (λ (xs : Pairs). remove xs place) at.split ∙ ap (λ (n : ℕ). remove (at.front ++ (ce, at.heard) ∷ at.back) n) (sym at.at) ∙ remove_seam at.front (ce, at.heard) at.back in
    let t : IsTrue (is_sorted nat_cmp fs) = tested _ (subst (λ (xs : Pairs). T (is_sorted nat_cmp xs)) (sym f) (sorted_without at.front (ce, at.heard) at.back whole)) in (
      t,
      removed es fs ce s t (ap (find nat_cmp ce) f ∙ find_front ce at.front at.back at.below ∙ find_above ce at.back (parts (ce, at.heard) at.back (sorted_back at.front _ whole)).1 (begins_above (ce, at.heard) at.back (sorted_back at.front _ whole)))
          (λ q other. ap (find nat_cmp q) at.split ∙ find_without q ce at.heard at.front at.back other ∙ ap (find nat_cmp q) (sym f)),
    )

pub stay : (es : Pairs) (ce place : ℕ) → IsTrue (is_sorted nat_cmp es) → BelongsAt es ce place → map_of es ≡ finmap.remove (map_of es) ce
stay es ce place s at = removed es es ce s s (sym (got es ce s) ∙ missing es ce place s at) (λ q _. refl)
