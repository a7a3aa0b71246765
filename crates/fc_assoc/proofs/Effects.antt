-- What each call does to the map, from where the key stands among the pairs or belongs.
use Rattle.std.proofs.Common.{◌≡◌, ℕ, ◌+◌, ◌<◌, ◌≤◌, true, false, length, set, refl, sym, ap, subst, ◌∙◌, arith, is_some, length-set, cond, nat_lt, ◌||◌, [], ◌∷◌, ◌++◌, get_or, Some, None, Option, option_map, slice_get}
use Rattle.std.proofs.lemmas.Bool.{lt-ltb, le-ltb}
use Rattle.std.specs.Bool.{IsTrue}
use Rattle.std.specs.List.{insert, remove}
use Rattle.std.specs.Ordering.{nat_cmp}
use Rattle.std.specs.FinMap as finmap
use Rattle.std.specs.FinMap.{is_sorted, contains_key, get, len, len-entries}
use Rattle.std.proofs.lemmas.Grind.{common_steps}
use Rattle.fc_assoc.specs.declared.heard.Heard.{Heard}
use Rattle.fc_assoc.specs.Associations.{AssociationMap, entered, renewed, takes_in, heard_at}
use Rattle.fc_assoc.specs.Places.{StandsAt, BelongsAt}
use Rattle.fc_assoc.proofs.Maps.{Pairs, map_of, renew, enter, leave, stay, found, missing, pairs_are}

-- what the pairs of an element keep
abbrev pub Kept : Pairs → Type 0
Kept es = IsTrue (is_sorted nat_cmp es) × (length es ≤ 64)

pub known : (m : AssociationMap) (es seen : Pairs) (ce place : ℕ) → map_of es ≡ m → Kept es → seen ≡ es → StandsAt seen ce place → contains_key m ce ≡ true
known m es seen ce place view kept same at =
    let e : StandsAt es ce place = subst (λ (xs : Pairs). StandsAt xs ce place) same at in
    ap (λ (n : AssociationMap). contains_key n ce) (sym view) ∙ ap (is_some {T = Heard}) (found es ce place kept.0 e)

pub unknown : (m : AssociationMap) (es seen : Pairs) (ce place : ℕ) → map_of es ≡ m → Kept es → seen ≡ es → BelongsAt seen ce place → contains_key m ce ≡ false
unknown m es seen ce place view kept same at =
    let e : BelongsAt es ce place = subst (λ (xs : Pairs). BelongsAt xs ce place) same at in
    ap (λ (n : AssociationMap). contains_key n ce) (sym view) ∙ ap (is_some {T = Heard}) (missing es ce place kept.0 e)

pub count : (m : AssociationMap) (es : Pairs) → map_of es ≡ m → Kept es → len m ≡ length es
count m es view kept = ap (λ (n : AssociationMap). len n) (sym view) ∙ len-entries (map_of es) ∙ ap (λ (xs : Pairs). length xs) (pairs_are es kept.0)

-- renewing a pair that stands
pub record Set (m : AssociationMap) (es : Pairs) (ce place : ℕ) (h : Heard) : Type 0 where
  pub kept : Kept (set es place (ce, h))
  pub after : map_of (set es place (ce, h)) ≡ finmap.insert m ce h

pub sets : (m : AssociationMap) (es seen : Pairs) (ce place : ℕ) (h : Heard) → map_of es ≡ m → Kept es → seen ≡ es → StandsAt seen ce place → Set m es ce place h
sets m es seen ce place h view kept same at =
    let e : StandsAt es ce place = subst (λ (xs : Pairs). StandsAt xs ce place) same at in
    let r : IsTrue (is_sorted nat_cmp (set es place (ce, h))) × (map_of (set es place (ce, h)) ≡ finmap.insert (map_of es) ce h) = renew es (set es place (ce, h)) ce place h kept.0 e refl in
    record { kept = (r.0, omega (arith, length-set es place (ce, h))); after = r.1 ∙ ap (λ (n : AssociationMap). finmap.insert n ce h) view }

-- entering a pair where it belongs
pub record Put (m : AssociationMap) (es : Pairs) (ce place : ℕ) (h : Heard) : Type 0 where
  pub kept : Kept (insert es place (ce, h))
  pub after : map_of (insert es place (ce, h)) ≡ finmap.insert m ce h

pub puts : (m : AssociationMap) (es seen : Pairs) (ce place : ℕ) (h : Heard) → map_of es ≡ m → Kept es → length es < 64 → seen ≡ es → BelongsAt seen ce place → Put m es ce place h
puts m es seen ce place h view kept few same at =
    let e : BelongsAt es ce place = subst (λ (xs : Pairs). BelongsAt xs ce place) same at in
    let r : IsTrue (is_sorted nat_cmp (insert es place (ce, h))) × (map_of (insert es place (ce, h)) ≡ finmap.insert (map_of es) ce h) = enter es (insert es place (ce, h)) ce place h kept.0 e refl in
    let long : length (insert es place (ce, h)) ≡ length es + 1 = grind (arith, common_steps) in
    record { kept = (r.0, omega arith); after = r.1 ∙ ap (λ (n : AssociationMap). finmap.insert n ce h) view }

-- taking a pair out
pub record Cut (m : AssociationMap) (es : Pairs) (ce place : ℕ) : Type 0 where
  pub kept : Kept (remove es place)
  pub after : map_of (remove es place) ≡ finmap.remove m ce

pub cuts : (m : AssociationMap) (es seen : Pairs) (ce place : ℕ) → map_of es ≡ m → Kept es → seen ≡ es → StandsAt seen ce place → Cut m es ce place
cuts m es seen ce place view kept same at =
    let e : StandsAt es ce place = subst (λ (xs : Pairs). StandsAt xs ce place) same at in
    let r : IsTrue (is_sorted nat_cmp (remove es place)) × (map_of (remove es place) ≡ finmap.remove (map_of es) ce) = leave es (remove es place) ce place kept.0 e refl in
    let short : length (remove es place) ≤ length es = grind (arith, common_steps) in
    record { kept = (r.0, omega arith); after = r.1 ∙ ap (λ (n : AssociationMap). finmap.remove n ce) view }

pub same_without : (m : AssociationMap) (es seen : Pairs) (ce place : ℕ) → map_of es ≡ m → Kept es → seen ≡ es → BelongsAt seen ce place → m ≡ finmap.remove m ce
same_without m es seen ce place view kept same at =
    let e : BelongsAt es ce place = subst (λ (xs : Pairs). BelongsAt xs ce place) same at in
    subst (λ (n : AssociationMap). n ≡ finmap.remove n ce) view (stay es ce place kept.0 e)

pub takes_known : (m : AssociationMap) (ce : ℕ) → contains_key m ce ≡ true → takes_in m ce ≡ true
takes_known m ce e = ap (λ b. b || nat_lt (len m) 64) e

pub takes_room : (m : AssociationMap) (ce : ℕ) → contains_key m ce ≡ false → len m < 64 → takes_in m ce ≡ true
takes_room m ce e few = ap (λ b. b || nat_lt (len m) 64) e ∙ lt-ltb (len m) 64 few

pub takes_none : (m : AssociationMap) (ce : ℕ) → contains_key m ce ≡ false → 64 ≤ len m → takes_in m ce ≡ false
takes_none m ce e full = ap (λ b. b || nat_lt (len m) 64) e ∙ le-ltb (len m) 64 full

pub enters : (m : AssociationMap) (ce peer now : ℕ) → takes_in m ce ≡ true → entered m ce peer now ≡ finmap.insert m ce (heard_at now peer)
enters m ce peer now e = ap (λ b. cond b (finmap.insert m ce (heard_at now peer)) m) e

pub enters_none : (m : AssociationMap) (ce peer now : ℕ) → takes_in m ce ≡ false → entered m ce peer now ≡ m
enters_none m ce peer now e = ap (λ b. cond b (finmap.insert m ce (heard_at now peer)) m) e

pub renews : (m : AssociationMap) (ce peer now : ℕ) → contains_key m ce ≡ true → renewed m ce peer now ≡ finmap.insert m ce (heard_at now peer)
renews m ce peer now e = ap (λ b. cond b (finmap.insert m ce (heard_at now peer)) m) e

pub renews_none : (m : AssociationMap) (ce peer now : ℕ) → contains_key m ce ≡ false → renewed m ce peer now ≡ m
renews_none m ce peer now e = ap (λ b. cond b (finmap.insert m ce (heard_at now peer)) m) e

pub none : (es : Pairs) → es ≡ [] → map_of es ≡ finmap.empty
none es e = ap map_of e ∙ finmap.empty_of_len (map_of []) (len-entries (map_of []) ∙ ap (λ (xs : Pairs). length xs) (pairs_are [] refl))

seam : (front : Pairs) (y : ℕ × Heard) (back : Pairs) (d : ℕ × Heard) → get_or (front ++ y ∷ back) (length front) d ≡ y
seam [] y back d = refl
seam (p ∷ ps) y back d = seam ps y back d

-- what is read at the place is what the map has
pub reads : (m : AssociationMap) (es seen : Pairs) (ce place : ℕ) (x : ℕ × Heard) → map_of es ≡ m → Kept es → seen ≡ es → StandsAt seen ce place → x ≡ get_or es place x → get m ce ≡ Some x.1
reads m es seen ce place x view kept same at is =
    let e : StandsAt es ce place = subst (λ (xs : Pairs). StandsAt xs ce place) same at in
    let here : x ≡ (ce, e.heard) = is ∙ ap (λ (xs : Pairs). get_or xs place x) e.split ∙ ap (λ (n : ℕ). get_or (e.front ++ (ce, e.heard) ∷ e.back) n x) (sym e.at) ∙ seam e.front (ce, e.heard) e.back x in
    ap (λ (n : AssociationMap). get n ce) (sym view) ∙ found es ce place kept.0 e ∙ ap (λ (y : ℕ × Heard). Some y.1) (sym here)

pub reads_none : (m : AssociationMap) (es seen : Pairs) (ce place : ℕ) → map_of es ≡ m → Kept es → seen ≡ es → BelongsAt seen ce place → get m ce ≡ None
reads_none m es seen ce place view kept same at =
    let e : BelongsAt es ce place = subst (λ (xs : Pairs). BelongsAt xs ce place) same at in
    ap (λ (n : AssociationMap). get n ce) (sym view) ∙ missing es ce place kept.0 e

pub entries_are : (m : AssociationMap) (es : Pairs) → map_of es ≡ m → Kept es → finmap.entries m ≡ es
entries_are m es view kept = ap (λ (n : AssociationMap). finmap.entries n) (sym view) ∙ pairs_are es kept.0

-- what stands at a place of the pairs stands there in the map
pub shown : (m : AssociationMap) (es seen : Pairs) (place : ℕ) (read : Option (ℕ × Heard)) → map_of es ≡ m → Kept es → seen ≡ es → read ≡ slice_get seen place
    → option_map {U = ℕ × ℕ} (λ pair. (pair.0, pair.1.peer)) read ≡ option_map {U = ℕ × ℕ} (λ pair. (pair.0, pair.1.peer)) (slice_get (finmap.entries m) place)
shown m es seen place read view kept same is =
    ap (λ o. option_map {U = ℕ × ℕ} (λ pair. (pair.0, pair.1.peer)) o) (is ∙ ap (λ (xs : Pairs). slice_get xs place) (same ∙ sym (entries_are m es view kept)))
