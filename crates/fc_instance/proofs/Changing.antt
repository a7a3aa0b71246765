-- A change of an entry, and what undoes it.
use Rattle.std.proofs.Common.{◌≡◌, ℕ, zero, suc, ◌+◌, ◌<◌, ◌≤◌, Bool, true, false, List, [], ◌∷◌, ◌++◌, length, drop, slice_get, slice_set, slice_index_or, IfOk, OnErr, Result, Ok, Err, refl, sym, ap, subst, ◌∙◌, arith, Option, Some, None, option_map, length-append}
use Rattle.std.specs.FinMap.{entries, from_sorted, len}
use Rattle.fc_value.specs.declared.value.Value.TheOpen.{Value-F}
use Rattle.fc_value.specs.declared.value.Value.TheViews.{out-roll-Value, rolls-Table}
use Rattle.fc_value.specs.Keys.{keys_differ}
use Rattle.fc_tree.specs.Finding.{entries_layer, entries_of}
use Rattle.fc_instance.specs.Histories.{AreHeld, AreRoomier, CanUndo, Fits, FitsAt, FoundKeys, HasPlace, HasRoom, Values, takes, IsArray, IsRoomier, IsRoomyArray, Undoable, at_slot, entry_at, entry_in, entry_put, put_among, slot_cell, swapped, undo, undone, values_at, values_of, with_entry}
use Rattle.fc_rows.specs.Rowed.{Prepared, RowMap, Seen, Shape, updated}
use Rattle.fc_instance.specs.declared.instance.Inverse.{Inverse}
use Rattle.fc_instance.specs.declared.instance.Inverse.TheVariants as inverse
use Rattle.fc_instance.specs.declared.instance.Row.{Row}
use Rattle.fc_instance.specs.declared.instance.Slot.{Slot}
use Rattle.fc_instance.specs.declared.instance.Slot.TheVariants as slot
use Rattle.fc_value.specs.declared.value.Value.{Value}
use Rattle.fc_value.specs.declared.value.Value.TheVariants as value
use Rattle.fc_rows.proofs.Updating.{fits_alike, map_again, updated_back}
use Rattle.fc_instance.proofs.Undoing.{undone-append, undoable-join}

-- ---- more room
same_value : (s t : Slot) → IsRoomier s t → slot_cell t ≡ slot_cell s
same_value slot.Absent slot.Absent r = refl
same_value slot.Absent (slot.Whole v) r = absurd r
same_value slot.Absent (slot.Entries b) r = absurd r
same_value (slot.Whole v) slot.Absent r = absurd r
same_value (slot.Whole v) (slot.Whole w) r = ap (λ (x : Value). Some (x, None)) r
same_value (slot.Whole v) (slot.Entries b) r = absurd r
same_value (slot.Entries a) slot.Absent r = absurd r
same_value (slot.Entries a) (slot.Whole w) r = absurd r
same_value (slot.Entries a) (slot.Entries b) r = λ i. Some (value.Table (entries (r.0 i)), Some (r.2 i))

pub same_values : (ss ts : List Slot) → AreRoomier ss ts → values_of ts ≡ values_of ss
same_values [] [] r = refl
same_values [] (t ∷ ts) r = absurd r
same_values (s ∷ ss) [] r = absurd r
same_values (s ∷ ss) (t ∷ ts) r = λ i. same_value s t r.0 i ∷ same_values ss ts r.1 i

pub as_roomy : (s : Slot) → IsRoomier s s
as_roomy slot.Absent = tt
as_roomy (slot.Whole v) = refl
as_roomy (slot.Entries a) = (refl, omega arith, refl)

pub all_as_roomy : (ss : List Slot) → AreRoomier ss ss
all_as_roomy [] = tt
all_as_roomy (s ∷ ss) = (as_roomy s, all_as_roomy ss)

pub set_roomier : (ss ts : List Slot) (c : ℕ) (s t : Slot) → AreRoomier ss ts → IsRoomier s t → AreRoomier (slice_set ss c s) (slice_set ts c t)
set_roomier [] [] c s t r q = tt
set_roomier [] (y ∷ ts) c s t r q = absurd r
set_roomier (x ∷ ss) [] c s t r q = absurd r
set_roomier (x ∷ ss) (y ∷ ts) zero s t r q = (q, r.1)
set_roomier (x ∷ ss) (y ∷ ts) (suc c) s t r q = (r.0, set_roomier ss ts c s t r.1 q)

-- the slots at a place
abbrev Alike : Option Slot → Option Slot → Type 0
Alike None None = Unit {0}
Alike None (Some t) = ⊥
Alike (Some s) None = ⊥
Alike (Some s) (Some t) = IsRoomier s t

alike_at : (ss ts : List Slot) (c : ℕ) → AreRoomier ss ts → Alike (slice_get ss c) (slice_get ts c)
alike_at [] [] c r = tt
alike_at [] (t ∷ ts) c r = absurd r
alike_at (s ∷ ss) [] c r = absurd r
alike_at (s ∷ ss) (t ∷ ts) zero r = r.0
alike_at (s ∷ ss) (t ∷ ts) (suc c) r = alike_at ss ts c r.1

swapped_roomier : (s : ℕ) (v : Option Value) (a b : Slot) → IsRoomier a b → IsRoomier (swapped s v a) (swapped s v b)
swapped_roomier s v slot.Absent slot.Absent r = tt
swapped_roomier s v slot.Absent (slot.Whole w) r = absurd r
swapped_roomier s v slot.Absent (slot.Entries b) r = absurd r
swapped_roomier s v (slot.Whole w) slot.Absent r = absurd r
swapped_roomier s v (slot.Whole w) (slot.Whole x) r = r
swapped_roomier s v (slot.Whole w) (slot.Entries b) r = absurd r
swapped_roomier s v (slot.Entries a) slot.Absent r = absurd r
swapped_roomier s v (slot.Entries a) (slot.Whole w) r = absurd r
swapped_roomier s v (slot.Entries a) (slot.Entries b) r = (ap (λ (m : RowMap). updated m s v) r.0, r.1, r.2)

entry_roomier : (ss ts : List Slot) (c s : ℕ) (v : Option Value) (o p : Option Slot) → AreRoomier ss ts → Alike o p
    → AreRoomier (at_slot (swapped s v) c ss o) (at_slot (swapped s v) c ts p)
entry_roomier ss ts c s v None None r q = r
entry_roomier ss ts c s v None (Some b) r q = absurd q
entry_roomier ss ts c s v (Some a) None r q = absurd q
entry_roomier ss ts c s v (Some a) (Some b) r q = set_roomier ss ts c (swapped s v a) (swapped s v b) r (swapped_roomier s v a b q)

undo_roomier : (i : Inverse) (ss ts : List Slot) → AreRoomier ss ts → AreRoomier (undo i ss) (undo i ts)
undo_roomier (inverse.Whole c old) ss ts r = set_roomier ss ts c old old r (as_roomy old)
undo_roomier (inverse.Entry c s row) ss ts r = entry_roomier ss ts c s row.value (slice_get ss c) (slice_get ts c) r (alike_at ss ts c r)

same_length : (ss ts : List Slot) → AreRoomier ss ts → length ts ≡ length ss
same_length [] [] r = refl
same_length [] (t ∷ ts) r = absurd r
same_length (s ∷ ss) [] r = absurd r
same_length (s ∷ ss) (t ∷ ts) r = ap suc (same_length ss ts r.1)

room_alike : (s : ℕ) (v : Option Value) (entering leaving : List (List ℕ)) (a b : Slot) → IsRoomier a b → HasRoom s v entering leaving (Some a) → HasRoom s v entering leaving (Some b)
room_alike s v entering leaving slot.Absent b r h = absurd h
room_alike s v entering leaving (slot.Whole w) b r h = absurd h
room_alike s v entering leaving (slot.Entries a) slot.Absent r h = absurd r
room_alike s v entering leaving (slot.Entries a) (slot.Whole w) r h = absurd r
room_alike s v entering leaving (slot.Entries a) (slot.Entries b) r h =
    let e : len (updated b.0 s v) ≡ len (updated a.0 s v) = ap (λ (m : RowMap). len (updated m s v)) r.0 in
    (omega (arith, e, h.0, r.1), fits_alike a.0 b.0 a.1.1 b.1.1 s v entering leaving r.0 r.2 h.1)

room_at : (s : ℕ) (v : Option Value) (entering leaving : List (List ℕ)) (o p : Option Slot) → Alike o p → HasRoom s v entering leaving o → HasRoom s v entering leaving p
room_at s v entering leaving None None q h = h
room_at s v entering leaving None (Some b) q h = absurd q
room_at s v entering leaving (Some a) None q h = absurd q
room_at s v entering leaving (Some a) (Some b) q h = room_alike s v entering leaving a b q h

fits_roomier : (s : ℕ) (v : Option Value) (entering leaving : List (List ℕ)) (a b : Slot) → IsRoomier a b → Fits s v entering leaving a → Fits s v entering leaving b
fits_roomier s v entering leaving slot.Absent b r h = absurd h
fits_roomier s v entering leaving (slot.Whole w) b r h = absurd h
fits_roomier s v entering leaving (slot.Entries a) slot.Absent r h = absurd r
fits_roomier s v entering leaving (slot.Entries a) (slot.Whole w) r h = absurd r
fits_roomier s v entering leaving (slot.Entries a) (slot.Entries b) r h = fits_alike a.0 b.0 a.1.1 b.1.1 s v entering leaving r.0 r.2 h

fits_at : (s : ℕ) (v : Option Value) (entering leaving : List (List ℕ)) (o p : Option Slot) → Alike o p → FitsAt s v entering leaving o → FitsAt s v entering leaving p
fits_at s v entering leaving None None q h = h
fits_at s v entering leaving None (Some b) q h = absurd q
fits_at s v entering leaving (Some a) None q h = absurd q
fits_at s v entering leaving (Some a) (Some b) q h = fits_roomier s v entering leaving a b q h

-- keys that fit still fit where there is more room
pub fits_on : (s : ℕ) (v : Option Value) (entering leaving left : List (List ℕ)) (ss ts : List Slot) (c : ℕ) → AreRoomier ss ts → left ≡ leaving → FitsAt s v entering leaving (slice_get ss c)
    → FitsAt s v entering left (slice_get ts c)
fits_on s v entering leaving left ss ts c r l h =
    subst (λ (zs : List (List ℕ)). FitsAt s v entering zs (slice_get ts c)) (sym l) (fits_at s v entering leaving (slice_get ss c) (slice_get ts c) (alike_at ss ts c r) h)

pub back_again : (s : ℕ) (o : Option Value) (entering leaving left again : List (List ℕ)) (slot : Option Slot) → HasRoom s o left entering slot → left ≡ leaving → again ≡ entering → HasRoom s o leaving again slot
back_again s o entering leaving left again slot h l a =
    subst (λ (zs : List (List ℕ)). HasRoom s o zs again slot) l (subst (λ (zs : List (List ℕ)). HasRoom s o left zs slot) (sym a) h)

pub fits_array : (s : ℕ) (v : Option Value) (entering leaving : List (List ℕ)) (o : Option Slot) → FitsAt s v entering leaving o → IsArray o
fits_array s v entering leaving None h = absurd h
fits_array s v entering leaving (Some slot.Absent) h = absurd h
fits_array s v entering leaving (Some (slot.Whole w)) h = absurd h
fits_array s v entering leaving (Some (slot.Entries a)) h = tt

can_roomier : (i : Inverse) (ss ts : List Slot) → AreRoomier ss ts → CanUndo i ss → CanUndo i ts
can_roomier (inverse.Whole c old) ss ts r h = let e : length ts ≡ length ss = same_length ss ts r in omega arith
can_roomier (inverse.Entry c s row) ss ts r h = room_at s row.value row.entering row.leaving (slice_get ss c) (slice_get ts c) (alike_at ss ts c r) h

pub undone_roomier : (is : List Inverse) (ss ts : List Slot) → AreRoomier ss ts → AreRoomier (undone is ss) (undone is ts)
undone_roomier [] ss ts r = r
undone_roomier (i ∷ is) ss ts r = undo_roomier i (undone is ss) (undone is ts) (undone_roomier is ss ts r)

pub undoable_roomier : (is : List Inverse) (ss ts : List Slot) → AreRoomier ss ts → Undoable is ss → Undoable is ts
undoable_roomier [] ss ts r u = tt
undoable_roomier (i ∷ is) ss ts r u = (can_roomier i (undone is ss) (undone is ts) (undone_roomier is ss ts r) u.0, undoable_roomier is ss ts r u.1)

-- more room changes nothing that is held
pub held_roomier : (ss ts : List Slot) (before log : List Inverse) → log ≡ before → AreRoomier ss ts → Undoable before ss → AreHeld ss before ts log
held_roomier ss ts before log e r u = record {
  longer = let n : length log ≡ length before = ap (λ xs. length xs) e in omega arith;
  same = λ m le. ap (λ (is : List Inverse). values_at is ts m) e ∙ same_values (undone (drop m before) ss) (undone (drop m before) ts) (undone_roomier (drop m before) ss ts r);
  undoable = subst (λ (is : List Inverse). Undoable is ts) (sym e) (undoable_roomier before ss ts r u);
}

-- ---- one slot
pub array_within : (ss : List Slot) (c : ℕ) → IsArray (slice_get ss c) → c < length ss
array_within [] c a = absurd a
array_within (s ∷ ss) zero a = omega arith
array_within (s ∷ ss) (suc c) a = let n : c < length ss = array_within ss c a in omega arith

slot_at : (ss : List Slot) (c : ℕ) (s : Slot) → c < length ss → s ≡ slice_index_or ss c s → slice_get ss c ≡ Some s
slot_at [] c s lt e = absurd (omega arith)
slot_at (x ∷ ss) zero s lt e = ap Some (sym e)
slot_at (x ∷ ss) (suc c) s lt e = slot_at ss c s (omega arith) e

get_set : (ss : List Slot) (c : ℕ) (s t : Slot) → slice_get ss c ≡ Some s → slice_get (slice_set ss c t) c ≡ Some t
get_set [] c s t e = cc
get_set (x ∷ ss) zero s t e = refl
get_set (x ∷ ss) (suc c) s t e = get_set ss c s t e

set_same : (ss : List Slot) (c : ℕ) (s : Slot) → slice_get ss c ≡ Some s → slice_set ss c s ≡ ss
set_same [] c s e = refl
set_same (x ∷ ss) zero s e = let q : x ≡ s = cc e in ap (λ y. y ∷ ss) (sym q)
set_same (x ∷ ss) (suc c) s e = ap (λ xs. x ∷ xs) (set_same ss c s e)

set_twice : (ss : List Slot) (c : ℕ) (s t : Slot) → slice_set (slice_set ss c s) c t ≡ slice_set ss c t
set_twice [] c s t = refl
set_twice (x ∷ ss) zero s t = refl
set_twice (x ∷ ss) (suc c) s t = ap (λ xs. x ∷ xs) (set_twice ss c s t)

roomier_by : (ss : List Slot) (c : ℕ) (s t : Slot) → slice_get ss c ≡ Some s → IsRoomier s t → AreRoomier ss (slice_set ss c t)
roomier_by ss c s t e r = subst (λ (xs : List Slot). AreRoomier xs (slice_set ss c t)) (set_same ss c s e) (set_roomier ss ss c s t (all_as_roomy ss) r)

pub one_roomier : (ss : List Slot) (c : ℕ) (s t : Slot) → IsArray (slice_get ss c) → s ≡ slice_index_or ss c s → IsRoomier s t → AreRoomier ss (slice_set ss c t)
one_roomier ss c s t a e r = roomier_by ss c s t (slot_at ss c s (array_within ss c a) e) r

roomy_by : (s t : Slot) → IsArray (Some s) → IsRoomier s t → HasPlace t → IsRoomyArray (Some t)
roomy_by slot.Absent t a r h = absurd a
roomy_by (slot.Whole v) t a r h = absurd a
roomy_by (slot.Entries a) slot.Absent i r h = absurd r
roomy_by (slot.Entries a) (slot.Whole w) i r h = absurd r
roomy_by (slot.Entries a) (slot.Entries b) i r h = h

pub one_roomy : (ss : List Slot) (c : ℕ) (s t : Slot) → IsArray (slice_get ss c) → s ≡ slice_index_or ss c s → IsRoomier s t → HasPlace t → IsRoomyArray (slice_get (slice_set ss c t) c)
one_roomy ss c s t a e r h =
    let at : slice_get ss c ≡ Some s = slot_at ss c s (array_within ss c a) e in
    subst IsRoomyArray (sym (get_set ss c s t at)) (roomy_by s t (subst IsArray at a) r h)

pub on_err : {A E : Type 0} (r : Result A E) (P : Type 0) → P → OnErr r P
on_err (Ok x) P p = tt
on_err (Err e) P p = p

-- ---- the change of an entry
swap_back : (s : ℕ) (v : Option Value) (t : Slot) → swapped s (entry_at s t) (swapped s v t) ≡ t
swap_back s v slot.Absent = refl
swap_back s v (slot.Whole w) = refl
swap_back s v (slot.Entries a) = ap (λ (m : RowMap). slot.Entries (m, a.1)) (updated_back a.0 s v)

back_at : (ss : List Slot) (c s : ℕ) (v : Option Value) (o : Option Slot) → slice_get ss c ≡ o
    → at_slot (swapped s (entry_in s o)) c (at_slot (swapped s v) c ss o) (slice_get (at_slot (swapped s v) c ss o) c) ≡ ss
back_at ss c s v None e = ap (at_slot (swapped s None) c ss) e
back_at ss c s v (Some t) e =
    ap (at_slot (swapped s (entry_at s t)) c (slice_set ss c (swapped s v t))) (get_set ss c t (swapped s v t) e)
    ∙ set_twice ss c (swapped s v t) (swapped s (entry_at s t) (swapped s v t)) ∙ ap (slice_set ss c) (swap_back s v t) ∙ set_same ss c t e

drop-push : {A : Type 0} (n : ℕ) (xs : List A) (x : A) → n ≤ length xs → drop n (xs ++ x ∷ []) ≡ drop n xs ++ x ∷ []
drop-push zero xs x le = refl
drop-push (suc n) [] x le = absurd (omega arith)
drop-push (suc n) (y ∷ ys) x le = drop-push n ys x (omega arith)

-- what was held before a change is held after it
pub held_changed : (ss ts new : List Slot) (before mid log : List Inverse) (c s : ℕ) (v : Option Value) (row : Row) → AreRoomier ss ts → Undoable before ss → mid ≡ before
    → row.value ≡ entry_in s (slice_get ts c) → new ≡ at_slot (swapped s v) c ts (slice_get ts c) → HasRoom s row.value row.entering row.leaving (slice_get new c)
    → log ≡ mid ++ inverse.Entry c s row ∷ [] → AreHeld ss before new log
held_changed ss ts new before mid log c s v row r u m o n h l =
    let i : Inverse = inverse.Entry c s row in
    let back : undo i new ≡ ts = ap (λ (xs : List Slot). undo i xs) n ∙ ap (λ (x : Option Value). at_slot (swapped s x) c (at_slot (swapped s v) c ts (slice_get ts c)) (slice_get (at_slot (swapped s v) c ts (slice_get ts c)) c)) o
    ∙ back_at ts c s v (slice_get ts c) refl in
    let whole : log ≡ before ++ i ∷ [] = l ∙ ap (λ (is : List Inverse). is ++ i ∷ []) m in
    let at : Undoable before (undo i new) = subst (Undoable before) (sym back) (undoable_roomier before ss ts r u) in
    let all : Undoable (before ++ i ∷ []) new = undoable-join before (i ∷ []) new at (h, tt) in
    record {
      longer = let k : length log ≡ length before + 1 = ap (λ xs. length xs) whole ∙ length-append before (i ∷ []) in omega arith;
      same = λ k le. ap (λ (is : List Inverse). values_at is new k) whole
          ∙ ap (λ (is : List Inverse). values_of (undone is new)) (drop-push k before i le) ∙ ap values_of (undone-append (drop k before) (i ∷ []) new)
          ∙ ap (λ (xs : List Slot). values_of (undone (drop k before) xs)) back ∙ same_values (undone (drop k before) ss) (undone (drop k before) ts) (undone_roomier (drop k before) ss ts r);
      undoable = subst (λ (is : List Inverse). Undoable is new) (sym whole) all;
    }

-- ---- the values after a change
map-set : (ss : List Slot) (c : ℕ) (t : Slot) → values_of (slice_set ss c t) ≡ slice_set (values_of ss) c (slot_cell t)
map-set [] c t = refl
map-set (s ∷ ss) zero t = refl
map-set (s ∷ ss) (suc c) t = ap (λ vs. slot_cell s ∷ vs) (map-set ss c t)

map-get : (ss : List Slot) (c : ℕ) (s : Slot) → slice_get ss c ≡ Some s → slice_get (values_of ss) c ≡ Some (slot_cell s)
map-get [] c s e = cc
map-get (x ∷ ss) zero s e = let q : x ≡ s = cc e in ap (λ y. Some (slot_cell y)) q
map-get (x ∷ ss) (suc c) s e = map-get ss c s e

table_again : (es : List (ℕ × Value)) → entries_of (value.Table es) ≡ es
table_again es = ap (λ v. entries_of v) (sym (rolls-Table es)) ∙ ap (λ l. entries_layer l) (out-roll-Value (Value-F.Table es))

value_put : (s : ℕ) (v : Option Value) (t : Slot) → IsRoomyArray (Some t) → slot_cell (swapped s v t) ≡ entry_put s v (slot_cell t)
value_put s v slot.Absent h = absurd h
value_put s v (slot.Whole w) h = absurd h
value_put s v (slot.Entries a) h = ap (λ (m : RowMap). Some (value.Table (entries (updated m s v)), Some a.1.1)) (sym (ap (λ (es : List (ℕ × Value)). from_sorted es) (table_again (entries a.0)) ∙ map_again a.0))

values_put : (ss : List Slot) (c s : ℕ) (v : Option Value) (o : Option Slot) → slice_get ss c ≡ o → IsRoomyArray o
    → values_of (at_slot (swapped s v) c ss o) ≡ put_among c s v (values_of ss) (slice_get (values_of ss) c)
values_put ss c s v None e h = absurd h
values_put ss c s v (Some t) e h =
    map-set ss c (swapped s v t) ∙ ap (slice_set (values_of ss) c) (value_put s v t h) ∙ sym (ap (put_among c s v (values_of ss)) (map-get ss c t e))

pub values_changed : (ss ts new : List Slot) (c s : ℕ) (v : Option Value) → AreRoomier ss ts → IsRoomyArray (slice_get ts c) → new ≡ at_slot (swapped s v) c ts (slice_get ts c)
    → values_of new ≡ with_entry c s v (values_of ss)
values_changed ss ts new c s v r h n = ap values_of n ∙ values_put ts c s v (slice_get ts c) refl h ∙ ap (with_entry c s v) (same_values ss ts r)

-- ---- the change of a whole component
pub held_whole : (ss new : List Slot) (before mid log : List Inverse) (c : ℕ) (t old : Slot) → c < length ss → Undoable before ss → mid ≡ before → Some old ≡ slice_get ss c → new ≡ slice_set ss c t
    → log ≡ mid ++ inverse.Whole c old ∷ [] → AreHeld ss before new log
held_whole ss new before mid log c t old lt u m o n l =
    let i : Inverse = inverse.Whole c old in
    let whole : log ≡ before ++ i ∷ [] = l ∙ ap (λ (is : List Inverse). is ++ i ∷ []) m in
    let back : undo i new ≡ ss = ap (λ (xs : List Slot). slice_set xs c old) n ∙ set_twice ss c t old ∙ set_same ss c old (sym o) in
    let long : length new ≡ length ss = ap (λ (xs : List Slot). length xs) n ∙ set_length ss c t in
    let all : Undoable (before ++ i ∷ []) new = undoable-join before (i ∷ []) new (subst (Undoable before) (sym back) u) (omega arith, tt) in
    record {
      longer = let k : length log ≡ length before + 1 = ap (λ xs. length xs) whole ∙ length-append before (i ∷ []) in omega arith;
      same = λ k le. ap (λ (is : List Inverse). values_at is new k) whole ∙ ap (λ (is : List Inverse). values_of (undone is new)) (drop-push k before i le)
          ∙ ap values_of (undone-append (drop k before) (i ∷ []) new) ∙ ap (λ (xs : List Slot). values_of (undone (drop k before) xs)) back;
      undoable = subst (λ (is : List Inverse). Undoable is new) (sym whole) all;
    }
  where
    set_length : (ss : List Slot) (c : ℕ) (t : Slot) → length (slice_set ss c t) ≡ length ss
    set_length [] c t = refl
    set_length (s ∷ ss) zero t = refl
    set_length (s ∷ ss) (suc c) t = ap suc (set_length ss c t)

pub whole_values : (ss new : List Slot) (c : ℕ) (t : Slot) → new ≡ slice_set ss c t → values_of new ≡ slice_set (values_of ss) c (slot_cell t)
whole_values ss new c t n = ap values_of n ∙ map-set ss c t

pub held_same : (ss : List Slot) (before log : List Inverse) → log ≡ before → Undoable before ss → AreHeld ss before ss log
held_same ss before log e u = held_roomier ss ss before log e (all_as_roomy ss) u

slot_found : (ss : List Slot) (c : ℕ) (s : Slot) → c < length ss → s ≡ slice_index_or ss c s → Some s ≡ slice_get ss c
slot_found ss c s lt e = sym (slot_at ss c s lt e)

pub given_slot : (ss : List Slot) (c : ℕ) (s r : Slot) → c < length ss → s ≡ slice_index_or ss c s → r ≡ s → Some r ≡ slice_get ss c
given_slot ss c s r lt e q = ap Some q ∙ slot_found ss c s lt e

values_length : (ss : List Slot) → length (values_of ss) ≡ length ss
values_length [] = refl
values_length (s ∷ ss) = ap suc (values_length ss)

pub within_slots : (vs : Values) (ss : List Slot) (c : ℕ) → values_of ss ≡ vs → c < length vs → c < length ss
within_slots vs ss c e lt = let n : length vs ≡ length ss = ap (λ xs. length xs) (sym e) ∙ values_length ss in omega arith

-- whether an array takes an entry, as its rows tell it
taken : (s : ℕ) (v : Option Value) (m : RowMap) (shape : Shape) (b : Bool) → keys_differ shape.0 shape.1 (entries (updated m s v)) ≡ b → takes s v (Some (Some (value.Table (entries m), Some shape))) ≡ b
taken s v m shape b e = ap (λ (n : RowMap). keys_differ shape.0 shape.1 (entries (updated n s v))) (ap (λ (es : List (ℕ × Value)). from_sorted es) (table_again (entries m)) ∙ map_again m) ∙ e

pub not_taken : (s : ℕ) (v : Option Value) (m : RowMap) (shape : Shape) → keys_differ shape.0 shape.1 (entries (updated m s v)) ≡ false → takes s v (Some (Some (value.Table (entries m), Some shape))) ≡ false
not_taken s v m shape e = taken s v m shape false e

taken_by : (s : ℕ) (v : Option Value) (entering leaving : List (List ℕ)) (t : Slot) → Fits s v entering leaving t → takes s v (Some (slot_cell t)) ≡ true
taken_by s v entering leaving slot.Absent h = absurd h
taken_by s v entering leaving (slot.Whole w) h = absurd h
taken_by s v entering leaving (slot.Entries a) h = taken s v a.0 a.1.1 true h.apart

cells_get : (ss : List Slot) (c : ℕ) → slice_get (values_of ss) c ≡ option_map slot_cell (slice_get ss c)
cells_get [] c = refl
cells_get (s ∷ ss) zero = refl
cells_get (s ∷ ss) (suc c) = cells_get ss c

taken_at : (s : ℕ) (v : Option Value) (entering leaving : List (List ℕ)) (o : Option Slot) → FitsAt s v entering leaving o → takes s v (option_map slot_cell o) ≡ true
taken_at s v entering leaving None h = absurd h
taken_at s v entering leaving (Some t) h = taken_by s v entering leaving t h

-- where keys fit, the array takes the entry
pub fit_taken : (vs : Values) (ss : List Slot) (s c : ℕ) (v : Option Value) (entering leaving : List (List ℕ)) → values_of ss ≡ vs → FitsAt s v entering leaving (slice_get ss c) → takes s v (slice_get vs c) ≡ true
fit_taken vs ss s c v entering leaving e h = ap (λ (xs : Values). takes s v (slice_get xs c)) (sym e) ∙ ap (takes s v) (cells_get ss c) ∙ taken_at s v entering leaving (slice_get ss c) h

-- and where none are found, it does not
pub none_taken : (vs : Values) (ss : List Slot) (s c : ℕ) (v : Option Value) → values_of ss ≡ vs → takes s v (option_map slot_cell (slice_get ss c)) ≡ false → takes s v (slice_get vs c) ≡ false
none_taken vs ss s c v e h = ap (λ (xs : Values). takes s v (slice_get xs c)) (sym e) ∙ ap (takes s v) (cells_get ss c) ∙ h

found_one : (s : ℕ) (v : Option Value) (rows : Seen) (o : Option (List (List ℕ) × List (List ℕ))) → Prepared rows.1.1 rows.0 s v o → FoundKeys s v (Some (slot.Entries rows)) o
found_one s v rows None h = not_taken s v rows.0 rows.1.1 h
found_one s v rows (Some x) h = h

-- the keys that rows give are those of the component
pub found_by : {E : Type 0} (s : ℕ) (v : Option Value) (t : Slot) (rows : Seen) (r : Result (Option (List (List ℕ) × List (List ℕ))) E) → t ≡ slot.Entries rows
    → IfOk r (λ o. Prepared rows.1.1 rows.0 s v o) → IfOk r (λ o. FoundKeys s v (Some t) o)
found_by s v t rows (Ok o) e h = subst (λ (x : Slot). FoundKeys s v (Some x) o) (sym e) (found_one s v rows o h)
found_by s v t rows (Err x) e h = tt

-- what is answered where keys are found, and where none are
pub none_done : (vs : Values) (ss part : List Slot) (s c : ℕ) (v w : Option Value) (o : Option (List (List ℕ) × List (List ℕ))) → values_of ss ≡ vs → part ≡ ss → w ≡ v → o ≡ None
    → FoundKeys s w (slice_get part c) o → false ≡ takes s v (slice_get vs c)
none_done vs ss part s c v w o e p q n h =
    let found : FoundKeys s w (slice_get part c) None = subst (λ x. FoundKeys s w (slice_get part c) x) n h in
    sym (ap (λ (x : Option Value). takes s x (slice_get vs c)) (sym q) ∙ none_taken vs part s c w (ap values_of p ∙ e) found)

pub some_done : (vs : Values) (ss part : List Slot) (s c : ℕ) (v w : Option Value) (o : Option (List (List ℕ) × List (List ℕ))) (entering leaving : List (List ℕ)) → values_of ss ≡ vs → part ≡ ss → w ≡ v
    → o ≡ Some (entering, leaving) → FoundKeys s w (slice_get part c) o → true ≡ takes s v (slice_get vs c)
some_done vs ss part s c v w o entering leaving e p q n h =
    let found : FoundKeys s w (slice_get part c) (Some (entering, leaving)) = subst (λ x. FoundKeys s w (slice_get part c) x) n h in
    sym (ap (λ (x : Option Value). takes s x (slice_get vs c)) (sym q) ∙ fit_taken vs part s c w entering leaving (ap values_of p ∙ e) found)
