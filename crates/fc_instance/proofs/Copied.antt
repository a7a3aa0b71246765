-- Copies have at least as much room, and undoing on them gives the same values.
use Rattle.std.proofs.Common.{◌≡◌, ℕ, zero, suc, ◌+◌, ◌-◌, ◌<◌, List, [], ◌∷◌, ◌++◌, length, drop, map, take, slice_get, slice_set, slice_index_or, refl, sym, ap, subst, ◌∙◌, arith, Some}
use Rattle.std.proofs.lemmas.List.{take-append-drop}
use Rattle.fc_instance.specs.Copying.{IsAlike}
use Rattle.fc_instance.specs.Histories.{AreRoomier, CanUndo, Held, IsRoomier, Kept, Undoable, Values, seen, undo, undone, values_at, values_of}
use Rattle.fc_instance.specs.declared.instance.Inverse.{Inverse}
use Rattle.fc_instance.specs.declared.instance.Inverse.TheVariants as inverse
use Rattle.fc_instance.specs.declared.instance.Slot.{Slot}
use Rattle.fc_instance.specs.declared.instance.Slot.TheVariants as slot
use Rattle.fc_instance.proofs.Changing.{all_as_roomy, same_values, set_roomier, undoable_roomier, undone_roomier}
use Rattle.fc_instance.proofs.Undoing.{can_last, undoable-append, undone-append}

-- ---- copies of slots
roomier_push : (ss ts : List Slot) (i : ℕ) (s t : Slot) → i < length ss → s ≡ slice_index_or ss i s → AreRoomier (take i ss) ts → IsRoomier s t → AreRoomier (take (suc i) ss) (ts ++ t ∷ [])
roomier_push [] ts i s t lt e r q = absurd (omega arith)
roomier_push (x ∷ ss) [] zero s t lt e r q = (subst (λ (y : Slot). IsRoomier y t) e q, tt)
roomier_push (x ∷ ss) (y ∷ ts) zero s t lt e r q = absurd r
roomier_push (x ∷ ss) [] (suc i) s t lt e r q = absurd r
roomier_push (x ∷ ss) (y ∷ ts) (suc i) s t lt e r q = (r.0, roomier_push ss ts i s t (omega arith) e r.1 q)

pub roomier_on : (ss ts us : List Slot) (i : ℕ) (s t : Slot) → i < length ss → s ≡ slice_index_or ss i s → AreRoomier (take i ss) ts → IsRoomier s t → us ≡ ts ++ t ∷ [] → AreRoomier (take (i + 1) ss) us
roomier_on ss ts us i s t lt e r q u =
    let n : suc i ≡ i + 1 = omega arith in
    subst (λ (xs : List Slot). AreRoomier (take (i + 1) ss) xs) (sym u) (subst (λ (k : ℕ). AreRoomier (take k ss) (ts ++ t ∷ [])) n (roomier_push ss ts i s t lt e r q))

one_trans : (a b d : Slot) → IsRoomier a b → IsRoomier b d → IsRoomier a d
one_trans slot.Absent slot.Absent d r q = q
one_trans slot.Absent (slot.Whole v) d r q = absurd r
one_trans slot.Absent (slot.Entries x) d r q = absurd r
one_trans (slot.Whole v) slot.Absent d r q = absurd r
one_trans (slot.Whole v) (slot.Whole w) slot.Absent r q = absurd q
one_trans (slot.Whole v) (slot.Whole w) (slot.Whole x) r q = q ∙ r
one_trans (slot.Whole v) (slot.Whole w) (slot.Entries x) r q = absurd q
one_trans (slot.Whole v) (slot.Entries x) d r q = absurd r
one_trans (slot.Entries a) slot.Absent d r q = absurd r
one_trans (slot.Entries a) (slot.Whole w) d r q = absurd r
one_trans (slot.Entries a) (slot.Entries b) slot.Absent r q = absurd q
one_trans (slot.Entries a) (slot.Entries b) (slot.Whole x) r q = absurd q
one_trans (slot.Entries a) (slot.Entries b) (slot.Entries x) r q = (q.0 ∙ r.0, omega (arith, r.1, q.1), q.2 ∙ r.2)

all_trans : (ss ts us : List Slot) → AreRoomier ss ts → AreRoomier ts us → AreRoomier ss us
all_trans [] [] us r q = q
all_trans [] (t ∷ ts) us r q = absurd r
all_trans (s ∷ ss) [] us r q = absurd r
all_trans (s ∷ ss) (t ∷ ts) [] r q = absurd q
all_trans (s ∷ ss) (t ∷ ts) (u ∷ us) r q = (one_trans s t u r.0 q.0, all_trans ss ts us r.1 q.1)

-- ---- copies of what undoes a change
undo_alike : (i j : Inverse) (ss : List Slot) → IsAlike i j → AreRoomier (undo i ss) (undo j ss)
undo_alike (inverse.Whole c a) (inverse.Whole d b) ss r = subst (λ (e : ℕ). AreRoomier (slice_set ss c a) (slice_set ss e b)) (sym r.0) (set_roomier ss ss c a b (all_as_roomy ss) r.1)
undo_alike (inverse.Whole c a) (inverse.Entry d t other) ss r = absurd r
undo_alike (inverse.Entry c s row) (inverse.Whole d b) ss r = absurd r
undo_alike (inverse.Entry c s row) (inverse.Entry d t other) ss r =
    let e : inverse.Entry d t other ≡ inverse.Entry c s row = λ i. inverse.Entry (r.0 i) (r.1 i) (r.2 i) in
    subst (λ (k : Inverse). AreRoomier (undo (inverse.Entry c s row) ss) (undo k ss)) (sym e) (all_as_roomy (undo (inverse.Entry c s row) ss))

can_alike : (i j : Inverse) (ss : List Slot) → IsAlike i j → CanUndo i ss → CanUndo j ss
can_alike (inverse.Whole c a) (inverse.Whole d b) ss r h = subst (λ (e : ℕ). e < length ss) (sym r.0) h
can_alike (inverse.Whole c a) (inverse.Entry d t other) ss r h = absurd r
can_alike (inverse.Entry c s row) (inverse.Whole d b) ss r h = absurd r
can_alike (inverse.Entry c s row) (inverse.Entry d t other) ss r h =
    let e : inverse.Entry d t other ≡ inverse.Entry c s row = λ i. inverse.Entry (r.0 i) (r.1 i) (r.2 i) in
    subst (λ (k : Inverse). CanUndo k ss) (sym e) h

next_front : {X : Type 0} (xs : List X) (n : ℕ) (x : X) → n < length xs → x ≡ slice_index_or xs n x → take (suc n) xs ≡ take n xs ++ x ∷ []
next_front [] n x lt e = absurd (omega arith)
next_front (y ∷ xs) zero x lt e = ap (λ r. r ∷ []) (sym e)
next_front (y ∷ xs) (suc n) x lt e = ap (λ zs. y ∷ zs) (next_front xs n x (omega arith) e)

front_by : (is : List Inverse) (place left : ℕ) (i : Inverse) → left ≡ place - 1 → 0 < place → left < length is → i ≡ slice_index_or is left i → take place is ≡ take left is ++ i ∷ []
front_by is place left i l z lt e = let n : place ≡ suc left = omega arith in ap (λ (k : ℕ). take k is) n ∙ next_front is left i lt e

pub copy_can : (is : List Inverse) (place left : ℕ) (i j : Inverse) (ss : List Slot) → left ≡ place - 1 → 0 < place → left < length is → i ≡ slice_index_or is left i → Undoable (take place is) ss → IsAlike i j → CanUndo j ss
copy_can is place left i j ss l z lt e u a = can_alike i j ss a (can_last (take place is) (take left is) i ss (front_by is place left i l z lt e) u).0

pub copy_undone : (is : List Inverse) (place left : ℕ) (i j : Inverse) (start ss new : List Slot) → left ≡ place - 1 → 0 < place → left < length is → i ≡ slice_index_or is left i → Undoable (take place is) ss → IsAlike i j
    → AreRoomier start (undone (take place is) ss) → new ≡ undo j ss → Undoable (take left is) new × AreRoomier start (undone (take left is) new)
copy_undone is place left i j start ss new l z lt e u a r n =
    let front : List Inverse = take left is in
    let f : take place is ≡ front ++ i ∷ [] = front_by is place left i l z lt e in
    let one : AreRoomier (undo i ss) (undo j ss) = undo_alike i j ss a in
    let can : Undoable front (undo j ss) = undoable_roomier front (undo i ss) (undo j ss) one (can_last (take place is) front i ss f u).1 in
    let same : undone (take place is) ss ≡ undone front (undo i ss) = ap (λ (ks : List Inverse). undone ks ss) f ∙ undone-append front (i ∷ []) ss in
    let last : AreRoomier start (undone front (undo j ss)) = all_trans start (undone front (undo i ss)) (undone front (undo j ss)) (subst (AreRoomier start) same r) (undone_roomier front (undo i ss) (undo j ss) one) in
    subst (λ (xs : List Slot). Undoable front xs × AreRoomier start (undone front xs)) (sym n) (can, last)

take_none : {X : Type 0} (n : ℕ) (xs : List X) → n ≡ 0 → take n xs ≡ []
take_none n xs e = ap (λ (k : ℕ). take k xs) e

pub copy_ends : (is : List Inverse) (place : ℕ) (start ss : List Slot) → place ≡ 0 → AreRoomier start (undone (take place is) ss) → values_of ss ≡ values_of start
copy_ends is place start ss z r = same_values start ss (subst (λ (ks : List Inverse). AreRoomier start (undone ks ss)) (take_none place is z) r)

take_all : {X : Type 0} (xs : List X) → take (length xs) xs ≡ xs
take_all [] = refl
take_all (x ∷ xs) = ap (λ ys. x ∷ ys) (take_all xs)

pub copy_begins : (is : List Inverse) (place : ℕ) (ss : List Slot) → place ≡ length is → Undoable is ss → Undoable (take place is) ss × AreRoomier (undone is ss) (undone (take place is) ss)
copy_begins is place ss e u =
    let all : take place is ≡ is = ap (λ (n : ℕ). take n is) e ∙ take_all is in
    (subst (λ (ks : List Inverse). Undoable ks ss) (sym all) u, subst (λ (ks : List Inverse). AreRoomier (undone is ss) (undone ks ss)) (sym all) (all_as_roomy (undone is ss)))

-- ---- a copy of an instance
pub copied_now : (v : Held) (ss part ts : List Slot) (log : List Inverse) (marks : List ℕ) (now : Values) → seen ss log marks ≡ v → part ≡ ss → AreRoomier part ts → now ≡ values_of ts → now ≡ v.now
copied_now v ss part ts log marks now e p r n = n ∙ same_values part ts r ∙ ap values_of p ∙ ap (λ (h : Held). h.now) e

pub copied_undoable : (ss part ts : List Slot) (log lent : List Inverse) (marks : List ℕ) (at : ℕ) → Kept ss log marks → part ≡ ss → AreRoomier part ts → lent ≡ drop at log → Undoable lent ts
copied_undoable ss part ts log lent marks at k p r l =
    let all : Undoable (take at log ++ drop at log) ss = subst (λ (is : List Inverse). Undoable is ss) (sym (take-append-drop at log)) k.undoable in
    let end : Undoable (drop at log) part = subst (Undoable (drop at log)) (sym p) (undoable-append (take at log) (drop at log) ss all).1 in
    undoable_roomier lent part ts r (subst (λ (is : List Inverse). Undoable is part) (sym l) end)

map_got : (f : ℕ → Values) (marks : List ℕ) (mark at : ℕ) → mark < length (map f marks) → at ≡ slice_index_or marks mark at → slice_get (map f marks) mark ≡ Some (f at)
map_got f [] mark at lt e = absurd (omega arith)
map_got f (m ∷ ms) zero at lt e = ap (λ (n : ℕ). Some (f n)) (sym e)
map_got f (m ∷ ms) (suc mark) at lt e = map_got f ms mark at (omega arith) e

pub copied_then : (v : Held) (ss part ts last : List Slot) (log lent : List Inverse) (marks : List ℕ) (mark at : ℕ) (now : Values) → seen ss log marks ≡ v → part ≡ ss → AreRoomier part ts → lent ≡ drop at log
    → mark < length v.held → at ≡ slice_index_or marks mark at → values_of last ≡ values_of (undone lent ts) → now ≡ values_of last → Some now ≡ slice_get v.held mark
copied_then v ss part ts last log lent marks mark at now e p r l lt a d n =
    let held : v.held ≡ map (values_at log ss) marks = sym (ap (λ (h : Held). h.held) e) in
    let is : now ≡ values_at log ss at = n ∙ d ∙ same_values (undone lent part) (undone lent ts) (undone_roomier lent part ts r)
    ∙ ap (λ (q : List Inverse × List Slot). values_of (undone q.0 q.1)) (λ i. (l i, p i)) in
    ap (λ (x : Values). Some x) is ∙ sym (ap (λ (hs : List Values). slice_get hs mark) held ∙ map_got (values_at log ss) marks mark at (subst (λ (hs : List Values). mark < length hs) held lt) a)
