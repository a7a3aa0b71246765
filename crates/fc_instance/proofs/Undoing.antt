-- Undoing changes one after the other.
use Rattle.std.proofs.Common.{◌≡◌, ℕ, zero, suc, ◌+◌, ◌<◌, ◌≤◌, false, ◌==◌, List, [], ◌∷◌, ◌++◌, length, map, take, drop, refl, sym, ap, subst, ◌∙◌, arith, length-append}
use Rattle.std.specs.List.{AllByRecursion}
use Rattle.fc_instance.specs.Histories.{AreHeld, Begun, CanUndo, Held, Kept, Rising, Undoable, Values, Within, seen, undo, undone, values_at, values_of}
use Rattle.fc_instance.specs.declared.instance.Inverse.{Inverse}
use Rattle.fc_instance.specs.declared.instance.Slot.{Slot}

pub undone-append : (xs ys : List Inverse) (slots : List Slot) → undone (xs ++ ys) slots ≡ undone xs (undone ys slots)
undone-append [] ys slots = refl
undone-append (x ∷ xs) ys slots = ap (undo x) (undone-append xs ys slots)

pub undoable-append : (xs ys : List Inverse) (slots : List Slot) → Undoable (xs ++ ys) slots → Undoable xs (undone ys slots) × Undoable ys slots
undoable-append [] ys slots u = (tt, u)
undoable-append (x ∷ xs) ys slots u =
    let more : Undoable xs (undone ys slots) × Undoable ys slots = undoable-append xs ys slots u.1 in
    ((subst (CanUndo x) (undone-append xs ys slots) u.0, more.0), more.1)

pub undoable-join : (xs ys : List Inverse) (slots : List Slot) → Undoable xs (undone ys slots) → Undoable ys slots → Undoable (xs ++ ys) slots
undoable-join [] ys slots u v = v
undoable-join (x ∷ xs) ys slots u v = (subst (CanUndo x) (sym (undone-append xs ys slots)) u.0, undoable-join xs ys slots u.1 v)

drop-short : {A : Type 0} (n : ℕ) (xs : List A) → length xs ≤ n → drop n xs ≡ []
drop-short zero [] le = refl
drop-short zero (x ∷ xs) le = absurd (omega arith)
drop-short (suc n) [] le = refl
drop-short (suc n) (x ∷ xs) le = drop-short n xs (omega arith)

take-short : {A : Type 0} (n : ℕ) (xs : List A) → length xs ≤ n → take n xs ≡ xs
take-short zero [] le = refl
take-short zero (x ∷ xs) le = absurd (omega arith)
take-short (suc n) [] le = refl
take-short (suc n) (x ∷ xs) le = ap (λ ys. x ∷ ys) (take-short n xs (omega arith))

drop-push : {A : Type 0} (n : ℕ) (xs : List A) (x : A) → n ≤ length xs → drop n (xs ++ x ∷ []) ≡ drop n xs ++ x ∷ []
drop-push zero xs x le = refl
drop-push (suc n) [] x le = absurd (omega arith)
drop-push (suc n) (y ∷ ys) x le = drop-push n ys x (omega arith)

take-push : {A : Type 0} (n : ℕ) (xs : List A) (x : A) → n ≤ length xs → take n (xs ++ x ∷ []) ≡ take n xs
take-push zero xs x le = refl
take-push (suc n) [] x le = absurd (omega arith)
take-push (suc n) (y ∷ ys) x le = ap (λ zs. y ∷ zs) (take-push n ys x (omega arith))

drop-front : {A : Type 0} (n : ℕ) (xs ys : List A) → n ≤ length xs → drop n (xs ++ ys) ≡ drop n xs ++ ys
drop-front zero xs ys le = refl
drop-front (suc n) [] ys le = absurd (omega arith)
drop-front (suc n) (x ∷ xs) ys le = drop-front n xs ys (omega arith)

short_of : (mark : ℕ) (old new : List Inverse) (i : Inverse) → old ≡ new ++ i ∷ [] → mark < length old → mark ≤ length new
short_of mark old new i e lt = let n : length old ≡ length new + 1 = ap (λ xs. length xs) e ∙ length-append new (i ∷ []) in omega arith

-- the last inverse can be undone, and then those before it
pub can_last : (old new : List Inverse) (i : Inverse) (slots : List Slot) → old ≡ new ++ i ∷ [] → Undoable old slots → CanUndo i slots × Undoable new (undo i slots)
can_last old new i slots e u =
    let parts : Undoable new (undo i slots) × Undoable (i ∷ []) slots = undoable-append new (i ∷ []) slots (subst (λ (xs : List Inverse). Undoable xs slots) e u) in
    (parts.1.0, parts.0)

pub undone_last : (mark : ℕ) (old new : List Inverse) (i : Inverse) (slots : List Slot) → old ≡ new ++ i ∷ [] → mark < length old
    → undone (drop mark new) (undo i slots) ≡ undone (drop mark old) slots
undone_last mark old new i slots e lt =
    sym (ap (λ (xs : List Inverse). undone (drop mark xs) slots) e ∙ ap (λ (xs : List Inverse). undone xs slots) (drop-push mark new i (short_of mark old new i e lt))
    ∙ undone-append (drop mark new) (i ∷ []) slots)

pub kept_last : (mark : ℕ) (old new : List Inverse) (i : Inverse) → old ≡ new ++ i ∷ [] → mark < length old → take mark new ≡ take mark old
kept_last mark old new i e lt = sym (ap (take mark) e ∙ take-push mark new i (short_of mark old new i e lt))

pub undone_all : (mark : ℕ) (log : List Inverse) (slots : List Slot) → length log ≤ mark → undone (drop mark log) slots ≡ slots
undone_all mark log slots le = ap (λ (xs : List Inverse). undone xs slots) (drop-short mark log le)

pub kept_all : (mark : ℕ) (log : List Inverse) → length log ≤ mark → take mark log ≡ log
kept_all mark log le = take-short mark log le

-- ---- marks
drop_cut : {A : Type 0} (m mark : ℕ) (xs : List A) → m ≤ mark → mark ≤ length xs → drop m (take mark xs) ++ drop mark xs ≡ drop m xs
drop_cut zero zero xs p q = refl
drop_cut zero (suc mark) [] p q = absurd (omega arith)
drop_cut zero (suc mark) (x ∷ xs) p q = ap (λ ys. x ∷ ys) (drop_cut zero mark xs (omega arith) (omega arith))
drop_cut (suc m) zero xs p q = absurd (omega arith)
drop_cut (suc m) (suc mark) [] p q = absurd (omega arith)
drop_cut (suc m) (suc mark) (x ∷ xs) p q = drop_cut m mark xs (omega arith) (omega arith)

length-take-short : {A : Type 0} (n : ℕ) (xs : List A) → n ≤ length xs → length (take n xs) ≡ n
length-take-short zero xs le = refl
length-take-short (suc n) [] le = absurd (omega arith)
length-take-short (suc n) (x ∷ xs) le = ap suc (length-take-short n xs (omega arith))

within_last : (bound : ℕ) (rest : List ℕ) (m : ℕ) → Within bound (rest ++ m ∷ []) → m ≤ bound
within_last bound [] m w = w.0
within_last bound (r ∷ rest) m w = within_last bound rest m w.1

all_last : (b : ℕ) (rest : List ℕ) (m : ℕ) → AllByRecursion (λ n. b ≤ n) (rest ++ m ∷ []) → b ≤ m
all_last b [] m a = a.0
all_last b (r ∷ rest) m a = all_last b rest m a.1

all_front : (b : ℕ) (rest : List ℕ) (m : ℕ) → AllByRecursion (λ n. b ≤ n) (rest ++ m ∷ []) → AllByRecursion (λ n. b ≤ n) rest
all_front b [] m a = tt
all_front b (r ∷ rest) m a = (a.0, all_front b rest m a.1)

all_join : (b : ℕ) (rest : List ℕ) (m : ℕ) → AllByRecursion (λ n. b ≤ n) rest → b ≤ m → AllByRecursion (λ n. b ≤ n) (rest ++ m ∷ [])
all_join b [] m a le = (le, tt)
all_join b (r ∷ rest) m a le = (a.0, all_join b rest m a.1 le)

-- the marks before the last are within it
under_last : (rest : List ℕ) (m : ℕ) → Rising (rest ++ m ∷ []) → Within m rest
under_last [] m r = tt
under_last (k ∷ rest) m r = (all_last k rest m r.0, under_last rest m r.1)

rising_front : (rest : List ℕ) (m : ℕ) → Rising (rest ++ m ∷ []) → Rising rest
rising_front [] m r = tt
rising_front (k ∷ rest) m r = (all_front k rest m r.0, rising_front rest m r.1)

rising_push : (bound : ℕ) (marks : List ℕ) → Rising marks → Within bound marks → Rising (marks ++ bound ∷ [])
rising_push bound [] r w = (tt, tt)
rising_push bound (m ∷ ms) r w = (all_join m ms bound r.0 w.0, rising_push bound ms r.1 w.1)

within_push : (bound : ℕ) (marks : List ℕ) → Within bound marks → Within bound (marks ++ bound ∷ [])
within_push bound [] w = (omega arith, tt)
within_push bound (m ∷ ms) w = (w.0, within_push bound ms w.1)

begun_push : (marks : List ℕ) (log : List Inverse) → Begun marks log → Begun (marks ++ length log ∷ []) log
begun_push [] log b = ap (λ xs. length xs) b
begun_push (m ∷ ms) log b = b

map-push : {A B : Type 0} (f : A → B) (xs : List A) (x : A) → map f (xs ++ x ∷ []) ≡ map f xs ++ f x ∷ []
map-push f [] x = refl
map-push f (y ∷ ys) x = ap (λ zs. f y ∷ zs) (map-push f ys x)

-- a mark is set at the end
pub mark_kept : (slots : List Slot) (log : List Inverse) (marks marked : List ℕ) (at : ℕ) → Kept slots log marks → at ≡ length log → marked ≡ marks ++ at ∷ [] → Kept slots log marked
mark_kept slots log marks marked at k e m =
    let f : marked ≡ marks ++ length log ∷ [] = m ∙ ap (λ (n : ℕ). marks ++ n ∷ []) e in
    subst (λ (ms : List ℕ). Kept slots log ms) (sym f) (record {
      undoable = k.undoable;
      within = within_push (length log) marks k.within;
      rising = rising_push (length log) marks k.rising k.within;
      begun = begun_push marks log k.begun;
    })

values_back : (m mark : ℕ) (log : List Inverse) (slots : List Slot) → m ≤ mark → mark ≤ length log
    → values_at (take mark log) (undone (drop mark log) slots) m ≡ values_at log slots m
values_back m mark log slots p q = ap values_of (sym (undone-append (drop m (take mark log)) (drop mark log) slots) ∙ ap (λ (is : List Inverse). undone is slots) (drop_cut m mark log p q))

held_back : (mark : ℕ) (log : List Inverse) (slots : List Slot) (rest : List ℕ) → Within mark rest → mark ≤ length log
    → map (values_at log slots) rest ≡ map (values_at (take mark log) (undone (drop mark log) slots)) rest
held_back mark log slots [] w q = refl
held_back mark log slots (m ∷ rest) w q = λ i. sym (values_back m mark log slots w.0 q) i ∷ held_back mark log slots rest w.1 q i

begun_back : (rest : List ℕ) (mark : ℕ) (log : List Inverse) → Begun (rest ++ mark ∷ []) log → Begun rest (take mark log)
begun_back [] mark log b = ap (λ (n : ℕ). take n log) b
begun_back (m ∷ ms) mark log b = b

-- going back to the newest mark
pub back_kept : (slots back : List Slot) (log less : List Inverse) (marks rest : List ℕ) (mark : ℕ) → Kept slots log marks → marks ≡ rest ++ mark ∷ [] → less ≡ take mark log
    → back ≡ undone (drop mark log) slots → Undoable less back → Kept back less rest
back_kept slots back log less marks rest mark k e l b u =
    let w : Within (length log) (rest ++ mark ∷ []) = subst (λ (ms : List ℕ). Within (length log) ms) e k.within in
    let r : Rising (rest ++ mark ∷ []) = subst Rising e k.rising in
    record {
      undoable = u;
      within = subst (λ (n : ℕ). Within n rest) (sym (ap (λ (is : List Inverse). length is) l ∙ length-take-short mark log (within_last (length log) rest mark w))) (under_last rest mark r);
      rising = rising_front rest mark r;
      begun = subst (Begun rest) (sym l) (begun_back rest mark log (subst (λ (ms : List ℕ). Begun ms log) e k.begun));
    }

pub back_seen : (h : Held) (slots back : List Slot) (log less : List Inverse) (marks rest : List ℕ) (mark : ℕ) → seen slots log marks ≡ h → Kept slots log marks → marks ≡ rest ++ mark ∷ []
    → less ≡ take mark log → back ≡ undone (drop mark log) slots → h.held ≡ map (values_at less back) rest ++ values_of back ∷ []
back_seen h slots back log less marks rest mark v k e l b =
    let w : Within (length log) (rest ++ mark ∷ []) = subst (λ (ms : List ℕ). Within (length log) ms) e k.within in
    let r : Rising (rest ++ mark ∷ []) = subst Rising e k.rising in
    let q : mark ≤ length log = within_last (length log) rest mark w in
    sym (ap (λ (x : Held). x.held) v) ∙ ap (map (values_at log slots)) e ∙ map-push (values_at log slots) rest mark
    ∙ ap (λ (xs : List Values). xs ++ values_at log slots mark ∷ []) (held_back mark log slots rest (under_last rest mark r) q ∙ ap (λ (p : List Inverse × List Slot). map (values_at p.0 p.1) rest) (λ i. (sym l i, sym b i)))
    ∙ ap (λ (s : List Slot). map (values_at less back) rest ++ values_of s ∷ []) (sym b)

-- a mark that ends without going back
released : (rest : List ℕ) (mark : ℕ) (log : List Inverse) → Begun (rest ++ mark ∷ []) log → rest ≡ [] → mark ≡ 0
released [] mark log b e = b
released (m ∷ ms) mark log b e = cc

pub end_kept : (slots : List Slot) (log less : List Inverse) (marks rest : List ℕ) (mark : ℕ) → Kept slots log marks → marks ≡ rest ++ mark ∷ [] → rest ≡ [] → less ≡ take mark log → Kept slots less rest
end_kept slots log less marks rest mark k e n l =
    let z : mark ≡ 0 = released rest mark log (subst (λ (ms : List ℕ). Begun ms log) e k.begun) n in
    let none : less ≡ [] = l ∙ ap (λ (n : ℕ). take n log) z in
    subst (λ (is : List Inverse). Kept slots is rest) (sym none) (subst (λ (ms : List ℕ). Kept slots [] ms) (sym n) (record { undoable = tt; within = tt; rising = tt; begun = refl }))

within_front : (bound : ℕ) (rest : List ℕ) (m : ℕ) → Within bound (rest ++ m ∷ []) → Within bound rest
within_front bound [] m w = tt
within_front bound (r ∷ rest) m w = (w.0, within_front bound rest m w.1)

begun_front : (rest : List ℕ) (m : ℕ) (log : List Inverse) → Begun (rest ++ m ∷ []) log → 0 < length rest → Begun rest log
begun_front [] m log b lt = absurd (omega arith)
begun_front (r ∷ rest) m log b lt = b

pub front_kept : (slots : List Slot) (log : List Inverse) (marks rest : List ℕ) (mark : ℕ) → Kept slots log marks → marks ≡ rest ++ mark ∷ [] → 0 < length rest → Kept slots log rest
front_kept slots log marks rest mark k e lt = record {
  undoable = k.undoable;
  within = within_front (length log) rest mark (subst (λ (ms : List ℕ). Within (length log) ms) e k.within);
  rising = rising_front rest mark (subst Rising e k.rising);
  begun = begun_front rest mark log (subst (λ (ms : List ℕ). Begun ms log) e k.begun) lt;
}

pub nonzero : (n : ℕ) → false ≡ (n == 0) → 0 < n
nonzero zero e = cc
nonzero (suc n) e = omega arith

-- ---- a change while a mark stands
within_more : (a b : ℕ) (marks : List ℕ) → a ≤ b → Within a marks → Within b marks
within_more a b [] le w = tt
within_more a b (m ∷ ms) le w = (omega arith, within_more a b ms le w.1)

begun_more : (marks : List ℕ) (before log : List Inverse) → 0 < length marks → Begun marks before → Begun marks log
begun_more [] before log lt b = absurd (omega arith)
begun_more (m ∷ ms) before log lt b = b

pub changed_kept : (old new : List Slot) (before log : List Inverse) (marks : List ℕ) → Kept old before marks → 0 < length marks → AreHeld old before new log → Kept new log marks
changed_kept old new before log marks k lt h = record {
  undoable = h.undoable;
  within = within_more (length before) (length log) marks h.longer k.within;
  rising = k.rising;
  begun = begun_more marks before log lt k.begun;
}

held_by : (old new : List Slot) (before log : List Inverse) (marks : List ℕ) → Within (length before) marks → AreHeld old before new log → map (values_at log new) marks ≡ map (values_at before old) marks
held_by old new before log [] w h = refl
held_by old new before log (m ∷ ms) w h = λ i. h.same m w.0 i ∷ held_by old new before log ms w.1 h i

pub changed_held : (v : Held) (old new : List Slot) (before log : List Inverse) (marks : List ℕ) → seen old before marks ≡ v → Kept old before marks → AreHeld old before new log → map (values_at log new) marks ≡ v.held
changed_held v old new before log marks e k h = held_by old new before log marks k.within h ∙ ap (λ (x : Held). x.held) e

-- where no mark stands nothing is kept
no_marks : (marks : List ℕ) → length marks ≡ 0 → marks ≡ []
no_marks [] e = refl
no_marks (m ∷ ms) e = absurd (omega arith)

pub unmarked_kept : (old new : List Slot) (log : List Inverse) (marks : List ℕ) → Kept old log marks → length marks ≡ 0 → Kept new log marks
unmarked_kept old new log marks k z =
    let n : marks ≡ [] = no_marks marks z in
    let none : log ≡ [] = subst (λ (ms : List ℕ). Begun ms log) n k.begun in
    subst (λ (ms : List ℕ). Kept new log ms) (sym n) (subst (λ (is : List Inverse). Kept new is []) (sym none) (record { undoable = tt; within = tt; rising = tt; begun = refl }))

pub unmarked_held : (v : Held) (old new : List Slot) (log : List Inverse) (marks : List ℕ) → seen old log marks ≡ v → length marks ≡ 0 → map (values_at log new) marks ≡ v.held
unmarked_held v old new log marks e z =
    let n : marks ≡ [] = no_marks marks z in
    ap (map (values_at log new)) n ∙ sym (ap (map (values_at log old)) n) ∙ ap (λ (x : Held). x.held) e
