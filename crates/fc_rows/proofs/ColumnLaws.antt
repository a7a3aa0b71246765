-- The indexes of the entries of an array, and what a change of an entry makes of them.
use Rattle.std.proofs.Common.{take, ◌≡◌, ◌≤◌, ◌<◌, ◌+◌, ◌-◌, ◌==◌, ◌&&◌, ◌++◌, nat_lt, not, ℕ, zero, suc, Bool, true, false, cond, if◌then◌else◌, List, [], ◌∷◌, length, slice_get, slice_set, slice_index_or, refl, sym, ap, subst, ◌∙◌, arith, Option, Some, None, option_map, is_some, bytes_eq}
use Rattle.std.proofs.lemmas.Bool.Decides.{nat_tests}
use Rattle.std.specs.Ordering.{nat_cmp, eq_by_cmp}
use Rattle.std.specs.Cmp.{nat_cmp_total, unsigned_tied}
use Rattle.std.specs.Cmp.Lexicographic.{nat_list_cmp_total}
use Rattle.std.specs.FinMap.{contains_key, empty, entries, get, get-empty, get-remove, insert, len, len-empty, len-insert, len-remove, remove}
use Rattle.fc_keys.specs.Keys.{KeyMap, key_cmp}
use Rattle.fc_types.specs.Ids.{is_distinct}
use Rattle.fc_types.specs.declared.ty.Field.{Field}
use Rattle.fc_types.specs.declared.ty.KeyDecl.{KeyDecl}
use Rattle.fc_value.specs.Keys.{differ_in, key_value, keys_differ}
use Rattle.fc_value.specs.declared.value.Value.{Value}
use Rattle.fc_rows.specs.Columns.{AreEmpty, AreIndexes, AreWider, Column, HasRoomAt, HaveRoom, KeptRows, Leads, LeadsBy, are_free, at_column, each_column, leads_here, less_key, more_key}
use Rattle.fc_rows.specs.Indexing.{keys_of}
use Rattle.fc_keys.specs.Indexing.{Indexes, IsFree, less_key as without}
use Rattle.fc_rows.specs.Rowed.{CanSwap, KeysFit, RowMap, Seen, Shape, updated, values_of_keys}
use Rattle.fc_rows.proofs.Updating.{fits_alike, got-updated, updated_back, updated_fits}
use Rattle.fc_rows.proofs.IndexKeys.{index_tells, indexed_differ, leads}
use Rattle.fc_keys.proofs.Indexed.{key_is, number_own, reindexed_kept, some_is}

-- ---- one place
pub column_past : (change : Column → Column) (i : ℕ) (xs : List Column) → length xs ≤ i → at_column change i xs ≡ xs
column_past change i [] le = refl
column_past change zero (x ∷ xs) le = absurd (omega arith)
column_past change (suc i) (x ∷ xs) le = ap (λ (ys : List Column). x ∷ ys) (column_past change i xs (omega arith))

pub column_set : (change : Column → Column) (i : ℕ) (xs : List Column) (x y : Column) → i < length xs → x ≡ slice_index_or xs i x → y ≡ change x → slice_set xs i y ≡ at_column change i xs
column_set change i [] x y lt e c = absurd (omega arith)
column_set change zero (z ∷ xs) x y lt e c = ap (λ w. w ∷ xs) (c ∙ ap change e)
column_set change (suc i) (z ∷ xs) x y lt e c = ap (λ (ys : List Column). z ∷ ys) (column_set change i xs x y (omega arith) e c)

-- ---- the last key first
pub last_first : (change : List ℕ → Column → Column) (qs : List (List ℕ)) (q : List ℕ) (xs : List Column)
    → each_column change (qs ++ q ∷ []) xs ≡ each_column change qs (at_column (change q) (length qs) xs)
last_first change [] q [] = refl
last_first change [] q (x ∷ xs) = refl
last_first change (p ∷ qs) q [] = refl
last_first change (p ∷ qs) q (x ∷ xs) = ap (λ (ys : List Column). change p x ∷ ys) (last_first change qs q xs)

pub key_taken : (q : List ℕ) (x y : Column) → y.0 ≡ remove x.0 q → y.1 ≡ (if contains_key x.0 q then x.1 + 1 else x.1) → y ≡ less_key q x
key_taken q x y p r = λ i. (p i, r i)

-- ---- the indexes after a change
halves_of : (a b : Bool) → (a && b) ≡ true → (a ≡ true) × (b ≡ true)
halves_of true true e = (refl, refl)
halves_of true false e = cc
halves_of false b e = cc

abbrev step_of : (change : List ℕ → Column → Column) → Option (List ℕ) → Column → Column
step_of change None x = x
step_of change (Some q) x = change q x

zip_step : (change : List ℕ → Column → Column) (fields : List Field) (k : KeyDecl) (ks : List KeyDecl) (o : Option Value) (x : Column) (xs : List Column)
    → each_column change (values_of_keys fields (k ∷ ks) o) (x ∷ xs) ≡ step_of change (option_map (key_value fields k) o) x ∷ each_column change (values_of_keys fields ks o) xs
zip_step change fields k ks None x xs = refl
zip_step change fields k ks (Some v) x xs = refl

zip_none : (change : List ℕ → Column → Column) (fields : List Field) (o : Option Value) → each_column change (values_of_keys fields [] o) [] ≡ []
zip_none change fields None = refl
zip_none change fields (Some v) = refl

free_by : (key : Value → List ℕ) (m : RowMap) (ix : KeyMap) (s : ℕ) (old new : Option Value) → Indexes key m ix → get m s ≡ old
    → is_distinct bytes_eq (keys_of key (entries (updated m s new))) ≡ true → IsFree key ix old new
free_by key m ix s old None h e d = tt
free_by key m ix s old (Some w) h e d = none_is _ (sym (index_tells key m ix s w old h e) ∙ d)
  where
    none_is : (o : Option ℕ) → not (is_some o) ≡ true → o ≡ None
    none_is None e = refl
    none_is (Some t) e = cc

-- what a key more or less makes of the room
less_room : (key : Value → List ℕ) (m : RowMap) (x : Column) (s : ℕ) (v : Value) → Indexes key m x.0 → get m s ≡ Some v → less_key (key v) x ≡ (remove x.0 (key v), x.1 + 1)
less_room key m x s v h e = let c : contains_key x.0 (key v) ≡ true = ap is_some (h.all s v e) in rw c refl

more_room : (s : ℕ) (q : List ℕ) (x : Column) → get x.0 q ≡ None → 0 < x.1 → more_key s q x ≡ (insert x.0 q s, x.1 - 1)
more_room s q x e lt = let c : contains_key x.0 q ≡ false = ap is_some e in let l : nat_lt 0 x.1 ≡ true = grind (arith, nat_tests) in rw c (rw l refl)

abbrev After : (Value → List ℕ) → RowMap → ℕ → ℕ → Option Value → Column → Type 0
After key m room s new y = Indexes key (updated m s new) y.0 × (room ≤ len (updated m s new) + y.1)

len_new : (m : RowMap) (s : ℕ) (w : Value) (o : Option Value) → get m s ≡ o → len (insert m s w) ≡ cond (is_some o) (len m) (len m + 1)
len_new m s w o e = len-insert nat_cmp_total m s w ∙ ap (λ (o : Option Value). cond (is_some o) (len m) (len m + 1)) e

len_less : (m : RowMap) (s : ℕ) (o : Option Value) → get m s ≡ o → len (remove m s) ≡ cond (is_some o) (len m - 1) (len m)
len_less m s o e = len-remove nat_cmp_total m s ∙ ap (λ (o : Option Value). cond (is_some o) (len m - 1) (len m)) e

one_after : (key : Value → List ℕ) (m : RowMap) (room s : ℕ) (old new : Option Value) (x : Column) → Indexes key m x.0 → room ≤ len m + x.1 → get m s ≡ old
    → is_distinct bytes_eq (keys_of key (entries (updated m s new))) ≡ true → len (updated m s new) ≤ room
    → After key m room s new (step_of (more_key s) (option_map key new) (step_of less_key (option_map key old) x))
one_after key m room s None None x h r e d l =
    (reindexed_kept key m x.0 s None None h e tt, let n : len (remove m s) ≡ len m = len_less m s None e in omega (arith, n))
one_after key m room s None (Some w) x h r e d l =
    let f : get x.0 (key w) ≡ None = free_by key m x.0 s None (Some w) h e d in
    let n : len (insert m s w) ≡ len m + 1 = len_new m s w None e in
    let y : more_key s (key w) x ≡ (insert x.0 (key w) s, x.1 - 1) = more_room s (key w) x f (omega (arith, n)) in
    subst (After key m room s (Some w)) (sym y) (reindexed_kept key m x.0 s None (Some w) h e f, omega (arith, n))
one_after key m room s (Some v) None x h r e d l =
    let n : len (remove m s) ≡ len m - 1 = len_less m s (Some v) e in
    subst (After key m room s None) (sym (less_room key m x s v h e)) (reindexed_kept key m x.0 s (Some v) None h e tt, omega (arith, n))
one_after key m room s (Some v) (Some w) x h r e d l =
    let f : get (remove x.0 (key v)) (key w) ≡ None = free_by key m x.0 s (Some v) (Some w) h e d in
    let n : len (insert m s w) ≡ len m = len_new m s w (Some v) e in
    let p : Column = (remove x.0 (key v), x.1 + 1) in
    let y : more_key s (key w) (less_key (key v) x) ≡ (insert (remove x.0 (key v)) (key w) s, x.1 + 1 - 1) = ap (more_key s (key w)) (less_room key m x s v h e) ∙ more_room s (key w) p f (omega arith) in
    subst (After key m room s (Some w)) (sym y) (reindexed_kept key m x.0 s (Some v) (Some w) h e f, omega (arith, n))

pub each_after : (fields : List Field) (ks : List KeyDecl) (m : RowMap) (room s : ℕ) (old new : Option Value) (xs : List Column) → AreIndexes fields ks m room xs → get m s ≡ old
    → keys_differ fields ks (entries (updated m s new)) ≡ true → len (updated m s new) ≤ room
    → AreIndexes fields ks (updated m s new) room (each_column (more_key s) (values_of_keys fields ks new) (each_column less_key (values_of_keys fields ks old) xs))
each_after fields [] m room s old new [] a e d l =
    subst (AreIndexes fields [] (updated m s new) room) (sym (ap (each_column (more_key s) (values_of_keys fields [] new)) (zip_none less_key fields old) ∙ zip_none (more_key s) fields new)) tt
each_after fields [] m room s old new (x ∷ xs) a e d l = absurd a
each_after fields (k ∷ ks) m room s old new [] a e d l = absurd a
each_after fields (k ∷ ks) m room s old new (x ∷ xs) a e d l =
    let both : (differ_in fields (entries (updated m s new)) k ≡ true) × (keys_differ fields ks (entries (updated m s new)) ≡ true) = halves_of (differ_in fields (entries (updated m s new)) k) (keys_differ fields ks (entries (updated m s new))) d in
    let one : After (key_value fields k) m room s new (step_of (more_key s) (option_map (key_value fields k) new) (step_of less_key (option_map (key_value fields k) old) x)) =
    one_after (key_value fields k) m room s old new x a.0 a.1 e both.0 l in
    subst (AreIndexes fields (k ∷ ks) (updated m s new) room)
    (sym (ap (each_column (more_key s) (values_of_keys fields (k ∷ ks) new)) (zip_step less_key fields k ks old x xs) ∙ zip_step (more_key s) fields k ks new _ _))
    (one.0, one.1, each_after fields ks m room s old new xs a.2 e both.1 l)

-- entries that have their indexes differ in their keys
pub indexed : (fields : List Field) (ks : List KeyDecl) (m : RowMap) (room : ℕ) (xs : List Column) → AreIndexes fields ks m room xs → keys_differ fields ks (entries m) ≡ true
indexed fields [] m room [] a = refl
indexed fields [] m room (x ∷ xs) a = absurd a
indexed fields (k ∷ ks) m room [] a = absurd a
indexed fields (k ∷ ks) m room (x ∷ xs) a = rw (indexed_differ (key_value fields k) m x.0 a.0) (indexed fields ks m room xs a.2)

-- ---- the test for a new entry
eqb-own : (t : ℕ) → (t == t) ≡ true
eqb-own t = sym (unsigned_tied t t) ∙ number_own t

here_own : (s t : ℕ) → eq_by_cmp nat_cmp t s ≡ false → (t == s) ≡ false
here_own s t e = sym (unsigned_tied t s) ∙ e

tells_here : (key : Value → List ℕ) (m : RowMap) (ix : KeyMap) (s : ℕ) (w : Value) (o p : Option ℕ) → Indexes key m ix → get ix (key w) ≡ o → get (without ix (option_map key (get m s))) (key w) ≡ p
    → leads_here s o ≡ not (is_some p)
tells_here key m ix s w o (Some t) h e g =
    let l : (eq_by_cmp nat_cmp t s ≡ false) × (get ix (key w) ≡ Some t) = leads key m ix s t w (get m s) h refl g in
    ap (leads_here s) (sym e ∙ l.1) ∙ here_own s t l.0
tells_here key m ix s w None None h e g = refl
tells_here key m ix s w (Some t) None h e g =
    here_or (t == s) refl (get m s) refl
  where
    clash : false ≡ true → ⊥
    clash e = cc

    some_none : (o : Option ℕ) → o ≡ Some t → o ≡ None → ⊥
    some_none o a b = cc

    kept : (v : Value) (b : Bool) → get m s ≡ Some v → (t == s) ≡ false → eq_by_cmp key_cmp (key w) (key v) ≡ b → cond b None (get ix (key w)) ≡ None → ⊥
    kept v true a q c n = clash (sym q ∙ ap (λ (x : ℕ). t == x) (some_is s t (sym (h.all s v a) ∙ ap (get ix) (sym (key_is (key w) (key v) c)) ∙ e)) ∙ eqb-own t)
    kept v false a q c n = some_none (get ix (key w)) e n

    gone : (old : Option Value) → get m s ≡ old → (t == s) ≡ false → get (without ix (option_map key old)) (key w) ≡ None → ⊥
    gone None a q n = some_none (get ix (key w)) e n
    gone (Some v) a q n = kept v (eq_by_cmp key_cmp (key w) (key v)) a q refl (sym (get-remove nat_list_cmp_total ix (key v) (key w)) ∙ n)

    here_or : (b : Bool) → (t == s) ≡ b → (old : Option Value) → get m s ≡ old → (t == s) ≡ true
    here_or true q old a = q
    here_or false q old a = absurd (gone (get m s) refl q g)

free_tells : (key : Value → List ℕ) (m : RowMap) (ix : KeyMap) (s : ℕ) (w : Value) → Indexes key m ix → leads_here s (get ix (key w)) ≡ is_distinct bytes_eq (keys_of key (entries (updated m s (Some w))))
free_tells key m ix s w h = tells_here key m ix s w _ _ h refl refl ∙ sym (index_tells key m ix s w (get m s) h refl)

all_free : (fields : List Field) (ks : List KeyDecl) (m : RowMap) (room s : ℕ) (w : Value) (xs : List Column) → AreIndexes fields ks m room xs
    → are_free s xs (values_of_keys fields ks (Some w)) ≡ keys_differ fields ks (entries (updated m s (Some w)))
all_free fields [] m room s w [] a = refl
all_free fields [] m room s w (x ∷ xs) a = absurd a
all_free fields (k ∷ ks) m room s w [] a = absurd a
all_free fields (k ∷ ks) m room s w (x ∷ xs) a =
    ap (λ (b : Bool). b && are_free s xs (values_of_keys fields ks (Some w))) (free_tells (key_value fields k) m x.0 s w a.0)
    ∙ ap (λ (b : Bool). differ_in fields (entries (updated m s (Some w))) k && b) (all_free fields ks m room s w xs a.2)

less_indexed : (fields : List Field) (ks : List KeyDecl) (m : RowMap) (room s : ℕ) (xs : List Column) → AreIndexes fields ks m room xs → keys_differ fields ks (entries (updated m s None)) ≡ true
less_indexed fields [] m room s [] a = refl
less_indexed fields [] m room s (x ∷ xs) a = absurd a
less_indexed fields (k ∷ ks) m room s [] a = absurd a
less_indexed fields (k ∷ ks) m room s (x ∷ xs) a =
    rw (indexed_differ (key_value fields k) (updated m s None) _ (reindexed_kept (key_value fields k) m x.0 s (get m s) None a.0 refl tt)) (less_indexed fields ks m room s xs a.2)

free_none : (s : ℕ) (xs : List Column) → are_free s xs [] ≡ true
free_none s [] = refl
free_none s (x ∷ xs) = refl

-- no key of the new entry leads elsewhere exactly where afterwards no two entries have an equal key
pub free_is : (fields : List Field) (ks : List KeyDecl) (m : RowMap) (room s : ℕ) (v : Option Value) (xs : List Column) → AreIndexes fields ks m room xs
    → are_free s xs (values_of_keys fields ks v) ≡ keys_differ fields ks (entries (updated m s v))
free_is fields ks m room s None xs a = free_none s xs ∙ sym (less_indexed fields ks m room s xs a)
free_is fields ks m room s (Some w) xs a = all_free fields ks m room s w xs a

-- ---- more room
wider_self : (xs : List Column) → AreWider xs xs
wider_self [] = tt
wider_self (x ∷ xs) = (refl, omega arith, wider_self xs)

pub wider_all : (xs : List Column) → AreWider xs xs
wider_all = wider_self

pub wider_set : (xs : List Column) (i : ℕ) (x y : Column) → i < length xs → x ≡ slice_index_or xs i x → y.0 ≡ x.0 → x.1 ≤ y.1 → AreWider xs (slice_set xs i y)
wider_set [] i x y lt e p q = absurd (omega arith)
wider_set (z ∷ xs) zero x y lt e p q = (p ∙ ap (λ (c : Column). c.0) e, let n : x.1 ≡ z.1 = ap (λ (c : Column). c.1) e in omega (arith, n), wider_self xs)
wider_set (z ∷ xs) (suc i) x y lt e p q = (refl, omega arith, wider_set xs i x y (omega arith) e p q)

pub wider_twice : (xs ys zs : List Column) → AreWider xs ys → AreWider ys zs → AreWider xs zs
wider_twice [] [] [] a b = tt
wider_twice [] [] (z ∷ zs) a b = absurd b
wider_twice [] (y ∷ ys) zs a b = absurd a
wider_twice (x ∷ xs) [] zs a b = absurd a
wider_twice (x ∷ xs) (y ∷ ys) [] a b = absurd b
wider_twice (x ∷ xs) (y ∷ ys) (z ∷ zs) a b = (b.0 ∙ a.0, omega (arith, a.1, b.1), wider_twice xs ys zs a.2 b.2)

pub wider_length : (xs ys : List Column) → AreWider xs ys → length ys ≡ length xs
wider_length [] [] a = refl
wider_length [] (y ∷ ys) a = absurd a
wider_length (x ∷ xs) [] a = absurd a
wider_length (x ∷ xs) (y ∷ ys) a = ap suc (wider_length xs ys a.2)

pub room_set : (n : ℕ) (xs : List Column) (i : ℕ) (y : Column) → n ≤ y.1 → HasRoomAt n (slice_get (slice_set xs i y) i)
room_set n [] i y le = tt
room_set n (x ∷ xs) zero y le = le
room_set n (x ∷ xs) (suc i) y le = room_set n xs i y le

-- the one behind those that have room has it too
pub room_more : (n : ℕ) (i : ℕ) (xs ys : List Column) → HasRoomAt n (slice_get xs i) → AreWider xs ys → HaveRoom n i ys → HaveRoom n (suc i) ys
room_more n i [] [] h a r = tt
room_more n i [] (y ∷ ys) h a r = absurd a
room_more n i (x ∷ xs) [] h a r = absurd a
room_more n zero (x ∷ xs) (y ∷ ys) h a r = (omega (arith, a.1, h), tt)
room_more n (suc i) (x ∷ xs) (y ∷ ys) h a r = (r.0, room_more n i xs ys h a.2 r.1)

pub kept_wider : (fields : List Field) (ks : List KeyDecl) (m : RowMap) (room : ℕ) (xs ys : List Column) → AreIndexes fields ks m room xs → AreWider xs ys → AreIndexes fields ks m room ys
kept_wider fields [] m room [] [] a w = tt
kept_wider fields [] m room [] (y ∷ ys) a w = absurd w
kept_wider fields [] m room (x ∷ xs) ys a w = absurd a
kept_wider fields (k ∷ ks) m room [] ys a w = absurd a
kept_wider fields (k ∷ ks) m room (x ∷ xs) [] a w = absurd w
kept_wider fields (k ∷ ks) m room (x ∷ xs) (y ∷ ys) a w =
    (subst (Indexes (key_value fields k) m) (sym w.0) a.0, omega (arith, a.1, w.1), kept_wider fields ks m room xs ys a.2 w.2)

-- ---- an entry by its key
leads_by : (key : Value → List ℕ) (m : RowMap) (ix : KeyMap) (q : List ℕ) (o : Option ℕ) → Indexes key m ix → o ≡ get ix q → Leads key m q o
leads_by key m ix q o h e = record {
  found = λ s g. h.found q s (sym e ∙ g);
  all = λ s v g k. e ∙ ap (get ix) (sym k) ∙ h.all s v g;
}

pub leads_at : (fields : List Field) (ks : List KeyDecl) (m : RowMap) (room : ℕ) (xs : List Column) (i : ℕ) (x : Column) (q : List ℕ) (o : Option ℕ) → AreIndexes fields ks m room xs
    → i < length xs → x ≡ slice_index_or xs i x → o ≡ get x.0 q → LeadsBy fields (slice_get ks i) m q o
leads_at fields ks m room [] i x q o a lt e g = absurd (omega arith)
leads_at fields [] m room (y ∷ xs) i x q o a lt e g = absurd a
leads_at fields (k ∷ ks) m room (y ∷ xs) zero x q o a lt e g = leads_by (key_value fields k) m y.0 q o a.0 (g ∙ ap (λ (c : Column). get c.0 q) e)
leads_at fields (k ∷ ks) m room (y ∷ xs) (suc i) x q o a lt e g = leads_at fields ks m room xs i x q o a.2 (omega arith) e g

pub leads_none : (fields : List Field) (ks : List KeyDecl) (m : RowMap) (room : ℕ) (xs : List Column) (i : ℕ) (q : List ℕ) → AreIndexes fields ks m room xs
    → length xs ≤ i → LeadsBy fields (slice_get ks i) m q None
leads_none fields [] m room [] i q a le = refl
leads_none fields [] m room (x ∷ xs) i q a le = absurd a
leads_none fields (k ∷ ks) m room [] i q a le = absurd a
leads_none fields (k ∷ ks) m room (x ∷ xs) zero q a le = absurd (omega arith)
leads_none fields (k ∷ ks) m room (x ∷ xs) (suc i) q a le = leads_none fields ks m room xs i q a.2 (omega arith)

-- ---- what is given can be put back
pub can_back : (rows new : Seen) (s : ℕ) (v old : Option Value) (entering leaving : List (List ℕ)) (xs : List Column) → AreIndexes rows.1.1.0 rows.1.1.1 rows.0 rows.1.0 xs
    → CanSwap rows s v entering leaving → old ≡ get rows.0 s → new.0 ≡ updated rows.0 s v → new.1 ≡ rows.1 → len rows.0 ≤ rows.1.0 → CanSwap new s old leaving entering
can_back rows new s v old entering leaving xs a c o p r le =
    let back : updated new.0 s old ≡ rows.0 = ap (λ (n : RowMap). updated n s old) p ∙ ap (updated (updated rows.0 s v) s) o ∙ updated_back rows.0 s v in
    let there : get new.0 s ≡ v = ap (λ (n : RowMap). get n s) p ∙ got-updated rows.0 s v s ∙ ap (λ b. cond b v (get rows.0 s)) (number_own s) in
    let room : rows.1.0 ≡ new.1.0 = ap (λ (x : ℕ × Shape). x.0) (sym r) in
    let fit : KeysFit rows.1.1 new.0 s old leaving entering = record {
      enters = c.1.leaves ∙ ap (λ (x : Option Value). values_of_keys rows.1.1.0 rows.1.1.1 x) (sym o);
      leaves = c.1.enters ∙ ap (λ (x : Option Value). values_of_keys rows.1.1.0 rows.1.1.1 x) (sym there);
      apart = ap (λ (n : RowMap). keys_differ rows.1.1.0 rows.1.1.1 (entries n)) back ∙ indexed rows.1.1.0 rows.1.1.1 rows.0 rows.1.0 xs a;
    } in
    (let n : len (updated new.0 s old) ≡ len rows.0 = ap (λ (m : RowMap). len m) back in omega (arith, n, room, le), subst (λ (k : ℕ × Shape). KeysFit k.1 new.0 s old leaving entering) (sym r) fit)

-- ---- what the calls want
pub leads_seen : (v : Seen) (m : RowMap) (room : ℕ) (shape : Shape) (xs : List Column) (i : ℕ) (x : Column) (q : List ℕ) (o : Option ℕ) → ◌≡◌ {A = Seen} (m, (room, shape)) v
    → AreIndexes shape.0 shape.1 m room xs → i < length xs → x ≡ slice_index_or xs i x → o ≡ get x.0 q → LeadsBy v.1.1.0 (slice_get v.1.1.1 i) v.0 q o
leads_seen v m room shape xs i x q o e a lt is g =
    subst (λ (u : Seen). LeadsBy u.1.1.0 (slice_get u.1.1.1 i) u.0 q o) e (leads_at shape.0 shape.1 m room xs i x q o a lt is g)

pub leads_nowhere : (v : Seen) (m : RowMap) (room : ℕ) (shape : Shape) (xs : List Column) (i : ℕ) (q : List ℕ) → ◌≡◌ {A = Seen} (m, (room, shape)) v
    → AreIndexes shape.0 shape.1 m room xs → length xs ≤ i → LeadsBy v.1.1.0 (slice_get v.1.1.1 i) v.0 q None
leads_nowhere v m room shape xs i q e a le =
    subst (λ (u : Seen). LeadsBy u.1.1.0 (slice_get u.1.1.1 i) u.0 q None) e (leads_none shape.0 shape.1 m room xs i q a le)

pub free_seen : (v : Seen) (m : RowMap) (room : ℕ) (shape : Shape) (xs ys : List Column) (s : ℕ) (o : Option Value) (qs : List (List ℕ)) (fields : List Field) (keys : List KeyDecl) (b : Bool)
    → ◌≡◌ {A = Seen} (m, (room, shape)) v → AreIndexes shape.0 shape.1 m room xs → ys ≡ xs → qs ≡ values_of_keys fields keys o → fields ≡ shape.0 → keys ≡ shape.1 → b ≡ are_free s ys qs
    → keys_differ v.1.1.0 v.1.1.1 (entries (updated v.0 s o)) ≡ b
free_seen v m room shape xs ys s o qs fields keys b e a y q f k r =
    subst (λ (u : Seen). keys_differ u.1.1.0 u.1.1.1 (entries (updated u.0 s o)) ≡ b) e
    (sym (r ∙ ap (λ (zs : List Column). are_free s zs qs) y ∙ ap (are_free s xs) (q ∙ ap (λ (fs : List Field). values_of_keys fs keys o) f ∙ ap (λ (ks : List KeyDecl). values_of_keys shape.0 ks o) k)
    ∙ free_is shape.0 shape.1 m room s o xs a))

pub keys_seen : (v : Seen) (m : RowMap) (room : ℕ) (shape : Shape) (o : Option Value) (qs : List (List ℕ)) (fields : List Field) (keys : List KeyDecl)
    → ◌≡◌ {A = Seen} (m, (room, shape)) v → qs ≡ values_of_keys fields keys o → fields ≡ shape.0 → keys ≡ shape.1 → qs ≡ values_of_keys v.1.1.0 v.1.1.1 o
keys_seen v m room shape o qs fields keys e q f k =
    subst (λ (u : Seen). qs ≡ values_of_keys u.1.1.0 u.1.1.1 o) e (q ∙ ap (λ (fs : List Field). values_of_keys fs keys o) f ∙ ap (λ (ks : List KeyDecl). values_of_keys shape.0 ks o) k)

pub rows_seen : (v : Seen) (m : RowMap) (room : ℕ) (shape : Shape) → ◌≡◌ {A = Seen} (m, (room, shape)) v → m ≡ v.0
rows_seen v m room shape e = ap (λ (u : Seen). u.0) e

pub kept_err : (old new : RowMap × ℕ) (room : ℕ) (shape : Shape) (xs ys : List Column) → KeptRows old room shape xs → new.0 ≡ old.0 → old.1 ≤ new.1 → AreWider xs ys → KeptRows new room shape ys
kept_err old new room shape xs ys k e r w = record {
  filled = let n : len new.0 ≡ len old.0 = ap (λ (m : RowMap). len m) e in omega (arith, n, k.filled);
  within = omega (arith, r, k.within);
  each = subst (λ (m : RowMap). AreIndexes shape.0 shape.1 m room ys) (sym e) (kept_wider shape.0 shape.1 old.0 room xs ys k.each w);
}

more_by : (room more l n x y : ℕ) → (room < more → more ≤ l + n) → room ≤ l + x → x ≤ y → n ≤ y → more ≤ l + y
more_by room more l n x y f p q r = by (nat_lt room more) refl
  where
    by : (b : Bool) → nat_lt room more ≡ b → more ≤ l + y
    by true e = let t : more ≤ l + n = f (grind (arith, nat_tests)) in omega (arith, t, q, r)
    by false e = let t : more ≤ room = grind (arith, nat_tests) in omega (arith, t, p, q)

each_more : (fields : List Field) (ks : List KeyDecl) (m : RowMap) (room more n : ℕ) (xs ys : List Column) → AreIndexes fields ks m room xs → AreWider xs ys → HaveRoom n (length xs) ys
    → (room < more → more ≤ len m + n) → AreIndexes fields ks m more ys
each_more fields [] m room more n [] [] a w h f = tt
each_more fields [] m room more n [] (y ∷ ys) a w h f = absurd w
each_more fields [] m room more n (x ∷ xs) ys a w h f = absurd a
each_more fields (k ∷ ks) m room more n [] ys a w h f = absurd a
each_more fields (k ∷ ks) m room more n (x ∷ xs) [] a w h f = absurd w
each_more fields (k ∷ ks) m room more n (x ∷ xs) (y ∷ ys) a w h f =
    (subst (Indexes (key_value fields k) m) (sym w.0) a.0, more_by room more (len m) n x.1 y.1 f a.1 w.1 h.0, each_more fields ks m room more n xs ys a.2 w.2 h.1 f)

pub kept_more : (old new : RowMap × ℕ) (room more n k places : ℕ) (shape : Shape) (xs ys : List Column) → KeptRows old room shape xs → new.0 ≡ old.0 → old.1 ≤ new.1 → len old.0 + n ≤ new.1 → AreWider xs ys
    → places ≡ length xs → HaveRoom n places ys → room ≤ more → (room < more → more ≤ k + n) → k ≡ len new.0 → KeptRows new more shape ys
kept_more old new room more n k places shape xs ys h e grown ok w p r up known is =
    let c : len new.0 ≡ len old.0 = ap (λ (m : RowMap). len m) e in
    let within : room ≤ old.1 = h.within in
    let f : room < more → more ≤ len old.0 + n = λ lt. let t : more ≤ k + n = known lt in omega (arith, t, c, is) in
    record {
      filled = omega (arith, c, h.filled, up);
      within = bounded (nat_lt room more) refl f within;
      each = subst (λ (m : RowMap). AreIndexes shape.0 shape.1 m more ys) (sym e) (each_more shape.0 shape.1 old.0 room more n xs ys h.each w (subst (λ (i : ℕ). HaveRoom n i ys) p r) f);
    }
  where
    bounded : (b : Bool) → nat_lt room more ≡ b → (room < more → more ≤ len old.0 + n) → room ≤ old.1 → more ≤ new.1
    bounded true q f within = let t : more ≤ len old.0 + n = f (grind (arith, nat_tests)) in omega (arith, t, ok)
    bounded false q f within = let t : more ≤ room = grind (arith, nat_tests) in omega (arith, t, within, grown)

pub swapped_kept : (v : Seen) (old new : RowMap × ℕ) (room s : ℕ) (shape : Shape) (xs mid ys : List Column) (val : Option Value) (entering leaving qs : List (List ℕ))
    → ◌≡◌ {A = Seen} (old.0, (room, shape)) v → KeptRows old room shape xs → CanSwap v s val entering leaving → mid ≡ each_column less_key leaving xs → qs ≡ entering
    → ys ≡ each_column (more_key s) qs mid → new.0 ≡ updated old.0 s val → new.1 ≡ old.1 → KeptRows new room shape ys
swapped_kept v old new room s shape xs mid ys val entering leaving qs e k can l q y n r =
    let c : CanSwap (old.0, (room, shape)) s val entering leaving = subst (λ (u : Seen). CanSwap u s val entering leaving) (sym e) can in
    let a : AreIndexes shape.0 shape.1 (updated old.0 s val) room (each_column (more_key s) (values_of_keys shape.0 shape.1 val) (each_column less_key (values_of_keys shape.0 shape.1 (get old.0 s)) xs)) =
    each_after shape.0 shape.1 old.0 room s (get old.0 s) val xs k.each refl c.1.apart c.0 in
    let same : ys ≡ each_column (more_key s) (values_of_keys shape.0 shape.1 val) (each_column less_key (values_of_keys shape.0 shape.1 (get old.0 s)) xs) =
    y ∙ ap (λ (zs : List (List ℕ)). each_column (more_key s) zs mid) (q ∙ c.1.enters) ∙ ap (each_column (more_key s) (values_of_keys shape.0 shape.1 val)) (l ∙ ap (λ (zs : List (List ℕ)). each_column less_key zs xs) c.1.leaves) in
    record {
      filled = let d : len new.0 ≡ len (updated old.0 s val) = ap (λ (m : RowMap). len m) n in omega (arith, d, c.0);
      within = let w : room ≤ old.1 = k.within in omega (arith, w, r);
      each = subst (λ (m : RowMap). AreIndexes shape.0 shape.1 m room ys) (sym n) (subst (λ (zs : List Column). AreIndexes shape.0 shape.1 (updated old.0 s val) room zs) (sym same) a);
    }

pub back_seen : (v : Seen) (old : RowMap × ℕ) (m : RowMap) (room s : ℕ) (shape : Shape) (xs : List Column) (val given : Option Value) (entering leaving : List (List ℕ))
    → ◌≡◌ {A = Seen} (old.0, (room, shape)) v → KeptRows old room shape xs → CanSwap v s val entering leaving → given ≡ get old.0 s → m ≡ updated old.0 s val → CanSwap (m, (room, shape)) s given leaving entering
back_seen v old m room s shape xs val given entering leaving e k can g n =
    can_back (old.0, (room, shape)) (m, (room, shape)) s val given entering leaving xs k.each (subst (λ (u : Seen). CanSwap u s val entering leaving) (sym e) can) g n refl k.filled

pub room_next : (n places : ℕ) (xs ys : List Column) → 1 ≤ places → HasRoomAt n (slice_get xs (places - 1)) → AreWider xs ys → HaveRoom n (places - 1) ys → HaveRoom n places ys
room_next n places xs ys le h w r = let e : suc (places - 1) ≡ places = omega arith in subst (λ (k : ℕ). HaveRoom n k ys) e (room_more n (places - 1) xs ys h w r)

front_at : (qs : List (List ℕ)) (n : ℕ) (q : List ℕ) → n + 1 ≡ length qs → q ≡ slice_index_or qs n q → qs ≡ take n qs ++ q ∷ []
front_at [] n q le e = absurd (omega arith)
front_at (p ∷ []) zero q le e = ap (λ (r : List ℕ). r ∷ []) (sym e)
front_at (p ∷ r ∷ qs) zero q le e = absurd (omega arith)
front_at (p ∷ []) (suc n) q le e = absurd (omega arith)
front_at (p ∷ r ∷ qs) (suc n) q le e = ap (λ (zs : List (List ℕ)). p ∷ zs) (front_at (r ∷ qs) n q (omega arith) e)

front_last : (qs : List (List ℕ)) (q : List ℕ) → 1 ≤ length qs → q ≡ slice_index_or qs (length qs - 1) q → qs ≡ take (length qs - 1) qs ++ q ∷ []
front_last qs q le e = front_at qs (length qs - 1) q (omega arith) e

pub taken_last : (change : List ℕ → Column → Column) (qs : List (List ℕ)) (q r : List ℕ) (xs mid new : List Column) → 1 ≤ length qs → q ≡ slice_index_or qs (length qs - 1) q → r ≡ q
    → mid ≡ at_column (change r) (length (take (length qs - 1) qs)) xs → new ≡ each_column change (take (length qs - 1) qs) mid → new ≡ each_column change qs xs
taken_last change qs q r xs mid new le e p m n =
    n ∙ ap (each_column change (take (length qs - 1) qs)) (m ∙ ap (λ (t : List ℕ). at_column (change t) (length (take (length qs - 1) qs)) xs) p)
    ∙ sym (ap (λ (zs : List (List ℕ)). each_column change zs xs) (front_last qs q le e) ∙ last_first change (take (length qs - 1) qs) q xs)

-- ---- no entry
empty_push : (n : ℕ) (xs : List Column) (x : Column) → AreEmpty n xs → x.0 ≡ empty → AreEmpty (suc n) (xs ++ x ∷ [])
empty_push zero [] x a e = (e, tt)
empty_push zero (y ∷ xs) x a e = absurd a
empty_push (suc n) [] x a e = absurd a
empty_push (suc n) (y ∷ xs) x a e = (a.0, empty_push n xs x a.1 e)

pub one_empty : (n : ℕ) (xs ys : List Column) (x : Column) → 1 ≤ n → AreEmpty (n - 1) xs → x.0 ≡ empty → ys ≡ xs ++ x ∷ [] → AreEmpty n ys
one_empty n xs ys x le a e y =
    let k : suc (n - 1) ≡ n = omega arith in
    subst (λ (zs : List Column). AreEmpty n zs) (sym y) (subst (λ (m : ℕ). AreEmpty m (xs ++ x ∷ [])) k (empty_push (n - 1) xs x a e))

pub none_empty : (n : ℕ) (xs : List Column) → n ≡ 0 → xs ≡ [] → AreEmpty n xs
none_empty n xs e f = subst (λ (m : ℕ). AreEmpty m xs) (sym e) (subst (λ (zs : List Column). AreEmpty 0 zs) (sym f) tt)

nothing_there : {A : Type 0} (x : A) → None ≡ Some x → ⊥
nothing_there x e = cc

got_none : (s : ℕ) → get {R = nat_cmp} (empty {X = Value}) s ≡ None
got_none s = get-empty nat_cmp s

pair_none : (q : List ℕ) → get {R = key_cmp} (empty {X = ℕ}) q ≡ None
pair_none q = get-empty key_cmp q

empty_indexes : (fields : List Field) (ks : List KeyDecl) (n : ℕ) (xs : List Column) → AreEmpty n xs → n ≡ length ks → AreIndexes fields ks empty 0 xs
empty_indexes fields [] zero [] a e = tt
empty_indexes fields [] zero (x ∷ xs) a e = absurd a
empty_indexes fields [] (suc n) xs a e = absurd (omega arith)
empty_indexes fields (k ∷ ks) zero xs a e = absurd (omega arith)
empty_indexes fields (k ∷ ks) (suc n) [] a e = absurd a
empty_indexes fields (k ∷ ks) (suc n) (x ∷ xs) a e = (
  record {
    found = λ q s g. absurd (nothing_there s (sym (pair_none q) ∙ ap (λ (m : KeyMap). get m q) (sym a.0) ∙ g));
    all = λ s v g. absurd (nothing_there v (sym (got_none s) ∙ g));
  },
  omega arith,
  empty_indexes fields ks n xs a.1 (omega arith),
)

pub new_kept : (rows : RowMap × ℕ) (shape : Shape) (xs : List Column) (n : ℕ) → rows.0 ≡ empty → AreEmpty n xs → n ≡ length shape.1 → KeptRows rows 0 shape xs
new_kept rows shape xs n e a l = record {
  filled = let z : len rows.0 ≡ 0 = ap (λ (m : RowMap). len m) e ∙ len_none in omega (arith, z);
  within = omega arith;
  each = subst (λ (m : RowMap). AreIndexes shape.0 shape.1 m 0 xs) (sym e) (empty_indexes shape.0 shape.1 n xs a l);
}
  where
    len_none : len {R = nat_cmp} (empty {X = Value}) ≡ 0
    len_none = len-empty nat_cmp Value

-- ---- a change that may be refused
pub swap_ready : (old new : Seen) (s : ℕ) (v : Option Value) (entering leaving left : List (List ℕ)) → KeysFit old.1.1 old.0 s v entering leaving → left ≡ leaving → new.0 ≡ old.0 → new.1.1 ≡ old.1.1
    → len old.0 + 1 ≤ new.1.0 → CanSwap new s v entering left
swap_ready old new s v entering leaving left h l e k le = (
  let n : len new.0 ≡ len old.0 = ap (λ (m : RowMap). len m) e in updated_fits new.0 s v new.1.0 (omega (arith, n, le)),
  subst (λ (zs : List (List ℕ)). KeysFit new.1.1 new.0 s v entering zs) (sym l) (fits_alike old.0 new.0 old.1.1 new.1.1 s v entering leaving e k h),
)
