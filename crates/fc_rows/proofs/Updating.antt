-- Entries with another value, or none, at a subscript.
use Rattle.std.proofs.Common.{◌≡◌, ℕ, ◌+◌, ◌-◌, ◌≤◌, Bool, true, false, cond, List, OnOk, Result, Ok, Err, refl, sym, ap, subst, ◌∙◌, arith, Option, Some, None, is_some, eqb-true}
use Rattle.std.specs.Ordering.{nat_cmp, eq_by_cmp}
use Rattle.std.specs.Cmp.{nat_cmp_total, unsigned_tied}
use Rattle.std.specs.FinMap.{entries, entries_sorted, from_sorted, entries-from_sorted, same_entries_map, same_map, nat_cmp-IsAntisymmetric, get, get-insert, get-remove, len, len-insert, len-remove}
use Rattle.fc_value.specs.declared.value.Value.{Value}
use Rattle.fc_rows.specs.Rowed.{KeysFit, RowMap, Shape, updated}

grows : (b : Bool) (n m : ℕ) → n + 1 ≤ m → cond b n (n + 1) ≤ m
grows true n m le = omega arith
grows false n m le = le

shrinks : (b : Bool) (n m : ℕ) → n + 1 ≤ m → cond b (n - 1) n ≤ m
shrinks true n m le = omega arith
shrinks false n m le = omega arith

-- one entry more or less has room where there is room for one more
pub updated_fits : (m : RowMap) (s : ℕ) (v : Option Value) (cap : ℕ) → len m + 1 ≤ cap → len (updated m s v) ≤ cap
updated_fits m s None cap le = subst (λ (n : ℕ). n ≤ cap) (sym (len-remove nat_cmp_total m s)) (shrinks (is_some (get m s)) (len m) cap le)
updated_fits m s (Some w) cap le = subst (λ (n : ℕ). n ≤ cap) (sym (len-insert nat_cmp_total m s w)) (grows (is_some (get m s)) (len m) cap le)

pub got-updated : (m : RowMap) (s : ℕ) (v : Option Value) (q : ℕ) → get (updated m s v) q ≡ cond (eq_by_cmp nat_cmp q s) v (get m q)
got-updated m s None q = get-remove nat_cmp_total m s q
got-updated m s (Some w) q = get-insert nat_cmp_total m s w q

key_is : (q s : ℕ) → eq_by_cmp nat_cmp q s ≡ true → q ≡ s
key_is q s e = eqb-true q s (sym (unsigned_tied q s) ∙ e)

twice : (q s : ℕ) (b : Bool) (m : RowMap) (v : Option Value) → eq_by_cmp nat_cmp q s ≡ b → cond b (get m s) (cond b v (get m q)) ≡ get m q
twice q s true m v e = ap (get m) (sym (key_is q s e))
twice q s false m v e = refl

-- what is put back undoes what was put
pub updated_back : (m : RowMap) (s : ℕ) (v : Option Value) → updated (updated m s v) s (get m s) ≡ m
updated_back m s v = same_map nat_cmp_total nat_cmp-IsAntisymmetric _ _ (λ q.
    got-updated (updated m s v) s (get m s) q ∙ ap (λ (x : Option Value). cond (eq_by_cmp nat_cmp q s) (get m s) x) (got-updated m s v q) ∙ twice q s (eq_by_cmp nat_cmp q s) m v refl)

pub map_again : (m : RowMap) → from_sorted (entries m) ≡ m
map_again m = same_entries_map _ _ (entries-from_sorted nat_cmp (entries m) (entries_sorted m))

pub fits_alike : (m n : RowMap) (k l : Shape) (s : ℕ) (v : Option Value) (entering leaving : List (List ℕ)) → n ≡ m → l ≡ k → KeysFit k m s v entering leaving → KeysFit l n s v entering leaving
fits_alike m n k l s v entering leaving e f h =
    subst (λ (j : Shape). KeysFit j n s v entering leaving) (sym f) (subst (λ (j : RowMap). KeysFit k j s v entering leaving) (sym e) h)

pub on_ok : {A E : Type 0} (r : Result A E) (P Q : Type 0) → (P → Q) → OnOk r P → OnOk r Q
on_ok (Ok x) P Q f p = f p
on_ok (Err e) P Q f p = tt
