-- A key leads to the entry that a search through all entries finds.
use Rattle.std.proofs.Common.{◌≡◌, ℕ, zero, suc, ◌<◌, ◌==◌, Bool, true, false, bytes_eq, List, [], ◌∷◌, length, slice_get, slice_index_or, position, refl, sym, ap, ◌∙◌, arith, Option, Some, None, option_and_then}
use Rattle.std.specs.List.{AllByRecursion}
use Rattle.std.specs.Ordering.{nat_cmp}
use Rattle.std.specs.FinMap.{entries, entries_sorted, find, get, get-entries}
use Rattle.std.proofs.lemmas.Map.Text.{is_eq-slice_cmp}
use Rattle.std.proofs.lemmas.Bool.Decides.{nat_tests}
use Rattle.fc_keys.proofs.Indexed.{key_is, key_own, some_is}
use Rattle.fc_tree.proofs.Positions.{position_found, position_none}
use Rattle.fc_value.specs.declared.value.Value.{Value}
use Rattle.fc_rows.specs.Columns.{Leads}
use Rattle.fc_rows.specs.Rowed.{RowMap}
use Rattle.fc_rows.proofs.Standing.{Entries, Stood, has, stood}
use Rattle.fc_rows.proofs.IndexKeys.{each_found}

at_index : {X : Type 0} (P : X → Type 0) (xs : List X) → AllByRecursion P xs → (j : ℕ) (d : X) → j < length xs → P (slice_index_or xs j d)
at_index P [] a j d lt = absurd (omega arith)
at_index P (x ∷ xs) a zero d lt = a.0
at_index P (x ∷ xs) a (suc j) d lt = at_index P xs a.1 j d (omega arith)

no_value : (s : ℕ) → None ≡ Some s → ⊥
no_value s e = cc

not_self : (s t : ℕ) → (t == s) ≡ false → s ≡ t → ⊥
not_self s t ne e = grind (arith, nat_tests)

held_there : (es : Entries) (i : ℕ) (x : ℕ × Value) → slice_get es i ≡ Some x → (d : ℕ × Value) → slice_index_or es i d ≡ x
held_there [] i x g d = cc
held_there (e ∷ es) zero x g d = cc
held_there (e ∷ es) (suc i) x g d = held_there es i x g d

module _ (key : Value → List ℕ) (k : List ℕ) where
  abbrev hits : ℕ × Value → Bool
  hits e = bytes_eq (key e.1) k

  same_key : (v : Value) → bytes_eq (key v) k ≡ true → key v ≡ k
  same_key v e = key_is (key v) k (is_eq-slice_cmp (key v) k ∙ e)

  own_key : (v : Value) → key v ≡ k → bytes_eq (key v) k ≡ true
  own_key v e = ap (bytes_eq (key v)) (sym e) ∙ sym (is_eq-slice_cmp (key v) (key v)) ∙ key_own (key v)

  -- an entry that is hit is where the key leads
  led : (m : RowMap) (o : Option ℕ) → Leads key m k o → (j : ℕ) (d : ℕ × Value) → j < length (entries m) → hits (slice_index_or (entries m) j d) ≡ true → o ≡ Some (slice_index_or (entries m) j d).0
  led m o h j d lt e =
      let x : ℕ × Value = slice_index_or (entries m) j d in
      h.all x.0 x.1 (get-entries m x.0 ∙ at_index (λ (y : ℕ × Value). find nat_cmp y.0 (entries m) ≡ Some y.1) (entries m) (each_found key (entries m) (entries_sorted m)) j d lt) (same_key x.1 e)

  missed_by : (b : Bool) (A : Type 0) → (b ≡ true → A) → (A → ⊥) → b ≡ false
  missed_by true A f g = absurd (g (f refl))
  missed_by false A f g = refl

  pub leads_by_search : (m : RowMap) (o : Option ℕ) → Leads key m k o → position hits (entries m) ≡ option_and_then (λ s. position (has s) (entries m)) o
  leads_by_search m None h =
      position_none hits (entries m) (λ j d p q. missed_by (hits (slice_index_or (entries m) j d)) (None ≡ Some (slice_index_or (entries m) j d).0) (led m None h j d q) (no_value (slice_index_or (entries m) j d).0))
  leads_by_search m (Some s) h =
      let f : (v : Value) × (get m s ≡ Some v) × (key v ≡ k) = h.found s refl in
      let at : Stood s (entries m) f.0 = stood s (entries m) f.0 (sym (get-entries m s) ∙ f.1) in
      position_found hits (entries m) at.place at.within
      (λ j d p q. missed_by (hits (slice_index_or (entries m) j d)) (s ≡ (slice_index_or (entries m) j d).0)
      (λ e. some_is s (slice_index_or (entries m) j d).0 (led m (Some s) h j d (let w : at.place < length (entries m) = at.within in omega arith) e))
      (not_self s (slice_index_or (entries m) j d).0 (at.before j d p q)))
      (λ d. ap hits (held_there (entries m) at.place at.entry at.got d) ∙ own_key at.entry.1 (ap key at.is ∙ f.2))
      ∙ sym (position_found (has s) (entries m) at.place at.within at.before at.here)
