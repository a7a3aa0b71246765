-- Lists, member by member, and what is told of records.
use Rattle.std.proofs.Common.{◌≡◌, ◌≤◌, ◌+◌, ℕ, zero, suc, ◌==◌, ◌&&◌, ◌||◌, not, cond, Bool, true, false, List, [], ◌∷◌, ◌++◌, append_assoc, length, map, drop, slice_get, Option, Some, None, refl, sym, ap, subst, ◌∙◌, arith, add-one}
use Rattle.std.proofs.lemmas.List.{length-map}
use Rattle.std.specs.List.{flat_map, list_any}
use Rattle.fc_lfbs.specs.LiveValues.{IsTold, Told, Txn, txn_id}
use Rattle.fc_base.specs.Ids as ids
use Rattle.fc_protocol.specs.Messages.{same}
use Rattle.fc_protocol.specs.OneElement.{Distinct}
use Rattle.fc_protocol.specs.Records.{state_of}
use Rattle.fc_protocol.specs.declared.answers.TxnEntry.{TxnEntry}
use Rattle.fc_protocol.specs.declared.states.TxnState.{TxnState}
use Rattle.fc_tx.specs.Whole.{AreRecords}
use Rattle.fc_types.specs.Ids.{is_distinct}
use Rattle.fc_types.specs.Libraries.{AreInstances, AreRising, same_instance}
use Rattle.fc_element.specs.ElementState.{told_one, told_txn}
use Rattle.fc_element.specs.Places.{of_some}

-- ---- a list by its places
module _ {A B : Type 0} (f : A → List B) where
  no_drop : (i : ℕ) → drop {A = A} i [] ≡ []
  no_drop zero = refl
  no_drop (suc i) = refl

  all_dropped : (xs : List A) (i : ℕ) → length xs ≤ i → drop i xs ≡ []
  all_dropped [] i h = no_drop i
  all_dropped (x ∷ xs) zero h = absurd (omega (arith, h))
  all_dropped (x ∷ xs) (suc i) h = all_dropped xs i (omega (arith, h))

  from : (xs : List A) (i : ℕ) → flat_map f (drop i xs) ≡ of_some f (slice_get xs i) ++ flat_map f (drop (suc i) xs)
  from [] i = ap (flat_map f) (no_drop i) ∙ sym (ap (flat_map f) (no_drop (suc i)))
  from (x ∷ xs) zero = refl
  from (x ∷ xs) (suc i) = from xs i

  -- one more
  pub further : (all : List B) (xs : List A) (i : ℕ) (old new : List B) → new ≡ old ++ of_some f (slice_get xs i) → old ++ flat_map f (drop i xs) ≡ all → new ++ flat_map f (drop (i + 1) xs) ≡ all
  further all xs i old new e g =
      rw add-one (ap (λ l. l ++ flat_map f (drop (suc i) xs)) e ∙ append_assoc old (of_some f (slice_get xs i)) (flat_map f (drop (suc i) xs)) ∙ sym (ap (λ l. old ++ l) (from xs i)) ∙ g)

  none_behind : (ys : List B) → ys ≡ ys ++ []
  none_behind [] = refl
  none_behind (y ∷ ys) = ap (λ l. y ∷ l) (none_behind ys)

  -- all of them
  pub whole : (all : List B) (xs : List A) (i n : ℕ) (old : List B) → n ≡ length xs → n ≤ i → old ++ flat_map f (drop i xs) ≡ all → old ≡ all
  whole all xs i n old e h g = none_behind old ∙ sym (ap (λ l. old ++ flat_map f l) (all_dropped xs i (omega (arith, e, h)))) ∙ g

-- ---- what is told of records
pub told_each : (ns : List TxnEntry) → flat_map told_one ns ≡ map told_txn ns
told_each [] = refl
told_each (n ∷ ns) = ap (λ l. told_txn n ∷ l) (told_each ns)

-- records that are told apart are told apart by what names them
abbrev name_of : TxnEntry → ℕ × ℕ
name_of n = (n.txn.epoch, n.txn.number)

not_listed : (x : TxnEntry) (ns : List TxnEntry) → state_of x.txn ns ≡ None → list_any (same_instance (name_of x)) (map txn_id (map told_txn ns)) ≡ false
not_listed x [] e = refl
not_listed x (n ∷ ns) e = by (not_listed x ns) (same x.txn n.txn) e
  where
    by : (state_of x.txn ns ≡ None → list_any (same_instance (name_of x)) (map txn_id (map told_txn ns)) ≡ false) → (b : Bool) → cond b (Some n.state) (state_of x.txn ns) ≡ None
        → (b || list_any (same_instance (name_of x)) (map txn_id (map told_txn ns))) ≡ false
    by more true f = absurd cc
    by more false f = more f

both_true : (a b : Bool) → a ≡ false → b ≡ true → (not a && b) ≡ true
both_true a b e f = cc

distinct_told : (ns : List TxnEntry) → Distinct ns → is_distinct same_instance (map txn_id (map told_txn ns)) ≡ true
distinct_told [] h = refl
distinct_told (n ∷ ns) h =
    both_true (list_any (same_instance (name_of n)) (map txn_id (map told_txn ns))) (is_distinct same_instance (map txn_id (map told_txn ns))) (not_listed n ns h.0) (distinct_told ns h.1)

-- what is told keeps its rules
pub is_told : (told : Told) (instances : List (ℕ × ℕ)) (ns : List TxnEntry) (floor : Option ids.Txn) → AreInstances instances → AreRecords ns floor → told.instances ≡ instances → told.transactions ≡ map told_txn ns → IsTold told
is_told told instances ns floor order records e f =
    record {
      rising = subst AreRising (sym e) order.rising;
      instances = omega (arith, ap length e, order.all);
      transactions = omega (arith, ap length f, length-map ns told_txn, records.few);
      distinct = ap (λ (xs : List Txn). is_distinct same_instance (map txn_id xs)) f ∙ distinct_told ns records.single;
    }
