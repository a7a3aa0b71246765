-- The look-up of a record by its transaction finds it, or tells that there is none.
use Rattle.std.proofs.Common.{◌≡◌, ℕ, zero, suc, Bool, true, false, cond, if◌then◌else◌, List, [], ◌∷◌, ◌++◌, position, slice_get, bytes_eq, Option, Some, None, option_map, Result, Ok, Err, codes, refl, sym, ap, ap₂, ◌∙◌, subst}
use Rattle.std.specs.List.{AllByRecursion}
use Rattle.fc_base.specs.Answers.{◌>>=◌}
use Rattle.fc_base.specs.Ids.{Txn}
use Rattle.fc_cells.proofs.Finds.{position_step}
use Rattle.fc_lfbs.specs.Kinds as kinds
use Rattle.fc_lfbs.specs.Kinds.{field, subject_type, transaction_key, transaction_type, transactions_type}
use Rattle.fc_lfbs.specs.LiveValues as live
use Rattle.fc_lfbs.specs.LiveValues.{numbered, table}
use Rattle.fc_path.specs.declared.oper.Step.{Step}
use Rattle.fc_path.specs.declared.oper.Step.TheVariants as step
use Rattle.fc_protocol.specs.Messages.{same}
use Rattle.fc_protocol.specs.Records.{state_of}
use Rattle.fc_protocol.specs.declared.answers.TxnEntry.{TxnEntry}
use Rattle.fc_protocol.specs.declared.states.TxnState.{TxnState}
use Rattle.fc_tree.specs.Finding.{entries_layer, entries_of, gone_on, key_in, not_found, or_code, paired, part_at, part_layer, place_in, place_layer, stepped, walked, with_key}
use Rattle.fc_types.specs.Types.{fields_of}
use Rattle.fc_types.specs.declared.ty.Field.{Field}
use Rattle.fc_types.specs.declared.ty.Ty.{Ty}
use Rattle.fc_types.specs.declared.ty.Ty.TheViews.{out-Ty}
use Rattle.fc_value.proofs.Complete.{full_read}
use Rattle.fc_value.proofs.Written.{full_canon, write_layer, written_law}
use Rattle.fc_value.specs.Fits.{Fits, FitsIn, FitsLayer}
use Rattle.fc_value.specs.Keys.{key_value}
use Rattle.fc_value.specs.Nodes.{child_layer}
use Rattle.fc_value.specs.Reading.{full_in}
use Rattle.fc_value.specs.Writing.{full_bytes, full_layer, group_layer, inside_bytes}
use Rattle.fc_value.specs.declared.value.Value.{Value}
use Rattle.fc_value.specs.declared.value.Value.TheVariants as value
use Rattle.fc_querying.specs.Asking.{IsTold, IsTxn}
use Rattle.fc_querying.proofs.Records.{epoch_small, found_by, key_is, name_of, row, rows}
use Rattle.fc_querying.proofs.Values.{fields_are, out_array, out_group, out_struct, out_table, subject_sound, transaction_fields, word_fits, word_written}

-- ---- the bytes of a transaction as the value of the key

abbrev subject_fields : List Field
subject_fields = field 1 (codes "epoch") kinds.word ∷ field 2 (codes "number") kinds.word ∷ []

abbrev subject : Txn → Value
subject x = value.Group (live.word x.epoch ∷ live.word x.number ∷ [])

subject_fits : (x : Txn) → IsTxn x → Fits subject_type (subject x)
subject_fits x s =
    subst (λ l. FitsLayer (FitsIn 7) l (subject x)) (sym (out_struct subject_fields))
    (live.word x.epoch ∷ live.word x.number ∷ [], refl, (word_fits 6 x.epoch (epoch_small x s.name), (word_fits 6 x.number s.number, tt)))

subject_written : (x : Txn) → IsTxn x → full_bytes subject_type (subject x) ≡ name_of x
subject_written x s =
    ap (λ l. full_layer l subject_type (subject x)) (out_struct subject_fields)
    ∙ written_law subject_type (subject x) ∙ ap (λ l. write_layer l (subject x)) (out_struct subject_fields)
    ∙ ap (group_layer (inside_bytes kinds.word ∷ inside_bytes kinds.word ∷ [])) (out_group (live.word x.epoch ∷ live.word x.number ∷ []))
    ∙ (λ i. word_written x.epoch (epoch_small x s.name) i ++ (word_written x.number s.number i ++ []))

subject_read : (x : Txn) → IsTxn x → full_in subject_type (name_of x) ≡ Ok (subject x)
subject_read x s =
    ap (full_in subject_type) (sym (subject_written x s))
    ∙ full_read subject_type (subject x) (full_bytes subject_type (subject x)) (full_canon subject_type (subject x) subject_sound (subject_fits x s))

key_given : (x : Txn) → IsTxn x → key_in transaction_fields (1 ∷ 2 ∷ []) (name_of x) ≡ Ok (name_of x)
unfolding key_in
key_given x s = ap (λ r. r >>= λ v. Ok (full_bytes subject_type v)) (subject_read x s) ∙ ap Ok (subject_written x s)

-- ---- the place of the record

abbrev is_of : Txn → ℕ × Value → Bool
is_of x e = bytes_eq (key_value (fields_of transaction_type) transaction_key e.1) (name_of x)

abbrev place_of : Txn → ℕ → List TxnEntry → Option ℕ
place_of x i ns = position (is_of x) (numbered i (rows ns))

first_is : (x : Txn) (i : ℕ) (n : TxnEntry) → IsTxn x → IsTold n → is_of x (i, row n) ≡ same x n.txn
first_is x i n s t = ap (λ (k : List ℕ). bytes_eq k (name_of x)) (key_is n t) ∙ found_by x n.txn s t.txn

place_step : (x : Txn) (i : ℕ) (n : TxnEntry) (ns : List TxnEntry) → IsTxn x → IsTold n → place_of x i (n ∷ ns) ≡ cond (same x n.txn) (Some zero) (option_map suc (place_of x (suc i) ns))
place_step x i n ns s t =
    position_step (is_of x) (i, row n) (numbered (suc i) (rows ns)) ∙ ap (λ (b : Bool). cond b (Some zero) (option_map suc (place_of x (suc i) ns))) (first_is x i n s t)

-- where the record of x stands, and that it has this state
pub record Stands (x : Txn) (i : ℕ) (ns : List TxnEntry) (s : TxnState) : Type 0 where
  pub place : ℕ
  pub subscript : ℕ
  pub entry : TxnEntry
  pub found : position (λ e. bytes_eq (key_value (fields_of transaction_type) transaction_key e.1) (name_of x)) (numbered i (rows ns)) ≡ Some place
  pub there : slice_get (numbered i (rows ns)) place ≡ Some (subscript, row entry)
  pub told : IsTold entry
  pub state : entry.state ≡ s

pub stands : (x : Txn) (i : ℕ) (ns : List TxnEntry) (s : TxnState) → IsTxn x → AllByRecursion IsTold ns → state_of x ns ≡ Some s → Stands x i ns s
stands x i [] s is all e = absurd (cc)
stands x i (n ∷ ns) s is all e = by (same x n.txn) refl e (λ h. stands x (suc i) ns s is all.1 h)
  where
    by : (b : Bool) → same x n.txn ≡ b → (if b then Some n.state else state_of x ns) ≡ Some s → (state_of x ns ≡ Some s → Stands x (suc i) ns s) → Stands x i (n ∷ ns) s
    by true k h more = record {
      place = 0;
      subscript = i;
      entry = n;
      found = place_step x i n ns is all.0 ∙ ap (λ (b : Bool). cond b (Some zero) (option_map suc (place_of x (suc i) ns))) k;
      there = refl;
      told = all.0;
      state = (let same : Some n.state ≡ Some s = h in cc);
    }
    by false k h more =
        let m = more h in record {
          place = suc m.place;
          subscript = m.subscript;
          entry = m.entry;
          found = place_step x i n ns is all.0 ∙ ap (λ (b : Bool). cond b (Some zero) (option_map suc (place_of x (suc i) ns))) k ∙ ap (option_map suc) m.found;
          there = m.there;
          told = m.told;
          state = m.state;
        }

nowhere : (x : Txn) (i : ℕ) (ns : List TxnEntry) → IsTxn x → AllByRecursion IsTold ns → state_of x ns ≡ None → place_of x i ns ≡ None
nowhere x i [] is all e = refl
nowhere x i (n ∷ ns) is all e = by (same x n.txn) refl e (λ h. nowhere x (suc i) ns is all.1 h)
  where
    by : (b : Bool) → same x n.txn ≡ b → (if b then Some n.state else state_of x ns) ≡ None → (state_of x ns ≡ None → place_of x (suc i) ns ≡ None) → place_of x i (n ∷ ns) ≡ None
    by true k h more = absurd (let none : Some n.state ≡ None = h in cc)
    by false k h more = place_step x i n ns is all.0 ∙ ap (λ (b : Bool). cond b (Some zero) (option_map suc (place_of x (suc i) ns))) k ∙ ap (option_map suc) (more h)

-- ---- the look-up

abbrev pub key_step : Txn → Step
key_step x = step.Key 1 (name_of x)

place_is : (ty : Ty) (v : Value) (s : Step) → place_in ty v s ≡ place_layer (out-Ty ty) v s
unfolding place_in
place_is ty v s = refl

looked_up : (x : Txn) (ns : List TxnEntry) (o : Option ℕ) → IsTxn x → place_of x 1 ns ≡ o → place_in transactions_type (table (rows ns)) (key_step x) ≡ or_code not_found (option_map Some o)
looked_up x ns o is e =
    place_is transactions_type (table (rows ns)) (key_step x) ∙ ap (λ l. place_layer l (table (rows ns)) (key_step x)) (out_array transaction_type 4096 (transaction_key ∷ []))
    ∙ ap (λ (fields : List Field). with_key fields (entries_of (table (rows ns))) transaction_key (name_of x)) fields_are
    ∙ ap (λ (r : Result (List ℕ) ℕ). r >>= λ k. or_code not_found (option_map Some (position (λ e. bytes_eq (key_value transaction_fields transaction_key e.1) k) (entries_of (table (rows ns)))))) (key_given x is)
    ∙ ap (λ (es : List (ℕ × Value)). or_code not_found (option_map Some (position (λ e. bytes_eq (key_value transaction_fields transaction_key e.1) (name_of x)) es))) (ap entries_layer (out_table (numbered 1 (rows ns))))
    ∙ ap (λ (fields : List Field). or_code not_found (option_map Some (position (λ e. bytes_eq (key_value fields transaction_key e.1) (name_of x)) (numbered 1 (rows ns))))) (sym fields_are)
    ∙ ap (λ (p : Option ℕ). or_code not_found (option_map Some p)) e

-- the part at a place of a table
part_there : (vs : List Value) (i j : ℕ) (v : Value) → slice_get (numbered 1 vs) i ≡ Some (j, v) → part_at i transactions_type (table vs) ≡ Some (transaction_type, v)
part_there vs i j v e =
    ap₂ (λ (t : Option Ty) (c : Option Value). paired t c) (ap (part_layer i) (out_array transaction_type 4096 (transaction_key ∷ [])))
    (ap (child_layer i) (out_table (numbered 1 vs)) ∙ ap (option_map (λ (q : ℕ × Value). q.1)) e)

-- what the look-up leads to: the record of x, or that there is none
pub found_record : (x : Txn) (ns : List TxnEntry) (s : TxnState) → IsTxn x → (m : Stands x 1 ns s) → walked (key_step x ∷ []) transactions_type (table (rows ns)) ≡ Ok (transaction_type, row m.entry)
found_record x ns s is m =
    ap (λ (r : Result (Option ℕ) ℕ). r >>= stepped (walked []) transactions_type (table (rows ns))) (looked_up x ns (Some m.place) is m.found)
    ∙ ap (gone_on (walked [])) (part_there (rows ns) m.place m.subscript (row m.entry) m.there)

pub found_none : (x : Txn) (ns : List TxnEntry) → IsTxn x → AllByRecursion IsTold ns → state_of x ns ≡ None → walked (key_step x ∷ []) transactions_type (table (rows ns)) ≡ Err 11
found_none x ns is all e =
    ap (λ (r : Result (Option ℕ) ℕ). r >>= stepped (walked []) transactions_type (table (rows ns))) (looked_up x ns None is (nowhere x 1 ns is all e))
