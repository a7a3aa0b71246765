-- The records of an element as the values that it tells, and what a master reads in them.
use Rattle.std.proofs.Common.{◌≡◌, ℕ, pos, suc, ◌/◌, ◌%◌, ◌^◌, ◌<◌, ◌≤◌, ◌==◌, ◌&&◌, ◌||◌, not, nat_lt, Bool, true, false, if◌then◌else◌, List, [], ◌∷◌, length, map, bytes_eq, Option, Some, None, option_map, option_and_then, refl, sym, ap, ap₂, ◌∙◌, arith}
use Rattle.std.proofs.lemmas.List.{length-map}
use Rattle.std.proofs.lemmas.Slice.Eq.{bytes_eq-Decides}
use Rattle.std.specs.List.{AllByRecursion, filter, list_any}
use Rattle.fc_asks.specs.Holdings as holdings
use Rattle.fc_asks.specs.Holdings.{entry_by, entry_in, entry_layer, fields_entry, held_from, held_in, held_layer, held_only, ids_from, ids_in, ids_layer, next_id, word_in, word_layer}
use Rattle.fc_base.specs.Ids.{Txn}
use Rattle.fc_element.specs.ElementState.{state_number, told_txn}
use Rattle.fc_lfbs.specs.Kinds.{transaction_key, transaction_type, transactions_type}
use Rattle.fc_lfbs.specs.LiveValues as live
use Rattle.fc_lfbs.specs.LiveValues.{numbered, table, transaction}
use Rattle.fc_protocol.proofs.Basics.{same_of, same_true}
use Rattle.fc_protocol.specs.ElementMachine.{is_element, rises_above}
use Rattle.fc_protocol.specs.Messages.{is_epoch, is_name, same}
use Rattle.fc_protocol.specs.OneElement.{Distinct}
use Rattle.fc_protocol.specs.Records.{entry, held, is_held, listed, state_of}
use Rattle.fc_protocol.specs.declared.answers.TxnEntry.{TxnEntry}
use Rattle.fc_protocol.specs.declared.states.TxnState.{TxnState}
use Rattle.fc_protocol.specs.declared.states.TxnState.TheVariants.{Started, Prepared, Completed, Aborted}
use Rattle.fc_types.specs.Ids.{is_distinct}
use Rattle.fc_types.specs.Types.{fields_of}
use Rattle.fc_types.specs.declared.ty.Field.{Field}
use Rattle.fc_value.specs.Fits.{Fits, FitsIn}
use Rattle.fc_value.specs.Keys.{key_value, key_values, keys_differ}
use Rattle.fc_value.specs.declared.value.Value.{Value}
use Rattle.fc_wire.specs.Bytes.{u32_at}
use Rattle.fc_querying.specs.Asking.{IsTold, IsTxn}
use Rattle.fc_querying.proofs.Values.{IsSmall, fields_are, key_written, named, out_group, out_number, out_table, table_fits, transaction_fits}

pub and_left : (a b : Bool) → (a && b) ≡ true → a ≡ true
and_left true b h = refl
and_left false b h = cc

pub and_right : (a b : Bool) → (a && b) ≡ true → b ≡ true
and_right true b h = h
and_right false b h = cc

pub less : (m n : ℕ) → nat_lt m n ≡ true → m < n
less m n h = grind (arith, h)

below : (m n : ℕ) → m < n → nat_lt m n ≡ true
below m n h = grind (arith, h)

-- ---- numbers of 32 bits

pub epoch_small : (x : Txn) → is_name x ≡ true → x.epoch < 2 ^ 32
epoch_small x h =
    let e : is_epoch x.epoch ≡ true = and_left (is_epoch x.epoch) (not (x.number == 0)) h in
    let f = and_right (not (x.epoch / 256 == 0)) (not (x.epoch % 256 == 0) && nat_lt x.epoch (2 ^ 32)) e in
    less x.epoch (2 ^ 32) (and_right (not (x.epoch % 256 == 0)) (nat_lt x.epoch (2 ^ 32)) f)

element_small : (n p : ℕ) → (nat_lt n p && is_element p) ≡ true → p < 2 ^ 30
element_small n p h = less p (2 ^ 30) (and_right (nat_lt 0 p) (nat_lt p (2 ^ 30)) (and_right (nat_lt n p) (is_element p) h))

wider : (p : ℕ) → p < 2 ^ 30 → p < 2 ^ 32
wider p h = omega (arith, h)

pub elements_small : (n : ℕ) (ps : List ℕ) → rises_above n ps ≡ true → AllByRecursion (λ (p : ℕ). p < 2 ^ 32) ps
elements_small n [] h = tt
elements_small n (p ∷ ps) h =
    (wider p (element_small n p (and_left (nat_lt n p && is_element p) (rises_above p ps) h)), elements_small p ps (and_right (nat_lt n p && is_element p) (rises_above p ps) h))

state_small : (s : TxnState) → state_number s < 2 ^ 32
state_small Started = omega arith
state_small Prepared = omega arith
state_small Completed = omega arith
state_small Aborted = omega arith

pub told_small : (n : TxnEntry) → IsTold n → IsSmall (told_txn n)
told_small n t = record {
  epoch = epoch_small n.txn t.txn.name;
  number = t.txn.number;
  state = state_small n.state;
  participants = elements_small 0 n.participants t.rising;
  few = t.few;
}

-- ---- the records as values

abbrev pub row : TxnEntry → Value
row n = transaction (told_txn n)

abbrev pub rows : List TxnEntry → List Value
rows ns = map row ns

held_row : (n : TxnEntry) → live.is_held (told_txn n) ≡ is_held n.state
held_row n = by n.state
  where
    by : (s : TxnState) → ((state_number s == 1) || (state_number s == 2)) ≡ is_held s
    by Started = refl
    by Prepared = refl
    by Completed = refl
    by Aborted = refl

rows_if : (b : Bool) (n : TxnEntry) (ns : List TxnEntry) (xs : List live.Txn) → map transaction xs ≡ rows (held ns) → map transaction (if b then told_txn n ∷ xs else xs) ≡ rows (if b then n ∷ held ns else held ns)
rows_if true n ns xs e = ap (λ (vs : List Value). row n ∷ vs) e
rows_if false n ns xs e = e

pub held_rows : (ns : List TxnEntry) → map transaction (filter live.is_held (map told_txn ns)) ≡ rows (held ns)
held_rows [] = refl
held_rows (n ∷ ns) =
    ap (λ (b : Bool). map transaction (if b then told_txn n ∷ filter live.is_held (map told_txn ns) else filter live.is_held (map told_txn ns))) (held_row n)
    ∙ rows_if (is_held n.state) n ns (filter live.is_held (map told_txn ns)) (held_rows ns)

pub all_rows : (ns : List TxnEntry) → map transaction (map told_txn ns) ≡ rows ns
all_rows [] = refl
all_rows (n ∷ ns) = ap (λ (vs : List Value). row n ∷ vs) (all_rows ns)

-- ---- their keys differ

abbrev pub name_of : Txn → List ℕ
name_of x = named x.epoch x.number

pub front_at : (a b : ℕ) → a < 2 ^ 32 → u32_at (named a b) 0 ≡ a
front_at a b h = omega (arith, h)

pub back_at : (a b : ℕ) → b < 2 ^ 32 → u32_at (named a b) 4 ≡ b
back_at a b h = omega (arith, h)

pub name_is : (x y : Txn) → IsTxn x → IsTxn y → name_of x ≡ name_of y → x ≡ y
name_is x y s t e =
    let a : x.epoch ≡ y.epoch = sym (front_at x.epoch x.number (epoch_small x s.name)) ∙ ap (λ (bs : List ℕ). u32_at bs 0) e ∙ front_at y.epoch y.number (epoch_small y t.name) in
    let b : x.number ≡ y.number = sym (back_at x.epoch x.number s.number) ∙ ap (λ (bs : List ℕ). u32_at bs 4) e ∙ back_at y.epoch y.number t.number in
    (λ i. record { epoch = a i; number = b i })

told_apart : (p q : List ℕ) (b : Bool) → (p ≡ q → b ≡ true) → (b ≡ true → p ≡ q) → bytes_eq p q ≡ b
told_apart p q b f g = by (bytes_eq p q) b refl refl
  where
    by : (a c : Bool) → bytes_eq p q ≡ a → b ≡ c → bytes_eq p q ≡ b
    by true true d e = d ∙ sym e
    by false false d e = d ∙ sym e
    by true false d e = absurd (let w : true ≡ false = sym (f ((bytes_eq-Decides p q).0 d)) ∙ e in cc)
    by false true d e = absurd (let w : true ≡ false = sym ((bytes_eq-Decides p q).1 (g e)) ∙ d in cc)

-- x is looked for among the keys, and the key of x among others
pub found_by : (x y : Txn) → IsTxn x → IsTxn y → bytes_eq (name_of y) (name_of x) ≡ same x y
found_by x y s t = told_apart (name_of y) (name_of x) (same x y) (λ e. same_of x y (sym (name_is y x t s e))) (λ e. ap name_of (sym (same_true x y e)))

met_by : (x y : Txn) → IsTxn x → IsTxn y → bytes_eq (name_of x) (name_of y) ≡ same x y
met_by x y s t = told_apart (name_of x) (name_of y) (same x y) (λ e. same_of x y (name_is x y s t e)) (λ e. ap name_of (same_true x y e))

abbrev names : List TxnEntry → List (List ℕ)
names ns = map (λ (n : TxnEntry). name_of n.txn) ns

none_if : (b : Bool) (s : TxnState) (o : Option TxnState) → (if b then Some s else o) ≡ None → (b ≡ false) × (o ≡ None)
none_if true s o h = absurd (cc)
none_if false s o h = (refl, h)

unmet : (x : Txn) (ns : List TxnEntry) → IsTxn x → AllByRecursion IsTold ns → state_of x ns ≡ None → list_any (bytes_eq (name_of x)) (names ns) ≡ false
unmet x [] s all h = refl
unmet x (n ∷ ns) s all h =
    let other = none_if (same x n.txn) n.state (state_of x ns) h in
    ap (λ (b : Bool). b || list_any (bytes_eq (name_of x)) (names ns)) (met_by x n.txn s all.0.txn ∙ other.0) ∙ unmet x ns s all.1 other.1

names_differ : (ns : List TxnEntry) → AllByRecursion IsTold ns → Distinct ns → is_distinct bytes_eq (names ns) ≡ true
names_differ [] all d = refl
names_differ (n ∷ ns) all d = ap (λ (b : Bool). not b && is_distinct bytes_eq (names ns)) (unmet n.txn ns all.0.txn all.1 d.0) ∙ names_differ ns all.1 d.1

pub key_is : (n : TxnEntry) → IsTold n → key_value (fields_of transaction_type) transaction_key (row n) ≡ name_of n.txn
key_is n t = ap (λ (fields : List Field). key_value fields transaction_key (row n)) fields_are ∙ key_written (told_txn n) (told_small n t)

keys_are : (i : ℕ) (ns : List TxnEntry) → AllByRecursion IsTold ns → key_values (fields_of transaction_type) transaction_key (numbered i (rows ns)) ≡ names ns
keys_are i [] all = refl
keys_are i (n ∷ ns) all = ap₂ (λ (k : List ℕ) (ks : List (List ℕ)). k ∷ ks) (key_is n all.0) (keys_are (suc i) ns all.1)

pub rows_differ : (ns : List TxnEntry) → AllByRecursion IsTold ns → Distinct ns → keys_differ (fields_of transaction_type) (transaction_key ∷ []) (numbered 1 (rows ns)) ≡ true
rows_differ ns all d = ap (λ (b : Bool). b && true) (ap (is_distinct bytes_eq) (keys_are 1 ns all) ∙ names_differ ns all d)

rows_fit : (d : ℕ) (ns : List TxnEntry) → AllByRecursion IsTold ns → AllByRecursion (FitsIn (suc (suc (suc d))) transaction_type) (rows ns)
rows_fit d [] all = tt
rows_fit d (n ∷ ns) all = (transaction_fits d (told_txn n) (told_small n all.0), rows_fit d ns all.1)

pub table_is : (ns : List TxnEntry) → AllByRecursion IsTold ns → Distinct ns → length ns ≤ 4096 → Fits transactions_type (table (rows ns))
table_is ns all d few = table_fits 7 transaction_type 4096 (transaction_key ∷ []) (rows ns) (omega arith) (omega (arith, length-map ns row, few)) (rows_differ ns all d) (rows_fit 4 ns all)

-- ---- what is held is told of as all records are

held_all_if : (b : Bool) (n : TxnEntry) (ns : List TxnEntry) → IsTold n → AllByRecursion IsTold ns → AllByRecursion IsTold (if b then n ∷ ns else ns)
held_all_if true n ns one all = (one, all)
held_all_if false n ns one all = all

pub held_all : (ns : List TxnEntry) → AllByRecursion IsTold ns → AllByRecursion IsTold (held ns)
held_all [] all = tt
held_all (n ∷ ns) all = held_all_if (is_held n.state) n (held ns) all.0 (held_all ns all.1)

held_none_if : (x : Txn) (b : Bool) (n : TxnEntry) (ns : List TxnEntry) → same x n.txn ≡ false → state_of x ns ≡ None → state_of x (if b then n ∷ ns else ns) ≡ None
held_none_if x true n ns e h = ap (λ (b : Bool). if b then Some n.state else state_of x ns) e ∙ h
held_none_if x false n ns e h = h

held_none : (x : Txn) (ns : List TxnEntry) → state_of x ns ≡ None → state_of x (held ns) ≡ None
held_none x [] h = refl
held_none x (n ∷ ns) h = let other = none_if (same x n.txn) n.state (state_of x ns) h in held_none_if x (is_held n.state) n (held ns) other.0 (held_none x ns other.1)

held_distinct_if : (b : Bool) (n : TxnEntry) (ns : List TxnEntry) → state_of n.txn ns ≡ None → Distinct ns → Distinct (if b then n ∷ ns else ns)
held_distinct_if true n ns one d = (one, d)
held_distinct_if false n ns one d = d

pub held_distinct : (ns : List TxnEntry) → Distinct ns → Distinct (held ns)
held_distinct [] d = tt
held_distinct (n ∷ ns) d = held_distinct_if (is_held n.state) n (held ns) (held_none n.txn ns d.0) (held_distinct ns d.1)

-- ---- what a master reads in a record

word_read : (n : ℕ) → n < 2 ^ 32 → word_in (live.word n) ≡ Some n
word_read n h = ap word_layer (out_number (pos n)) ∙ ap (λ (b : Bool). if b then Some n else None) (below n (2 ^ 32) h)

ids_read_from : (last i : ℕ) (ps : List ℕ) → rises_above last ps ≡ true → ids_from last (numbered i (map live.word ps)) ≡ Some ps
ids_read_from last i [] h = refl
ids_read_from last i (p ∷ ps) h =
    let step = and_left (nat_lt last p && is_element p) (rises_above p ps) h in
    let rest = and_right (nat_lt last p && is_element p) (rises_above p ps) h in
    let up : nat_lt last p ≡ true = and_left (nat_lt last p) (is_element p) step in
    let top : nat_lt p (2 ^ 30) ≡ true = and_right (nat_lt 0 p) (nat_lt p (2 ^ 30)) (and_right (nat_lt last p) (is_element p) step) in
    let next : next_id last (word_in (live.word p)) ≡ Some p =
    ap (next_id last) (word_read p (wider p (element_small last p step))) ∙ ap₂ (λ (a b : Bool). if a && b then Some p else None) up top in
    ap (option_and_then (λ n. option_map (λ ns. n ∷ ns) (ids_from n (numbered (suc i) (map live.word ps))))) next
    ∙ ap (option_map (λ ns. p ∷ ns)) (ids_read_from p (suc i) ps rest)

ids_read : (ps : List ℕ) → rises_above 0 ps ≡ true → ids_in (table (map live.word ps)) ≡ Some ps
ids_read ps h = ap ids_layer (out_table (numbered 1 (map live.word ps))) ∙ ids_read_from 0 1 ps h

state_read : (s : TxnState) → holdings.state_of (state_number s) ≡ Some s
state_read Started = refl
state_read Prepared = refl
state_read Completed = refl
state_read Aborted = refl

-- a record as a controller is told it
abbrev pub told : TxnEntry → TxnEntry
told n = entry n.txn n.participants [] n.state

pub row_read : (n : TxnEntry) → IsTold n → entry_in (row n) ≡ Some (told n)
row_read n t =
    let s = told_small n t in
    ap entry_layer (out_group (live.word n.txn.epoch ∷ live.word n.txn.number ∷ live.word (state_number n.state) ∷ table (map live.word n.participants) ∷ []))
    ∙ (λ i. entry_by (word_read n.txn.epoch s.epoch i) (word_read n.txn.number s.number i) (word_read (state_number n.state) s.state i) (ids_read n.participants t.rising i))
    ∙ ap (holdings.entry_if n.txn n.participants) (state_read n.state)
    ∙ ap (λ (b : Bool). if b then Some (told n) else None) t.txn.name

only_held : (n : TxnEntry) → is_held n.state ≡ true → held_only (Some (told n)) ≡ Some (told n)
only_held n h = by n.state h
  where
    by : (s : TxnState) → is_held s ≡ true → (if holdings.is_held s then Some (told n) else None) ≡ Some (told n)
    by Started e = refl
    by Prepared e = refl
    by Completed e = absurd (cc)
    by Aborted e = absurd (cc)

pub listed_read : (i : ℕ) (ns : List TxnEntry) → AllByRecursion IsTold ns → held_from (numbered i (rows (held ns))) ≡ Some (listed ns)
listed_read i [] all = refl
listed_read i (n ∷ ns) all = by (is_held n.state) refl i (listed_read i ns all.1) (listed_read (suc i) ns all.1)
  where
    by : (b : Bool) → is_held n.state ≡ b → (j : ℕ) → held_from (numbered j (rows (held ns))) ≡ Some (listed ns) → held_from (numbered (suc j) (rows (held ns))) ≡ Some (listed ns)
        → held_from (numbered j (rows (if b then n ∷ held ns else held ns))) ≡ Some (if b then told n ∷ listed ns else listed ns)
    by true e j here next =
        ap (λ (o : Option TxnEntry). option_and_then (λ n. option_map (λ ns. n ∷ ns) (held_from (numbered (suc j) (rows (held ns))))) (held_only o)) (row_read n all.0)
        ∙ ap (λ (o : Option TxnEntry). option_and_then (λ n. option_map (λ ns. n ∷ ns) (held_from (numbered (suc j) (rows (held ns))))) o) (only_held n e)
        ∙ ap (option_map (λ (ns : List TxnEntry). told n ∷ ns)) next
    by false e j here next = here

pub table_read : (ns : List TxnEntry) → AllByRecursion IsTold ns → held_in (table (rows (held ns))) ≡ Some (listed ns)
table_read ns all = ap held_layer (out_table (numbered 1 (rows (held ns)))) ∙ listed_read 1 ns all
