-- Transactions of which no two have one epoch and number differ in the key of their records.
use Rattle.std.proofs.Common.{◌≡◌, ◌<◌, ◌==◌, ℕ, pos, ◌+◌, ◌^◌, ◌%◌, ◌/◌, suc, Bool, true, false, not, ◌&&◌, cond, List, [], ◌∷◌, ◌++◌, length, map, codes, bytes_eq, refl, sym, ap, ap₂, subst, ◌∙◌, arith, Some, Option}
use Rattle.std.specs.List.{AllByRecursion, filter, list_any}
use Rattle.std.proofs.lemmas.Bool.Decides.{nat_tests}
use Rattle.std.proofs.lemmas.Slice.Eq.{bytes_eq-Decides}
use Rattle.fc_types.specs.Ids.{is_distinct}
use Rattle.fc_types.specs.Libraries.{same_instance}
use Rattle.fc_types.specs.Types.{fields_of, fields_layer}
use Rattle.fc_types.specs.declared.ty.Field.{Field}
use Rattle.fc_types.specs.declared.ty.Ty.{Ty}
use Rattle.fc_types.specs.declared.ty.Ty.TheOpen.{Ty-F}
use Rattle.fc_value.specs.Keys.{field_with, key_layer, key_value, key_values, keys_differ, some_bytes}
use Rattle.fc_value.specs.Numbers.{digits}
use Rattle.fc_value.specs.Writing.{inside_bytes, number_layer}
use Rattle.fc_value.specs.declared.value.Value.{Value, out-Value}
use Rattle.fc_value.specs.declared.value.Value.TheOpen.{Value-F}
use Rattle.fc_value.specs.declared.value.Value.TheVariants as value
use Rattle.fc_value.proofs.Conditions.{both, neither}
use Rattle.fc_value.proofs.Digits.{digits_4}
use Rattle.fc_value.proofs.Written.{truth_out, written_law, write_layer}
use Rattle.fc_lfbs.specs.Kinds as kinds
use Rattle.fc_lfbs.specs.LiveValues.{Txn, is_held, numbered, table, transaction, txn_id, word}
use Rattle.fc_opening.specs.TellsWords.{IsPacked, IsWord}
use Rattle.fc_opening.proofs.Shapes.{number_out, struct_out}

-- ---- the key of a record
written_word : (n : ℕ) → inside_bytes kinds.word (word n) ≡ digits 4 (n % 2 ^ 64)
written_word n =
    written_law kinds.word (word n) ∙ ap (λ l. write_layer l (word n)) (number_out 4 false (pos 0) (pos 4294967295))
    ∙ ap (number_layer 4) (truth_out (word n) (Value-F.Number (pos n)) (sym (value.rolls-Number (pos n))))

-- the fields of a record, and what stands in them
abbrev listed : List Field
listed = kinds.field 1 (codes "epoch") kinds.word ∷ kinds.field 2 (codes "number") kinds.word ∷ kinds.field 3 (codes "state") kinds.word ∷ kinds.field 4 (codes "participants") (kinds.words 64) ∷ []

abbrev fields : List Field
fields = fields_of kinds.transaction_type

abbrev parts : Txn → List Value
parts x = word x.epoch ∷ word x.number ∷ word x.state ∷ table (map word x.participants) ∷ []

abbrev pub key : Txn → List ℕ
key x = key_value fields kinds.transaction_key (transaction x)

key_out : (x : Txn) → key x ≡ some_bytes inside_bytes (field_with fields (parts x) 1) ++ (some_bytes inside_bytes (field_with fields (parts x) 2) ++ [])
unfolding key_value
key_out x = ap (key_layer fields (1 ∷ 2 ∷ [])) (truth_out (transaction x) (Value-F.Group (parts x)) (sym (value.rolls-Group (parts x))))

first_is : (x : Txn) → some_bytes inside_bytes (field_with fields (parts x) 1) ≡ digits 4 (x.epoch % 2 ^ 64)
first_is x = ap (λ (l : Ty-F Ty Field). some_bytes inside_bytes (field_with (fields_layer l) (parts x) 1)) (struct_out listed) ∙ written_word x.epoch

second_is : (x : Txn) → some_bytes inside_bytes (field_with fields (parts x) 2) ≡ digits 4 (x.number % 2 ^ 64)
second_is x = ap (λ (l : Ty-F Ty Field). some_bytes inside_bytes (field_with (fields_layer l) (parts x) 2)) (struct_out listed) ∙ written_word x.number

-- its eight bytes
abbrev eight : ℕ → ℕ → List ℕ
eight m n = (m / 16777216 % 256 ∷ m / 65536 % 256 ∷ m / 256 % 256 ∷ m % 256 ∷ []) ++ ((n / 16777216 % 256 ∷ n / 65536 % 256 ∷ n / 256 % 256 ∷ n % 256 ∷ []) ++ [])

key_is : (x : Txn) → key x ≡ eight (x.epoch % 2 ^ 64) (x.number % 2 ^ 64)
key_is x = key_out x ∙ ap₂ (λ a b. a ++ (b ++ [])) (first_is x ∙ digits_4 (x.epoch % 2 ^ 64)) (second_is x ∙ digits_4 (x.number % 2 ^ 64))

word_again : (m n : ℕ) → m < 2 ^ 32 → n < 2 ^ 32 → m % 2 ^ 64 / 16777216 % 256 ≡ n % 2 ^ 64 / 16777216 % 256 → m % 2 ^ 64 / 65536 % 256 ≡ n % 2 ^ 64 / 65536 % 256
    → m % 2 ^ 64 / 256 % 256 ≡ n % 2 ^ 64 / 256 % 256 → m % 2 ^ 64 % 256 ≡ n % 2 ^ 64 % 256 → m ≡ n
word_again m n h k a b c d = omega (arith, h, k, a, b, c, d)

head_same : (a b : ℕ) (xs ys : List ℕ) → a ∷ xs ≡ b ∷ ys → (a ≡ b) × (xs ≡ ys)
head_same a b xs ys e = (cc, cc)

key_again : (x y : Txn) → IsPacked x → IsPacked y → key x ≡ key y → same_instance (txn_id x) (txn_id y) ≡ true
key_again x y p q e =
    let a = head_same _ _ _ _ (sym (key_is x) ∙ e ∙ key_is y) in
    let b = head_same _ _ _ _ a.1 in
    let c = head_same _ _ _ _ b.1 in
    let d = head_same _ _ _ _ c.1 in
    let f = head_same _ _ _ _ d.1 in
    let g = head_same _ _ _ _ f.1 in
    let h = head_same _ _ _ _ g.1 in
    let i = head_same _ _ _ _ h.1 in
    let m : x.epoch ≡ y.epoch = word_again x.epoch y.epoch p.epoch q.epoch a.0 b.0 c.0 d.0 in
    let n : x.number ≡ y.number = word_again x.number y.number p.number q.number f.0 g.0 h.0 i.0 in
    grind (arith, nat_tests, m, n)

-- ---- keys that differ
true_false : (b : Bool) → b ≡ true → b ≡ false → ⊥
true_false b e f = cc

apart_by : (x y : Txn) → IsPacked x → IsPacked y → same_instance (txn_id x) (txn_id y) ≡ false → (b : Bool) → bytes_eq (key x) (key y) ≡ b → b ≡ false
apart_by x y p q h false e = refl
apart_by x y p q h true e = absurd (true_false (same_instance (txn_id x) (txn_id y)) (key_again x y p q ((bytes_eq-Decides (key x) (key y)).0 e)) h)

was_false : (a : Bool) → not a ≡ true → a ≡ false
was_false true e = cc
was_false false e = refl

none_same : (x : Txn) (xs : List Txn) → IsPacked x → AllByRecursion IsPacked xs → list_any (same_instance (txn_id x)) (map txn_id xs) ≡ false → list_any (bytes_eq (key x)) (map key xs) ≡ false
none_same x [] p a e = refl
none_same x (y ∷ xs) p a e =
    let h : (same_instance (txn_id x) (txn_id y) ≡ false) × (list_any (same_instance (txn_id x)) (map txn_id xs) ≡ false) = neither _ _ e in
    rw (apart_by x y p a.0 h.0 (bytes_eq (key x) (key y)) refl) (none_same x xs p a.1 h.1)

distinct_keys : (xs : List Txn) → AllByRecursion IsPacked xs → is_distinct same_instance (map txn_id xs) ≡ true → is_distinct bytes_eq (map key xs) ≡ true
distinct_keys [] a e = refl
distinct_keys (x ∷ xs) a e =
    let h : (not (list_any (same_instance (txn_id x)) (map txn_id xs)) ≡ true) × (is_distinct same_instance (map txn_id xs) ≡ true) = both _ _ e in
    rw (none_same x xs a.0 a.1 (was_false _ h.0)) (distinct_keys xs a.1 h.1)

values_are : (n : ℕ) (xs : List Txn) → key_values fields kinds.transaction_key (numbered n (map transaction xs)) ≡ map key xs
values_are n [] = refl
values_are n (x ∷ xs) = ap (λ ks. key x ∷ ks) (values_are (suc n) xs)

pub records_differ : (xs : List Txn) → AllByRecursion IsPacked xs → is_distinct same_instance (map txn_id xs) ≡ true
    → keys_differ (fields_of kinds.transaction_type) (kinds.transaction_key ∷ []) (numbered 1 (map transaction xs)) ≡ true
records_differ xs a e = rw (ap (is_distinct bytes_eq) (values_are 1 xs) ∙ distinct_keys xs a e) refl

-- ---- those that are held
none_held : (q : ℕ × ℕ → Bool) (xs : List Txn) → list_any q (map txn_id xs) ≡ false → list_any q (map txn_id (filter is_held xs)) ≡ false
none_held q [] e = refl
none_held q (x ∷ xs) e =
    let h : (q (txn_id x) ≡ false) × (list_any q (map txn_id xs) ≡ false) = neither _ _ e in
    by h.0 (none_held q xs h.1) (is_held x)
  where
    by : q (txn_id x) ≡ false → list_any q (map txn_id (filter is_held xs)) ≡ false → (b : Bool) → list_any q (map txn_id (cond b (x ∷ filter is_held xs) (filter is_held xs))) ≡ false
    by f more true = rw f more
    by f more false = more

pub held_distinct : (xs : List Txn) → is_distinct same_instance (map txn_id xs) ≡ true → is_distinct same_instance (map txn_id (filter is_held xs)) ≡ true
held_distinct [] e = refl
held_distinct (x ∷ xs) e =
    let h : (not (list_any (same_instance (txn_id x)) (map txn_id xs)) ≡ true) × (is_distinct same_instance (map txn_id xs) ≡ true) = both _ _ e in
    by (none_held (same_instance (txn_id x)) xs (was_false _ h.0)) (held_distinct xs h.1) (is_held x)
  where
    by : list_any (same_instance (txn_id x)) (map txn_id (filter is_held xs)) ≡ false → is_distinct same_instance (map txn_id (filter is_held xs)) ≡ true → (b : Bool)
        → is_distinct same_instance (map txn_id (cond b (x ∷ filter is_held xs) (filter is_held xs))) ≡ true
    by f more true = rw f more
    by f more false = more

pub held_packed : (xs : List Txn) → AllByRecursion IsPacked xs → AllByRecursion IsPacked (filter is_held xs)
held_packed [] a = tt
held_packed (x ∷ xs) a = by a.0 (held_packed xs a.1) (is_held x)
  where
    by : IsPacked x → AllByRecursion IsPacked (filter is_held xs) → (b : Bool) → AllByRecursion IsPacked (cond b (x ∷ filter is_held xs) (filter is_held xs))
    by p more true = (p, more)
    by p more false = more
