-- The values that an element tells of transactions have the types of their components, and how they are written.
use Rattle.std.proofs.Common.{◌≡◌, ℕ, ℤ, pos, suc, ◌+◌, ◌/◌, ◌%◌, ◌^◌, ◌<◌, ◌≤◌, codes, int_lt, true, false, List, [], ◌∷◌, ◌++◌, length, map, refl, sym, ap, ◌∙◌, subst, arith, rules}
use Rattle.std.proofs.lemmas.List.{length-map}
use Rattle.std.proofs.lemmas.Int.{ints}
use Rattle.std.specs.List.{AllByRecursion}
use Rattle.fc_lfbs.specs.BuiltIns.{built_in}
use Rattle.fc_lfbs.specs.Kinds as kinds
use Rattle.fc_lfbs.specs.Kinds.{field, subject_type, transaction_key, transaction_type, transactions_type, words}
use Rattle.fc_lfbs.specs.LiveValues as live
use Rattle.fc_lfbs.specs.LiveValues.{numbered, table, transaction}
use Rattle.fc_lfbs.proofs.Kept.{built_in_kept}
use Rattle.fc_types.proofs.Sounds.{components_are_sound, level_is_sound}
use Rattle.fc_types.specs.Sound.{IsSound, IsSoundInside, SoundLayer}
use Rattle.fc_types.specs.Types.{fields_of, fields_layer}
use Rattle.fc_types.specs.declared.ty.Field.{Field}
use Rattle.fc_types.specs.declared.ty.KeyDecl.{KeyDecl}
use Rattle.fc_types.specs.declared.ty.Ty.{Ty}
use Rattle.fc_types.specs.declared.ty.Ty.TheOpen.{Ty-F}
use Rattle.fc_types.specs.declared.ty.Ty.TheVariants as type
use Rattle.fc_types.specs.declared.ty.Ty.TheViews.{out-Ty, out-roll-Ty}
use Rattle.fc_value.proofs.Digits.{digits_4}
use Rattle.fc_value.proofs.Written.{write_layer, written_law}
use Rattle.fc_value.specs.Fits.{EntryFits, FitsIn, FitsLayer}
use Rattle.fc_value.specs.FullForm.{AreRising}
use Rattle.fc_value.specs.Keys.{key_layer, key_value, keys_differ}
use Rattle.fc_value.specs.Numbers.{digits}
use Rattle.fc_value.specs.Writing.{full_bytes, full_layer, inside_bytes, number_layer}
use Rattle.fc_value.specs.declared.value.Value.{Value, out-Value}
use Rattle.fc_value.specs.declared.value.Value.TheOpen.{Value-F}
use Rattle.fc_value.specs.declared.value.Value.TheVariants as value
use Rattle.fc_value.specs.declared.value.Value.TheViews.{out-roll-Value}
use Rattle.fc_wire.specs.Bytes.{u32_at, u32_bytes}

-- ---- what values and types are

pub out_number : (z : ℤ) → out-Value (value.Number z) ≡ Value-F.Number z
out_number z = ap out-Value (sym (value.rolls-Number z)) ∙ out-roll-Value (Value-F.Number z)

pub out_group : (vs : List Value) → out-Value (value.Group vs) ≡ Value-F.Group vs
out_group vs = ap out-Value (sym (value.rolls-Group vs)) ∙ out-roll-Value (Value-F.Group vs)

pub out_table : (es : List (ℕ × Value)) → out-Value (value.Table es) ≡ Value-F.Table es
out_table es = ap out-Value (sym (value.rolls-Table es)) ∙ out-roll-Value (Value-F.Table es)

pub out_word : out-Ty kinds.word ≡ Ty-F.Number 4 false (pos 0) (pos 4294967295)
out_word = ap out-Ty (sym (type.rolls-Number 4 false (pos 0) (pos 4294967295))) ∙ out-roll-Ty (Ty-F.Number 4 false (pos 0) (pos 4294967295))

pub out_array : (entry : Ty) (limit : ℕ) (keys : List _) → out-Ty (type.Array entry limit keys) ≡ Ty-F.Array entry limit keys
out_array entry limit keys = ap out-Ty (sym (type.rolls-Array entry limit keys)) ∙ out-roll-Ty (Ty-F.Array entry limit keys)

pub out_struct : (fields : List Field) → out-Ty (type.Struct fields) ≡ Ty-F.Struct fields
out_struct fields = ap out-Ty (sym (type.rolls-Struct fields)) ∙ out-roll-Ty (Ty-F.Struct fields)

-- ---- the types are sound

all_sound : AllByRecursion (λ class. AllByRecursion (λ x. IsSound x.ty) class.components) built_in
all_sound = components_are_sound built_in (record { few = search (rules, arith); distinct = refl; kept = built_in_kept })

pub transactions_sound : IsSound transactions_type
transactions_sound = all_sound.1.1.0.1.1.0

pub subject_sound : IsSound subject_type
subject_sound = all_sound.1.1.0.1.1.1.1.0

pub word_sound : IsSound kinds.word
word_sound = all_sound.1.1.0.0

pub transaction_sound : IsSoundInside transaction_type
transaction_sound =
    let l : SoundLayer (Ty-F.Array transaction_type 4096 (transaction_key ∷ [])) = subst SoundLayer (out_array transaction_type 4096 (transaction_key ∷ [])) (level_is_sound transactions_type transactions_sound) in
    l.inner

-- ---- a number of 32 bits

int_in : (n : ℕ) → n < 2 ^ 32 → (int_lt (pos n) (pos 0) ≡ false) × (int_lt (pos 4294967295) (pos n) ≡ false)
int_in n h = (grind (arith, ints), grind (arith, ints, h))

pub word_fits : (d n : ℕ) → n < 2 ^ 32 → FitsIn (suc d) kinds.word (live.word n)
word_fits d n h = subst (λ l. FitsLayer (FitsIn d) l (live.word n)) (sym out_word) (pos n, refl, int_in n h)

high : (n : ℕ) → n < 2 ^ 32 → n / 16777216 % 256 ≡ n / 2 ^ 24
high n h = omega (arith, h)

narrow : (n : ℕ) → n < 2 ^ 32 → n % 2 ^ 64 ≡ n
narrow n h = omega (arith, h)

pub word_written : (n : ℕ) → n < 2 ^ 32 → inside_bytes kinds.word (live.word n) ≡ u32_bytes n
word_written n h =
    written_law kinds.word (live.word n) ∙ ap (λ l. write_layer l (live.word n)) out_word ∙ ap (number_layer 4) (out_number (pos n))
    ∙ ap (digits 4) (narrow n h) ∙ digits_4 n ∙ ap (λ (k : ℕ). k ∷ n / 65536 % 256 ∷ n / 256 % 256 ∷ n % 256 ∷ []) (high n h)

pub word_alone : (n : ℕ) → n < 2 ^ 32 → full_bytes kinds.word (live.word n) ≡ u32_bytes n
word_alone n h = ap (λ l. full_layer l kinds.word (live.word n)) out_word ∙ word_written n h

pub number_again : (n : ℕ) → n < 2 ^ 32 → u32_at (u32_bytes n) 0 ≡ n
number_again n h = omega (arith, h)

-- ---- entries that are numbered from one on

above : (low n : ℕ) (vs : List Value) → low < n → AllByRecursion (λ (f : ℕ × Value). low < f.0) (numbered n vs)
above low n [] h = tt
above low n (v ∷ vs) h = (h, above low (suc n) vs (omega (arith, h)))

rises : (n : ℕ) (vs : List Value) → AreRising (numbered n vs)
rises n [] = tt
rises n (v ∷ vs) = (above n (suc n) vs (omega arith), rises (suc n) vs)

pub numbered_long : (n : ℕ) (vs : List Value) → length (numbered n vs) ≡ length vs
numbered_long n [] = refl
numbered_long n (v ∷ vs) = ap suc (numbered_long (suc n) vs)

entries_fit : (d : ℕ) (entry : Ty) (n : ℕ) (vs : List Value) → n + length vs ≤ 65536 → AllByRecursion (FitsIn d entry) vs → AllByRecursion (EntryFits (FitsIn d) entry) (numbered n vs)
entries_fit d entry n [] few h = tt
entries_fit d entry n (v ∷ vs) few h = ((omega (arith, few), h.0), entries_fit d entry (suc n) vs (omega (arith, few)) h.1)

pub table_fits : (d : ℕ) (entry : Ty) (limit : ℕ) (keys : List KeyDecl) (vs : List Value) → limit < 65536 → length vs ≤ limit → keys_differ (fields_of entry) keys (numbered 1 vs) ≡ true
    → AllByRecursion (FitsIn d entry) vs → FitsIn (suc d) (type.Array entry limit keys) (table vs)
table_fits d entry limit keys vs small few differ h =
    subst (λ l. FitsLayer (FitsIn d) l (table vs)) (sym (out_array entry limit keys)) (
      numbered 1 vs,
      refl,
      record { rising = rises 1 vs; few = omega (arith, numbered_long 1 vs, few); keyed = differ },
      entries_fit d entry 1 vs (omega (arith, small, few)) h,
    )

-- ---- a transaction

-- numbers of 32 bits, and few enough participants
pub record IsSmall (t : live.Txn) : Type 0 where
  pub epoch : t.epoch < 2 ^ 32
  pub number : t.number < 2 ^ 32
  pub state : t.state < 2 ^ 32
  pub participants : AllByRecursion (λ (p : ℕ). p < 2 ^ 32) t.participants
  pub few : length t.participants ≤ 64

words_fit : (d : ℕ) (ps : List ℕ) → AllByRecursion (λ (p : ℕ). p < 2 ^ 32) ps → AllByRecursion (FitsIn (suc d) kinds.word) (map live.word ps)
words_fit d [] h = tt
words_fit d (p ∷ ps) h = (word_fits d p h.0, words_fit d ps h.1)

pub participants_fit : (d : ℕ) (ps : List ℕ) → AllByRecursion (λ (p : ℕ). p < 2 ^ 32) ps → length ps ≤ 64 → FitsIn (suc (suc d)) (words 64) (table (map live.word ps))
participants_fit d ps h few = table_fits (suc d) kinds.word 64 [] (map live.word ps) (omega arith) (omega (arith, length-map ps live.word, few)) refl (words_fit d ps h)

abbrev pub transaction_fields : List Field
transaction_fields = field 1 (codes "epoch") kinds.word ∷ field 2 (codes "number") kinds.word ∷ field 3 (codes "state") kinds.word ∷ field 4 (codes "participants") (words 64) ∷ []

pub transaction_fits : (d : ℕ) (t : live.Txn) → IsSmall t → FitsIn (suc (suc (suc d))) transaction_type (transaction t)
transaction_fits d t s =
    subst (λ l. FitsLayer (FitsIn (suc (suc d))) l (transaction t)) (sym (out_struct transaction_fields)) (
      live.word t.epoch ∷ live.word t.number ∷ live.word t.state ∷ table (map live.word t.participants) ∷ [],
      refl,
      (word_fits (suc d) t.epoch s.epoch, (word_fits (suc d) t.number s.number, (word_fits (suc d) t.state s.state, (participants_fit d t.participants s.participants s.few, tt)))),
    )

-- the value of its key, in which its epoch and its number stand
abbrev pub named : ℕ → ℕ → List ℕ
named epoch number = u32_bytes epoch ++ u32_bytes number

pub key_written : (t : live.Txn) → IsSmall t → key_value transaction_fields transaction_key (transaction t) ≡ named t.epoch t.number
unfolding key_value
key_written t s =
    ap (key_layer transaction_fields (1 ∷ 2 ∷ [])) (out_group (live.word t.epoch ∷ live.word t.number ∷ live.word t.state ∷ table (map live.word t.participants) ∷ []))
    ∙ (λ i. word_written t.epoch s.epoch i ++ (word_written t.number s.number i ++ []))

pub fields_are : fields_of transaction_type ≡ transaction_fields
fields_are = ap fields_layer (out_struct transaction_fields)
