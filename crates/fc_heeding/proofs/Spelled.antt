-- The subject and the opening of a request are written as their values are, and so are read as these.
use Rattle.std.proofs.Common.{◌≡◌, ℕ, pos, suc, ◌+◌, ◌-◌, ◌*◌, ◌/◌, ◌%◌, ◌^◌, ◌<◌, ◌≤◌, nat_lt, Bool, true, if◌then◌else◌, List, [], ◌∷◌, ◌++◌, append-nil, length, map, replicate, Option, Some, None, option_and_then, Result, Ok, codes, refl, sym, ap, ◌∙◌, subst, arith, rules}
use Rattle.std.proofs.lemmas.List.{length-map}
use Rattle.std.specs.List.{AllByRecursion, flat_map}
use Rattle.fc_asks.specs.Requests.{held_array, instances_from, numbers_from, opening_bytes}
use Rattle.fc_base.specs.Ids.{Txn}
use Rattle.fc_lfbs.proofs.Kept.{built_in_kept}
use Rattle.fc_lfbs.specs.BuiltIns.{built_in}
use Rattle.fc_lfbs.specs.Kinds as kinds
use Rattle.fc_lfbs.specs.Kinds.{array_of, field, instance_type, opening_type, subject_type, words}
use Rattle.fc_lfbs.specs.LiveValues as live
use Rattle.fc_lfbs.specs.LiveValues.{numbered, selector, table}
use Rattle.fc_phases.specs.Values as phases
use Rattle.fc_phases.specs.Values.{add, both, each_of, ok_of, opened, opening_in, opening_of, pair, pair_of, subject, subject_in, subject_of, subject_parts, table_of, two_words, word_layer, word_of}
use Rattle.fc_plans.specs.Mastership.{subject_bytes}
use Rattle.fc_protocol.specs.Scopes.{Scope}
use Rattle.fc_types.proofs.Sounds.{components_are_sound}
use Rattle.fc_types.specs.Sound.{IsSound}
use Rattle.fc_types.specs.declared.ty.Field.{Field}
use Rattle.fc_types.specs.declared.ty.Ty.{Ty}
use Rattle.fc_types.specs.declared.ty.Ty.TheVariants as type
use Rattle.fc_value.proofs.Complete.{full_read}
use Rattle.fc_value.proofs.Written.{full_canon, write_layer, written_law}
use Rattle.fc_value.specs.Fits.{Fits, FitsIn, FitsLayer}
use Rattle.fc_value.specs.Writing.{entry_bytes, full_bytes, full_data_tlv, full_layer, group_layer, inside_bytes, table_layer}
use Rattle.fc_value.specs.declared.value.Value.{Value}
use Rattle.fc_value.specs.declared.value.Value.TheVariants as value
use Rattle.fc_wire.specs.Bytes.{u32_at, u32_bytes}
use Rattle.fc_wire.specs.Writing.{padding}
use Rattle.fc_numbering.specs.Numbering.{AreWords, FitOpening, IsInstance, IsWord}
use Rattle.fc_querying.proofs.Values.{out_array, out_group, out_number, out_struct, out_table, participants_fit, subject_sound, table_fits, word_fits, word_written}

-- ---- two numbers

abbrev two_fields : List ℕ → List ℕ → List Field
two_fields a b = field 1 a kinds.word ∷ field 2 b kinds.word ∷ []

two_fit : (d : ℕ) (a b : List ℕ) (n : ℕ × ℕ) → IsInstance n → FitsIn (suc (suc d)) (type.Struct (two_fields a b)) (selector n)
two_fit d a b n h =
    subst (λ l. FitsLayer (FitsIn (suc d)) l (selector n)) (sym (out_struct (two_fields a b)))
    (live.word n.0 ∷ live.word n.1 ∷ [], refl, (word_fits d n.0 h.0, (word_fits d n.1 h.1, tt)))

two_written : (a b : List ℕ) (n : ℕ × ℕ) → IsInstance n → inside_bytes (type.Struct (two_fields a b)) (selector n) ≡ u32_bytes n.0 ++ u32_bytes n.1
two_written a b n h =
    written_law (type.Struct (two_fields a b)) (selector n) ∙ ap (λ l. write_layer l (selector n)) (out_struct (two_fields a b))
    ∙ ap (group_layer (inside_bytes kinds.word ∷ inside_bytes kinds.word ∷ [])) (out_group (live.word n.0 ∷ live.word n.1 ∷ []))
    ∙ (λ i. word_written n.0 h.0 i ++ (word_written n.1 h.1 i ++ []))

below : (n : ℕ) → IsWord n → nat_lt n (2 ^ 32) ≡ true
below n h = grind (arith, h)

word_read : (n : ℕ) → IsWord n → word_of (live.word n) ≡ Some n
word_read n h = ap word_layer (out_number (pos n)) ∙ ap (λ (b : Bool). if b then Some n else None) (below n h)

two_read : (n : ℕ × ℕ) → IsInstance n → pair_of (selector n) ≡ Some n
two_read n h =
    ap (λ l. two_words (phases.group_layer l)) (out_group (live.word n.0 ∷ live.word n.1 ∷ []))
    ∙ (λ i. both pair (word_read n.0 h.0 i) (word_read n.1 h.1 i))

-- ---- a subject

abbrev names : Txn → Value
names x = selector (x.epoch, x.number)

subject_written : (x : Txn) → AreWords x → full_bytes subject_type (names x) ≡ subject_bytes x
subject_written x h =
    ap (λ l. full_layer l subject_type (names x)) (out_struct (two_fields (codes "epoch") (codes "number")))
    ∙ two_written (codes "epoch") (codes "number") (x.epoch, x.number) h

pub subject_is_read : (x : Txn) → AreWords x → subject_in subject_type (subject_bytes x) ≡ Some (subject x.epoch x.number)
subject_is_read x h =
    ap (λ (bytes : List ℕ). subject_in subject_type bytes) (sym (subject_written x h))
    ∙ ap (λ (r : Result Value ℕ). option_and_then subject_of (ok_of r))
    (full_read subject_type (names x) (full_bytes subject_type (names x)) (full_canon subject_type (names x) subject_sound (two_fit 6 (codes "epoch") (codes "number") (x.epoch, x.number) h)))
    ∙ ap subject_parts (two_read (x.epoch, x.number) h)

-- ---- arrays in a FULLDATA of their own

none_padded : (n k : ℕ) → n ≡ 4 * k → (4 - n % 4) % 4 ≡ 0
none_padded n k h = omega (arith, h)

held_written : (bytes : List ℕ) (k : ℕ) → length bytes ≡ 4 * k → full_data_tlv bytes ≡ held_array bytes
unfolding full_data_tlv padding
held_written bytes k h =
    ap (λ (n : ℕ). 1 ∷ 18 ∷ (length bytes + 4) / 256 % 256 ∷ (length bytes + 4) % 256 ∷ (bytes ++ replicate n 0)) (none_padded (length bytes) k h)
    ∙ ap (λ (more : List ℕ). 1 ∷ 18 ∷ (length bytes + 4) / 256 % 256 ∷ (length bytes + 4) % 256 ∷ more) (append-nil bytes)

array_written : (entry : Ty) (limit : ℕ) (vs : List Value) (bytes : List ℕ) (k : ℕ) → flat_map (entry_bytes (inside_bytes entry)) (numbered 1 vs) ≡ bytes → length bytes ≡ 4 * k
    → inside_bytes (array_of entry limit) (table vs) ≡ held_array bytes
array_written entry limit vs bytes k e h =
    written_law (array_of entry limit) (table vs) ∙ ap (λ l. write_layer l (table vs)) (out_array entry limit [])
    ∙ ap (λ l. full_data_tlv (table_layer (inside_bytes entry) l)) (out_table (numbered 1 vs)) ∙ ap full_data_tlv e ∙ held_written bytes k h

low : (i n : ℕ) → i + n ≤ 65536 → i ≡ i % 2 ^ 32
low i n h = omega (arith, h)

next : (i : ℕ) → suc i ≡ i + 1
next i = omega arith

step : (i n : ℕ) → i + suc n ≤ 65536 → suc i + n ≤ 65536
step i n h = omega (arith, h)

-- ---- participants

numbers_written : (i : ℕ) (ps : List ℕ) → i + length ps ≤ 65536 → AllByRecursion IsWord ps → flat_map (entry_bytes (inside_bytes kinds.word)) (numbered i (map live.word ps)) ≡ numbers_from i ps
numbers_written i [] few h = refl
numbers_written i (p ∷ ps) few h =
    (λ j. (u32_bytes (low i (suc (length ps)) few j) ++ word_written p h.0 j) ++ numbers_written (suc i) ps (step i (length ps) few) h.1 j)
    ∙ ap (λ (n : ℕ). u32_bytes (i % 2 ^ 32) ++ (u32_bytes p ++ numbers_from n ps)) (next i)

numbers_long : (i : ℕ) (ps : List ℕ) → length (numbers_from i ps) ≡ 4 * (2 * length ps)
numbers_long i [] = refl
numbers_long i (p ∷ ps) = omega (arith, numbers_long (i + 1) ps)

numbers_read : (i : ℕ) (ps : List ℕ) → AllByRecursion IsWord ps → each_of word_of (numbered i (map live.word ps)) ≡ Some ps
numbers_read i [] h = refl
numbers_read i (p ∷ ps) h = (λ j. both add (word_read p h.0 j) (numbers_read (suc i) ps h.1 j))

participants_read : (ps : List ℕ) → AllByRecursion IsWord ps → each_of word_of (table_of (table (map live.word ps))) ≡ Some ps
participants_read ps h = ap (λ l. each_of word_of (phases.table_layer l)) (out_table (numbered 1 (map live.word ps))) ∙ numbers_read 1 ps h

-- ---- instances

places_written : (i : ℕ) (sc : Scope) → i + length sc ≤ 65536 → AllByRecursion IsInstance sc → flat_map (entry_bytes (inside_bytes instance_type)) (numbered i (map selector sc)) ≡ instances_from i sc
places_written i [] few h = refl
places_written i (n ∷ sc) few h =
    (λ j. (u32_bytes (low i (suc (length sc)) few j) ++ two_written (codes "class") (codes "instance") n h.0 j) ++ places_written (suc i) sc (step i (length sc) few) h.1 j)
    ∙ ap (λ (k : ℕ). u32_bytes (i % 2 ^ 32) ++ (u32_bytes n.0 ++ (u32_bytes n.1 ++ instances_from k sc))) (next i)

places_long : (i : ℕ) (sc : Scope) → length (instances_from i sc) ≡ 4 * (3 * length sc)
places_long i [] = refl
places_long i (n ∷ sc) = omega (arith, places_long (i + 1) sc)

places_read : (i : ℕ) (sc : Scope) → AllByRecursion IsInstance sc → each_of pair_of (numbered i (map selector sc)) ≡ Some sc
places_read i [] h = refl
places_read i (n ∷ sc) h = (λ j. both add (two_read n h.0 j) (places_read (suc i) sc h.1 j))

instances_read : (sc : Scope) → AllByRecursion IsInstance sc → each_of pair_of (table_of (table (map selector sc))) ≡ Some sc
instances_read sc h = ap (λ l. each_of pair_of (phases.table_layer l)) (out_table (numbered 1 (map selector sc))) ∙ places_read 1 sc h

places_fit : (d : ℕ) (sc : Scope) → AllByRecursion IsInstance sc → AllByRecursion (FitsIn (suc (suc d)) instance_type) (map selector sc)
places_fit d [] h = tt
places_fit d (n ∷ sc) h = (two_fit d (codes "class") (codes "instance") n h.0, places_fit d sc h.1)

-- ---- an opening

abbrev opening : Txn → List ℕ → Scope → Value
opening x ps sc = value.Group (live.word x.epoch ∷ live.word x.number ∷ table (map live.word ps) ∷ table (map selector sc) ∷ [])

abbrev opening_fields : List Field
opening_fields =
    field 1 (codes "epoch") kinds.word ∷ field 2 (codes "number") kinds.word ∷ field 3 (codes "participants") (words 64)
    ∷ field 4 (codes "instances") (array_of instance_type 4096) ∷ []

opening_sound : IsSound opening_type
opening_sound =
    let all = components_are_sound built_in (record { few = search (rules, arith); distinct = refl; kept = built_in_kept }) in
    all.1.1.0.1.1.1.0

opening_fits : (x : Txn) (ps : List ℕ) (sc : Scope) → AreWords x → FitOpening ps sc → Fits opening_type (opening x ps sc)
opening_fits x ps sc h fit =
    subst (λ l. FitsLayer (FitsIn 7) l (opening x ps sc)) (sym (out_struct opening_fields)) (
      live.word x.epoch ∷ live.word x.number ∷ table (map live.word ps) ∷ table (map selector sc) ∷ [],
      refl,
      (word_fits 6 x.epoch h.0, (word_fits 6 x.number h.1, (participants_fit 5 ps fit.participants fit.few, (table_fits 6 instance_type 4096 [] (map selector sc) (omega arith) (omega (arith, length-map sc selector, fit.narrow)) refl (places_fit 4 sc fit.instances), tt)))),
    )

participants_written : (ps : List ℕ) (sc : Scope) → FitOpening ps sc → inside_bytes (words 64) (table (map live.word ps)) ≡ held_array (numbers_from 1 ps)
participants_written ps sc fit =
    array_written kinds.word 64 (map live.word ps) (numbers_from 1 ps) (2 * length ps) (numbers_written 1 ps (omega (arith, fit.few)) fit.participants) (numbers_long 1 ps)

instances_written : (ps : List ℕ) (sc : Scope) → FitOpening ps sc → inside_bytes (array_of instance_type 4096) (table (map selector sc)) ≡ held_array (instances_from 1 sc)
instances_written ps sc fit =
    array_written instance_type 4096 (map selector sc) (instances_from 1 sc) (3 * length sc) (places_written 1 sc (omega (arith, fit.narrow)) fit.instances) (places_long 1 sc)

opening_written : (x : Txn) (ps : List ℕ) (sc : Scope) → AreWords x → FitOpening ps sc → full_bytes opening_type (opening x ps sc) ≡ opening_bytes x ps sc
opening_written x ps sc h fit =
    ap (λ l. full_layer l opening_type (opening x ps sc)) (out_struct opening_fields)
    ∙ written_law opening_type (opening x ps sc) ∙ ap (λ l. write_layer l (opening x ps sc)) (out_struct opening_fields)
    ∙ ap (group_layer (inside_bytes kinds.word ∷ inside_bytes kinds.word ∷ inside_bytes (words 64) ∷ inside_bytes (array_of instance_type 4096) ∷ []))
    (out_group (live.word x.epoch ∷ live.word x.number ∷ table (map live.word ps) ∷ table (map selector sc) ∷ []))
    ∙ (λ i. word_written x.epoch h.0 i ++ (word_written x.number h.1 i ++ (participants_written ps sc fit i ++ (instances_written ps sc fit i ++ []))))
    ∙ ap (λ (more : List ℕ). subject_bytes x ++ (held_array (numbers_from 1 ps) ++ more)) (append-nil (held_array (instances_from 1 sc)))

opening_value : (x : Txn) (ps : List ℕ) (sc : Scope) → AreWords x → FitOpening ps sc → opening_of (opening x ps sc) ≡ Some (opened (x.epoch, x.number) (ps, sc))
opening_value x ps sc h fit =
    ap (λ l. phases.opening_fields (phases.group_layer l)) (out_group (live.word x.epoch ∷ live.word x.number ∷ table (map live.word ps) ∷ table (map selector sc) ∷ []))
    ∙ (λ i. both opened (both pair (word_read x.epoch h.0 i) (word_read x.number h.1 i)) (both pair (participants_read ps fit.participants i) (instances_read sc fit.instances i)))

pub opening_is_read : (x : Txn) (ps : List ℕ) (sc : Scope) → AreWords x → FitOpening ps sc → opening_in opening_type (opening_bytes x ps sc) ≡ Some (opened (x.epoch, x.number) (ps, sc))
opening_is_read x ps sc h fit =
    ap (λ (bytes : List ℕ). opening_in opening_type bytes) (sym (opening_written x ps sc h fit))
    ∙ ap (λ (r : Result Value ℕ). option_and_then opening_of (ok_of r))
    (full_read opening_type (opening x ps sc) (full_bytes opening_type (opening x ps sc)) (full_canon opening_type (opening x ps sc) opening_sound (opening_fits x ps sc h fit)))
    ∙ opening_value x ps sc h fit
