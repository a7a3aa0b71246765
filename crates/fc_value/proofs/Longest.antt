-- A value that fits takes at most as many bytes as its type may, and one takes as many where no array has a key.
use Rattle.std.proofs.Common.{◌≡◌, ℕ, zero, suc, ◌+◌, ◌*◌, ◌<◌, ◌≤◌, true, false, List, [], ◌∷◌, ◌++◌, length, map, sum, replicate, refl, sym, ap, ◌∙◌, arith, length-append}
use Rattle.std.proofs.lemmas.Grind.{common_steps}
use Rattle.std.proofs.lemmas.List.{length-replicate}
use Rattle.std.proofs.lemmas.Str.{IsUtf8-from_ascii}
use Rattle.std.proofs.lemmas.Str.Ascii.{IsAscii-nil, IsAscii-cons}
use Rattle.std.specs.Str.{IsAscii}
use Rattle.std.specs.List.{AllByRecursion, list_all, flat_map}
use Rattle.fc_types.specs.Sound.{IsSound, IsSoundInside}
use Rattle.fc_types.specs.Types.{field_ty, nests, nests_layer, throughout, inside, is_in_range, own_range, span, padded, full_size, full_size_at}
use Rattle.fc_types.specs.declared.ty.Field.{Field}
use Rattle.fc_types.specs.declared.ty.Ty.{Ty}
use Rattle.fc_types.specs.declared.ty.Ty.TheOpen.{Ty-F}
use Rattle.fc_types.specs.declared.ty.Ty.TheViews.{out-Ty}
use Rattle.fc_types.proofs.Inside.{inside_law, inside_layer}
use Rattle.fc_wire.specs.Bytes.{u32_bytes}
use Rattle.fc_value.specs.Writing.{each_bytes, entry_bytes, group_layer, table_layer, bare_layer, truth_layer, number_layer, full_data_tlv, inside_bytes}
use Rattle.fc_value.specs.Keys.{has_no_keys, own_no_keys}
use Rattle.fc_value.specs.Fits.{EachFits, EntryFits, FitsLayer, FitsIn, Fits}
use Rattle.fc_value.specs.FullForm.{AreRising}
use Rattle.fc_value.specs.declared.value.Value.{Value}
use Rattle.fc_value.specs.declared.value.Value.TheOpen.{Value-F}
use Rattle.fc_value.specs.declared.value.Value.TheVariants as value
use Rattle.fc_value.proofs.Conditions.{both}
use Rattle.fc_value.proofs.Nesting.{no_depth, one_level}
use Rattle.fc_value.specs.Opening.{nearest}
use Rattle.fc_value.proofs.Opens.{in_order, nearest_in, zeros_bytes}
use Rattle.fc_value.proofs.Written.{write_layer, size_layer, written_law, size_law, field_size, full_data_long, truth_out, number_written, upto, inside_canon}

-- entries with subscripts from one on, each with the same value
abbrev row : ℕ → ℕ → Value → List (ℕ × Value)
row zero at v = []
row (suc n) at v = (at, v) ∷ row n (suc at) v

row_long : (n at : ℕ) (v : Value) → length (row n at v) ≡ n
row_long zero at v = refl
row_long (suc n) at v = ap suc (row_long n (suc at) v)

row_above : (n at low : ℕ) (v : Value) → low < at → AllByRecursion (λ (f : ℕ × Value). low < f.0) (row n at v)
row_above zero at low v h = tt
row_above (suc n) at low v h = (h, row_above n (suc at) low v (omega arith))

row_rises : (n at : ℕ) (v : Value) → AreRising (row n at v)
row_rises zero at v = tt
row_rises (suc n) at v = (row_above n (suc at) at v (omega arith), row_rises n (suc at) v)

low_bytes : (n : ℕ) → IsAscii (replicate n 0)
low_bytes zero = IsAscii-nil
low_bytes (suc n) = IsAscii-cons 0 (replicate n 0) (omega arith) (low_bytes n)

module _ (depth : ℕ) where
  -- a value of a type that takes all the bytes that it may
  abbrev Reached : Ty → Type 0
  Reached ty = (v : Value) × FitsIn depth ty v × (length (inside_bytes ty v) ≡ full_size ty)

  row_fits : (n at : ℕ) (entry : Ty) (v : Value) → FitsIn depth entry v → at + n ≤ 65536 → AllByRecursion (EntryFits (FitsIn depth) entry) (row n at v)
  row_fits zero at entry v h few = tt
  row_fits (suc n) at entry v h few = ((omega (arith, few), h), row_fits n (suc at) entry v h (omega (arith, few)))

  row_written : (n at : ℕ) (entry : Ty) (v : Value) → length (inside_bytes entry v) ≡ full_size entry
      → length (flat_map (entry_bytes (inside_bytes entry)) (row n at v)) ≡ n * (4 + full_size entry)
  row_written zero at entry v e = omega arith
  row_written (suc n) at entry v e =
      let rest = flat_map (entry_bytes (inside_bytes entry)) (row n (suc at) v) in
      grown n (full_size entry) _ _ _ (length-append (u32_bytes at ++ inside_bytes entry v) rest) e (row_written n (suc at) entry v e)
    where
      grown : (n k a b c : ℕ) → c ≡ suc (suc (suc (suc a))) + b → a ≡ k → b ≡ n * (4 + k) → c ≡ suc n * (4 + k)
      grown n k a b c e p q = let step : suc n * (4 + k) ≡ (4 + k) + n * (4 + k) = suc_mul n (4 + k) in omega (arith, e, p, q, step)
        where
          suc_mul : (x y : ℕ) → suc x * y ≡ y + x * y
          suc_mul x y = grind arith

  module _ (reach : (ty : Ty) → nests depth ty ≡ true → throughout is_in_range ty ≡ true → throughout has_no_keys ty ≡ true → Reached ty) where
    abbrev FieldsReached : List Field → Type 0
    FieldsReached fs = (vs : List Value) × EachFits (FitsIn depth) fs vs × (length (each_bytes (map (λ f. inside_bytes (field_ty f)) fs) vs) ≡ sum (map full_size_at fs))

    fields_reached : (fs : List Field) → list_all (λ f. nests depth (field_ty f)) fs ≡ true → list_all (λ f. throughout is_in_range (field_ty f)) fs ≡ true
        → list_all (λ f. throughout has_no_keys (field_ty f)) fs ≡ true → FieldsReached fs
    fields_reached [] deep ranged bare = ([], tt, refl)
    fields_reached (f ∷ fs) deep ranged bare =
        let d : (nests depth (field_ty f) ≡ true) × (list_all (λ f. nests depth (field_ty f)) fs ≡ true) = both _ _ deep in
        let r : (throughout is_in_range (field_ty f) ≡ true) × (list_all (λ f. throughout is_in_range (field_ty f)) fs ≡ true) = both _ _ ranged in
        let b : (throughout has_no_keys (field_ty f) ≡ true) × (list_all (λ f. throughout has_no_keys (field_ty f)) fs ≡ true) = both _ _ bare in
        let c : Reached (field_ty f) = reach (field_ty f) d.0 r.0 b.0 in
        let m : FieldsReached fs = fields_reached fs d.1 r.1 b.1 in
        let here = inside_bytes (field_ty f) c.0 in
        let rest = each_bytes (map (λ f. inside_bytes (field_ty f)) fs) m.0 in
        let long : length (each_bytes (map (λ g. inside_bytes (field_ty g)) (f ∷ fs)) (c.0 ∷ m.0)) ≡ length here + length rest = length-append here rest in
        let total : sum (map full_size_at (f ∷ fs)) ≡ full_size_at f + sum (map full_size_at fs) = sum_cons (full_size_at f) (map full_size_at fs) in
        (c.0 ∷ m.0, (c.1, m.1), omega (arith, long, total, c.2, m.2, field_size f))
      where
        sum_cons : (x : ℕ) (xs : List ℕ) → sum (x ∷ xs) ≡ x + sum xs
        sum_cons x xs = grind (arith, common_steps)

    abbrev LayerReached : Ty-F Ty Field → Type 0
    LayerReached l = (v : Value) × FitsLayer (FitsIn depth) l v × (length (write_layer l v) ≡ size_layer l)

    layer_reached : (l : Ty-F Ty Field) → nests_layer (nests depth) l ≡ true → own_range l ≡ true → own_no_keys l ≡ true
        → inside_layer is_in_range l ≡ true → inside_layer has_no_keys l ≡ true → LayerReached l
    layer_reached Ty-F.Bool deep own bare ranged all =
        (value.Truth false, (false, refl), ap (λ k. length (truth_layer k)) (truth_out (value.Truth false) (Value-F.Truth false) (sym (value.rolls-Truth false))))
    layer_reached (Ty-F.Number w s min max) deep own bare ranged all =
        let within = nearest_in min max (in_order (span w s) min max own) in
        let z = nearest min max in (
          value.Number z,
          (z, refl, within),
          ap (λ k. length (number_layer w k)) (truth_out (value.Number z) (Value-F.Number z) (sym (value.rolls-Number z)))
              ∙ (number_written w s min max z (value.Number z) own refl within).1,
        )
    layer_reached (Ty-F.String n) deep own bare ranged all = (
      value.Text (replicate n 0),
      (replicate n 0, refl, IsUtf8-from_ascii (replicate n 0) (low_bytes n), omega (arith, length-replicate {A = ℕ} n 0)),
      ap (λ k. length (full_data_tlv (bare_layer k))) (truth_out (value.Text (replicate n 0)) (Value-F.Text (replicate n 0)) (sym (value.rolls-Text (replicate n 0))))
          ∙ full_data_long (replicate n 0) ∙ ap (λ k. padded (4 + k)) (length-replicate {A = ℕ} n 0),
    )
    layer_reached (Ty-F.Octets n) deep own bare ranged all = (
      value.Raw (replicate n 0),
      (replicate n 0, refl, zeros_bytes n, omega (arith, length-replicate {A = ℕ} n 0)),
      ap (λ k. length (full_data_tlv (bare_layer k))) (truth_out (value.Raw (replicate n 0)) (Value-F.Raw (replicate n 0)) (sym (value.rolls-Raw (replicate n 0))))
          ∙ full_data_long (replicate n 0) ∙ ap (λ k. padded (4 + k)) (length-replicate {A = ℕ} n 0),
    )
    layer_reached (Ty-F.Bytes n) deep own bare ranged all = (
      value.Raw (replicate n 0),
      (replicate n 0, refl, zeros_bytes n, length-replicate {A = ℕ} n 0),
      ap (λ k. length (bare_layer k)) (truth_out (value.Raw (replicate n 0)) (Value-F.Raw (replicate n 0)) (sym (value.rolls-Raw (replicate n 0)))) ∙ length-replicate {A = ℕ} n 0,
    )
    layer_reached (Ty-F.Struct fields) deep own bare ranged all =
        let c : FieldsReached fields = fields_reached fields deep ranged all in (
          value.Group c.0,
          (c.0, refl, c.1),
          ap (λ k. length (group_layer (map (λ f. inside_bytes (field_ty f)) fields) k)) (truth_out (value.Group c.0) (Value-F.Group c.0) (sym (value.rolls-Group c.0))) ∙ c.2,
        )
    layer_reached (Ty-F.Array entry limit []) deep own bare ranged all =
        let c : Reached entry = reach entry deep ranged all in
        let es = row limit 0 c.0 in
        let few : 0 + limit ≤ 65536 = omega (arith, upto 65536 limit own) in (
          value.Table es,
          (es, refl, record { rising = row_rises limit 0 c.0; few = omega (arith, row_long limit 0 c.0); keyed = refl }, row_fits limit 0 entry c.0 c.1 few),
          ap (λ k. length (full_data_tlv (table_layer (inside_bytes entry) k))) (truth_out (value.Table es) (Value-F.Table es) (sym (value.rolls-Table es)))
              ∙ full_data_long (flat_map (entry_bytes (inside_bytes entry)) es) ∙ ap (λ k. padded (4 + k)) (row_written limit 0 entry c.0 c.2),
        )
    layer_reached (Ty-F.Array entry limit (key ∷ keys)) deep own bare ranged all = absurd (cc)

reached : (depth : ℕ) (ty : Ty) → nests depth ty ≡ true → throughout is_in_range ty ≡ true → throughout has_no_keys ty ≡ true → Reached depth ty
reached zero ty deep ranged bare = absurd (no_depth ty deep)
reached (suc depth) ty deep ranged bare =
    let r : (is_in_range ty ≡ true) × (inside is_in_range ty ≡ true) = both _ _ ranged in
    let b : (has_no_keys ty ≡ true) × (inside has_no_keys ty ≡ true) = both _ _ bare in
    let c : LayerReached depth (reached depth) (out-Ty ty) =
    layer_reached depth (reached depth) (out-Ty ty) (one_level depth ty deep) r.0 b.0 (sym (inside_law is_in_range ty) ∙ r.1) (sym (inside_law has_no_keys ty) ∙ b.1) in
    (c.0, c.1, ap length (written_law ty c.0) ∙ c.2 ∙ sym (size_law ty))

pub longest : (ty : Ty) → IsSound ty → throughout has_no_keys ty ≡ true → (v : Value) × Fits ty v × (length (inside_bytes ty v) ≡ full_size ty)
longest ty s bare = reached 8 ty s.shallow s.ranged bare

pub bounded : (ty : Ty) (v : Value) → IsSoundInside ty → Fits ty v → length (inside_bytes ty v) ≤ full_size ty
bounded ty v s h = let c = inside_canon 8 ty v s h in c.1
