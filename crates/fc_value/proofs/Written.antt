-- What is written of a value that fits is one of its full forms.
use Rattle.std.proofs.Common.{◌≡◌, ℕ, ℤ, pos, negsuc, zero, suc, ◌+◌, ◌-◌, ◌*◌, ◌/◌, ◌%◌, ◌^◌, ◌<◌, ◌≤◌, nat_le, int_le, Bool, true, false, ◌&&◌, cond, List, [], ◌∷◌, ◌++◌, append_assoc, append-nil, ◌⊎◌, inl, inr, length, map, sum, Option, Some, None, refl, sym, ap, ap₂, ◌∙◌, subst, arith, length-append}
use Rattle.std.proofs.lemmas.List.{length-replicate}
use Rattle.std.proofs.Math.Nat.{mul-le-mul_right}
use Rattle.std.proofs.lemmas.Grind.{common_steps}
use Rattle.std.proofs.lemmas.Int.{ints}
use Rattle.std.specs.List.{AllByRecursion, flat_map}
use Rattle.fc_types.specs.Sound.{IsSound, IsSoundInside, SoundLayer}
use Rattle.fc_types.specs.Types.{field_ty, span, is_range, is_upto, padded, full_size, full_size_at, size_step, size_field, fits_layer}
use Rattle.fc_types.specs.declared.ty.KeyDecl.{KeyDecl}
use Rattle.fc_types.specs.declared.ty.Field.{Field}
use Rattle.fc_types.specs.declared.ty.Ty.{Ty}
use Rattle.fc_types.specs.declared.ty.Ty.TheOpen.{Ty-F, Field-F}
use Rattle.fc_types.specs.declared.ty.Ty.TheViews.{out-Ty, roll-Ty, roll-out-Ty, out-Field, roll-Field, roll-out-Field}
use Rattle.fc_types.specs.declared.ty.Ty.TheFolds.{fold-roll-Ty, fold-roll-Field}
use Rattle.fc_types.proofs.Sounds.{level_is_sound}
use Rattle.fc_wire.specs.Bytes.{u32_bytes}
use Rattle.fc_wire.specs.Tlvs.{IsTlv}
use Rattle.fc_wire.specs.Writing.{padding}
use Rattle.fc_value.specs.Numbers.{is_width, number_of, number_bytes, digits, bits_of}
use Rattle.fc_value.specs.Writing.{Writer, truth_layer, number_layer, bare_layer, bare_bytes, each_bytes, group_layer, entry_bytes, table_layer, full_data_tlv, inside_step, field_step, inside_bytes, inside_bytes_at, full_layer, full_bytes}
use Rattle.fc_value.specs.Fits.{EachFits, EntryFits, FitsLayer, FitsIn, Fits}
use Rattle.fc_value.specs.FullForm.{IsTruth, IsNumber, IsText, IsOctets, IsFixed, InRange, EachField, IsGroup, EachEntry, AreJoined, IsTable, InFullData, InsideLayer, IsInside, FullLayer, IsFull}
use Rattle.fc_value.specs.declared.value.Value.{Value, out-Value, roll-Value}
use Rattle.fc_value.specs.declared.value.Value.TheOpen.{Value-F}
use Rattle.fc_value.specs.declared.value.Value.TheVariants as value
use Rattle.fc_value.specs.declared.value.Value.TheViews.{out-roll-Value}
use Rattle.fc_value.proofs.Conditions.{both, then_is}
use Rattle.fc_value.proofs.Numbers.{Ends, digits_long, again_1, again_2, again_4, again_8}

-- one level of what is written
abbrev pub write_layer : Ty-F Ty Field → Value → List ℕ
write_layer Ty-F.Bool v = truth_layer (out-Value v)
write_layer (Ty-F.Number w s min max) v = number_layer w (out-Value v)
write_layer (Ty-F.String n) v = full_data_tlv (bare_bytes v)
write_layer (Ty-F.Octets n) v = full_data_tlv (bare_bytes v)
write_layer (Ty-F.Bytes n) v = bare_bytes v
write_layer (Ty-F.Struct fields) v = group_layer (map (λ f. inside_bytes (field_ty f)) fields) (out-Value v)
write_layer (Ty-F.Array entry limit keys) v = full_data_tlv (table_layer (inside_bytes entry) (out-Value v))

field_rolled : (l : Field-F Ty Field) → inside_bytes_at (roll-Field l) ≡ inside_bytes l.ty
unfolding inside_bytes inside_bytes_at
field_rolled l = fold-roll-Field Writer Writer inside_step field_step l

fields_are : (fields : List Field) → map inside_bytes_at fields ≡ map (λ f. inside_bytes (field_ty f)) fields
fields_are [] = refl
fields_are (f ∷ fields) = ap₂ (λ a b. a ∷ b) (ap inside_bytes_at (sym (roll-out-Field f)) ∙ field_rolled (out-Field f)) (fields_are fields)

struct_rolled : (fields : List Field) (v : Value) → inside_bytes (roll-Ty (Ty-F.Struct fields)) v ≡ group_layer (map inside_bytes_at fields) (out-Value v)
unfolding inside_bytes inside_bytes_at
struct_rolled fields v = ap (λ (w : Writer). w v) (fold-roll-Ty Writer Writer inside_step field_step (Ty-F.Struct fields))

rolled : (l : Ty-F Ty Field) (v : Value) → inside_bytes (roll-Ty l) v ≡ write_layer l v
unfolding inside_bytes
rolled Ty-F.Bool v = ap (λ (w : Writer). w v) (fold-roll-Ty Writer Writer inside_step field_step _)
rolled (Ty-F.Number b s min max) v = ap (λ (w : Writer). w v) (fold-roll-Ty Writer Writer inside_step field_step _)
rolled (Ty-F.String length) v = ap (λ (w : Writer). w v) (fold-roll-Ty Writer Writer inside_step field_step _)
rolled (Ty-F.Octets length) v = ap (λ (w : Writer). w v) (fold-roll-Ty Writer Writer inside_step field_step _)
rolled (Ty-F.Bytes length) v = ap (λ (w : Writer). w v) (fold-roll-Ty Writer Writer inside_step field_step _)
rolled (Ty-F.Struct fields) v = struct_rolled fields v ∙ ap (λ ws. group_layer ws (out-Value v)) (fields_are fields)
rolled (Ty-F.Array entry entries keys) v = ap (λ (w : Writer). w v) (fold-roll-Ty Writer Writer inside_step field_step _)

pub written_law : (ty : Ty) (v : Value) → inside_bytes ty v ≡ write_layer (out-Ty ty) v
written_law ty v = ap (λ t. inside_bytes t v) (sym (roll-out-Ty ty)) ∙ rolled (out-Ty ty) v

-- one level of the greatest length
abbrev pub size_layer : Ty-F Ty Field → ℕ
size_layer Ty-F.Bool = 1
size_layer (Ty-F.Number bytes s min max) = bytes
size_layer (Ty-F.String n) = padded (4 + n)
size_layer (Ty-F.Octets n) = padded (4 + n)
size_layer (Ty-F.Bytes n) = n
size_layer (Ty-F.Struct fields) = sum (map full_size_at fields)
size_layer (Ty-F.Array entry limit keys) = padded (4 + limit * (4 + full_size entry))

pub field_size : (f : Field) → full_size_at f ≡ full_size (field_ty f)
field_size f = ap full_size_at (sym (roll-out-Field f)) ∙ fold-roll-Field ℕ ℕ size_step size_field (out-Field f)

size_rolled : (l : Ty-F Ty Field) → full_size (roll-Ty l) ≡ size_layer l
size_rolled Ty-F.Bool = fold-roll-Ty ℕ ℕ size_step size_field _
size_rolled (Ty-F.Number b s min max) = fold-roll-Ty ℕ ℕ size_step size_field _
size_rolled (Ty-F.String length) = fold-roll-Ty ℕ ℕ size_step size_field _
size_rolled (Ty-F.Octets length) = fold-roll-Ty ℕ ℕ size_step size_field _
size_rolled (Ty-F.Bytes length) = fold-roll-Ty ℕ ℕ size_step size_field _
size_rolled (Ty-F.Struct fields) = fold-roll-Ty ℕ ℕ size_step size_field _
size_rolled (Ty-F.Array entry entries keys) = fold-roll-Ty ℕ ℕ size_step size_field _

pub size_law : (ty : Ty) → full_size ty ≡ size_layer (out-Ty ty)
size_law ty = ap full_size (sym (roll-out-Ty ty)) ∙ size_rolled (out-Ty ty)

-- a FULLDATA
padding_long : (n : ℕ) → length (padding n) ≡ (4 - n % 4) % 4
unfolding padding
padding_long n = length-replicate ((4 - n % 4) % 4) 0

full_data_is : (body : List ℕ) → length body + 4 < 2 ^ 16 → IsTlv 274 body (body ++ padding (length body)) (full_data_tlv body)
unfolding full_data_tlv
full_data_is body h = record {
  padding = padding (length body);
  few = omega (arith, padding_long (length body));
  whole = omega (arith, length-append body (padding (length body)), padding_long (length body));
  fits = h;
  value = refl;
  spelled = ap (λ k. 1 ∷ 18 ∷ k ∷ (length body + 4) % 256 ∷ (body ++ padding (length body))) (high (length body + 4) h);
}
  where
    high : (n : ℕ) → n < 2 ^ 16 → n / 256 % 256 ≡ n / 2 ^ 8
    high n k = omega (arith, k)

pub full_data_long : (body : List ℕ) → length (full_data_tlv body) ≡ padded (4 + length body)
unfolding full_data_tlv
full_data_long body = omega (arith, length-append body (padding (length body)), padding_long (length body))

-- each level of a value
pub truth_out : (v : Value) (l : Value-F Value) → v ≡ roll-Value l → out-Value v ≡ l
truth_out v l e = ap out-Value e ∙ out-roll-Value l

within : (lo hi min max z : ℤ) → is_range (Some (lo, hi)) min max ≡ true → InRange min max z → (int_le lo z ≡ true) × (int_le z hi ≡ true)
within lo hi min max z h r =
    let p : ((int_le lo min && int_le min max) ≡ true) × (int_le max hi ≡ true) = both _ _ h in
    let q : (int_le lo min ≡ true) × (int_le min max ≡ true) = both _ _ p.0 in
    (grind (arith, ints, q.0, r.0), grind (arith, ints, p.1, r.1))

abbrev ends : ℕ → Bool → Option (ℤ × ℤ)
ends w true = Some (negsuc (2 ^ (8 * w - 1) - 1), pos (2 ^ (8 * w - 1) - 1))
ends w false = Some (pos 0, pos (2 ^ (8 * w) - 1))

by_width : (b : Bool) (o : Option (ℤ × ℤ)) (min max : ℤ) → is_range (cond b o None) min max ≡ true → (b ≡ true) × (is_range o min max ≡ true)
by_width true o min max h = (refl, h)
by_width false o min max h = cc

width_of : (w : ℕ) (s : Bool) (min max : ℤ) → is_range (span w s) min max ≡ true → (is_width w ≡ true) × (is_range (ends w s) min max ≡ true)
width_of w true min max h = by_width (is_width w) (ends w true) min max h
width_of w false min max h = by_width (is_width w) (ends w false) min max h

widths : (w : ℕ) → is_width w ≡ true → (w ≡ 1) ⊎ ((w ≡ 2) ⊎ ((w ≡ 4) ⊎ (w ≡ 8)))
widths w h = grind arith

ends_1 : (s : Bool) (min max z : ℤ) → is_range (ends 1 s) min max ≡ true → InRange min max z → Ends 1 256 128 s z
ends_1 true min max z h r = within (negsuc (128 - 1)) (pos (128 - 1)) min max z h r
ends_1 false min max z h r = within (pos 0) (pos (256 - 1)) min max z h r

ends_2 : (s : Bool) (min max z : ℤ) → is_range (ends 2 s) min max ≡ true → InRange min max z → Ends 2 65536 32768 s z
ends_2 true min max z h r = within (negsuc (32768 - 1)) (pos (32768 - 1)) min max z h r
ends_2 false min max z h r = within (pos 0) (pos (65536 - 1)) min max z h r

ends_4 : (s : Bool) (min max z : ℤ) → is_range (ends 4 s) min max ≡ true → InRange min max z → Ends 4 4294967296 2147483648 s z
ends_4 true min max z h r = within (negsuc (2147483648 - 1)) (pos (2147483648 - 1)) min max z h r
ends_4 false min max z h r = within (pos 0) (pos (4294967296 - 1)) min max z h r

ends_8 : (s : Bool) (min max z : ℤ) → is_range (ends 8 s) min max ≡ true → InRange min max z → Ends 8 18446744073709551616 9223372036854775808 s z
ends_8 true min max z h r = within (negsuc (9223372036854775808 - 1)) (pos (9223372036854775808 - 1)) min max z h r
ends_8 false min max z h r = within (pos 0) (pos (18446744073709551616 - 1)) min max z h r

pub again_at : (w : ℕ) (s : Bool) (min max z : ℤ) → is_range (span w s) min max ≡ true → InRange min max z → (is_width w ≡ true) × (number_of s (digits w (bits_of z)) ≡ z)
again_at w s min max z h r =
    let p = width_of w s min max h in (
      p.0,
      elim (widths w p.0) [
        | inl e ↦ subst (λ n. number_of s (digits n (bits_of z)) ≡ z) (sym e) (again_1 s z (ends_1 s min max z (subst (λ n. is_range (ends n s) min max ≡ true) e p.1) r))
        | inr (inl e) ↦ subst (λ n. number_of s (digits n (bits_of z)) ≡ z) (sym e) (again_2 s z (ends_2 s min max z (subst (λ n. is_range (ends n s) min max ≡ true) e p.1) r))
        | inr (inr (inl e)) ↦ subst (λ n. number_of s (digits n (bits_of z)) ≡ z) (sym e) (again_4 s z (ends_4 s min max z (subst (λ n. is_range (ends n s) min max ≡ true) e p.1) r))
        | inr (inr (inr e)) ↦ subst (λ n. number_of s (digits n (bits_of z)) ≡ z) (sym e) (again_8 s z (ends_8 s min max z (subst (λ n. is_range (ends n s) min max ≡ true) e p.1) r))
      ],
    )

pub number_written : (w : ℕ) (s : Bool) (min max z : ℤ) (v : Value) → is_range (span w s) min max ≡ true → v ≡ value.Number z → InRange min max z
    → IsNumber w s min max v (number_bytes w z) × (length (number_bytes w z) ≡ w)
number_written w s min max z v h e r =
    let p = again_at w s min max z h r in
    let bytes : number_bytes w z ≡ digits w (bits_of z) = then_is (is_width w) _ _ p.0 in
    let back : number_of s (number_bytes w z) ≡ z = ap (number_of s) bytes ∙ p.1 in
    let long : length (number_bytes w z) ≡ w = ap length bytes ∙ digits_long w (bits_of z) in
    ((e ∙ ap value.Number (sym back), long, p.0, subst (InRange min max) (sym back) r), long)

-- entries in their order
joined : (old ps : List (ℕ × Value)) → AreJoined old ps (old ++ ps)
joined old [] = append-nil old
joined old (p ∷ ps) = (old, [], sym (append-nil old), subst (AreJoined (old ++ p ∷ []) ps) (append_assoc old (p ∷ []) ps) (joined (old ++ p ∷ []) ps))

pub upto : (limit n : ℕ) → is_upto limit n ≡ true → n ≤ limit
upto limit n h = grind arith

at_most : (m n : ℕ) → nat_le m n ≡ true → m ≤ n
at_most m n h = grind arith

text_written : (n : ℕ) (v : Value) (Is : Value → List ℕ → Type 0) (body : List ℕ) → n ≤ 65531 → length body ≤ n → Is v body
    → InFullData Is v (full_data_tlv body) × (length (full_data_tlv body) ≤ padded (4 + n))
text_written n v Is body top few is =
    ((body, body ++ padding (length body), full_data_is body (omega (arith, top, few)), is), omega (arith, full_data_long body, few))

module _ (depth : ℕ) (canon : (ty : Ty) (v : Value) → IsSoundInside ty → FitsIn depth ty v → IsInside depth ty v (inside_bytes ty v) × (length (inside_bytes ty v) ≤ full_size ty)) where
  fields_canon : (fs : List Field) (vs : List Value) → AllByRecursion (λ f. IsSoundInside (field_ty f)) fs → EachFits (FitsIn depth) fs vs
      → EachField (IsInside depth) fs vs (each_bytes (map (λ f. inside_bytes (field_ty f)) fs) vs) × (length (each_bytes (map (λ f. inside_bytes (field_ty f)) fs) vs) ≤ sum (map full_size_at fs))
  fields_canon [] [] s h = (refl, omega arith)
  fields_canon [] (v ∷ vs) s h = absurd h
  fields_canon (f ∷ fs) [] s h = absurd h
  fields_canon (f ∷ fs) (v ∷ vs) s h =
      let c = canon (field_ty f) v s.0 h.0 in
      let m = fields_canon fs vs s.1 h.1 in
      let here = inside_bytes (field_ty f) v in
      let rest = each_bytes (map (λ f. inside_bytes (field_ty f)) fs) vs in
      let long : length (each_bytes (map (λ g. inside_bytes (field_ty g)) (f ∷ fs)) (v ∷ vs)) ≡ length here + length rest = length-append here rest in
      let total : sum (map full_size_at (f ∷ fs)) ≡ full_size_at f + sum (map full_size_at fs) = sum_cons (full_size_at f) (map full_size_at fs) in
      ((here, rest, refl, c.0, m.0), omega (arith, long, total, c.1, m.1, field_size f))
    where
      sum_cons : (x : ℕ) (xs : List ℕ) → sum (x ∷ xs) ≡ x + sum xs
      sum_cons x xs = grind (arith, common_steps)

  entries_canon : (entry : Ty) (es : List (ℕ × Value)) → IsSoundInside entry → AllByRecursion (EntryFits (FitsIn depth) entry) es
      → EachEntry (IsInside depth) entry es (flat_map (entry_bytes (inside_bytes entry)) es) × (length (flat_map (entry_bytes (inside_bytes entry)) es) ≤ length es * (4 + full_size entry))
  entries_canon entry [] s h = (refl, omega arith)
  entries_canon entry (e ∷ es) s h =
      let c = canon entry e.1 s h.0.1 in
      let m = entries_canon entry es s h.1 in
      let here = inside_bytes entry e.1 in
      let rest = flat_map (entry_bytes (inside_bytes entry)) es in
      ((u32_bytes e.0 ++ here, rest, refl, (here, refl, c.0), m.0), grown (length es) (full_size entry) _ _ _ (length-append (u32_bytes e.0 ++ here) rest) c.1 m.1)
    where
      grown : (n k a b c : ℕ) → c ≡ suc (suc (suc (suc a))) + b → a ≤ k → b ≤ n * (4 + k) → c ≤ suc n * (4 + k)
      grown n k a b c e p q = let step : suc n * (4 + k) ≡ (4 + k) + n * (4 + k) = suc_mul n (4 + k) in omega (arith, e, p, q, step)
        where
          suc_mul : (x y : ℕ) → suc x * y ≡ y + x * y
          suc_mul x y = grind arith

  table_canon : (entry : Ty) (limit : ℕ) (keys : List KeyDecl) (v : Value) → IsSoundInside entry → FitsLayer (FitsIn depth) (Ty-F.Array entry limit keys) v
      → IsTable (IsInside depth) entry limit keys v (table_layer (inside_bytes entry) (out-Value v)) × (length (table_layer (inside_bytes entry) (out-Value v)) ≤ limit * (4 + full_size entry))
  table_canon entry limit keys v s h =
      let es = h.0 in
      let c = entries_canon entry es s h.3 in
      let open_is : out-Value v ≡ Value-F.Table es = truth_out v (Value-F.Table es) (h.1 ∙ sym (value.rolls-Table es)) in
      subst (λ l. IsTable (IsInside depth) entry limit keys v (table_layer (inside_bytes entry) l) × (length (table_layer (inside_bytes entry) l) ≤ limit * (4 + full_size entry))) (sym open_is)
      ((es, es, h.1, h.2, joined [] es, c.0), scaled (length es) limit (4 + full_size entry) _ h.2.few c.1)
    where
      scaled : (m n k a : ℕ) → m ≤ n → a ≤ m * k → a ≤ n * k
      scaled m n k a p q = let step = mul-le-mul_right {m = m} {n = n} k p in omega (arith, q, step)

  layer_canon : (l : Ty-F Ty Field) (v : Value) → SoundLayer l → fits_layer l ≡ true → FitsLayer (FitsIn depth) l v
      → InsideLayer (IsInside depth) l v (write_layer l v) × (length (write_layer l v) ≤ size_layer l)
  layer_canon Ty-F.Bool v s f h = by_truth h.0 h.1
    where
      by_truth : (t : Bool) → v ≡ value.Truth t → IsTruth v (truth_layer (out-Value v)) × (length (truth_layer (out-Value v)) ≤ 1)
      by_truth true e = subst (λ l. IsTruth v (truth_layer l) × (length (truth_layer l) ≤ 1)) (sym (truth_out v (Value-F.Truth true) (e ∙ sym (value.rolls-Truth true)))) ((1, true, e, refl, refl), omega arith)
      by_truth false e = subst (λ l. IsTruth v (truth_layer l) × (length (truth_layer l) ≤ 1)) (sym (truth_out v (Value-F.Truth false) (e ∙ sym (value.rolls-Truth false)))) ((0, false, e, refl, refl), omega arith)
  layer_canon (Ty-F.Number w g min max) v s f h =
      let c = number_written w g min max h.0 v s h.1 h.2 in
      subst (λ l. IsNumber w g min max v (number_layer w l) × (length (number_layer w l) ≤ w)) (sym (truth_out v (Value-F.Number h.0) (h.1 ∙ sym (value.rolls-Number h.0))))
      (c.0, omega (arith, c.1))
  layer_canon (Ty-F.String n) v s f h =
      subst (λ l. InFullData (IsText n) v (full_data_tlv (bare_layer l)) × (length (full_data_tlv (bare_layer l)) ≤ padded (4 + n))) (sym (truth_out v (Value-F.Text h.0) (h.1 ∙ sym (value.rolls-Text h.0))))
      (text_written n v (IsText n) h.0 (omega (arith, upto 32768 n s)) h.3 (h.1, h.2, h.3))
  layer_canon (Ty-F.Octets n) v s f h =
      subst (λ l. InFullData (IsOctets n) v (full_data_tlv (bare_layer l)) × (length (full_data_tlv (bare_layer l)) ≤ padded (4 + n))) (sym (truth_out v (Value-F.Raw h.0) (h.1 ∙ sym (value.rolls-Raw h.0))))
      (text_written n v (IsOctets n) h.0 (omega (arith, upto 32768 n s)) h.3 (h.1, h.3))
  layer_canon (Ty-F.Bytes n) v s f h =
      subst (λ l. IsFixed n v (bare_layer l) × (length (bare_layer l) ≤ n)) (sym (truth_out v (Value-F.Raw h.0) (h.1 ∙ sym (value.rolls-Raw h.0))))
      ((h.1, h.3), omega (arith, h.3))
  layer_canon (Ty-F.Struct fields) v s f h =
      let ws = map (λ f. inside_bytes (field_ty f)) fields in
      let c = fields_canon fields h.0 s.each h.2 in
      subst (λ l. IsGroup (IsInside depth) fields v (group_layer ws l) × (length (group_layer ws l) ≤ sum (map full_size_at fields))) (sym (truth_out v (Value-F.Group h.0) (h.1 ∙ sym (value.rolls-Group h.0))))
      ((h.0, h.1, c.0), c.1)
  layer_canon (Ty-F.Array entry limit keys) v s f h =
      let c = table_canon entry limit keys v s.inner h in
      text_written (limit * (4 + full_size entry)) v (IsTable (IsInside depth) entry limit keys) (table_layer (inside_bytes entry) (out-Value v)) (at_most _ _ f) c.1 c.0

pub inside_canon : (depth : ℕ) (ty : Ty) (v : Value) → IsSoundInside ty → FitsIn depth ty v → IsInside depth ty v (inside_bytes ty v) × (length (inside_bytes ty v) ≤ full_size ty)
inside_canon zero ty v s h = absurd h
inside_canon (suc depth) ty v s h =
    let c = layer_canon depth (inside_canon depth) (out-Ty ty) v (level_is_sound ty s.sound) s.fit h in
    (subst (λ l. InsideLayer (IsInside depth) (out-Ty ty) v l) (sym (written_law ty v)) c.0, omega (arith, c.1, ap length (written_law ty v), size_law ty))

fixed_canon : (ty : Ty) (l : Ty-F Ty Field) (v : Value) → out-Ty ty ≡ l → SoundLayer l → fits_layer l ≡ true → FitsLayer (FitsIn 7) l v → InsideLayer (IsInside 7) l v (inside_bytes ty v)
fixed_canon ty l v is s f h =
    let c = layer_canon 7 (inside_canon 7) l v s f h in
    subst (λ b. InsideLayer (IsInside 7) l v b) (ap (λ k. write_layer k v) (sym is) ∙ sym (written_law ty v)) c.0

full_layer_canon : (ty : Ty) (l : Ty-F Ty Field) (v : Value) → out-Ty ty ≡ l → SoundLayer l → FitsLayer (FitsIn 7) l v → FullLayer (IsInside 7) l v (full_layer l ty v)
full_layer_canon ty (Ty-F.String n) v is s h =
    subst (λ l. IsText n v (bare_layer l)) (sym (truth_out v (Value-F.Text h.0) (h.1 ∙ sym (value.rolls-Text h.0)))) (h.1, h.2, h.3)
full_layer_canon ty (Ty-F.Octets n) v is s h =
    subst (λ l. IsOctets n v (bare_layer l)) (sym (truth_out v (Value-F.Raw h.0) (h.1 ∙ sym (value.rolls-Raw h.0)))) (h.1, h.3)
full_layer_canon ty (Ty-F.Array entry limit keys) v is s h = let c = table_canon 7 (inside_canon 7) entry limit keys v s.inner h in c.0
full_layer_canon ty Ty-F.Bool v is s h = fixed_canon ty Ty-F.Bool v is s refl h
full_layer_canon ty (Ty-F.Number w g min max) v is s h = fixed_canon ty (Ty-F.Number w g min max) v is s refl h
full_layer_canon ty (Ty-F.Bytes n) v is s h = fixed_canon ty (Ty-F.Bytes n) v is s refl h
full_layer_canon ty (Ty-F.Struct fields) v is s h = fixed_canon ty (Ty-F.Struct fields) v is s refl h

pub full_canon : (ty : Ty) (v : Value) → IsSound ty → Fits ty v → IsFull ty v (full_bytes ty v)
full_canon ty v s h = full_layer_canon ty (out-Ty ty) v refl (level_is_sound ty s) h
