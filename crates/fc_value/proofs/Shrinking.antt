-- What stands behind a value is no longer than the bytes in which it was read, and entries are read one after the other.
use Rattle.std.proofs.Common.{◌≡◌, ℕ, ℤ, zero, suc, ◌+◌, ◌-◌, ◌%◌, ◌==◌, ◌<◌, ◌≤◌, nat_lt, nat_le, int_lt, Bool, true, false, not, ◌||◌, cond, List, [], ◌∷◌, ◌++◌, append_assoc, get_or, length, take, drop, map, Result, Ok, Err, refl, sym, ap, ◌∙◌, subst, arith}
use Rattle.std.proofs.lemmas.List.{length-drop, drop_more}
use Rattle.std.specs.List.{AllByRecursion}
use Rattle.fc_types.specs.Types.{field_ty, fields_of}
use Rattle.fc_types.specs.declared.ty.Field.{Field}
use Rattle.fc_types.specs.declared.ty.Ty.{Ty, map-Ty}
use Rattle.fc_types.specs.declared.ty.Ty.TheOpen.{Ty-F, Field-F}
use Rattle.fc_types.specs.declared.ty.Ty.TheViews.{out-roll-Field}
use Rattle.fc_types.specs.declared.ty.Ty.TheFolds.{ind-Ty}
use Rattle.fc_wire.specs.Bytes.{u16_at, u32_at}
use Rattle.std.specs.Ordering.{nat_cmp}
use Rattle.std.specs.BTreeMap.{insert_entry}
use Rattle.fc_base.specs.declared.faults.OpFault.{OpFault}
use Rattle.fc_base.specs.declared.faults.OpFault.TheVariants as faults
use Rattle.fc_base.specs.Answers.{◌>>=◌}
use Rattle.fc_value.specs.Outcomes.{Fails, out_of_range}
use Rattle.fc_value.proofs.OneEntry.{entry_is}
use Rattle.fc_value.proofs.Conditions.{not_below_is}
use Rattle.fc_value.specs.Numbers.{is_width, number_of}
use Rattle.fc_value.specs.Reading.{Reader, taken, truth_in, ranged, number_in, fixed_in, text_of, octets_of, cut, unpadded, closed, held, each_in, group_in, has_subscript, entry_in, entries_by, entries_in, table_of, inside, inside_at}
use Rattle.fc_value.specs.declared.value.Value.{Value}
use Rattle.fc_value.specs.declared.value.Value.TheVariants as value
use Rattle.fc_value.proofs.Layers.{in_layer, inside_roll, field_is}

pub never : {A : Type 0} {P : Type 0} (d : ℕ) (y : A) → ◌≡◌ {A = Result A ℕ} (Err d) (Ok y) → P
never d y e = cc

pub ok_same : {A : Type 0} (x y : A) → ◌≡◌ {A = Result A ℕ} (Ok x) (Ok y) → x ≡ y
ok_same x y e = cc

pub bind_ok : {A B : Type 0} (r : Result A ℕ) (f : A → Result B ℕ) (y : B) → (r >>= f) ≡ Ok y → (x : A) × (r ≡ Ok x) × (f x ≡ Ok y)
bind_ok (Ok x) f y e = (x, refl, e)
bind_ok (Err d) f y e = never d y e

pub else_ok : {A : Type 0} (b : Bool) (d : ℕ) (y : Result A ℕ) (x : A) → cond b (Err d) y ≡ Ok x → (b ≡ false) × (y ≡ Ok x)
else_ok true d y x e = never d x e
else_ok false d y x e = (refl, e)

pub then_ok : {A : Type 0} (b : Bool) (d : ℕ) (y : Result A ℕ) (x : A) → cond b y (Err d) ≡ Ok x → (b ≡ true) × (y ≡ Ok x)
then_ok true d y x e = (refl, e)
then_ok false d y x e = never d x e

pub fails_bind : {A B : Type 0} (fault : OpFault) (r : Result A ℕ) (f : A → Result B ℕ) → Fails fault r → Fails fault (r >>= f)
fails_bind (faults.Refused code) r f h = ap (λ q. q >>= f) h
fails_bind faults.Memory r f h = tt

abbrev pub Shrinks : Reader → Type 0
Shrinks one = (bytes rest : List ℕ) (v : Value) → one bytes ≡ Ok (v, rest) → length rest ≤ length bytes

shorter : {A : Type 0} (n : ℕ) (xs : List A) → length (drop n xs) ≤ length xs
shorter n xs = let e = length-drop n xs in omega (arith, e)

taken_shrinks : (n : ℕ) (bytes : List ℕ) (x : List ℕ × List ℕ) → taken n bytes ≡ Ok x → length x.1 ≤ length bytes
taken_shrinks n bytes x e =
    let p : (nat_lt (length bytes) n ≡ false) × (Ok (take n bytes, drop n bytes) ≡ Ok x) = else_ok _ _ _ _ e in
    subst (λ (y : List ℕ × List ℕ). length y.1 ≤ length bytes) (ok_same (take n bytes, drop n bytes) x p.1) (shorter n bytes)

abbrev truth_by : Bool → Bool → List ℕ → Result (Value × List ℕ) ℕ
truth_by zeroth first bytes = cond zeroth (Ok (value.Truth false, bytes)) (cond first (Ok (value.Truth true, bytes)) (Err out_of_range))

truth_one : (b : ℕ) (bytes rest : List ℕ) (v : Value) (zeroth first : Bool) → truth_by zeroth first bytes ≡ Ok (v, rest) → bytes ≡ rest
truth_one b bytes rest v true first e = ap (λ (x : Value × List ℕ). x.1) (ok_same (value.Truth false, bytes) (v, rest) e)
truth_one b bytes rest v false true e = ap (λ (x : Value × List ℕ). x.1) (ok_same (value.Truth true, bytes) (v, rest) e)
truth_one b bytes rest v false false e = never _ (v, rest) e

truth_shrinks : Shrinks truth_in
truth_shrinks [] rest v e = never _ (v, rest) e
truth_shrinks (b ∷ bytes) rest v e = let same = truth_one b bytes rest v (b == 0) (b == 1) e in omega (arith, ap length same)

ranged_same : (min max z : ℤ) (behind rest : List ℕ) (v : Value) → ranged min max z behind ≡ Ok (v, rest) → behind ≡ rest
ranged_same min max z behind rest v e =
    let p : ((int_lt z min || int_lt max z) ≡ false) × (Ok (value.Number z, behind) ≡ Ok (v, rest)) = else_ok _ _ _ _ e in
    ap (λ (x : Value × List ℕ). x.1) (ok_same (value.Number z, behind) (v, rest) p.1)

number_shrinks : (w : ℕ) (s : Bool) (min max : ℤ) → Shrinks (number_in w s min max)
number_shrinks w s min max bytes rest v e =
    let p : (is_width w ≡ true) × ((taken w bytes >>= λ x. ranged min max (number_of s x.0) x.1) ≡ Ok (v, rest)) = then_ok _ _ _ _ e in
    let q : (x : List ℕ × List ℕ) × (taken w bytes ≡ Ok x) × (ranged min max (number_of s x.0) x.1 ≡ Ok (v, rest)) =
    bind_ok (taken w bytes) (λ x. ranged min max (number_of s x.0) x.1) (v, rest) p.1 in
    omega (arith, taken_shrinks w bytes q.0 q.1, ap length (ranged_same min max _ q.0.1 rest v q.2))

fixed_shrinks : (n : ℕ) → Shrinks (fixed_in n)
fixed_shrinks n bytes rest v e =
    let q : (x : List ℕ × List ℕ) × (taken n bytes ≡ Ok x) × (Ok (value.Raw x.0, x.1) ≡ Ok (v, rest)) = bind_ok (taken n bytes) (λ x. Ok (value.Raw x.0, x.1)) (v, rest) e in
    let same : q.0.1 ≡ rest = ap (λ (x : Value × List ℕ). x.1) (ok_same (value.Raw q.0.0, q.0.1) (v, rest) q.2) in
    omega (arith, taken_shrinks n bytes q.0 q.1, ap length same)

pub cut_ok : (bytes : List ℕ) (x : List ℕ × List ℕ) → cut bytes ≡ Ok x
    → (4 ≤ length bytes) × ((not (u16_at bytes 0 == 274) || nat_lt (u16_at bytes 2) 4) ≡ false) × (u16_at bytes 2 ≤ length bytes)
    × ((drop 4 (take (u16_at bytes 2) bytes), drop (u16_at bytes 2) bytes) ≡ x)
unfolding cut
cut_ok bytes x e =
    let a : (nat_lt (length bytes) 4 ≡ false) × (_ ≡ Ok x) = else_ok _ _ _ _ e in
    let b : ((not (u16_at bytes 0 == 274) || nat_lt (u16_at bytes 2) 4) ≡ false) × (_ ≡ Ok x) = else_ok _ _ _ _ a.1 in
    let c : (nat_lt (length bytes) (u16_at bytes 2) ≡ false) × (_ ≡ Ok x) = else_ok _ _ _ _ b.1 in
    (grind (arith, a.0), b.0, grind (arith, c.0), ok_same _ x c.1)

cut_shrinks : (bytes : List ℕ) (x : List ℕ × List ℕ) → cut bytes ≡ Ok x → length x.1 ≤ length bytes
cut_shrinks bytes x e =
    let p = cut_ok bytes x e in
    subst (λ (y : List ℕ × List ℕ). length y.1 ≤ length bytes) p.3 (shorter (u16_at bytes 2) bytes)

closed_shrinks : (v w : Value) (n : ℕ) (bytes rest : List ℕ) → closed v n bytes ≡ Ok (w, rest) → length rest ≤ length bytes
closed_shrinks v w n bytes rest e =
    let u : (r : List ℕ) × (unpadded n bytes ≡ Ok r) × (Ok (v, r) ≡ Ok (w, rest)) = bind_ok (unpadded n bytes) (λ r. Ok (v, r)) (w, rest) e in
    let t : (y : List ℕ × List ℕ) × (taken ((4 - n % 4) % 4) bytes ≡ Ok y) × (Ok y.1 ≡ Ok u.0) =
    bind_ok (taken ((4 - n % 4) % 4) bytes) (λ y. Ok y.1) u.0 u.1 in
    let same : u.0 ≡ rest = ap (λ (x : Value × List ℕ). x.1) (ok_same (v, u.0) (w, rest) u.2) in
    omega (arith, taken_shrinks _ bytes t.0 t.1, ap length (ok_same t.0.1 u.0 t.2), ap length same)

held_shrinks : (one : List ℕ → Result Value ℕ) → Shrinks (held one)
held_shrinks one bytes rest v e =
    let p : (x : List ℕ × List ℕ) × (cut bytes ≡ Ok x) × ((one x.0 >>= λ w. closed w (length x.0) x.1) ≡ Ok (v, rest)) =
    bind_ok (cut bytes) (λ x. one x.0 >>= λ w. closed w (length x.0) x.1) (v, rest) e in
    let q : (w : Value) × (one p.0.0 ≡ Ok w) × (closed w (length p.0.0) p.0.1 ≡ Ok (v, rest)) =
    bind_ok (one p.0.0) (λ w. closed w (length p.0.0) p.0.1) (v, rest) p.2 in
    omega (arith, cut_shrinks bytes p.0 p.1, closed_shrinks q.0 v (length p.0.0) p.0.1 rest q.2)

abbrev AllShrink : List Reader → Type 0
AllShrink rs = AllByRecursion Shrinks rs

each_shrinks : (rs : List Reader) (bytes : List ℕ) (x : List Value × List ℕ) → AllShrink rs → each_in rs bytes ≡ Ok x → length x.1 ≤ length bytes
each_shrinks [] bytes x all e = omega (arith, ap (λ (y : List Value × List ℕ). length y.1) (ok_same ([], bytes) x e))
each_shrinks (r ∷ rs) bytes x all e =
    let p : (y : Value × List ℕ) × (r bytes ≡ Ok y) × ((each_in rs y.1 >>= λ z. Ok (y.0 ∷ z.0, z.1)) ≡ Ok x) =
    bind_ok (r bytes) (λ y. each_in rs y.1 >>= λ z. Ok (y.0 ∷ z.0, z.1)) x e in
    let q : (z : List Value × List ℕ) × (each_in rs p.0.1 ≡ Ok z) × (Ok (p.0.0 ∷ z.0, z.1) ≡ Ok x) =
    bind_ok (each_in rs p.0.1) (λ z. Ok (p.0.0 ∷ z.0, z.1)) x p.2 in
    omega (arith, all.0 bytes p.0.1 p.0.0 p.1, each_shrinks rs p.0.1 q.0 all.1 q.1, ap (λ (y : List Value × List ℕ). length y.1) (ok_same (p.0.0 ∷ q.0.0, q.0.1) x q.2))

group_shrinks : (rs : List Reader) → AllShrink rs → Shrinks (group_in rs)
group_shrinks rs all bytes rest v e =
    let p : (x : List Value × List ℕ) × (each_in rs bytes ≡ Ok x) × (Ok (value.Group x.0, x.1) ≡ Ok (v, rest)) = bind_ok (each_in rs bytes) (λ x. Ok (value.Group x.0, x.1)) (v, rest) e in
    omega (arith, each_shrinks rs bytes p.0 all p.1, ap (λ (y : Value × List ℕ). length y.1) (ok_same (value.Group p.0.0, p.0.1) (v, rest) p.2))

-- each field's type, with what holds of it beside it
fields_shrink : (fs : List ((f : Field) × Shrinks (inside (field_ty f)))) → AllShrink (map (λ f. inside (field_ty f)) (map (λ e. e.0) fs))
fields_shrink [] = tt
fields_shrink (e ∷ fs) = (e.1, fields_shrink fs)

abbrev Shrinking : Type 0
Shrinking = (ty : Ty) × Shrinks (inside ty)

abbrev ShrinkingField : Type 0
ShrinkingField = (f : Field) × Shrinks (inside (field_ty f))

layer_shrinks : (y : Ty-F Shrinking ShrinkingField) → Shrinks (in_layer (map-Ty Shrinking ShrinkingField Ty Field (λ e. e.0) (λ e. e.0) y))
layer_shrinks Ty-F.Bool = truth_shrinks
layer_shrinks (Ty-F.Number w s min max) = number_shrinks w s min max
layer_shrinks (Ty-F.String limit) = held_shrinks (text_of limit)
layer_shrinks (Ty-F.Octets limit) = held_shrinks (octets_of limit)
layer_shrinks (Ty-F.Bytes n) = fixed_shrinks n
layer_shrinks (Ty-F.Struct fields) = group_shrinks _ (fields_shrink fields)
layer_shrinks (Ty-F.Array entry limit keys) = held_shrinks (table_of (inside entry.0) (fields_of entry.0) limit keys)

pub inside_shrinks : (ty : Ty) → Shrinks (inside ty)
inside_shrinks = ind-Ty (λ ty. Shrinks (inside ty)) (λ f. Shrinks (inside (field_ty f)))
    (λ x y is. subst Shrinks (sym (inside_roll x)) (subst (λ l. Shrinks (in_layer l)) is (layer_shrinks y)))
    (λ x y is. subst (λ ty. Shrinks (inside ty)) (ap (λ (z : Field-F Ty Field). z.ty) is ∙ sym (ap (λ (z : Field-F Ty Field). z.ty) (out-roll-Field x))) y.ty.1)

-- What was tested where an entry was read.
pub entry_took : (one : Reader) (limit : ℕ) (es : List (ℕ × Value)) (bytes : List ℕ) (x : List (ℕ × Value) × List ℕ) → entry_in one limit es bytes ≡ Ok x
    → (y : Value × List ℕ) × (nat_lt (length bytes) 4 ≡ false) × (has_subscript es (u32_at bytes 0) ≡ false) × (nat_le limit (length es) ≡ false) × (one (drop 4 bytes) ≡ Ok y)
    × ((insert_entry nat_cmp es (u32_at bytes 0) y.0, y.1) ≡ x)
entry_took one limit es bytes x e =
    let a : (nat_lt (length bytes) 4 ≡ false) × (_ ≡ Ok x) = else_ok _ _ _ _ (sym (entry_is one limit es bytes) ∙ e) in
    let b : (has_subscript es (u32_at bytes 0) ≡ false) × (_ ≡ Ok x) = else_ok _ _ _ _ a.1 in
    let c : (nat_le limit (length es) ≡ false) × ((one (drop 4 bytes) >>= λ y. Ok (insert_entry nat_cmp es (u32_at bytes 0) y.0, y.1)) ≡ Ok x) = else_ok _ _ _ _ b.1 in
    let q : (y : Value × List ℕ) × (one (drop 4 bytes) ≡ Ok y) × (Ok (insert_entry nat_cmp es (u32_at bytes 0) y.0, y.1) ≡ Ok x) =
    bind_ok (one (drop 4 bytes)) (λ y. Ok (insert_entry nat_cmp es (u32_at bytes 0) y.0, y.1)) x c.1 in
    (q.0, a.0, b.0, c.0, q.1, ok_same (insert_entry nat_cmp es (u32_at bytes 0) q.0.0, q.0.1) x q.2)

-- An entry takes bytes.
pub entry_shrinks : (one : Reader) → Shrinks one → (limit : ℕ) (es : List (ℕ × Value)) (bytes : List ℕ) (x : List (ℕ × Value) × List ℕ) → entry_in one limit es bytes ≡ Ok x → length x.1 < length bytes
entry_shrinks one shrinks limit es bytes x e =
    let t = entry_took one limit es bytes x e in
    let some : 4 ≤ length bytes = not_below_is _ _ t.1 in
    omega (arith, some, shrinks (drop 4 bytes) t.0.1 t.0.0 t.4, length-drop 4 bytes, ap (λ (y : List (ℕ × Value) × List ℕ). length y.1) t.5)

bind_same : {A B : Type 0} (r : Result A ℕ) (f g : A → Result B ℕ) → ((x : A) → r ≡ Ok x → f x ≡ g x) → (r >>= f) ≡ (r >>= g)
bind_same (Ok x) f g h = h x refl
bind_same (Err d) f g h = refl

module _ (one : Reader) (shrinks : Shrinks one) (limit : ℕ) where
  same_fuel : (m n : ℕ) (es : List (ℕ × Value)) (bytes : List ℕ) → length bytes ≤ m → length bytes ≤ n → entries_by one limit m es bytes ≡ entries_by one limit n es bytes
  same_fuel m n es [] p q = refl
  same_fuel zero n es (b ∷ bytes) p q = absurd (omega arith)
  same_fuel (suc m) zero es (b ∷ bytes) p q = absurd (omega arith)
  same_fuel (suc m) (suc n) es (b ∷ bytes) p q =
      bind_same (entry_in one limit es (b ∷ bytes)) (λ x. entries_by one limit m x.0 x.1) (λ x. entries_by one limit n x.0 x.1)
      (λ x e. let less = entry_shrinks one shrinks limit es (b ∷ bytes) x e in same_fuel m n x.0 x.1 (omega (arith, less)) (omega (arith, less)))

  pub entries_end : (es : List (ℕ × Value)) (bytes : List ℕ) → length bytes ≡ 0 → entries_in one limit es bytes ≡ Ok es
  unfolding entries_in
  entries_end es [] h = refl
  entries_end es (b ∷ bytes) h = absurd (omega arith)

  pub entries_step : (es : List (ℕ × Value)) (bytes : List ℕ) → 0 < length bytes → entries_in one limit es bytes ≡ (entry_in one limit es bytes >>= λ x. entries_in one limit x.0 x.1)
  unfolding entries_in
  entries_step es [] h = absurd (omega arith)
  entries_step es (b ∷ bytes) h =
      bind_same (entry_in one limit es (b ∷ bytes)) (λ x. entries_by one limit (length bytes) x.0 x.1) (λ x. entries_by one limit (length x.1) x.0 x.1)
      (λ x e. let less = entry_shrinks one shrinks limit es (b ∷ bytes) x e in same_fuel (length bytes) (length x.1) x.0 x.1 (omega (arith, less)) (omega arith))

  pub entries_go : (es more : List (ℕ × Value)) (bytes rest : List ℕ) (whole : Result (List (ℕ × Value)) ℕ) → 0 < length bytes → entry_in one limit es bytes ≡ Ok (more, rest)
      → entries_in one limit es bytes ≡ whole → entries_in one limit more rest ≡ whole
  entries_go es more bytes rest whole h e w =
      sym (entries_step es bytes h ∙ ap (λ r. r >>= λ x. entries_in one limit x.0 x.1) e) ∙ w

  pub entries_fail : (es : List (ℕ × Value)) (bytes : List ℕ) (fault : OpFault) (whole : Result (List (ℕ × Value)) ℕ) → 0 < length bytes → Fails fault (entry_in one limit es bytes)
      → entries_in one limit es bytes ≡ whole → Fails fault whole
  entries_fail es bytes fault whole h f w = subst (Fails fault) (sym (entries_step es bytes h) ∙ w) (fails_bind fault (entry_in one limit es bytes) (λ x. entries_in one limit x.0 x.1) f)

-- Values are read one after the other: one more, or none.
abbrev after : List Value → List Value × List ℕ → Result (List Value × List ℕ) ℕ
after front y = Ok (front ++ y.0, y.1)

abbrev paired : List Value → List ℕ → Result (List Value × List ℕ) ℕ
paired vs rest = Ok (vs, rest)

abbrev before : Value → List Value × List ℕ → Result (List Value × List ℕ) ℕ
before v y = Ok (v ∷ y.0, y.1)

abbrev others : List Reader → Value × List ℕ → Result (List Value × List ℕ) ℕ
others readers x = each_in readers x.1 >>= before x.0

front_moves : (front : List Value) (v : Value) (r : Result (List Value × List ℕ) ℕ)
    → (r >>= after (front ++ v ∷ [])) ≡ ((r >>= before v) >>= after front)
front_moves front v (Err d) = refl
front_moves front v (Ok y) = ap (λ l. paired l y.1) (append_assoc front (v ∷ []) y.0)

abbrev pub SoFar : List Field → List ℕ → List Value → Result (List Value × List ℕ) ℕ → Type 0
SoFar fields rest front whole = (each_in (map inside_at fields) rest >>= after front) ≡ whole

next_field : (fields : List Field) (i : ℕ) (f : Field) → i < length fields → f ≡ get_or fields i f → drop i fields ≡ f ∷ drop (i + 1) fields
next_field fields i f h e = drop_more fields i f h ∙ ap (λ g. g ∷ drop (i + 1) fields) (sym e)

pub fields_go : (fields : List Field) (i : ℕ) (f : Field) (rest behind : List ℕ) (front next : List Value) (v : Value) (whole : Result (List Value × List ℕ) ℕ)
    → i < length fields → f ≡ get_or fields i f → inside (field_ty f) rest ≡ Ok (v, behind) → next ≡ front ++ v ∷ []
    → SoFar (drop i fields) rest front whole → SoFar (drop (i + 1) fields) behind next whole
fields_go fields i f rest behind front next v whole h is e n so_far =
    let readers = map inside_at (drop (i + 1) fields) in
    let here : inside_at f rest ≡ Ok (v, behind) = ap (λ r. r rest) (field_is f) ∙ e in
    ap (λ l. each_in readers behind >>= after l) n
    ∙ front_moves front v (each_in readers behind)
    ∙ ap (λ r. (r >>= others readers) >>= after front) (sym here)
    ∙ ap (λ fs. each_in (map inside_at fs) rest >>= after front) (sym (next_field fields i f h is))
    ∙ so_far

pub fields_fail : (fields : List Field) (i : ℕ) (f : Field) (rest : List ℕ) (front : List Value) (fault : OpFault) (whole : Result (List Value × List ℕ) ℕ)
    → i < length fields → f ≡ get_or fields i f → Fails fault (inside (field_ty f) rest) → SoFar (drop i fields) rest front whole → Fails fault whole
fields_fail fields i f rest front fault whole h is e so_far =
    let readers = map inside_at (drop (i + 1) fields) in
    subst (Fails fault) (ap (λ fs. each_in (map inside_at fs) rest >>= after front) (sym (next_field fields i f h is)) ∙ so_far)
    (fails_bind fault (each_in (map inside_at (f ∷ drop (i + 1) fields)) rest) (after front)
    (fails_bind fault (inside_at f rest) (others readers)
    (subst (λ r. Fails fault (r rest)) (sym (field_is f)) e)))
