-- A full form is read as its value.
use Rattle.std.proofs.Common.{◌≡◌, ℕ, ℤ, zero, suc, ◌+◌, ◌-◌, ◌*◌, ◌/◌, ◌%◌, ◌^◌, ◌==◌, ◌<◌, ◌≤◌, nat_lt, nat_le, int_lt, Bool, true, false, not, ◌||◌, cond, List, [], ◌∷◌, ◌++◌, append_assoc, append-nil, length, take, drop, map, Result, Ok, Err, refl, sym, ap, ap₂, ◌∙◌, subst, arith, length-append}
use Rattle.std.proofs.lemmas.Str.{is_utf8-from_IsUtf8}
use Rattle.std.specs.Str.{is_utf8}
use Rattle.std.specs.Ordering.{nat_cmp}
use Rattle.std.specs.BTreeMap.{insert_entry}
use Rattle.fc_types.specs.Types.{field_ty, fields_of}
use Rattle.fc_types.specs.declared.ty.KeyDecl.{KeyDecl}
use Rattle.fc_types.specs.declared.ty.Field.{Field}
use Rattle.fc_types.specs.declared.ty.Ty.{Ty}
use Rattle.fc_types.specs.declared.ty.Ty.TheOpen.{Ty-F}
use Rattle.fc_types.specs.declared.ty.Ty.TheViews.{out-Ty}
use Rattle.fc_wire.specs.Bytes.{u16_at, u32_at, u32_bytes}
use Rattle.fc_wire.specs.Tlvs.{IsTlv}
use Rattle.fc_base.specs.Answers.{◌>>=◌}
use Rattle.fc_value.specs.Numbers.{is_width, number_of}
use Rattle.fc_value.specs.Keys.{keys_differ}
use Rattle.fc_value.specs.Reading.{Reader, taken, truth_in, ranged, number_in, fixed_in, text_of, octets_of, cut, closed, held, each_in, has_subscript, entry_in, entries_in, table_of, inside, alone, full_layer, full_in}
use Rattle.fc_value.specs.FullForm.{Forms, IsTruth, IsBit, IsNumber, IsText, IsOctets, IsFixed, EachField, EachEntry, AreRising, AreJoined, IsTable, InsideLayer, IsInside, FullLayer, IsFull}
use Rattle.fc_value.specs.declared.value.Value.{Value}
use Rattle.fc_value.specs.declared.value.Value.TheVariants as value
use Rattle.fc_value.proofs.OneEntry.{entry_is}
use Rattle.fc_value.proofs.Conditions.{then_is, else_is, not_below}
use Rattle.fc_value.proofs.Entries.{placed, absent, old_rises, old_fewer}
use Rattle.fc_value.proofs.Layers.{in_layer, inside_law}
use Rattle.fc_value.proofs.Shrinking.{inside_shrinks, entries_end, entries_step}

pub take_front : (xs ys : List ℕ) → take (length xs) (xs ++ ys) ≡ xs
take_front [] ys = refl
take_front (x ∷ xs) ys = ap (λ l. x ∷ l) (take_front xs ys)

pub drop_front : (xs ys : List ℕ) → drop (length xs) (xs ++ ys) ≡ ys
drop_front [] ys = refl
drop_front (x ∷ xs) ys = drop_front xs ys

taken_front : (n : ℕ) (xs ys : List ℕ) → length xs ≡ n → taken n (xs ++ ys) ≡ Ok (xs, ys)
taken_front n xs ys e =
    let long : length (xs ++ ys) ≡ length xs + length ys = length-append xs ys in
    else_is (nat_lt (length (xs ++ ys)) n) _ _ (not_below _ _ (omega (arith, long, e)))
    ∙ ap₂ (λ a b. made a b) (ap (λ m. take m (xs ++ ys)) (sym e) ∙ take_front xs ys) (ap (λ m. drop m (xs ++ ys)) (sym e) ∙ drop_front xs ys)
  where
    made : List ℕ → List ℕ → Result (List ℕ × List ℕ) ℕ
    made a b = Ok (a, b)

truth_read : (v : Value) (front rest : List ℕ) → IsTruth v front → truth_in (front ++ rest) ≡ Ok (v, rest)
truth_read v front rest h = ap (λ l. truth_in (l ++ rest)) h.3 ∙ bit h.0 h.1 h.4 ∙ ap (λ w. with_rest w) (sym h.2)
  where
    with_rest : Value → Result (Value × List ℕ) ℕ
    with_rest w = Ok (w, rest)

    bit : (n : ℕ) (t : Bool) → IsBit n t → truth_in ((n ∷ []) ++ rest) ≡ with_rest (value.Truth t)
    bit n true e = ap (λ m. truth_in (m ∷ rest)) e
    bit n false e = ap (λ m. truth_in (m ∷ rest)) e

number_read : (w : ℕ) (s : Bool) (min max : ℤ) (v : Value) (front rest : List ℕ) → IsNumber w s min max v front → number_in w s min max (front ++ rest) ≡ Ok (v, rest)
number_read w s min max v front rest h =
    then_is (is_width w) _ _ h.2
    ∙ ap (λ r. r >>= then_ranged) (taken_front w front rest h.1)
    ∙ else_is (int_lt (number_of s front) min || int_lt max (number_of s front)) _ _ (outside _ _ h.3.0 h.3.1)
    ∙ ap with_rest (sym h.0)
  where
    with_rest : Value → Result (Value × List ℕ) ℕ
    with_rest w = Ok (w, rest)

    then_ranged : List ℕ × List ℕ → Result (Value × List ℕ) ℕ
    then_ranged x = ranged min max (number_of s x.0) x.1

    outside : (a b : Bool) → a ≡ false → b ≡ false → (a || b) ≡ false
    outside true b p q = cc
    outside false b p q = q

fixed_read : (n : ℕ) (v : Value) (front rest : List ℕ) → IsFixed n v front → fixed_in n (front ++ rest) ≡ Ok (v, rest)
fixed_read n v front rest h = ap (λ r. r >>= kept) (taken_front n front rest h.1) ∙ ap with_rest (sym h.0)
  where
    with_rest : Value → Result (Value × List ℕ) ℕ
    with_rest w = Ok (w, rest)

    kept : List ℕ × List ℕ → Result (Value × List ℕ) ℕ
    kept x = Ok (value.Raw x.0, x.1)

text_read : (limit : ℕ) (v : Value) (bytes : List ℕ) → IsText limit v bytes → text_of limit bytes ≡ Ok v
text_read limit v bytes h =
    then_is (is_utf8 bytes) _ _ (is_utf8-from_IsUtf8 bytes h.1) ∙ else_is (nat_lt limit (length bytes)) _ _ (not_below _ _ h.2) ∙ ap (λ w. Ok w) (sym h.0)

octets_read : (limit : ℕ) (v : Value) (bytes : List ℕ) → IsOctets limit v bytes → octets_of limit bytes ≡ Ok v
octets_read limit v bytes h = else_is (nat_lt limit (length bytes)) _ _ (not_below _ _ h.1) ∙ ap (λ w. Ok w) (sym h.0)

two_back : (n : ℕ) → 2 ^ 8 * (n / 2 ^ 8) + n % 2 ^ 8 ≡ n
two_back n = omega arith

four_back : (n : ℕ) → 2 ^ 24 * (n / 2 ^ 24) + 2 ^ 16 * (n / 2 ^ 16 % 2 ^ 8) + 2 ^ 8 * (n / 2 ^ 8 % 2 ^ 8) + n % 2 ^ 8 ≡ n
four_back n = omega arith

-- a FULLDATA at the front
abbrev headed : ℕ → List ℕ → List ℕ
headed n tail = 1 ∷ 18 ∷ n / 2 ^ 8 ∷ n % 2 ^ 8 ∷ tail

cut_headed : (n : ℕ) (body tail : List ℕ) → length body + 4 ≡ n → cut (headed n (body ++ tail)) ≡ Ok (body, tail)
unfolding cut
cut_headed n body tail e =
    let all : List ℕ = headed n (body ++ tail) in
    let size : u16_at all 2 ≡ n = two_back n in
    let four : n ≡ suc (suc (suc (suc (length body)))) = omega (arith, e) in
    let long : length (body ++ tail) ≡ length body + length tail = length-append body tail in
    else_is (nat_lt (length all) 4) _ _ (not_below _ _ (omega arith))
    ∙ else_is (not (u16_at all 0 == 274) || nat_lt (u16_at all 2) 4) _ _ (not_below _ _ (omega (arith, size, e)))
    ∙ else_is (nat_lt (length all) (u16_at all 2)) _ _ (not_below _ _ (omega (arith, size, e, long)))
    ∙ ap (λ m. made (drop 4 (take m all)) (drop m all)) (size ∙ four)
    ∙ ap₂ made (take_front body tail) (drop_front body tail)
  where
    made : List ℕ → List ℕ → Result (List ℕ × List ℕ) ℕ
    made a b = Ok (a, b)

held_read : (one : List ℕ → Result Value ℕ) (v : Value) (body padded front rest : List ℕ) → IsTlv 274 body padded front → one body ≡ Ok v → held one (front ++ rest) ≡ Ok (v, rest)
held_read one v body padded front rest t e =
    let tail : List ℕ = t.padding ++ rest in
    let spelled : front ++ rest ≡ headed (length body + 4) (body ++ tail) =
    ap (λ l. l ++ rest) (t.spelled ∙ ap (headed (length body + 4)) t.value) ∙ ap (headed (length body + 4)) (append_assoc body t.padding rest) in
    let size : length (body ++ t.padding) ≡ length body + length t.padding = length-append body t.padding in
    let all : length padded ≡ length body + length t.padding = ap length t.value ∙ size in
    let lacks : length t.padding ≡ (4 - length body % 4) % 4 = omega (arith, t.few, t.whole, all) in
    ap (held one) spelled
    ∙ ap (λ r. r >>= opened) (cut_headed (length body + 4) body tail refl)
    ∙ ap (λ r. r >>= λ w. closed w (length body) tail) e
    ∙ ap (λ r. (r >>= behind) >>= with_rest) (taken_front ((4 - length body % 4) % 4) t.padding rest lacks)
  where
    opened : List ℕ × List ℕ → Result (Value × List ℕ) ℕ
    opened x = one x.0 >>= λ w. closed w (length x.0) x.1

    behind : List ℕ × List ℕ → Result (List ℕ) ℕ
    behind x = Ok x.1

    with_rest : List ℕ → Result (Value × List ℕ) ℕ
    with_rest r = Ok (v, r)

-- an entry at the front
entry_read : (one : Reader) (limit s : ℕ) (v : Value) (es : List (ℕ × Value)) (bytes rest : List ℕ) → has_subscript es s ≡ false → length es < limit → one bytes ≡ Ok (v, rest)
    → entry_in one limit es (u32_bytes s ++ bytes) ≡ Ok (insert_entry nat_cmp es s v, rest)
entry_read one limit s v es bytes rest new few e =
    let all : List ℕ = u32_bytes s ++ bytes in
    let same : u32_at all 0 ≡ s = four_back s in
    entry_is one limit es all
    ∙ else_is (nat_lt (length all) 4) _ _ (not_below _ _ (omega arith))
    ∙ else_is (has_subscript es (u32_at all 0)) _ _ (ap (has_subscript es) same ∙ new)
    ∙ else_is (nat_le limit (length es)) _ _ (above few)
    ∙ ap (λ r. r >>= put (u32_at all 0)) e ∙ ap (λ n. put n (v, rest)) same
  where
    put : ℕ → Value × List ℕ → Result (List (ℕ × Value) × List ℕ) ℕ
    put n x = Ok (insert_entry nat_cmp es n x.0, x.1)

    above : {m n : ℕ} → m < n → nat_le n m ≡ false
    above h = grind arith

module _ (In : Forms) (reads : (ty : Ty) (v : Value) (front rest : List ℕ) → In ty v front → inside ty (front ++ rest) ≡ Ok (v, rest)) where
  fields_read : (fs : List Field) (vs : List Value) (front rest : List ℕ) → EachField In fs vs front → each_in (map (λ f. inside (field_ty f)) fs) (front ++ rest) ≡ Ok (vs, rest)
  fields_read [] [] front rest h = ap (λ l. none (l ++ rest)) h
    where
      none : List ℕ → Result (List Value × List ℕ) ℕ
      none l = Ok ([], l)
  fields_read [] (v ∷ vs) front rest h = absurd h
  fields_read (f ∷ fs) [] front rest h = absurd h
  fields_read (f ∷ fs) (v ∷ vs) front rest h =
      let readers = map (λ g. inside (field_ty g)) fs in
      ap (λ l. each_in (inside (field_ty f) ∷ readers) l) (ap (λ l. l ++ rest) h.2 ∙ append_assoc h.0 h.1 rest)
      ∙ ap (λ r. r >>= others readers) (reads (field_ty f) v h.0 (h.1 ++ rest) h.3)
      ∙ ap (λ r. r >>= before v) (fields_read fs vs h.1 rest h.4)
    where
      before : Value → List Value × List ℕ → Result (List Value × List ℕ) ℕ
      before w y = Ok (w ∷ y.0, y.1)

      others : List Reader → Value × List ℕ → Result (List Value × List ℕ) ℕ
      others rs x = each_in rs x.1 >>= before x.0

  entries_read : (entry : Ty) (limit : ℕ) (ps old es : List (ℕ × Value)) (bytes : List ℕ) → AreJoined old ps es → AreRising es → length es ≤ limit → EachEntry In entry ps bytes
      → entries_in (inside entry) limit old bytes ≡ Ok es
  entries_read entry limit [] old es bytes j up few h =
      entries_end (inside entry) (inside_shrinks entry) limit old bytes (ap length h) ∙ ap (λ l. Ok l) (sym j)
  entries_read entry limit (p ∷ ps) old es bytes j up few h =
      let one = inside entry in
      let next = j.0 ++ p ∷ j.1 in
      let rising : AreRising next = old_rises next ps es j.3 up in
      let bytes_are : bytes ≡ u32_bytes p.0 ++ (h.3.0 ++ h.1) = h.2 ∙ ap (λ l. l ++ h.1) h.3.1 in
      let counted = old_fewer next ps es j.3 in
      let sizes : length next ≡ length j.0 + length (p ∷ j.1) = length-append j.0 (p ∷ j.1) in
      let held_now : length old ≡ length j.0 + length j.1 = ap length j.2 ∙ length-append j.0 j.1 in
      let new : has_subscript old p.0 ≡ false = ap (λ l. has_subscript l p.0) j.2 ∙ absent j.0 j.1 p.0 p.1 rising in
      let put : insert_entry nat_cmp old p.0 p.1 ≡ next = ap (λ l. insert_entry nat_cmp l p.0 p.1) j.2 ∙ placed j.0 j.1 p.0 p.1 rising in
      let first : entry_in one limit old bytes ≡ gone next h.1 =
      ap (entry_in one limit old) bytes_are
      ∙ entry_read one limit p.0 p.1 old (h.3.0 ++ h.1) h.1 new (omega (arith, counted, sizes, held_now, few)) (reads entry p.1 h.3.0 h.1 h.3.2)
      ∙ ap (λ l. gone l h.1) put in
      entries_step one (inside_shrinks entry) limit old bytes (omega (arith, ap length bytes_are))
      ∙ ap (λ r. r >>= λ x. entries_in one limit x.0 x.1) first
      ∙ entries_read entry limit ps next es h.1 j.3 up few h.4
    where
      gone : List (ℕ × Value) → List ℕ → Result (List (ℕ × Value) × List ℕ) ℕ
      gone a b = Ok (a, b)

  table_read : (entry : Ty) (limit : ℕ) (keys : List KeyDecl) (v : Value) (bytes : List ℕ) → IsTable In entry limit keys v bytes → table_of (inside entry) (fields_of entry) limit keys bytes ≡ Ok v
  table_read entry limit keys v bytes h =
      ap (λ r. r >>= judged) (entries_read entry limit h.1 [] h.0 bytes h.4 h.3.rising h.3.few h.5)
      ∙ then_is (keys_differ (fields_of entry) keys h.0) _ _ h.3.keyed ∙ ap (λ w. Ok w) (sym h.2)
    where
      judged : List (ℕ × Value) → Result Value ℕ
      judged es = cond (keys_differ (fields_of entry) keys es) (Ok (value.Table es)) (Err 16)

  layer_read : (l : Ty-F Ty Field) (v : Value) (front rest : List ℕ) → InsideLayer In l v front → in_layer l (front ++ rest) ≡ Ok (v, rest)
  layer_read Ty-F.Bool v front rest h = truth_read v front rest h
  layer_read (Ty-F.Number w s min max) v front rest h = number_read w s min max v front rest h
  layer_read (Ty-F.String limit) v front rest h = held_read (text_of limit) v h.0 h.1 front rest h.2 (text_read limit v h.0 h.3)
  layer_read (Ty-F.Octets limit) v front rest h = held_read (octets_of limit) v h.0 h.1 front rest h.2 (octets_read limit v h.0 h.3)
  layer_read (Ty-F.Bytes n) v front rest h = fixed_read n v front rest h
  layer_read (Ty-F.Struct fields) v front rest h = ap (λ r. r >>= grouped) (fields_read fields h.0 front rest h.2) ∙ ap with_rest (sym h.1)
    where
      grouped : List Value × List ℕ → Result (Value × List ℕ) ℕ
      grouped x = Ok (value.Group x.0, x.1)

      with_rest : Value → Result (Value × List ℕ) ℕ
      with_rest w = Ok (w, rest)
  layer_read (Ty-F.Array entry limit keys) v front rest h =
      held_read (table_of (inside entry) (fields_of entry) limit keys) v h.0 h.1 front rest h.2 (table_read entry limit keys v h.0 h.3)

inside_read : (depth : ℕ) (ty : Ty) (v : Value) (front rest : List ℕ) → IsInside depth ty v front → inside ty (front ++ rest) ≡ Ok (v, rest)
inside_read zero ty v front rest h = absurd h
inside_read (suc depth) ty v front rest h =
    ap (λ (r : Reader). r (front ++ rest)) (inside_law ty) ∙ layer_read (IsInside depth) (inside_read depth) (out-Ty ty) v front rest h

-- a value that stands by itself
whole_read : (ty : Ty) (v : Value) (bytes : List ℕ) → ((rest : List ℕ) → inside ty (bytes ++ rest) ≡ Ok (v, rest)) → (inside ty bytes >>= alone) ≡ Ok v
whole_read ty v bytes h = ap (λ l. inside ty l >>= alone) (sym (append-nil bytes)) ∙ ap (λ r. r >>= alone) (h [])

full_layer_read : (ty : Ty) (l : Ty-F Ty Field) (v : Value) (bytes : List ℕ) → out-Ty ty ≡ l → FullLayer (IsInside 7) l v bytes → full_layer l ty bytes ≡ Ok v
full_layer_read ty (Ty-F.String limit) v bytes e h = text_read limit v bytes h
full_layer_read ty (Ty-F.Octets limit) v bytes e h = octets_read limit v bytes h
full_layer_read ty (Ty-F.Array entry limit keys) v bytes e h = table_read (IsInside 7) (inside_read 7) entry limit keys v bytes h
full_layer_read ty Ty-F.Bool v bytes e h = whole_read ty v bytes (λ rest. inside_read 8 ty v bytes rest (subst (λ l. InsideLayer (IsInside 7) l v bytes) (sym e) h))
full_layer_read ty (Ty-F.Number w s min max) v bytes e h = whole_read ty v bytes (λ rest. inside_read 8 ty v bytes rest (subst (λ l. InsideLayer (IsInside 7) l v bytes) (sym e) h))
full_layer_read ty (Ty-F.Bytes n) v bytes e h = whole_read ty v bytes (λ rest. inside_read 8 ty v bytes rest (subst (λ l. InsideLayer (IsInside 7) l v bytes) (sym e) h))
full_layer_read ty (Ty-F.Struct fields) v bytes e h = whole_read ty v bytes (λ rest. inside_read 8 ty v bytes rest (subst (λ l. InsideLayer (IsInside 7) l v bytes) (sym e) h))

pub full_read : (ty : Ty) (v : Value) (bytes : List ℕ) → IsFull ty v bytes → full_in ty bytes ≡ Ok v
unfolding full_in
full_read ty v bytes h = full_layer_read ty (out-Ty ty) v bytes refl h

pub one_value : (ty : Ty) (v w : Value) (bytes : List ℕ) → IsFull ty v bytes → IsFull ty w bytes → v ≡ w
one_value ty v w bytes h k = same v w (sym (full_read ty v bytes h) ∙ full_read ty w bytes k)
  where
    same : (x y : Value) → ◌≡◌ {A = Result Value ℕ} (Ok x) (Ok y) → x ≡ y
    same x y e = cc
