-- What is read is a full form of its value.
use Rattle.std.proofs.Common.{◌≡◌, ℕ, ℤ, zero, suc, ◌+◌, ◌-◌, ◌*◌, ◌/◌, ◌%◌, ◌^◌, ◌==◌, ◌<◌, ◌≤◌, nat_lt, nat_le, int_lt, Bool, true, false, not, ◌||◌, cond, List, [], ◌∷◌, ◌++◌, append_assoc, append-nil, length, take, drop, map, Result, Ok, Err, IfOk, refl, sym, ap, ap₂, ◌∙◌, subst, arith, length-append}
use Rattle.std.proofs.lemmas.Str.{IsUtf8-from_is_utf8}
use Rattle.std.proofs.lemmas.List.{take-append-drop, length-drop}
use Rattle.std.specs.Str.{is_utf8}
use Rattle.std.specs.List.{list_all}
use Rattle.std.specs.Ordering.{nat_cmp}
use Rattle.std.specs.BTreeMap.{insert_entry}
use Rattle.fc_types.specs.Sound.{IsSound}
use Rattle.fc_types.specs.Types.{field_ty, fields_of, nests, nests_layer}
use Rattle.fc_types.specs.declared.ty.KeyDecl.{KeyDecl}
use Rattle.fc_types.specs.declared.ty.Field.{Field}
use Rattle.fc_types.specs.declared.ty.Ty.{Ty}
use Rattle.fc_types.specs.declared.ty.Ty.TheOpen.{Ty-F}
use Rattle.fc_types.specs.declared.ty.Ty.TheViews.{out-Ty}
use Rattle.fc_wire.specs.Bytes.{u16_at, u16_bytes, u32_at, u32_bytes, AreBytes}
use Rattle.fc_base.specs.declared.faults.OpFault.{OpFault}
use Rattle.fc_base.specs.Answers.{◌>>=◌}
use Rattle.fc_value.specs.Outcomes.{Gives}
use Rattle.fc_value.specs.Numbers.{is_width, number_of}
use Rattle.fc_value.specs.Keys.{keys_differ}
use Rattle.fc_value.specs.Reading.{Reader, taken, truth_in, ranged, number_in, fixed_in, text_of, octets_of, cut, unpadded, closed, held, each_in, has_subscript, entry_in, entries_by, entries_in, table_of, inside, alone, full_layer, full_in}
use Rattle.fc_value.specs.FullForm.{IsTruth, IsBit, IsNumber, IsText, IsOctets, IsFixed, EachField, EachEntry, AreRising, AreJoined, IsTable, InFullData, InsideLayer, IsInside, FullLayer, IsFull}
use Rattle.fc_value.specs.declared.value.Value.{Value}
use Rattle.fc_value.specs.declared.value.Value.TheVariants as value
use Rattle.fc_value.proofs.Conditions.{both, neither, not_below_is}
use Rattle.fc_value.proofs.Entries.{place}
use Rattle.fc_value.proofs.Layers.{in_layer, inside_law}
use Rattle.fc_value.proofs.Nesting.{no_depth, one_level}
use Rattle.fc_value.proofs.Shrinking.{never, ok_same, bind_ok, else_ok, then_ok, cut_ok, entry_took}

-- bytes in bytes
pub front_bytes : (xs ys : List ℕ) → AreBytes (xs ++ ys) → AreBytes xs
front_bytes [] ys h = tt
front_bytes (x ∷ xs) ys h = (h.0, front_bytes xs ys h.1)

pub back_bytes : (xs ys : List ℕ) → AreBytes (xs ++ ys) → AreBytes ys
back_bytes [] ys h = h
back_bytes (x ∷ xs) ys h = back_bytes xs ys h.1

pub split_back : (bytes xs ys : List ℕ) → bytes ≡ xs ++ ys → AreBytes bytes → AreBytes ys
split_back bytes xs ys e h = back_bytes xs ys (subst AreBytes e h)

pub split_front : (bytes xs ys : List ℕ) → bytes ≡ xs ++ ys → AreBytes bytes → AreBytes xs
split_front bytes xs ys e h = front_bytes xs ys (subst AreBytes e h)

-- what a reader took is of this kind, and the rest stands behind it
abbrev pub Took : (Value → List ℕ → Type 0) → Value → List ℕ → List ℕ → Type 0
Took Is v bytes rest = (front : List ℕ) × (bytes ≡ front ++ rest) × Is v front

taken_front : (n : ℕ) (bytes : List ℕ) (x : List ℕ × List ℕ) → taken n bytes ≡ Ok x → (bytes ≡ x.0 ++ x.1) × (length x.0 ≡ n)
taken_front n bytes x e =
    let p : (nat_lt (length bytes) n ≡ false) × (Ok (take n bytes, drop n bytes) ≡ Ok x) = else_ok _ _ _ _ e in
    let long : n ≤ length bytes = not_below_is _ _ p.0 in
    let whole : take n bytes ++ drop n bytes ≡ bytes = take-append-drop n bytes in
    let size : length (take n bytes ++ drop n bytes) ≡ length (take n bytes) + length (drop n bytes) = length-append (take n bytes) (drop n bytes) in
    subst (λ (y : List ℕ × List ℕ). (bytes ≡ y.0 ++ y.1) × (length y.0 ≡ n)) (ok_same (take n bytes, drop n bytes) x p.1)
    (sym whole, omega (arith, ap length whole, size, length-drop n bytes, long))

truth_kind : (b : ℕ) (bytes rest : List ℕ) (v : Value) (zeroth first : Bool) → (b == 0) ≡ zeroth → (b == 1) ≡ first
    → cond {A = Result (Value × List ℕ) ℕ} zeroth (Ok (value.Truth false, bytes)) (cond first (Ok (value.Truth true, bytes)) (Err 14)) ≡ Ok (v, rest)
    → (t : Bool) × (v ≡ value.Truth t) × (bytes ≡ rest) × IsBit b t
truth_kind b bytes rest v true first p q e =
    let same = ok_same (value.Truth false, bytes) (v, rest) e in
    (false, sym (ap (λ (x : Value × List ℕ). x.0) same), ap (λ (x : Value × List ℕ). x.1) same, zero_is b p)
  where
    zero_is : (n : ℕ) → (n == 0) ≡ true → n ≡ 0
    zero_is n h = grind arith
truth_kind b bytes rest v false true p q e =
    let same = ok_same (value.Truth true, bytes) (v, rest) e in
    (true, sym (ap (λ (x : Value × List ℕ). x.0) same), ap (λ (x : Value × List ℕ). x.1) same, one_is b q)
  where
    one_is : (n : ℕ) → (n == 1) ≡ true → n ≡ 1
    one_is n h = grind arith
truth_kind b bytes rest v false false p q e = never _ (v, rest) e

truth_took : (bytes rest : List ℕ) (v : Value) → truth_in bytes ≡ Ok (v, rest) → Took IsTruth v bytes rest
truth_took [] rest v e = never _ (v, rest) e
truth_took (b ∷ bytes) rest v e =
    let p = truth_kind b bytes rest v (b == 0) (b == 1) refl refl e in
    (b ∷ [], ap (λ l. b ∷ l) p.2, (b, p.0, p.1, refl, p.3))

number_took : (w : ℕ) (s : Bool) (min max : ℤ) (bytes rest : List ℕ) (v : Value) → number_in w s min max bytes ≡ Ok (v, rest) → Took (IsNumber w s min max) v bytes rest
number_took w s min max bytes rest v e =
    let p : (is_width w ≡ true) × ((taken w bytes >>= λ x. ranged min max (number_of s x.0) x.1) ≡ Ok (v, rest)) = then_ok _ _ _ _ e in
    let q : (x : List ℕ × List ℕ) × (taken w bytes ≡ Ok x) × (ranged min max (number_of s x.0) x.1 ≡ Ok (v, rest)) =
    bind_ok (taken w bytes) (λ x. ranged min max (number_of s x.0) x.1) (v, rest) p.1 in
    let r : ((int_lt (number_of s q.0.0) min || int_lt max (number_of s q.0.0)) ≡ false) × (Ok (value.Number (number_of s q.0.0), q.0.1) ≡ Ok (v, rest)) = else_ok _ _ _ _ q.2 in
    let same = ok_same (value.Number (number_of s q.0.0), q.0.1) (v, rest) r.1 in
    let t = taken_front w bytes q.0 q.1 in
    (q.0.0, t.0 ∙ ap (λ l. q.0.0 ++ l) (ap (λ (x : Value × List ℕ). x.1) same), (sym (ap (λ (x : Value × List ℕ). x.0) same), t.1, p.0, neither _ _ r.0))

fixed_took : (n : ℕ) (bytes rest : List ℕ) (v : Value) → fixed_in n bytes ≡ Ok (v, rest) → Took (IsFixed n) v bytes rest
fixed_took n bytes rest v e =
    let q : (x : List ℕ × List ℕ) × (taken n bytes ≡ Ok x) × (Ok (value.Raw x.0, x.1) ≡ Ok (v, rest)) = bind_ok (taken n bytes) (λ x. Ok (value.Raw x.0, x.1)) (v, rest) e in
    let same = ok_same (value.Raw q.0.0, q.0.1) (v, rest) q.2 in
    let t = taken_front n bytes q.0 q.1 in
    (q.0.0, t.0 ∙ ap (λ l. q.0.0 ++ l) (ap (λ (x : Value × List ℕ). x.1) same), (sym (ap (λ (x : Value × List ℕ). x.0) same), t.1))

text_is : (limit : ℕ) (bytes : List ℕ) (v : Value) → text_of limit bytes ≡ Ok v → IsText limit v bytes
text_is limit bytes v e =
    let p : (is_utf8 bytes ≡ true) × (cond (nat_lt limit (length bytes)) (Err 14) (Ok (value.Text bytes)) ≡ Ok v) = then_ok _ _ _ _ e in
    let q : (nat_lt limit (length bytes) ≡ false) × (Ok (value.Text bytes) ≡ Ok v) = else_ok _ _ _ _ p.1 in
    (sym (ok_same (value.Text bytes) v q.1), IsUtf8-from_is_utf8 bytes p.0, not_below_is _ _ q.0)

octets_is : (limit : ℕ) (bytes : List ℕ) (v : Value) → octets_of limit bytes ≡ Ok v → IsOctets limit v bytes
octets_is limit bytes v e =
    let q : (nat_lt limit (length bytes) ≡ false) × (Ok (value.Raw bytes) ≡ Ok v) = else_ok _ _ _ _ e in
    (sym (ok_same (value.Raw bytes) v q.1), not_below_is _ _ q.0)

-- four bytes at the front
headed : (bytes : List ℕ) → 4 ≤ length bytes → (a : ℕ) × (b : ℕ) × (c : ℕ) × (d : ℕ) × (tail : List ℕ) × (bytes ≡ a ∷ b ∷ c ∷ d ∷ tail)
headed [] h = absurd (omega arith)
headed (a ∷ []) h = absurd (omega arith)
headed (a ∷ b ∷ []) h = absurd (omega arith)
headed (a ∷ b ∷ c ∷ []) h = absurd (omega arith)
headed (a ∷ b ∷ c ∷ d ∷ tail) h = (a, b, c, d, tail, refl)

same_test : (m n : ℕ) → not (m == n) ≡ false → m ≡ n
same_test m n h = grind arith

-- the bytes of a FULLDATA that was cut, without its padding
cut_spelled : (bytes : List ℕ) (x : List ℕ × List ℕ) → AreBytes bytes → cut bytes ≡ Ok x
    → (length x.0 + 4 < 2 ^ 16) × (bytes ≡ u16_bytes 274 ++ u16_bytes (length x.0 + 4) ++ x.0 ++ x.1)
cut_spelled bytes x fine e =
    let p = cut_ok bytes x e in
    let h = headed bytes p.0 in
    let a = h.0 in let b = h.1 in let c = h.2 in let d = h.3 in let tail = h.4 in
    let is : bytes ≡ a ∷ b ∷ c ∷ d ∷ tail = h.5 in
    let ranges : AreBytes (a ∷ b ∷ c ∷ d ∷ tail) = subst AreBytes is fine in
    let n : ℕ = 2 ^ 8 * c + d in
    let tests : (not (2 ^ 8 * a + b == 274) ≡ false) × (nat_lt n 4 ≡ false) = neither _ _ (subst (λ l. (not (u16_at l 0 == 274) || nat_lt (u16_at l 2) 4) ≡ false) is p.1) in
    let kind : 2 ^ 8 * a + b ≡ 274 = same_test _ _ tests.0 in
    let low : 4 ≤ n = not_below_is _ _ tests.1 in
    let high : n ≤ length (a ∷ b ∷ c ∷ d ∷ tail) = subst (λ l. u16_at l 2 ≤ length l) is p.2 in
    let m : ℕ = n - 4 in
    let four : n ≡ suc (suc (suc (suc m))) = omega (arith, low) in
    let first : x.0 ≡ take m tail = sym (ap (λ (y : List ℕ × List ℕ). y.0) p.3) ∙ ap (λ l. drop 4 (take (u16_at l 2) l)) is ∙ ap (λ k. drop 4 (take k (a ∷ b ∷ c ∷ d ∷ tail))) four in
    let second : x.1 ≡ drop m tail = sym (ap (λ (y : List ℕ × List ℕ). y.1) p.3) ∙ ap (λ l. drop (u16_at l 2) l) is ∙ ap (λ k. drop k (a ∷ b ∷ c ∷ d ∷ tail)) four in
    let whole : take m tail ++ drop m tail ≡ tail = take-append-drop m tail in
    let size : length x.0 ≡ m =
    omega (arith, ap length first, ap length whole, length-append (take m tail) (drop m tail), length-drop m tail, high, four) in
    let count : length x.0 + 4 ≡ n = omega (arith, size, low) in
    let one : a ≡ 1 = omega (arith, kind, ranges.1.0) in
    let other : b ≡ 18 = omega (arith, kind, ranges.1.0) in
    let upper : (length x.0 + 4) / 2 ^ 8 ≡ c = omega (arith, count, ranges.1.1.1.0) in
    let lower : (length x.0 + 4) % 2 ^ 8 ≡ d = omega (arith, count, ranges.1.1.1.0) in (
      omega (arith, count, ranges.1.1.0, ranges.1.1.1.0),
      is ∙ ap₂ (λ k l. k ∷ l ∷ c ∷ d ∷ tail) one other ∙ ap₂ (λ k l. 1 ∷ 18 ∷ k ∷ l ∷ tail) (sym upper) (sym lower)
          ∙ ap (λ l. 1 ∷ 18 ∷ (length x.0 + 4) / 2 ^ 8 ∷ (length x.0 + 4) % 2 ^ 8 ∷ l) (sym whole ∙ ap₂ (λ k l. k ++ l) (sym first) (sym second)),
    )

pub held_took : (one : List ℕ → Result Value ℕ) (Is : Value → List ℕ → Type 0) (bytes rest : List ℕ) (v : Value)
    → ((body : List ℕ) (w : Value) → AreBytes body → one body ≡ Ok w → Is w body) → AreBytes bytes → held one bytes ≡ Ok (v, rest) → Took (InFullData Is) v bytes rest
held_took one Is bytes rest v kind fine e =
    let p : (x : List ℕ × List ℕ) × (cut bytes ≡ Ok x) × ((one x.0 >>= λ w. closed w (length x.0) x.1) ≡ Ok (v, rest)) =
    bind_ok (cut bytes) (λ x. one x.0 >>= λ w. closed w (length x.0) x.1) (v, rest) e in
    let q : (w : Value) × (one p.0.0 ≡ Ok w) × (closed w (length p.0.0) p.0.1 ≡ Ok (v, rest)) =
    bind_ok (one p.0.0) (λ w. closed w (length p.0.0) p.0.1) (v, rest) p.2 in
    let n : ℕ = (4 - length p.0.0 % 4) % 4 in
    let u : (r : List ℕ) × (unpadded (length p.0.0) p.0.1 ≡ Ok r) × (Ok (q.0, r) ≡ Ok (v, rest)) = bind_ok (unpadded (length p.0.0) p.0.1) (λ r. Ok (q.0, r)) (v, rest) q.2 in
    let t : (y : List ℕ × List ℕ) × (taken n p.0.1 ≡ Ok y) × (Ok y.1 ≡ Ok u.0) = bind_ok (taken n p.0.1) (λ y. Ok y.1) u.0 u.1 in
    let same = ok_same (q.0, u.0) (v, rest) u.2 in
    let tail : t.0.1 ≡ rest = ok_same t.0.1 u.0 t.2 ∙ ap (λ (x : Value × List ℕ). x.1) same in
    let behind = taken_front n p.0.1 t.0 t.1 in
    let spelled = cut_spelled bytes p.0 fine p.1 in
    let body = p.0.0 in
    let padding = t.0.0 in
    let head = u16_bytes 274 ++ u16_bytes (length body + 4) in
    let size : length (body ++ padding) ≡ length body + length padding = length-append body padding in
    let split : p.0.1 ≡ padding ++ rest = behind.0 ∙ ap (λ l. padding ++ l) tail in
    let all : bytes ≡ (head ++ (body ++ padding)) ++ rest =
    spelled.1 ∙ ap (λ l. head ++ (body ++ l)) split ∙ ap (λ l. head ++ l) (sym (append_assoc body padding rest)) in
    let good : AreBytes body = front_bytes body p.0.1 (back_bytes head (body ++ p.0.1) (subst AreBytes spelled.1 fine)) in (
      head ++ (body ++ padding),
      all,
      (
        body,
        body ++ padding,
        record { padding = padding; few = omega (arith, behind.1); whole = omega (arith, size, behind.1); fits = spelled.0; value = refl; spelled = refl },
        subst (λ w. Is w body) (ap (λ (x : Value × List ℕ). x.0) same) (kind body q.0 good q.1),
      ),
    )

-- an entry that was read
entry_spelled : (one : Reader) (limit : ℕ) (old : List (ℕ × Value)) (bytes : List ℕ) (x : List (ℕ × Value) × List ℕ) → AreBytes bytes → entry_in one limit old bytes ≡ Ok x
    → (s : ℕ) × (v : Value) × (tail : List ℕ) × (bytes ≡ u32_bytes s ++ tail) × AreBytes tail × (one tail ≡ Ok (v, x.1)) × (has_subscript old s ≡ false) × (length old < limit)
    × (x.0 ≡ insert_entry nat_cmp old s v)
entry_spelled one limit old bytes x fine e =
    let t = entry_took one limit old bytes x e in
    let h = headed bytes (not_below_is _ _ t.1) in
    let is : bytes ≡ h.0 ∷ h.1 ∷ h.2 ∷ h.3 ∷ h.4 = h.5 in
    let ranges : AreBytes (h.0 ∷ h.1 ∷ h.2 ∷ h.3 ∷ h.4) = subst AreBytes is fine in
    let number : u32_at bytes 0 ≡ 2 ^ 24 * h.0 + 2 ^ 16 * h.1 + 2 ^ 8 * h.2 + h.3 = ap (λ l. u32_at l 0) is in
    let tail : drop 4 bytes ≡ h.4 = ap (drop 4) is in
    let behind : one h.4 ≡ Ok (t.0.0, x.1) = ap one (sym tail) ∙ t.4 ∙ ap (λ (y : List ℕ). pair t.0.0 y) (ap (λ (y : List (ℕ × Value) × List ℕ). y.1) t.5) in (
      u32_at bytes 0,
      t.0.0,
      h.4,
      is ∙ four (u32_at bytes 0) h.0 h.1 h.2 h.3 h.4 number ranges.0 ranges.1.0 ranges.1.1.0 ranges.1.1.1.0,
      ranges.1.1.1.1,
      behind,
      t.2,
      fewer t.3,
      sym (ap (λ (y : List (ℕ × Value) × List ℕ). y.0) t.5),
    )
  where
    pair : Value → List ℕ → Result (Value × List ℕ) ℕ
    pair w l = Ok (w, l)

    fewer : {m n : ℕ} → nat_le n m ≡ false → m < n
    fewer h = grind arith

    four : (n a b c d : ℕ) (l : List ℕ) → n ≡ 2 ^ 24 * a + 2 ^ 16 * b + 2 ^ 8 * c + d → a < 256 → b < 256 → c < 256 → d < 256 → a ∷ b ∷ c ∷ d ∷ l ≡ u32_bytes n ++ l
    four n a b c d l e p q r s =
        let one : a ≡ n / 2 ^ 24 = omega (arith, e) in
        let two : b ≡ n / 2 ^ 16 % 2 ^ 8 = omega (arith, e) in
        let three : c ≡ n / 2 ^ 8 % 2 ^ 8 = omega (arith, e) in
        let last : d ≡ n % 2 ^ 8 = omega (arith, e) in
        ap₂ (λ k m. k ∷ m ∷ c ∷ d ∷ l) one two ∙ ap₂ (λ k m. n / 2 ^ 24 ∷ n / 2 ^ 16 % 2 ^ 8 ∷ k ∷ m ∷ l) three last

module _ (depth : ℕ) (took : (ty : Ty) (bytes rest : List ℕ) (v : Value) → nests depth ty ≡ true → AreBytes bytes → inside ty bytes ≡ Ok (v, rest) → Took (IsInside depth ty) v bytes rest) where
  fields_took : (fs : List Field) (bytes : List ℕ) (x : List Value × List ℕ) → list_all (λ f. nests depth (field_ty f)) fs ≡ true → AreBytes bytes
      → each_in (map (λ f. inside (field_ty f)) fs) bytes ≡ Ok x → (front : List ℕ) × (bytes ≡ front ++ x.1) × EachField (IsInside depth) fs x.0 front
  fields_took [] bytes x deep fine e =
      let same = ok_same ([], bytes) x e in
      subst (λ (y : List Value × List ℕ). (front : List ℕ) × (bytes ≡ front ++ y.1) × EachField (IsInside depth) [] y.0 front) same ([], refl, refl)
  fields_took (f ∷ fs) bytes x deep fine e =
      let d : (nests depth (field_ty f) ≡ true) × (list_all (λ f. nests depth (field_ty f)) fs ≡ true) = both _ _ deep in
      let readers = map (λ g. inside (field_ty g)) fs in
      let p : (y : Value × List ℕ) × (inside (field_ty f) bytes ≡ Ok y) × ((each_in readers y.1 >>= λ z. Ok (y.0 ∷ z.0, z.1)) ≡ Ok x) =
      bind_ok (inside (field_ty f) bytes) (λ y. each_in readers y.1 >>= λ z. Ok (y.0 ∷ z.0, z.1)) x e in
      let q : (z : List Value × List ℕ) × (each_in readers p.0.1 ≡ Ok z) × (Ok (p.0.0 ∷ z.0, z.1) ≡ Ok x) = bind_ok (each_in readers p.0.1) (λ z. Ok (p.0.0 ∷ z.0, z.1)) x p.2 in
      let first = took (field_ty f) bytes p.0.1 p.0.0 d.0 fine p.1 in
      let more = fields_took fs p.0.1 q.0 d.1 (split_back bytes first.0 p.0.1 first.1 fine) q.1 in
      subst (λ (y : List Value × List ℕ). (front : List ℕ) × (bytes ≡ front ++ y.1) × EachField (IsInside depth) (f ∷ fs) y.0 front) (ok_same (p.0.0 ∷ q.0.0, q.0.1) x q.2)
      (first.0 ++ more.0, first.1 ∙ ap (λ l. first.0 ++ l) more.1 ∙ sym (append_assoc first.0 more.0 q.0.1), (first.0, more.0, refl, first.2, more.2))

  -- the entries that were joined to the old ones
  abbrev Joined : Ty → ℕ → List (ℕ × Value) → List ℕ → List (ℕ × Value) → Type 0
  Joined entry limit old bytes es =
      (ps : List (ℕ × Value)) × AreJoined old ps es × EachEntry (IsInside depth) entry ps bytes × AreRising es × (length old ≤ limit → length es ≤ limit)

  entries_took : (entry : Ty) (limit fuel : ℕ) (old es : List (ℕ × Value)) (bytes : List ℕ) → nests depth entry ≡ true → AreBytes bytes → AreRising old
      → entries_by (inside entry) limit fuel old bytes ≡ Ok es → Joined entry limit old bytes es
  entries_took entry limit fuel old es [] deep fine up e =
      let same : old ≡ es = same_entries old es e in
      ([], sym same, refl, subst AreRising same up, λ few. omega (arith, few, ap length same))
    where
      same_entries : (xs ys : List (ℕ × Value)) → ◌≡◌ {A = Result (List (ℕ × Value)) ℕ} (Ok xs) (Ok ys) → xs ≡ ys
      same_entries xs ys h = cc
  entries_took entry limit zero old es (b ∷ bytes) deep fine up e = never _ es e
  entries_took entry limit (suc fuel) old es (b ∷ bytes) deep fine up e =
      let all : List ℕ = b ∷ bytes in
      let p : (x : List (ℕ × Value) × List ℕ) × (entry_in (inside entry) limit old all ≡ Ok x) × (entries_by (inside entry) limit fuel x.0 x.1 ≡ Ok es) =
      bind_ok (entry_in (inside entry) limit old all) (λ x. entries_by (inside entry) limit fuel x.0 x.1) es e in
      let s = entry_spelled (inside entry) limit old all p.0 fine p.1 in
      let first = took entry s.2 p.0.1 s.1 deep s.4 s.5 in
      let where_put = place old s.0 s.1 up s.6 in
      let next : p.0.0 ≡ where_put.front ++ (s.0, s.1) ∷ where_put.back = s.8 ∙ where_put.put in
      let more = entries_took entry limit fuel p.0.0 es p.0.1 deep (split_back s.2 first.0 p.0.1 first.1 s.4) (subst AreRising (sym next) where_put.rising) p.2 in
      let sizes : length p.0.0 ≡ suc (length old) =
      omega (arith, ap length next, ap length where_put.split, length-append where_put.front ((s.0, s.1) ∷ where_put.back), length-append where_put.front where_put.back) in (
        (s.0, s.1) ∷ more.0,
        (where_put.front, where_put.back, where_put.split, subst (λ l. AreJoined l more.0 es) next more.1),
        (u32_bytes s.0 ++ first.0, p.0.1, s.3 ∙ ap (λ l. u32_bytes s.0 ++ l) first.1, (first.0, refl, first.2), more.2),
        more.3,
        λ few. more.4 (omega (arith, sizes, s.7)),
      )

  table_is : (entry : Ty) (limit : ℕ) (keys : List KeyDecl) (bytes : List ℕ) (v : Value) → nests depth entry ≡ true → AreBytes bytes
      → table_of (inside entry) (fields_of entry) limit keys bytes ≡ Ok v → IsTable (IsInside depth) entry limit keys v bytes
  unfolding entries_in
  table_is entry limit keys bytes v deep fine e =
      let judged : List (ℕ × Value) → Result Value ℕ = λ es. cond (keys_differ (fields_of entry) keys es) (Ok (value.Table es)) (Err 16) in
      let p : (es : List (ℕ × Value)) × (entries_by (inside entry) limit (length bytes) [] bytes ≡ Ok es) × (judged es ≡ Ok v) =
      bind_ok (entries_by (inside entry) limit (length bytes) [] bytes) judged v e in
      let q : (keys_differ (fields_of entry) keys p.0 ≡ true) × (Ok (value.Table p.0) ≡ Ok v) = then_ok _ _ _ _ p.2 in
      let joined = entries_took entry limit (length bytes) [] p.0 bytes deep fine tt p.1 in
      (p.0, joined.0, sym (ok_same (value.Table p.0) v q.1), record { rising = joined.3; few = joined.4 (omega arith); keyed = q.0 }, joined.1, joined.2)

  layer_took : (l : Ty-F Ty Field) (bytes rest : List ℕ) (v : Value) → nests_layer (nests depth) l ≡ true → AreBytes bytes → in_layer l bytes ≡ Ok (v, rest)
      → Took (InsideLayer (IsInside depth) l) v bytes rest
  layer_took Ty-F.Bool bytes rest v deep fine e = truth_took bytes rest v e
  layer_took (Ty-F.Number w s min max) bytes rest v deep fine e = number_took w s min max bytes rest v e
  layer_took (Ty-F.String limit) bytes rest v deep fine e = held_took (text_of limit) (IsText limit) bytes rest v (λ body w good h. text_is limit body w h) fine e
  layer_took (Ty-F.Octets limit) bytes rest v deep fine e = held_took (octets_of limit) (IsOctets limit) bytes rest v (λ body w good h. octets_is limit body w h) fine e
  layer_took (Ty-F.Bytes n) bytes rest v deep fine e = fixed_took n bytes rest v e
  layer_took (Ty-F.Struct fields) bytes rest v deep fine e =
      let p : (x : List Value × List ℕ) × (each_in (map (λ f. inside (field_ty f)) fields) bytes ≡ Ok x) × (Ok (value.Group x.0, x.1) ≡ Ok (v, rest)) =
      bind_ok (each_in (map (λ f. inside (field_ty f)) fields) bytes) (λ x. Ok (value.Group x.0, x.1)) (v, rest) e in
      let same = ok_same (value.Group p.0.0, p.0.1) (v, rest) p.2 in
      let t = fields_took fields bytes p.0 deep fine p.1 in
      (t.0, t.1 ∙ ap (λ l. t.0 ++ l) (ap (λ (x : Value × List ℕ). x.1) same), (p.0.0, sym (ap (λ (x : Value × List ℕ). x.0) same), t.2))
  layer_took (Ty-F.Array entry limit keys) bytes rest v deep fine e =
      held_took (table_of (inside entry) (fields_of entry) limit keys) (IsTable (IsInside depth) entry limit keys) bytes rest v
      (λ body w good h. table_is entry limit keys body w deep good h) fine e

inside_took : (depth : ℕ) (ty : Ty) (bytes rest : List ℕ) (v : Value) → nests depth ty ≡ true → AreBytes bytes → inside ty bytes ≡ Ok (v, rest) → Took (IsInside depth ty) v bytes rest
inside_took zero ty bytes rest v deep fine e = absurd (no_depth ty deep)
inside_took (suc depth) ty bytes rest v deep fine e =
    layer_took depth (inside_took depth) (out-Ty ty) bytes rest v (one_level depth ty deep) fine (ap (λ (r : Reader). r bytes) (sym (inside_law ty)) ∙ e)

alone_is : (x : Value × List ℕ) (v : Value) → alone x ≡ Ok v → (x.0 ≡ v) × (x.1 ≡ [])
alone_is (w, []) v e = (ok_same w v e, refl)
alone_is (w, b ∷ rest) v e = never _ v e

whole_took : (ty : Ty) (v : Value) (bytes : List ℕ) → nests 8 ty ≡ true → AreBytes bytes → (inside ty bytes >>= alone) ≡ Ok v → IsInside 8 ty v bytes
whole_took ty v bytes deep fine e =
    let p : (x : Value × List ℕ) × (inside ty bytes ≡ Ok x) × (alone x ≡ Ok v) = bind_ok (inside ty bytes) alone v e in
    let a = alone_is p.0 v p.2 in
    let t = inside_took 8 ty bytes p.0.1 p.0.0 deep fine p.1 in
    let same : t.0 ≡ bytes = sym (t.1 ∙ ap (λ l. t.0 ++ l) a.1 ∙ append-nil t.0) in
    subst (λ w. IsInside 8 ty w bytes) a.0 (subst (λ l. IsInside 8 ty p.0.0 l) same t.2)

full_layer_took : (ty : Ty) (l : Ty-F Ty Field) (v : Value) (bytes : List ℕ) → out-Ty ty ≡ l → nests 8 ty ≡ true → AreBytes bytes → full_layer l ty bytes ≡ Ok v → FullLayer (IsInside 7) l v bytes
full_layer_took ty (Ty-F.String limit) v bytes is deep fine e = text_is limit bytes v e
full_layer_took ty (Ty-F.Octets limit) v bytes is deep fine e = octets_is limit bytes v e
full_layer_took ty (Ty-F.Array entry limit keys) v bytes is deep fine e =
    table_is 7 (inside_took 7) entry limit keys bytes v (subst (λ l. nests_layer (nests 7) l ≡ true) is (one_level 7 ty deep)) fine e
full_layer_took ty Ty-F.Bool v bytes is deep fine e = subst (λ l. InsideLayer (IsInside 7) l v bytes) is (whole_took ty v bytes deep fine e)
full_layer_took ty (Ty-F.Number w s min max) v bytes is deep fine e = subst (λ l. InsideLayer (IsInside 7) l v bytes) is (whole_took ty v bytes deep fine e)
full_layer_took ty (Ty-F.Bytes n) v bytes is deep fine e = subst (λ l. InsideLayer (IsInside 7) l v bytes) is (whole_took ty v bytes deep fine e)
full_layer_took ty (Ty-F.Struct fields) v bytes is deep fine e = subst (λ l. InsideLayer (IsInside 7) l v bytes) is (whole_took ty v bytes deep fine e)

pub full_took : (ty : Ty) (v : Value) (bytes : List ℕ) → IsSound ty → AreBytes bytes → full_in ty bytes ≡ Ok v → IsFull ty v bytes
unfolding full_in
full_took ty v bytes s fine e = full_layer_took ty (out-Ty ty) v bytes refl s.shallow fine e

-- what a call that gives what reading gives says of the bytes
pub found_of : (result : Result Value OpFault) (ty : Ty) (bytes : List ℕ) → IsSound ty → AreBytes bytes → Gives (λ v. v) result (full_in ty bytes) → IfOk result (λ v. IsFull ty v bytes)
found_of (Ok v) ty bytes s fine h = full_took ty v bytes s fine h
found_of (Err fault) ty bytes s fine h = tt
