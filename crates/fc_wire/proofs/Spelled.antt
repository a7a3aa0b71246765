-- TLVs and ILVs, and their bytes.
use Rattle.std.proofs.Common.{◌≡◌, ℕ, zero, suc, ◌+◌, ◌-◌, ◌*◌, ◌/◌, ◌%◌, ◌<◌, ◌≤◌, ◌^◌, List, [], ◌∷◌, ◌++◌, length, take, drop, get_or, Bool, true, false, nat_lt, cond, Some, Result, Ok, Err, refl, sym, ap, ◌∙◌, subst, arith, length-append, append_assoc}
use Rattle.std.proofs.lemmas.List.{take-append-drop, length-take-le, length-take, length-drop}
use Rattle.std.proofs.Math.Seq.{take-append_seam, drop-append_seam, take-add}
use borrow.Author.Tests.{ltb-false}
use Rattle.fc_wire.specs.Bytes.{u16_at, AreBytes}
use Rattle.fc_wire.specs.Tlvs.{TlvItem, IsTlv, IsTlvAt, one_tlv, tlv_of, tlv_fault, padded_len}
use Rattle.fc_wire.specs.declared.header.WireFault.{WireFault}
use Rattle.fc_wire.proofs.Stepping.{else_ok}
use Rattle.fc_wire.proofs.Tiled.{Taken}

pub ltb_no : (m n : ℕ) → n ≤ m → nat_lt m n ≡ false
ltb_no m n h = grind arith

pub skip : {A : Type 0} (b : Bool) (x y : A) → b ≡ false → cond b x y ≡ y
skip true x y e = cc
skip false x y e = refl

pub ok_same : {A E : Type 0} (x y : A) → ◌≡◌ {A = Result A E} (Ok x) (Ok y) → x ≡ y
ok_same x y e = cc

pub never : {A E : Type 0} {P : Type 0} (d : E) (y : A) → ◌≡◌ {A = Result A E} (Err d) (Ok y) → P
never d y e = cc

one_tlv_of : (place kind len : ℕ) (bytes : List ℕ) → u16_at bytes 0 ≡ kind → u16_at bytes 2 ≡ len → 4 ≤ len → len ≤ length bytes
    → one_tlv place bytes ≡ Ok (record { kind = kind; place = place; body = drop 4 (take len bytes); padded = drop 4 (take (padded_len len) bytes) }, drop (padded_len len) bytes)
unfolding one_tlv
one_tlv_of place kind len bytes k l least most =
    skip _ _ _ (ltb_no (length bytes) 4 (omega arith)) ∙ skip _ _ _ (ltb_no (u16_at bytes 2) 4 (omega arith)) ∙ skip _ _ _ (ltb_no (length bytes) (u16_at bytes 2) (omega arith))
    ∙ ap (λ m. Ok (tlv_of m place bytes)) l
    ∙ ap (λ m. Ok (record { kind = m; place = place; body = drop 4 (take len bytes); padded = drop 4 (take (padded_len len) bytes) }, drop (padded_len len) bytes)) k

-- the first n, behind four cells
behind : (a b c d n m : ℕ) (w : List ℕ) → m ≡ suc (suc (suc (suc n))) → drop 4 (take m (a ∷ b ∷ c ∷ d ∷ w)) ≡ take n w
behind a b c d n m w e = ap (λ k. drop 4 (take k (a ∷ b ∷ c ∷ d ∷ w))) e

after : (a b c d n m : ℕ) (w : List ℕ) → m ≡ suc (suc (suc (suc n))) → drop m (a ∷ b ∷ c ∷ d ∷ w) ≡ drop n w
after a b c d n m w e = ap (λ k. drop k (a ∷ b ∷ c ∷ d ∷ w)) e

two_back : (n : ℕ) → 2 ^ 8 * (n / 2 ^ 8) + n % 2 ^ 8 ≡ n
two_back n = omega arith

pub take_front : (n : ℕ) (xs ys : List ℕ) → n ≡ length xs → take n (xs ++ ys) ≡ xs
take_front n xs ys e = ap (λ k. take k (xs ++ ys)) e ∙ take-append_seam xs ys

pub drop_front : (n : ℕ) (xs ys : List ℕ) → n ≡ length xs → drop n (xs ++ ys) ≡ ys
drop_front n xs ys e = ap (λ k. drop k (xs ++ ys)) e ∙ drop-append_seam xs ys

tlv_parts : (place kind : ℕ) (body padded front back : List ℕ) → IsTlv kind body padded front
    → one_tlv place (front ++ back) ≡ Ok (record { kind = kind; place = place; body = body; padded = padded }, back)
tlv_parts place kind body padded front back h =
    let n = length body in
    let bytes : List ℕ = kind / 2 ^ 8 ∷ kind % 2 ^ 8 ∷ (n + 4) / 2 ^ 8 ∷ (n + 4) % 2 ^ 8 ∷ (padded ++ back) in
    let long : length padded ≡ n + length h.padding = ap length h.value ∙ length-append body h.padding in
    let few = h.few in
    let whole = h.whole in
    let round : padded_len (n + 4) ≡ suc (suc (suc (suc (length padded)))) = omega arith in
    let read = one_tlv_of place kind (n + 4) bytes (two_back kind) (two_back (n + 4)) (omega arith) (omega (arith, length-append padded back)) in
    let v : drop 4 (take (n + 4) bytes) ≡ body =
    behind _ _ _ _ n (n + 4) (padded ++ back) (omega arith) ∙ ap (λ w. take n (w ++ back)) h.value ∙ ap (take n) (append_assoc body h.padding back) ∙ take_front n body (h.padding ++ back) refl in
    let p : drop 4 (take (padded_len (n + 4)) bytes) ≡ padded = behind _ _ _ _ (length padded) _ (padded ++ back) round ∙ take_front _ padded back refl in
    let r : drop (padded_len (n + 4)) bytes ≡ back = after _ _ _ _ (length padded) _ (padded ++ back) round ∙ drop_front _ padded back refl in
    ap (λ w. one_tlv place (w ++ back)) h.spelled ∙ read ∙ cc (v, p, r)

-- what is spelled is read
pub tlv_read : (place : ℕ) (t : TlvItem) (front back : List ℕ) → IsTlvAt place t front → one_tlv place (front ++ back) ≡ Ok (t, back)
tlv_read place t front back h =
    tlv_parts place t.kind t.body t.padded front back h.1
    ∙ ap (λ p. Ok (record { kind = t.kind; place = p; body = t.body; padded = t.padded }, back)) (sym h.0)

pub tlv_some : (place : ℕ) (t : TlvItem) (front : List ℕ) → IsTlvAt place t front → 0 < length front
tlv_some place t front h = omega (arith, ap length h.1.spelled)

pub tlv_refuses : (place : ℕ) (bytes : List ℕ) (fault : WireFault) → tlv_fault place bytes ≡ Some fault → one_tlv place bytes ≡ Err fault
unfolding one_tlv
tlv_refuses place bytes fault e = grind arith

pub tlv_names : (place : ℕ) (bytes : List ℕ) (fault : WireFault) → one_tlv place bytes ≡ Err fault → tlv_fault place bytes ≡ Some fault
unfolding one_tlv
tlv_names place bytes fault e = grind arith

pub bytes_take : (n : ℕ) (w : List ℕ) → AreBytes w → AreBytes (take n w)
bytes_take zero [] h = tt
bytes_take zero (x ∷ w) h = tt
bytes_take (suc n) [] h = tt
bytes_take (suc n) (x ∷ w) h = (h.0, bytes_take n w h.1)

pub bytes_drop : (n : ℕ) (w : List ℕ) → AreBytes w → AreBytes (drop n w)
bytes_drop zero [] h = tt
bytes_drop zero (x ∷ w) h = h
bytes_drop (suc n) [] h = tt
bytes_drop (suc n) (x ∷ w) h = bytes_drop n w h.1

pub bytes_all : (b : List ℕ) → ((i : ℕ) → get_or b i 0 < 256) → AreBytes b
bytes_all [] h = tt
bytes_all (x ∷ b) h = (h 0, bytes_all b (λ i. h (suc i)))

cells4 : (p q r s a b c d : ℕ) (w : List ℕ) → p ≡ a → q ≡ b → r ≡ c → s ≡ d → ◌≡◌ {A = List ℕ} (p ∷ q ∷ r ∷ s ∷ w) (a ∷ b ∷ c ∷ d ∷ w)
cells4 p q r s a b c d w e f g h = cc

tlv_cells : (place len n m a b c d : ℕ) (w : List ℕ) → AreBytes (a ∷ b ∷ c ∷ d ∷ w) → (suc (suc (suc (suc (length w))))) % 4 ≡ 0 → len ≡ 2 ^ 8 * c + d → 4 ≤ len → len ≤ suc (suc (suc (suc (length w))))
    → len ≡ suc (suc (suc (suc n))) → padded_len len ≡ suc (suc (suc (suc m)))
    → Taken IsTlvAt place (a ∷ b ∷ c ∷ d ∷ w) (record { kind = 2 ^ 8 * a + b; place = place; body = take n w; padded = take m w }) (drop m w)
tlv_cells place len n m a b c d w fine whole l least most s r =
    let b_byte : b < 256 = fine.1.0 in
    let c_byte : c < 256 = fine.1.1.0 in
    let d_byte : d < 256 = fine.1.1.1.0 in
    let in_w : m ≤ length w = omega arith in
    let few : n ≤ m = omega arith in
    let body_len : length (take n w) ≡ n = length-take-le n w (omega arith) in
    let all_len : length (take m w) ≡ m = length-take-le m w in_w in
    let k = m - n in
    let up : m ≡ n + k = omega arith in
    record {
      front = a ∷ b ∷ c ∷ d ∷ take m w;
      item = (
        refl,
        record {
          padding = take k (drop n w);
          few = omega (arith, length-take k (drop n w));
          whole = omega arith;
          fits = omega arith;
          value = ap (λ j. take j w) up ∙ take-add n k w;
          spelled = sym (cells4 _ _ _ _ a b c d (take m w) (omega arith) (omega arith) (omega arith) (omega arith));
        },
      );
      split = ap (λ v. a ∷ b ∷ c ∷ d ∷ v) (sym (take-append-drop m w));
      are_bytes = bytes_drop m w fine.1.1.1.1;
      whole = omega (arith, length-drop m w);
    }

pub tlv_spells : (place : ℕ) (bytes : List ℕ) (x : TlvItem × List ℕ) → AreBytes bytes → length bytes % 4 ≡ 0 → one_tlv place bytes ≡ Ok x → Taken IsTlvAt place bytes x.0 x.1
unfolding one_tlv
tlv_spells place [] x fine whole e = never _ x e
tlv_spells place (a ∷ []) x fine whole e = never _ x e
tlv_spells place (a ∷ b ∷ []) x fine whole e = never _ x e
tlv_spells place (a ∷ b ∷ c ∷ []) x fine whole e = never _ x e
tlv_spells place (a ∷ b ∷ c ∷ d ∷ w) x fine whole e =
    let bytes : List ℕ = a ∷ b ∷ c ∷ d ∷ w in
    let len = 2 ^ 8 * c + d in
    let p : (nat_lt (length bytes) 4 ≡ false) × (_ ≡ Ok x) = else_ok _ _ _ _ e in
    let q : (nat_lt len 4 ≡ false) × (_ ≡ Ok x) = else_ok _ _ _ _ p.1 in
    let r : (nat_lt (length bytes) len ≡ false) × (Ok (tlv_of len place bytes) ≡ Ok x) = else_ok _ _ _ _ q.1 in
    let least : 4 ≤ len = ltb-false _ _ q.0 in
    let most : len ≤ suc (suc (suc (suc (length w)))) = ltb-false _ _ r.0 in
    let n = len - 4 in
    let m = padded_len len - 4 in
    let up : len ≡ suc (suc (suc (suc n))) = omega arith in
    let round : padded_len len ≡ suc (suc (suc (suc m))) = omega arith in
    let item = tlv_cells place len n m a b c d w fine whole refl least most up round in
    let same : ◌≡◌ {A = TlvItem × List ℕ} (record { kind = 2 ^ 8 * a + b; place = place; body = take n w; padded = take m w }, drop m w) x =
    cc (behind a b c d n len w up, behind a b c d m (padded_len len) w round, after a b c d m (padded_len len) w round, ok_same _ x r.1) in
    subst (λ (y : TlvItem × List ℕ). Taken IsTlvAt place bytes y.0 y.1) same item
