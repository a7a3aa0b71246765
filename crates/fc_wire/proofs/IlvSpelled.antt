-- ILVs and their bytes.
use Rattle.std.proofs.Common.{◌≡◌, ℕ, suc, ◌+◌, ◌-◌, ◌*◌, ◌/◌, ◌%◌, ◌<◌, ◌≤◌, ◌^◌, List, [], ◌∷◌, ◌++◌, length, take, drop, false, nat_lt, Some, Ok, Err, refl, sym, ap, ◌∙◌, subst, arith, length-append, append_assoc}
use Rattle.std.proofs.lemmas.List.{take-append-drop, length-take-le, length-take, length-drop, drop-take, take_rest}
use Rattle.std.proofs.Math.Seq.{take-add}
use borrow.Author.Tests.{ltb-false}
use Rattle.fc_wire.specs.Bytes.{u32_at, AreBytes}
use Rattle.fc_wire.specs.Tlvs.{padded_len}
use Rattle.fc_wire.specs.Ilvs.{IlvItem, IsIlv, IsIlvAt, one_ilv, ilv_of, ilv_fault}
use Rattle.fc_wire.specs.declared.header.WireFault.{WireFault}
use Rattle.fc_wire.proofs.Stepping.{else_ok, ok_second}
use Rattle.fc_wire.proofs.Spelled.{ltb_no, skip, ok_same, take_front, drop_front, bytes_drop}
use Rattle.fc_wire.proofs.Tiled.{Taken}

abbrev eight : ℕ → ℕ → ℕ → ℕ → ℕ → ℕ → ℕ → ℕ → List ℕ → List ℕ
eight a b c d p q r s w = a ∷ b ∷ c ∷ d ∷ p ∷ q ∷ r ∷ s ∷ w

shorter : (bytes rest : List ℕ) (len : ℕ) → 8 ≤ length bytes → 8 ≤ len → drop (padded_len len) bytes ≡ rest → length rest < length bytes
shorter bytes rest len long least e = omega (arith, ap length e, length-drop (padded_len len) bytes)

-- what stands behind an ILV is shorter
pub one_ilv_falls : (place : ℕ) (bytes : List ℕ) (x : IlvItem × List ℕ) → one_ilv place bytes ≡ Ok x → length x.1 < length bytes
unfolding one_ilv
one_ilv_falls place bytes x e =
    let a : (nat_lt (length bytes) 8 ≡ false) × (_ ≡ Ok x) = else_ok _ _ _ _ e in
    let b : (nat_lt (u32_at bytes 4) 8 ≡ false) × (_ ≡ Ok x) = else_ok _ _ _ _ a.1 in
    let c : (nat_lt (length bytes) (u32_at bytes 4) ≡ false) × (Ok (_, drop (padded_len (u32_at bytes 4)) bytes) ≡ Ok x) = else_ok _ _ _ _ b.1 in
    let rest : drop (padded_len (u32_at bytes 4)) bytes ≡ x.1 = ok_second _ _ _ c.1 in
    shorter bytes x.1 _ (ltb-false _ _ a.0) (ltb-false _ _ b.0) rest

one_ilv_of : (place ident len : ℕ) (bytes : List ℕ) → u32_at bytes 0 ≡ ident → u32_at bytes 4 ≡ len → 8 ≤ len → len ≤ length bytes
    → one_ilv place bytes ≡ Ok (record { ident = ident; place = place; body = drop 8 (take len bytes) }, drop (padded_len len) bytes)
unfolding one_ilv
one_ilv_of place ident len bytes k l least most =
    skip _ _ _ (ltb_no (length bytes) 8 (omega arith)) ∙ skip _ _ _ (ltb_no (u32_at bytes 4) 8 (omega arith)) ∙ skip _ _ _ (ltb_no (length bytes) (u32_at bytes 4) (omega arith))
    ∙ ap (λ m. Ok (ilv_of m place bytes)) l
    ∙ ap (λ m. Ok (record { ident = m; place = place; body = drop 8 (take len bytes) }, drop (padded_len len) bytes)) k

cut_body : (len : ℕ) (bytes : List ℕ) → 8 ≤ len → drop 8 (take len bytes) ≡ take (len - 8) (drop 8 bytes)
cut_body len bytes least = let up : len ≡ 8 + (len - 8) = omega arith in ap (λ k. drop 8 (take k bytes)) up ∙ drop-take 8 (len - 8) bytes

-- as the code cuts it
pub one_ilv_cut : (place ident len : ℕ) (bytes : List ℕ) → ident ≡ u32_at bytes 0 → len ≡ u32_at bytes 4 → 8 ≤ len → len ≤ length bytes
    → one_ilv place bytes ≡ Ok (record { ident = ident; place = place; body = take (len - 8) (drop 8 bytes) }, take (length bytes - padded_len len) (drop (padded_len len) bytes))
one_ilv_cut place ident len bytes k l least most =
    one_ilv_of place ident len bytes (sym k) (sym l) least most
    ∙ ap (λ b. Ok (record { ident = ident; place = place; body = b }, drop (padded_len len) bytes)) (cut_body len bytes least)
    ∙ ap (λ b. Ok (record { ident = ident; place = place; body = take (len - 8) (drop 8 bytes) }, b)) (sym (take_rest bytes (padded_len len)))

abbrev up8 : ℕ → ℕ
up8 n = suc (suc (suc (suc (suc (suc (suc (suc n)))))))

-- the first n, behind eight cells
behind : (a b c d p q r s n m : ℕ) (w : List ℕ) → m ≡ up8 n → drop 8 (take m (eight a b c d p q r s w)) ≡ take n w
behind a b c d p q r s n m w e = ap (λ k. drop 8 (take k (eight a b c d p q r s w))) e

after : (a b c d p q r s n m : ℕ) (w : List ℕ) → m ≡ up8 n → drop m (eight a b c d p q r s w) ≡ drop n w
after a b c d p q r s n m w e = ap (λ k. drop k (eight a b c d p q r s w)) e

pub four_back : (n : ℕ) → 2 ^ 24 * (n / 2 ^ 24) + 2 ^ 16 * (n / 2 ^ 16 % 2 ^ 8) + 2 ^ 8 * (n / 2 ^ 8 % 2 ^ 8) + n % 2 ^ 8 ≡ n
four_back n = omega arith

ilv_parts : (place ident : ℕ) (body front back : List ℕ) → IsIlv ident body front → one_ilv place (front ++ back) ≡ Ok (record { ident = ident; place = place; body = body }, back)
ilv_parts place ident body front back h =
    let n = length body in
    let tail : List ℕ = body ++ h.padding in
    let len = n + 8 in
    let bytes : List ℕ = eight (ident / 2 ^ 24) (ident / 2 ^ 16 % 2 ^ 8) (ident / 2 ^ 8 % 2 ^ 8) (ident % 2 ^ 8) (len / 2 ^ 24) (len / 2 ^ 16 % 2 ^ 8) (len / 2 ^ 8 % 2 ^ 8) (len % 2 ^ 8) (tail ++ back) in
    let long : length tail ≡ n + length h.padding = length-append body h.padding in
    let few = h.few in
    let all : length front ≡ up8 (length tail) = ap length h.spelled in
    let whole : length front % 4 ≡ 0 = h.whole in
    let round : padded_len len ≡ up8 (length tail) = omega arith in
    let read = one_ilv_of place ident len bytes (four_back ident) (four_back len) (omega arith) (omega (arith, length-append tail back)) in
    let v : drop 8 (take len bytes) ≡ body =
    behind _ _ _ _ _ _ _ _ n len (tail ++ back) (omega arith) ∙ ap (take n) (append_assoc body h.padding back) ∙ take_front n body (h.padding ++ back) refl in
    let r : drop (padded_len len) bytes ≡ back = after _ _ _ _ _ _ _ _ (length tail) _ (tail ++ back) round ∙ drop_front _ tail back refl in
    ap (λ w. one_ilv place (w ++ back)) h.spelled ∙ read ∙ cc (v, r)

-- what is spelled is read
pub ilv_read : (place : ℕ) (t : IlvItem) (front back : List ℕ) → IsIlvAt place t front → one_ilv place (front ++ back) ≡ Ok (t, back)
ilv_read place t front back h =
    ilv_parts place t.ident t.body front back h.1 ∙ ap (λ p. Ok (record { ident = t.ident; place = p; body = t.body }, back)) (sym h.0)

pub ilv_some : (place : ℕ) (t : IlvItem) (front : List ℕ) → IsIlvAt place t front → 0 < length front
ilv_some place t front h = omega (arith, ap length h.1.spelled)

pub ilv_refuses : (place : ℕ) (bytes : List ℕ) (fault : WireFault) → ilv_fault place bytes ≡ Some fault → one_ilv place bytes ≡ Err fault
unfolding one_ilv
ilv_refuses place bytes fault e = grind arith

pub ilv_names : (place : ℕ) (bytes : List ℕ) (fault : WireFault) → one_ilv place bytes ≡ Err fault → ilv_fault place bytes ≡ Some fault
unfolding one_ilv
ilv_names place bytes fault e = grind arith

same8 : (a b c d p q r s a' b' c' d' p' q' r' s' : ℕ) (w : List ℕ) → a ≡ a' → b ≡ b' → c ≡ c' → d ≡ d' → p ≡ p' → q ≡ q' → r ≡ r' → s ≡ s' → eight a b c d p q r s w ≡ eight a' b' c' d' p' q' r' s' w
same8 a b c d p q r s a' b' c' d' p' q' r' s' w e f g h i j k l = cc

ilv_cells : (place len n m a b c d p q r s : ℕ) (w : List ℕ) → AreBytes (eight a b c d p q r s w) → up8 (length w) % 4 ≡ 0 → len ≡ 2 ^ 24 * p + 2 ^ 16 * q + 2 ^ 8 * r + s → 8 ≤ len → len ≤ up8 (length w)
    → len ≡ up8 n → padded_len len ≡ up8 m
    → Taken IsIlvAt place (eight a b c d p q r s w) (record { ident = 2 ^ 24 * a + 2 ^ 16 * b + 2 ^ 8 * c + d; place = place; body = take n w }) (drop m w)
ilv_cells place len n m a b c d p q r s w fine whole l least most st rd =
    let b_byte : b < 256 = fine.1.0 in
    let c_byte : c < 256 = fine.1.1.0 in
    let d_byte : d < 256 = fine.1.1.1.0 in
    let p_byte : p < 256 = fine.1.1.1.1.0 in
    let q_byte : q < 256 = fine.1.1.1.1.1.0 in
    let r_byte : r < 256 = fine.1.1.1.1.1.1.0 in
    let s_byte : s < 256 = fine.1.1.1.1.1.1.1.0 in
    let in_w : m ≤ length w = omega arith in
    let few : n ≤ m = omega arith in
    let body_len : length (take n w) ≡ n = length-take-le n w (omega arith) in
    let all_len : length (take m w) ≡ m = length-take-le m w in_w in
    let k = m - n in
    let up : m ≡ n + k = omega arith in
    let value : take m w ≡ take n w ++ take k (drop n w) = ap (λ j. take j w) up ∙ take-add n k w in
    record {
      front = eight a b c d p q r s (take m w);
      item = (
        refl,
        record {
          padding = take k (drop n w);
          few = omega (arith, length-take k (drop n w));
          whole = omega arith;
          fits = omega arith;
          spelled = ap (λ v. eight a b c d p q r s v) value
              ∙ same8 _ _ _ _ _ _ _ _ _ _ _ _ _ _ _ _ _ (omega arith) (omega arith) (omega arith) (omega arith) (omega arith) (omega arith) (omega arith) (omega arith);
        },
      );
      split = ap (λ v. eight a b c d p q r s v) (sym (take-append-drop m w));
      are_bytes = bytes_drop m w fine.1.1.1.1.1.1.1.1;
      whole = omega (arith, length-drop m w);
    }

few_cells : (place : ℕ) (bytes : List ℕ) (x : IlvItem × List ℕ) → one_ilv place bytes ≡ Ok x → 8 ≤ length bytes
unfolding one_ilv
few_cells place bytes x e =
    let p : (nat_lt (length bytes) 8 ≡ false) × (_ ≡ Ok x) = else_ok _ _ _ _ e in
    ltb-false _ _ p.0

pub ilv_spells : (place : ℕ) (bytes : List ℕ) (x : IlvItem × List ℕ) → AreBytes bytes → length bytes % 4 ≡ 0 → one_ilv place bytes ≡ Ok x → Taken IsIlvAt place bytes x.0 x.1
unfolding one_ilv
ilv_spells place [] x fine whole e = absurd (omega (arith, few_cells place [] x e))
ilv_spells place (a ∷ []) x fine whole e = absurd (omega (arith, few_cells place (a ∷ []) x e))
ilv_spells place (a ∷ b ∷ []) x fine whole e = absurd (omega (arith, few_cells place (a ∷ b ∷ []) x e))
ilv_spells place (a ∷ b ∷ c ∷ []) x fine whole e = absurd (omega (arith, few_cells place (a ∷ b ∷ c ∷ []) x e))
ilv_spells place (a ∷ b ∷ c ∷ d ∷ []) x fine whole e = absurd (omega (arith, few_cells place (a ∷ b ∷ c ∷ d ∷ []) x e))
ilv_spells place (a ∷ b ∷ c ∷ d ∷ p ∷ []) x fine whole e = absurd (omega (arith, few_cells place (a ∷ b ∷ c ∷ d ∷ p ∷ []) x e))
ilv_spells place (a ∷ b ∷ c ∷ d ∷ p ∷ q ∷ []) x fine whole e = absurd (omega (arith, few_cells place (a ∷ b ∷ c ∷ d ∷ p ∷ q ∷ []) x e))
ilv_spells place (a ∷ b ∷ c ∷ d ∷ p ∷ q ∷ r ∷ []) x fine whole e = absurd (omega (arith, few_cells place (a ∷ b ∷ c ∷ d ∷ p ∷ q ∷ r ∷ []) x e))
ilv_spells place (a ∷ b ∷ c ∷ d ∷ p ∷ q ∷ r ∷ s ∷ w) x fine whole e =
    let bytes : List ℕ = eight a b c d p q r s w in
    let len = 2 ^ 24 * p + 2 ^ 16 * q + 2 ^ 8 * r + s in
    let f : (nat_lt (length bytes) 8 ≡ false) × (_ ≡ Ok x) = else_ok _ _ _ _ e in
    let g : (nat_lt len 8 ≡ false) × (_ ≡ Ok x) = else_ok _ _ _ _ f.1 in
    let h : (nat_lt (length bytes) len ≡ false) × (Ok (ilv_of len place bytes) ≡ Ok x) = else_ok _ _ _ _ g.1 in
    let least : 8 ≤ len = ltb-false _ _ g.0 in
    let most : len ≤ up8 (length w) = ltb-false _ _ h.0 in
    let n = len - 8 in
    let m = padded_len len - 8 in
    let up : len ≡ up8 n = omega arith in
    let round : padded_len len ≡ up8 m = omega arith in
    let item = ilv_cells place len n m a b c d p q r s w fine whole refl least most up round in
    let same : ◌≡◌ {A = IlvItem × List ℕ} (record { ident = 2 ^ 24 * a + 2 ^ 16 * b + 2 ^ 8 * c + d; place = place; body = take n w }, drop m w) x =
    cc (behind a b c d p q r s n len w up, after a b c d p q r s m (padded_len len) w round, ok_same _ x h.1) in
    subst (λ (y : IlvItem × List ℕ). Taken IsIlvAt place bytes y.0 y.1) same item
