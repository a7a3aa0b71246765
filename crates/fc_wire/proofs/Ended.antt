-- A TLV whose length is filled in at its end.
use Rattle.std.proofs.Common.{◌≡◌, ℕ, zero, suc, ◌+◌, ◌-◌, ◌/◌, ◌%◌, ◌≤◌, ◌^◌, List, [], ◌∷◌, ◌++◌, length, take, replicate, refl, sym, ap, ◌∙◌, arith, length-append, append_assoc}
use Rattle.std.specs.Prelude.{slice_set, slice_index_or}
use Rattle.std.specs.List.{AllByRecursion}
use Rattle.fc_wire.proofs.Spelled.{take_front}
use Rattle.fc_wire.specs.Bytes.{u16_bytes}
use Rattle.fc_wire.specs.Writing.{Writing, writing, padding, tlv_bytes, head_bytes, newest, ended_at}

set_behind : (base ys : List ℕ) (i n v : ℕ) → i ≡ length base + n → slice_set (base ++ ys) i v ≡ base ++ slice_set ys n v
set_behind [] ys i n v e = let same : i ≡ n = omega arith in ap (λ k. slice_set ys k v) same
set_behind (x ∷ base) ys zero n v e = absurd (omega arith)
set_behind (x ∷ base) ys (suc i) n v e = ap (λ l. x ∷ l) (set_behind base ys i n v (omega arith))

-- the length and the padding behind a head make a TLV
pub ended_base : (base value : List ℕ) (kind : ℕ) → ended_at (length base) (base ++ (head_bytes kind ++ value)) ≡ base ++ tlv_bytes kind value
unfolding ended_at tlv_bytes padding
ended_base base value kind =
    let start = length base in
    let text : List ℕ = base ++ (head_bytes kind ++ value) in
    let size : length text - start ≡ length value + 4 = omega (arith, length-append base (head_bytes kind ++ value)) in
    let same : (length value + 4) % 4 ≡ length value % 4 = omega arith in
    let pads : padding (length value + 4) ≡ padding (length value) = ap (λ m. replicate ((4 - m) % 4) 0) same in
    let tail : List ℕ = value ++ padding (length value) in
    ap (λ m. slice_set (slice_set (text ++ padding m) (start + 2) (m / 2 ^ 8)) (start + 3) (m % 2 ^ 8)) size
    ∙ ap (λ q. slice_set (slice_set (text ++ q) (start + 2) ((length value + 4) / 2 ^ 8)) (start + 3) ((length value + 4) % 2 ^ 8)) pads
    ∙ ap (λ q. slice_set (slice_set q (start + 2) ((length value + 4) / 2 ^ 8)) (start + 3) ((length value + 4) % 2 ^ 8)) (append_assoc base (head_bytes kind ++ value) (padding (length value)))
    ∙ ap (λ q. slice_set q (start + 3) ((length value + 4) % 2 ^ 8)) (set_behind base (head_bytes kind ++ tail) (start + 2) 2 ((length value + 4) / 2 ^ 8) refl)
    ∙ set_behind base (u16_bytes kind ++ (length value + 4) / 2 ^ 8 ∷ 0 ∷ tail) (start + 3) 3 ((length value + 4) % 2 ^ 8) refl

-- how the code fills it in
pub ended_is : (place len : ℕ) (text padded : List ℕ) → len ≡ length text - place → padded ≡ text ++ padding len
    → slice_set (slice_set padded (place + 2) (len / 256)) (place + 3) (len % 256) ≡ ended_at place text
unfolding ended_at
ended_is place len text padded l p =
    ap (λ q. slice_set (slice_set q (place + 2) (len / 256)) (place + 3) (len % 256)) p
    ∙ ap (λ n. slice_set (slice_set (text ++ padding n) (place + 2) (n / 256)) (place + 3) (n % 256)) l

last_same : (xs ys : List ℕ) (x y : ℕ) → xs ++ x ∷ [] ≡ ys ++ y ∷ [] → (xs ≡ ys) × (x ≡ y)
last_same [] [] x y e = (refl, cc)
last_same [] (b ∷ []) x y e = absurd (omega (arith, ap length e))
last_same [] (b ∷ c ∷ ys) x y e = absurd (omega (arith, ap length e))
last_same (a ∷ []) [] x y e = absurd (omega (arith, ap length e))
last_same (a ∷ c ∷ xs) [] x y e = absurd (omega (arith, ap length e))
last_same (a ∷ xs) (b ∷ ys) x y e =
    let tails : xs ++ x ∷ [] ≡ ys ++ y ∷ [] = cc in
    let heads : a ≡ b = cc in
    let more = last_same xs ys x y tails in
    (cc (heads, more.0), more.1)

-- what ends a TLV, in the words of its value
pub ended_tlv : (old : Writing) (text places : List ℕ) (place : ℕ) → text ≡ ended_at place old.text → old.places ≡ places ++ place ∷ []
    → (base value outer : List ℕ) (kind : ℕ) → old ≡ writing (base ++ (head_bytes kind ++ value)) (outer ++ length base ∷ []) → writing text places ≡ writing (base ++ tlv_bytes kind value) outer
ended_tlv old text places place t p base value outer kind e =
    let both = last_same places outer place (length base) (sym p ∙ ap (λ w. w.places) e) in
    let is : text ≡ base ++ tlv_bytes kind value =
    t ∙ ap (λ n. ended_at n old.text) both.1 ∙ ap (λ w. ended_at (length base) w.text) e ∙ ended_base base value kind in
    cc (is, both.0)

-- the places without the last
pub without_last : (items front outer : List ℕ) (b n : ℕ) → items ≡ outer ++ b ∷ [] → n ≡ length items → front ≡ take (n - 1) items → items ≡ front ++ b ∷ []
without_last items front outer b n e l f =
    let size : n - 1 ≡ length outer = omega (arith, ap length e, length-append outer (b ∷ [])) in
    let same : front ≡ outer = f ∙ ap (λ k. take k items) size ∙ ap (take (length outer)) e ∙ take_front (length outer) outer (b ∷ []) refl in
    e ∙ ap (λ l. l ++ b ∷ []) (sym same)

-- each begun TLV has its head
abbrev pub Headed : ℕ → List ℕ → Type 0
Headed size places = AllByRecursion (λ place. place + 4 ≤ size) places

within_at : (size : ℕ) (places : List ℕ) (i : ℕ) → Headed size places → slice_index_or places i 0 ≤ size
within_at size [] zero h = omega arith
within_at size [] (suc i) h = omega arith
within_at size (p ∷ places) zero h = omega (arith, h.0)
within_at size (p ∷ places) (suc i) h = within_at size places i h.1

pub newest_within : (size : ℕ) (places : List ℕ) → Headed size places → newest places ≤ size
newest_within size places h = within_at size places (length places - 1) h
