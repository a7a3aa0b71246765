-- The table of the two digits of each byte, and the digits of numbers byte by byte.
use Rattle.std.proofs.Common.{◌≡◌, ◌<◌, ◌+◌, ◌*◌, ◌/◌, ◌%◌, ℕ, zero, suc, List, [], ◌∷◌, slice_index_or, ap, ◌∙◌, arith}
use Rattle.fc_base.specs.Hex.{hex, hex_digit}
use Rattle.fc_base.proofs.Hexes.{hex_8, hex_16}

-- the digits of so many bytes from one on
abbrev pub pairs : ℕ → ℕ → List ℕ
pairs zero byte = []
pairs (suc n) byte = hex_digit (byte / 16 % 16) ∷ hex_digit (byte % 16) ∷ pairs n (suc byte)

twice : (d : ℕ) → 2 * suc d ≡ suc (suc (2 * d))
twice d = omega arith

after : (d : ℕ) → 2 * suc d + 1 ≡ suc (suc (2 * d + 1))
after d = omega arith

none : (s : ℕ) → s ≡ s + 0
none s = omega arith

move : (s d : ℕ) → suc s + d ≡ s + suc d
move s d = omega arith

high_in : (n s d : ℕ) → d < n → slice_index_or (pairs n s) (2 * d) 0 ≡ hex_digit ((s + d) / 16 % 16)
high_in zero s d lt = absurd (omega (arith, lt))
high_in (suc n) s zero lt = ap (λ k. hex_digit (k / 16 % 16)) (none s)
high_in (suc n) s (suc d) lt =
    ap (λ i. slice_index_or (pairs (suc n) s) i 0) (twice d) ∙ high_in n (suc s) d (omega (arith, lt)) ∙ ap (λ k. hex_digit (k / 16 % 16)) (move s d)

low_in : (n s d : ℕ) → d < n → slice_index_or (pairs n s) (2 * d + 1) 0 ≡ hex_digit ((s + d) % 16)
low_in zero s d lt = absurd (omega (arith, lt))
low_in (suc n) s zero lt = ap (λ k. hex_digit (k % 16)) (none s)
low_in (suc n) s (suc d) lt =
    ap (λ i. slice_index_or (pairs (suc n) s) i 0) (after d) ∙ low_in n (suc s) d (omega (arith, lt)) ∙ ap (λ k. hex_digit (k % 16)) (move s d)

same : (b : ℕ) → 0 + b ≡ b
same b = omega arith

pub high_at : (b : ℕ) → b < 256 → slice_index_or (pairs 256 0) (2 * b) 0 ≡ hex_digit (b / 16 % 16)
high_at b lt = high_in 256 0 b lt ∙ ap (λ k. hex_digit (k / 16 % 16)) (same b)

pub low_at : (b : ℕ) → b < 256 → slice_index_or (pairs 256 0) (2 * b + 1) 0 ≡ hex_digit (b % 16)
low_at b lt = low_in 256 0 b lt ∙ ap (λ k. hex_digit (k % 16)) (same b)

-- the digits of a number, from its bytes
pub eight : (n a b c d : ℕ) → a ≡ n / 16777216 → b ≡ n / 65536 % 256 → c ≡ n / 256 % 256 → d ≡ n % 256
    → hex_digit (a / 16 % 16) ∷ hex_digit (a % 16) ∷ hex_digit (b / 16 % 16) ∷ hex_digit (b % 16) ∷ hex_digit (c / 16 % 16) ∷ hex_digit (c % 16) ∷ hex_digit (d / 16 % 16) ∷ hex_digit (d % 16) ∷ [] ≡ hex 8 n
eight n a b c d ha hb hc hd =
    let a0 : a / 16 % 16 ≡ n / 268435456 % 16 = omega (arith, ha) in
    let a1 : a % 16 ≡ n / 16777216 % 16 = omega (arith, ha) in
    let b0 : b / 16 % 16 ≡ n / 1048576 % 16 = omega (arith, hb) in
    let b1 : b % 16 ≡ n / 65536 % 16 = omega (arith, hb) in
    let c0 : c / 16 % 16 ≡ n / 4096 % 16 = omega (arith, hc) in
    let c1 : c % 16 ≡ n / 256 % 16 = omega (arith, hc) in
    let d0 : d / 16 % 16 ≡ n / 16 % 16 = omega (arith, hd) in
    let d1 : d % 16 ≡ n % 16 = omega (arith, hd) in
    rw (hex_8 n) (cc (a0, a1, b0, b1, c0, c1, d0, d1))

pub sixteen : (n x y : ℕ) (a b : List ℕ) → x ≡ n / 4294967296 → y ≡ n % 4294967296 → a ≡ hex 8 x → b ≡ hex 8 y
    → slice_index_or a 0 0 ∷ slice_index_or a 1 0 ∷ slice_index_or a 2 0 ∷ slice_index_or a 3 0 ∷ slice_index_or a 4 0 ∷ slice_index_or a 5 0 ∷ slice_index_or a 6 0 ∷ slice_index_or a 7 0 ∷ slice_index_or b 0 0 ∷ slice_index_or b 1 0 ∷ slice_index_or b 2 0 ∷ slice_index_or b 3 0 ∷ slice_index_or b 4 0 ∷ slice_index_or b 5 0 ∷ slice_index_or b 6 0 ∷ slice_index_or b 7 0 ∷ [] ≡ hex 16 n
sixteen n x y a b hx hy ha hb =
    let a0 : x / 268435456 % 16 ≡ n / 1152921504606846976 % 16 = omega (arith, hx) in
    let a1 : x / 16777216 % 16 ≡ n / 72057594037927936 % 16 = omega (arith, hx) in
    let a2 : x / 1048576 % 16 ≡ n / 4503599627370496 % 16 = omega (arith, hx) in
    let a3 : x / 65536 % 16 ≡ n / 281474976710656 % 16 = omega (arith, hx) in
    let a4 : x / 4096 % 16 ≡ n / 17592186044416 % 16 = omega (arith, hx) in
    let a5 : x / 256 % 16 ≡ n / 1099511627776 % 16 = omega (arith, hx) in
    let a6 : x / 16 % 16 ≡ n / 68719476736 % 16 = omega (arith, hx) in
    let a7 : x % 16 ≡ n / 4294967296 % 16 = omega (arith, hx) in
    let b0 : y / 268435456 % 16 ≡ n / 268435456 % 16 = omega (arith, hy) in
    let b1 : y / 16777216 % 16 ≡ n / 16777216 % 16 = omega (arith, hy) in
    let b2 : y / 1048576 % 16 ≡ n / 1048576 % 16 = omega (arith, hy) in
    let b3 : y / 65536 % 16 ≡ n / 65536 % 16 = omega (arith, hy) in
    let b4 : y / 4096 % 16 ≡ n / 4096 % 16 = omega (arith, hy) in
    let b5 : y / 256 % 16 ≡ n / 256 % 16 = omega (arith, hy) in
    let b6 : y / 16 % 16 ≡ n / 16 % 16 = omega (arith, hy) in
    let b7 : y % 16 ≡ n % 16 = omega (arith, hy) in
    rw (ha, hb, hex_8 x, hex_8 y, hex_16 n) (cc (a0, a1, a2, a3, a4, a5, a6, a7, b0, b1, b2, b3, b4, b5, b6, b7))
