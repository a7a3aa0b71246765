-- Numbers and their digits to the base 256.
use Rattle.std.proofs.Common.{◌≡◌, ℕ, ℤ, ◌+◌, ◌*◌, ◌/◌, ◌%◌, ◌<◌, ◌≤◌, ◌^◌, List, [], ◌∷◌, ◌++◌, length, take, get_or, refl, sym, ap, ◌∙◌, arith}
use Rattle.std.proofs.Math.Nat.{pow-le-pow_right, div-div-eq-div-mul}
use Rattle.std.proofs.lemmas.Nat.{pow-add}
use Rattle.std.proofs.lemmas.List.{take_more}
use Rattle.fc_value.specs.Numbers.{digits_from, unsigned, digits, bits_of, number_bytes}

pub digits_push : (n : ℕ) (xs : List ℕ) (b : ℕ) → digits_from n (xs ++ b ∷ []) ≡ digits_from n xs * 256 + b
digits_push n [] b = refl
digits_push n (x ∷ xs) b = digits_push (n * 256 + x) xs b

pub unsigned_more : (bytes : List ℕ) (i d n b : ℕ) → i < length bytes → n ≡ unsigned (take i bytes) → b ≡ get_or bytes i d → n * 256 + b ≡ unsigned (take (i + 1) bytes)
unsigned_more bytes i d n b h e f =
    sym (ap unsigned (take_more bytes i d h) ∙ digits_push 0 (take i bytes) (get_or bytes i d) ∙ ap (λ m. m * 256 + get_or bytes i d) (sym e) ∙ ap (λ m. n * 256 + m) (sym f))

pub next_bound : (i n b : ℕ) → n < 2 ^ (8 * i) → b < 256 → n * 256 + b < 2 ^ (8 * (i + 1))
next_bound i n b h k =
    let e : 8 * (i + 1) ≡ 8 * i + 8 = omega arith in
    let p : 2 ^ (8 * (i + 1)) ≡ 2 ^ (8 * i) * 256 = ap (λ m. 2 ^ m) e ∙ pow-add 2 (8 * i) 8 in
    omega (arith, p)

pub fits_wide : (i n : ℕ) → n < 2 ^ (8 * i) → i < 8 → n * 256 < 2 ^ 64
fits_wide i n h k =
    let p : 2 ^ (8 * i) ≤ 2 ^ 56 = pow-le-pow_right {n = 2} (omega arith) {i = 8 * i} {j = 56} (omega arith) in
    omega (arith, p)

pub digits_2 : (n : ℕ) → digits 2 n ≡ n / 256 % 256 ∷ n % 256 ∷ []
unfolding digits
digits_2 n = refl

pub digits_4 : (n : ℕ) → digits 4 n ≡ n / 16777216 % 256 ∷ n / 65536 % 256 ∷ n / 256 % 256 ∷ n % 256 ∷ []
unfolding digits
digits_4 n = simp div-div-eq-div-mul refl

pub digits_8 : (n : ℕ)
    → digits 8 n ≡ n / 72057594037927936 % 256 ∷ n / 281474976710656 % 256 ∷ n / 1099511627776 % 256 ∷ n / 4294967296 % 256 ∷ n / 16777216 % 256 ∷ n / 65536 % 256 ∷ n / 256 % 256 ∷ n % 256 ∷ []
unfolding digits
digits_8 n = simp div-div-eq-div-mul refl

pub one_byte : (w : ℕ) (z : ℤ) (b : ℕ) → w ≡ 1 → b ≡ bits_of z % 256 → b ∷ [] ≡ number_bytes w z
unfolding digits
one_byte w z b e f = sym (ap (λ v. number_bytes v z) e ∙ ap (λ d. d ∷ []) (sym f))
