-- Numbers that are written are read again.
use Rattle.std.proofs.Common.{◌≡◌, ℕ, ℤ, pos, negsuc, zero, suc, ◌+◌, ◌-◌, ◌*◌, ◌/◌, ◌%◌, ◌^◌, ◌<◌, ◌≤◌, nat_lt, int_le, Bool, true, false, not, ◌&&◌, cond, List, [], ◌∷◌, length, refl, ap, ◌∙◌, arith, length-append}
use Rattle.std.proofs.lemmas.Int.{ints}
use Rattle.fc_value.specs.Numbers.{unsigned, digits, number_of, bits_of}
use Rattle.fc_value.proofs.Conditions.{then_is, else_is, below, not_below}
use Rattle.fc_value.proofs.Digits.{digits_push}

pub digits_long : (w n : ℕ) → length (digits w n) ≡ w
unfolding digits
digits_long zero n = refl
digits_long (suc w) n = omega (arith, length-append (digits w (n / 256)) (n % 256 ∷ []), digits_long w (n / 256))

more : (w n p q : ℕ) → unsigned (digits w (n / 256)) ≡ n / 256 % p → n / 256 % p * 256 + n % 256 ≡ n % q → unsigned (digits (suc w) n) ≡ n % q
unfolding digits
more w n p q e f = digits_push 0 (digits w (n / 256)) (n % 256) ∙ ap (λ m. m * 256 + n % 256) e ∙ f

one : (n : ℕ) → unsigned (digits 1 n) ≡ n % 256
unfolding digits
one n = omega arith

two : (n : ℕ) → unsigned (digits 2 n) ≡ n % 65536
two n = more 1 n 256 65536 (one (n / 256)) (omega arith)

three : (n : ℕ) → unsigned (digits 3 n) ≡ n % 16777216
three n = more 2 n 65536 16777216 (two (n / 256)) (omega arith)

four : (n : ℕ) → unsigned (digits 4 n) ≡ n % 4294967296
four n = more 3 n 16777216 4294967296 (three (n / 256)) (omega arith)

five : (n : ℕ) → unsigned (digits 5 n) ≡ n % 1099511627776
five n = more 4 n 4294967296 1099511627776 (four (n / 256)) (omega arith)

six : (n : ℕ) → unsigned (digits 6 n) ≡ n % 281474976710656
six n = more 5 n 1099511627776 281474976710656 (five (n / 256)) (omega arith)

seven : (n : ℕ) → unsigned (digits 7 n) ≡ n % 72057594037927936
seven n = more 6 n 281474976710656 72057594037927936 (six (n / 256)) (omega arith)

eight : (n : ℕ) → unsigned (digits 8 n) ≡ n % 18446744073709551616
eight n = more 7 n 72057594037927936 18446744073709551616 (seven (n / 256)) (omega arith)

-- the ends of the numbers of w bytes, where p is 256 to the power w and h its half
abbrev pub Ends : ℕ → ℕ → ℕ → Bool → ℤ → Type 0
Ends w p h true z = (int_le (negsuc (h - 1)) z ≡ true) × (int_le z (pos (h - 1)) ≡ true)
Ends w p h false z = (int_le (pos 0) z ≡ true) × (int_le z (pos (p - 1)) ≡ true)

-- a number that the bytes stand for, where u is the unsigned one
number_is : (s : Bool) (bytes : List ℕ) (z : ℤ) (w p h u : ℕ) → length bytes ≡ w → 2 ^ (8 * w) ≡ p → 2 ^ (8 * w - 1) ≡ h → unsigned bytes ≡ u
    → cond (s && not (nat_lt u h)) (negsuc (p - 1 - u)) (pos u) ≡ z → number_of s bytes ≡ z
number_is s bytes z w p h u l a b e g =
    ap (λ n. cond (s && not (nat_lt (unsigned bytes) (2 ^ (8 * n - 1)))) (negsuc (2 ^ (8 * n) - 1 - unsigned bytes)) (pos (unsigned bytes))) l
    ∙ ap (λ n. cond (s && not (nat_lt (unsigned bytes) n)) (negsuc (2 ^ (8 * w) - 1 - unsigned bytes)) (pos (unsigned bytes))) b
    ∙ ap (λ n. cond (s && not (nat_lt (unsigned bytes) h)) (negsuc (n - 1 - unsigned bytes)) (pos (unsigned bytes))) a
    ∙ ap (λ n. cond (s && not (nat_lt n h)) (negsuc (p - 1 - n)) (pos n)) e ∙ g

above_zero : (h n : ℕ) → 0 < h → int_le (pos n) (pos (h - 1)) ≡ true → n < h
above_zero h n some e = grind (arith, ints, e)

below_zero : (h n : ℕ) → 0 < h → int_le (negsuc (h - 1)) (negsuc n) ≡ true → n < h
below_zero h n some e = grind (arith, ints, e)

picked : (b : Bool) (x y z : ℤ) → b ≡ false → y ≡ z → cond b x y ≡ z
picked b x y z e f = else_is b x y e ∙ f

-- the cases of the sign, where the remainders are known
back : (w p h : ℕ) (s : Bool) (z : ℤ) (u : ℕ) → 0 < h → h ≤ p → p ≤ 2 ^ 64 → (h + h ≤ p) → Ends w p h s z
    → ((n : ℕ) → z ≡ pos n → n < p → u ≡ n) → ((n : ℕ) → z ≡ negsuc n → n < h → u ≡ p - 1 - n)
    → cond (s && not (nat_lt u h)) (negsuc (p - 1 - u)) (pos u) ≡ z
back w p h true (pos n) u some le top twice ends up down =
    let small : n < h = above_zero h n some ends.1 in
    let e : u ≡ n = up n refl (omega (arith, small, le)) in
    picked (true && not (nat_lt u h)) (negsuc (p - 1 - u)) (pos u) (pos n) (ap not (below u h (omega (arith, e, small)))) (ap pos e)
back w p h true (negsuc n) u some le top twice ends up down =
    let small : n < h = below_zero h n some ends.0 in
    let e : u ≡ p - 1 - n = down n refl small in
    then_is (true && not (nat_lt u h)) (negsuc (p - 1 - u)) (pos u) (ap not (not_below u h (omega (arith, e, small, twice)))) ∙ ap negsuc (omega (arith, e, small, le))
back w p h false (pos n) u some le top twice ends up down =
    ap pos (up n refl (above_zero p n (omega (arith, some, le)) ends.1))
back w p h false (negsuc n) u some le top twice ends up down = absurd (nothing n ends.0)
  where
    nothing : (m : ℕ) → int_le (pos 0) (negsuc m) ≡ true → ⊥
    nothing m e = cc

low_positive : (z : ℤ) (n : ℕ) → z ≡ pos n → n < 2 ^ 64 → bits_of z ≡ n
low_positive z n e h = ap bits_of e ∙ small n h
  where
    small : (m : ℕ) → m < 2 ^ 64 → m % 2 ^ 64 ≡ m
    small m k = omega (arith, k)

low_negative : (z : ℤ) (n : ℕ) → z ≡ negsuc n → n < 2 ^ 63 → bits_of z ≡ 18446744073709551615 - n
low_negative z n e h = ap bits_of e ∙ small n h
  where
    small : (m : ℕ) → m < 2 ^ 63 → 2 ^ 64 - 1 - m % 2 ^ 64 ≡ 18446744073709551615 - m
    small m k = omega (arith, k)

-- a number of each width
abbrev pub Again : ℕ → ℕ → ℕ → Type 0
Again w p h = (s : Bool) (z : ℤ) → Ends w p h s z → number_of s (digits w (bits_of z)) ≡ z

pub again_1 : Again 1 256 128
again_1 s z ends = number_is s (digits 1 (bits_of z)) z 1 256 128 (bits_of z % 256) (digits_long 1 (bits_of z)) refl refl (one (bits_of z))
    (back 1 256 128 s z (bits_of z % 256) (omega arith) (omega arith) (omega arith) (omega arith) ends
    (λ n e h. omega (arith, low_positive z n e (omega (arith, h)), h)) (λ n e h. omega (arith, low_negative z n e (omega (arith, h)), h)))

pub again_2 : Again 2 65536 32768
again_2 s z ends = number_is s (digits 2 (bits_of z)) z 2 65536 32768 (bits_of z % 65536) (digits_long 2 (bits_of z)) refl refl (two (bits_of z))
    (back 2 65536 32768 s z (bits_of z % 65536) (omega arith) (omega arith) (omega arith) (omega arith) ends
    (λ n e h. omega (arith, low_positive z n e (omega (arith, h)), h)) (λ n e h. omega (arith, low_negative z n e (omega (arith, h)), h)))

pub again_4 : Again 4 4294967296 2147483648
again_4 s z ends = number_is s (digits 4 (bits_of z)) z 4 4294967296 2147483648 (bits_of z % 4294967296) (digits_long 4 (bits_of z)) refl refl (four (bits_of z))
    (back 4 4294967296 2147483648 s z (bits_of z % 4294967296) (omega arith) (omega arith) (omega arith) (omega arith) ends
    (λ n e h. omega (arith, low_positive z n e (omega (arith, h)), h)) (λ n e h. omega (arith, low_negative z n e (omega (arith, h)), h)))

pub again_8 : Again 8 18446744073709551616 9223372036854775808
again_8 s z ends =
    number_is s (digits 8 (bits_of z)) z 8 18446744073709551616 9223372036854775808 (bits_of z % 18446744073709551616) (digits_long 8 (bits_of z)) refl refl (eight (bits_of z))
    (back 8 18446744073709551616 9223372036854775808 s z (bits_of z % 18446744073709551616) (omega arith) (omega arith) (omega arith) (omega arith) ends
    (λ n e h. omega (arith, low_positive z n e (omega (arith, h)), h)) (λ n e h. omega (arith, low_negative z n e (omega (arith, h)), h)))
