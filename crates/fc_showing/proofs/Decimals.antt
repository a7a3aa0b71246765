-- A decimal number is that of its tenth, and one digit.
use Rattle.std.proofs.Common.{◌≡◌, ◌<◌, ◌≤◌, ◌+◌, ◌/◌, ◌%◌, ◌^◌, ◌==◌, ℕ, zero, suc, Bool, true, false, cond, List, [], ◌∷◌, ◌++◌, decimal, refl, sym, ap, ◌∙◌, arith, append_assoc}
use Rattle.std.specs.Fmt.{digits, digits_onto, digit_glyph}
use Rattle.std.proofs.lemmas.Fmt.{decimal_digit}

-- what was there stays behind
onto_by : (b : Bool) (k n : ℕ) (acc : List ℕ) → ((m : ℕ) (l : List ℕ) → digits_onto k 10 false m l ≡ digits_onto k 10 false m [] ++ l)
    → cond b (digit_glyph false (n % 10) ∷ acc) (digits_onto k 10 false (n / 10) (digit_glyph false (n % 10) ∷ acc))
    ≡ cond b (digit_glyph false (n % 10) ∷ []) (digits_onto k 10 false (n / 10) (digit_glyph false (n % 10) ∷ [])) ++ acc
onto_by true k n acc more = refl
onto_by false k n acc more =
    more (n / 10) (digit_glyph false (n % 10) ∷ acc) ∙ sym (append_assoc (digits_onto k 10 false (n / 10) []) (digit_glyph false (n % 10) ∷ []) acc)
    ∙ ap (λ l. l ++ acc) (sym (more (n / 10) (digit_glyph false (n % 10) ∷ [])))

onto : (k n : ℕ) (acc : List ℕ) → digits_onto k 10 false n acc ≡ digits_onto k 10 false n [] ++ acc
onto zero n acc = refl
onto (suc k) n acc = onto_by (n / 10 == 0) k n acc (onto k)

-- more room does not matter
room_by : (b : Bool) (x y z : List ℕ) → (b ≡ false → y ≡ z) → cond b x y ≡ cond b x z
room_by true x y z h = refl
room_by false x y z h = h refl

tenth : (n k : ℕ) → n < 10 ^ suc k → n / 10 < 10 ^ k
tenth n k less = omega arith

none_left : (n : ℕ) → n < 1 → (n / 10 == 0) ≡ false → ⊥
none_left n less e = grind arith

room : (k n : ℕ) (acc : List ℕ) → n < 10 ^ k → digits_onto (suc k) 10 false n acc ≡ digits_onto (suc (suc k)) 10 false n acc
room zero n acc less = room_by (n / 10 == 0) _ _ _ (λ e. absurd (none_left n less e))
room (suc k) n acc less = room_by (n / 10 == 0) _ _ _ (λ e. room k (n / 10) (digit_glyph false (n % 10) ∷ acc) (tenth n k less))

-- a number of one digit, and one of more
pub one_digit : (n : ℕ) → n < 10 → decimal n ≡ (48 + n) ∷ []
one_digit n less = decimal_digit n less

is_more : (n : ℕ) → 10 ≤ n → (n / 10 == 0) ≡ false
is_more n more = grind arith

skip : {A : Type 0} (b : Bool) (x y : A) → b ≡ false → cond b x y ≡ y
skip true x y e = cc
skip false x y e = refl

small : (n : ℕ) → n < 2 ^ 32 → n / 10 < 10 ^ 62
small n less = omega arith

glyph_of : (d : ℕ) → d < 10 → digit_glyph false d ∷ [] ≡ (48 + d) ∷ []
glyph_of d less = grind arith

pub more_digits : (n : ℕ) → 10 ≤ n → n < 2 ^ 32 → decimal n ≡ decimal (n / 10) ++ (48 + n % 10) ∷ []
unfolding digits
more_digits n more less =
    skip (n / 10 == 0) (digit_glyph false (n % 10) ∷ []) (digits_onto 63 10 false (n / 10) (digit_glyph false (n % 10) ∷ [])) (is_more n more)
    ∙ onto 63 (n / 10) (digit_glyph false (n % 10) ∷ [])
    ∙ ap (λ l. l ++ digit_glyph false (n % 10) ∷ []) (room 62 (n / 10) [] (small n less))
    ∙ ap (λ l. decimal (n / 10) ++ l) (glyph_of (n % 10) (omega arith))

-- its last two digits, and its last four
two_more : (n : ℕ) → 100 ≤ n → n < 2 ^ 32 → decimal n ≡ decimal (n / 100) ++ ((48 + n / 10 % 10) ∷ (48 + n % 10) ∷ [])
two_more n more less =
    let tenth_of : n / 10 / 10 ≡ n / 100 = omega arith in
    more_digits n (omega (arith, more)) less
    ∙ ap (λ l. l ++ (48 + n % 10) ∷ []) (more_digits (n / 10) (omega (arith, more)) (omega (arith, less)))
    ∙ append_assoc (decimal (n / 10 / 10)) ((48 + n / 10 % 10) ∷ []) ((48 + n % 10) ∷ [])
    ∙ ap (λ k. decimal k ++ ((48 + n / 10 % 10) ∷ (48 + n % 10) ∷ [])) tenth_of

pub four_more : (n : ℕ) → 10000 ≤ n → n < 2 ^ 32
    → decimal n ≡ decimal (n / 10000) ++ ((48 + n / 1000 % 10) ∷ (48 + n / 100 % 10) ∷ (48 + n / 10 % 10) ∷ (48 + n % 10) ∷ [])
four_more n more less =
    let hundredth : n / 100 / 100 ≡ n / 10000 = omega arith in
    let tenth_of : n / 100 / 10 ≡ n / 1000 = omega arith in
    two_more n (omega (arith, more)) less
    ∙ ap (λ l. l ++ ((48 + n / 10 % 10) ∷ (48 + n % 10) ∷ [])) (two_more (n / 100) (omega (arith, more)) (omega (arith, less)))
    ∙ append_assoc (decimal (n / 100 / 100)) _ _
    ∙ ap (λ k. decimal k ++ ((48 + n / 100 / 10 % 10) ∷ (48 + n / 100 % 10) ∷ (48 + n / 10 % 10) ∷ (48 + n % 10) ∷ [])) hundredth
    ∙ ap (λ k. decimal (n / 10000) ++ ((48 + k % 10) ∷ (48 + n / 100 % 10) ∷ (48 + n / 10 % 10) ∷ (48 + n % 10) ∷ [])) tenth_of

-- numbers of two, three and four digits
pub two_digits : (n : ℕ) → 10 ≤ n → n < 100 → decimal n ≡ (48 + n / 10 % 10) ∷ (48 + n % 10) ∷ []
two_digits n more less =
    let small_tenth : n / 10 ≡ n / 10 % 10 = omega (arith, less) in
    more_digits n more (omega (arith, less))
    ∙ ap (λ l. l ++ (48 + n % 10) ∷ []) (one_digit (n / 10) (omega (arith, less)))
    ∙ ap (λ k. (48 + k) ∷ (48 + n % 10) ∷ []) small_tenth

pub three_digits : (n : ℕ) → 100 ≤ n → n < 1000 → decimal n ≡ (48 + n / 100 % 10) ∷ (48 + n / 10 % 10) ∷ (48 + n % 10) ∷ []
three_digits n more less =
    let small_hundredth : n / 100 ≡ n / 100 % 10 = omega (arith, less) in
    two_more n more (omega (arith, less))
    ∙ ap (λ l. l ++ ((48 + n / 10 % 10) ∷ (48 + n % 10) ∷ [])) (one_digit (n / 100) (omega (arith, less)))
    ∙ ap (λ k. (48 + k) ∷ (48 + n / 10 % 10) ∷ (48 + n % 10) ∷ []) small_hundredth

pub four_digits : (n : ℕ) → 1000 ≤ n → n < 10000
    → decimal n ≡ (48 + n / 1000 % 10) ∷ (48 + n / 100 % 10) ∷ (48 + n / 10 % 10) ∷ (48 + n % 10) ∷ []
four_digits n more less =
    let tenth_of : n / 100 / 10 ≡ n / 1000 = omega arith in
    two_more n (omega (arith, more)) (omega (arith, less))
    ∙ ap (λ l. l ++ ((48 + n / 10 % 10) ∷ (48 + n % 10) ∷ [])) (two_digits (n / 100) (omega (arith, more)) (omega (arith, less)))
    ∙ ap (λ k. (48 + k % 10) ∷ (48 + n / 100 % 10) ∷ (48 + n / 10 % 10) ∷ (48 + n % 10) ∷ []) tenth_of
