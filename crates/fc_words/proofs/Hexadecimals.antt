-- Words that spell numbers in hexadecimal.
use Rattle.std.proofs.Common.{◌≡◌, ◌<◌, ◌≤◌, ◌+◌, ◌*◌, ◌/◌, ◌%◌, ◌^◌, ℕ, zero, suc, Bool, true, false, cond, ◌==◌, List, [], ◌∷◌, ◌++◌, length, drop, Some, append-nil, append_assoc, refl, sym, ap, subst, ◌∙◌, arith}
use Rattle.std.specs.Bool.{Decides}
use Rattle.std.specs.Char.{digit_value, is_ascii_hexdigit, to_ascii_uppercase}
use Rattle.std.specs.Str.{str_to_ascii_uppercase}
use Rattle.std.specs.Str.Parse.{AllDigits, IsNumeral, digits_value, digits_value_after, without_leading_plus}
use Rattle.std.proofs.Math.Nat.{pow-suc}
use Rattle.std.proofs.lemmas.Bool.{and_parts, ne_eqb, eqb-true, eq-eqb}
use Rattle.std.proofs.lemmas.Bool.Decides.{Decides-and, Decides-eqb, Decides-ltb, leb_tells}
use Rattle.std.proofs.lemmas.Int.Digits.{digits_value-lt, digits_value_push}
use Rattle.std.proofs.lemmas.List.{length-map, length-append}
use Rattle.std.proofs.lemmas.List.Folds.{list_all-append}
use Rattle.fc_base.specs.Hex.{hex, hex_digit}
use Rattle.fc_base.specs.Ids.{IsCe}
use Rattle.fc_words.specs.Commands.{is_dashed}
use Rattle.fc_words.specs.Numbers.{are_hexadecimal, ce_of, is_ce}
use Rattle.fc_words.proofs.Decimals.{kept}

-- one character
digit_below : (c : ℕ) → is_ascii_hexdigit c ≡ true → digit_value c < 16
digit_below c h = grind (arith, leb_tells)

digit_in_upper_case : (c : ℕ) → is_ascii_hexdigit c ≡ true → hex_digit (digit_value c) ≡ to_ascii_uppercase c
digit_in_upper_case c h = grind (arith, leb_tells)

either_case_value : (c : ℕ) → digit_value (to_ascii_uppercase c) ≡ digit_value c
either_case_value c = grind (arith, leb_tells)

either_case_digit : (c : ℕ) → is_ascii_hexdigit (to_ascii_uppercase c) ≡ is_ascii_hexdigit c
either_case_digit c = grind (arith, leb_tells)

digit_of : (d : ℕ) → d < 16 → (is_ascii_hexdigit (hex_digit d) ≡ true) × (digit_value (hex_digit d) ≡ d)
digit_of d small = grind (arith, leb_tells)

-- what is read of hexadecimal digits
all_digits : (word : List ℕ) → are_hexadecimal word ≡ true → AllDigits 16 word
all_digits [] h = tt
all_digits (c ∷ cs) h =
    let (first, more) = and_parts (is_ascii_hexdigit c) (are_hexadecimal cs) h in
    (digit_below c first, all_digits cs more)

first_below : (b : ℕ) (bs : List ℕ) → are_hexadecimal (b ∷ bs) ≡ true → digit_value b < 16
first_below b bs h = digit_below b (and_parts (is_ascii_hexdigit b) (are_hexadecimal bs) h).0

other_first : (x b : ℕ) (bs : List ℕ) → are_hexadecimal (b ∷ bs) ≡ true → 16 ≤ digit_value x → (b == x) ≡ false
other_first x b bs h other = ne_eqb b x (λ e. omega (arith, first_below b bs h, subst (λ y. 16 ≤ digit_value y) (sym e) other))

pub no_plus : (word : List ℕ) → are_hexadecimal word ≡ true → without_leading_plus word ≡ word
no_plus [] h = refl
no_plus (b ∷ bs) h = ap (λ (t : Bool). drop (cond t 1 0) (b ∷ bs)) (other_first 43 b bs h (omega arith))

pub not_dashed : (word : List ℕ) → are_hexadecimal word ≡ true → is_dashed word ≡ false
not_dashed [] h = refl
not_dashed (b ∷ bs) h = other_first 45 b bs h (omega arith)

-- eight digits are read
pub eight_read : (word : List ℕ) → length word ≡ 8 → are_hexadecimal word ≡ true → IsNumeral 16 (without_leading_plus word) × (digits_value 16 (without_leading_plus word) < 2 ^ 32)
eight_read word eight h =
    let digits = all_digits word h in
    let small : digits_value 16 word < 16 ^ 8 = subst (λ k. digits_value 16 word < 16 ^ k) eight (digits_value-lt 16 word digits) in
    subst (λ ds. IsNumeral 16 ds × (digits_value 16 ds < 2 ^ 32)) (sym (no_plus word h)) ((omega (arith, eight), digits), omega (arith, small))

-- the digits of a number in upper case
hex_suc : (k n : ℕ) → hex (suc k) n ≡ hex k (n / 16) ++ hex_digit (n % 16) ∷ []
unfolding hex
hex_suc k n = refl

hex_zero : (n : ℕ) → hex 0 n ≡ []
unfolding hex
hex_zero n = refl

hex_push : (k n d : ℕ) → d < 16 → hex (suc k) (n * 16 + d) ≡ hex k n ++ hex_digit d ∷ []
hex_push k n d small =
    let quotient : (n * 16 + d) / 16 ≡ n = omega arith in
    let rest : (n * 16 + d) % 16 ≡ d = omega arith in
    hex_suc k (n * 16 + d) ∙ rw (quotient, rest) refl

hex_after : (j n : ℕ) (ds : List ℕ) → are_hexadecimal ds ≡ true → hex (j + length ds) (digits_value_after 16 n ds) ≡ hex j n ++ str_to_ascii_uppercase ds
hex_after j n [] h = ap (λ k. hex k n) {x = j + 0} {y = j} (omega arith) ∙ sym (append-nil (hex j n))
hex_after j n (c ∷ cs) h =
    let (first, more) = and_parts (is_ascii_hexdigit c) (are_hexadecimal cs) h in
    let count : j + length (c ∷ cs) ≡ suc j + length cs = omega arith in
    let m = n * 16 + digit_value c in
    ap (λ k. hex k (digits_value_after 16 m cs)) count
    ∙ hex_after (suc j) m cs more
    ∙ ap (λ x. x ++ str_to_ascii_uppercase cs) (hex_push j n (digit_value c) (digit_below c first) ∙ ap (λ x. hex j n ++ x ∷ []) (digit_in_upper_case c first))
    ∙ append_assoc (hex j n) (to_ascii_uppercase c ∷ []) (str_to_ascii_uppercase cs)

spelled : (word : List ℕ) → length word ≡ 8 → are_hexadecimal word ≡ true → str_to_ascii_uppercase word ≡ hex 8 (digits_value 16 word)
spelled word eight h =
    let count : 8 ≡ 0 + length word = omega (arith, eight) in
    sym (ap (λ k. hex k (digits_value 16 word)) count ∙ hex_after 0 0 word h ∙ ap (λ x. x ++ str_to_ascii_uppercase word) (hex_zero 0))

-- and back
length-hex : (k n : ℕ) → length (hex k n) ≡ k
length-hex zero n = ap length (hex_zero n)
length-hex (suc k) n = ap length (hex_suc k n) ∙ length-append (hex k (n / 16)) (hex_digit (n % 16) ∷ []) ∙ omega (arith, length-hex k (n / 16))

hex_digits : (k n : ℕ) → are_hexadecimal (hex k n) ≡ true
hex_digits zero n = ap are_hexadecimal (hex_zero n)
hex_digits (suc k) n =
    ap are_hexadecimal (hex_suc k n) ∙ list_all-append is_ascii_hexdigit (hex k (n / 16)) (hex_digit (n % 16) ∷ []) ∙ rw (hex_digits k (n / 16), (digit_of (n % 16) (omega arith)).0) refl

hex_value : (k n : ℕ) → n < 16 ^ k → digits_value 16 (hex k n) ≡ n
hex_value zero n small = ap (digits_value 16) (hex_zero n) ∙ omega (arith, small)
hex_value (suc k) n small =
    let less : n / 16 < 16 ^ k = omega (arith, small, pow-suc 16 k) in
    ap (digits_value 16) (hex_suc k n) ∙ digits_value_push 16 (hex k (n / 16)) (hex_digit (n % 16)) ∙ omega (arith, hex_value k (n / 16) less, (digit_of (n % 16) (omega arith)).1)

either_case_after : (n : ℕ) (word : List ℕ) → digits_value_after 16 n (str_to_ascii_uppercase word) ≡ digits_value_after 16 n word
either_case_after n [] = refl
either_case_after n (c ∷ cs) = ap (λ d. digits_value_after 16 (n * 16 + d) (str_to_ascii_uppercase cs)) (either_case_value c) ∙ either_case_after (n * 16 + digit_value c) cs

either_case_digits : (word : List ℕ) → are_hexadecimal (str_to_ascii_uppercase word) ≡ are_hexadecimal word
either_case_digits [] = refl
either_case_digits (c ∷ cs) = rw (either_case_digit c, either_case_digits cs) refl

pub is_ce_decides : (n : ℕ) → Decides (is_ce n) (IsCe n)
is_ce_decides n = Decides-and _ _ (Decides-eqb (n / 2 ^ 30) 1) (Decides-ltb 0 (n % 256))

pub ce_sound : (n : ℕ) (word : List ℕ) → ce_of word ≡ Some n → IsCe n × (str_to_ascii_uppercase word ≡ hex 8 n)
ce_sound n word e =
    let (test, same) = kept _ _ _ e in
    let (eight, more) = and_parts (length word == 8) _ test in
    let (digits, ce) = and_parts (are_hexadecimal word) _ more in
    subst (λ m. IsCe m × (str_to_ascii_uppercase word ≡ hex 8 m)) same ((is_ce_decides (digits_value 16 word)).0 ce, spelled word (eqb-true (length word) 8 eight) digits)

pub ce_digits : (n : ℕ) (word : List ℕ) → str_to_ascii_uppercase word ≡ hex 8 n → are_hexadecimal word ≡ true
ce_digits n word e = sym (either_case_digits word) ∙ ap are_hexadecimal e ∙ hex_digits 8 n

pub ce_complete : (n : ℕ) (word : List ℕ) → IsCe n → str_to_ascii_uppercase word ≡ hex 8 n → ce_of word ≡ Some n
ce_complete n word ce e =
    let eight : length word ≡ 8 = sym (length-map word to_ascii_uppercase) ∙ ap length e ∙ length-hex 8 n in
    let value : digits_value 16 word ≡ n = sym (either_case_after 0 word) ∙ ap (digits_value 16) e ∙ hex_value 8 n (omega (arith, ce.0)) in
    rw (eq-eqb (length word) 8 eight, ce_digits n word e, value, (is_ce_decides n).1 ce) refl
