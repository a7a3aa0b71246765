-- What is read from a word is what the word says.
use Rattle.std.proofs.Common.{◌≡◌, ◌<◌, ◌≤◌, ◌+◌, ◌*◌, ◌/◌, ◌%◌, ◌^◌, ℕ, suc, Bool, true, false, cond, ◌==◌, List, [], ◌∷◌, ◌++◌, length, take, drop, get_or, codes, decimal, Option, Some, None, append-nil, append_assoc, refl, sym, ap, subst, ◌∙◌, arith, eqb-true}
use Rattle.std.specs.Char.{digit_value, is_ascii_hexdigit, to_ascii_uppercase}
use Rattle.std.specs.Str.{bytes_eq, str_to_ascii_uppercase}
use Rattle.std.specs.Str.Parse.{AllDigits, digits_value, digits_value_after}
use Rattle.std.proofs.lemmas.Bool.{and_parts}
use Rattle.std.proofs.lemmas.Bool.Decides.{leb_tells}
use Rattle.std.proofs.lemmas.Fmt.{decimal-digits_value}
use Rattle.std.proofs.lemmas.Int.Digits.{digits_value-lt}
use Rattle.std.proofs.lemmas.List.{take-append-drop}
use Rattle.std.proofs.lemmas.Slice.Eq.{bytes_eq-Decides}
use Rattle.fc_base.specs.Hex.{hex, hex_digit, hex_text}
use Rattle.fc_wire.specs.Bytes.{AreBytes}
use Rattle.fc_lines.specs.LineWords.{this_word, behind_label, labelled_digits}
use Rattle.fc_text.specs.Text.{bytes_text}
use Rattle.fc_text.specs.TextGrammar.{SpellsDigits}
use Rattle.fc_lines.specs.WordValues.{given, digit_of, hexadecimal, digits_of, decimal_digit as digit_ten, below, decimals, decimal_of, pairs_of, octets_of}
use Rattle.fc_text.proofs.SpelledWords.{are_hexadecimal, hex_suc, hex_zero, digit_below, digit_in_upper_case}

pub given_some : {A B : Type 0} (o : Option A) (f : A → Option B) (y : B) → given o f ≡ Some y → (x : A) × (o ≡ Some x) × (f x ≡ Some y)
given_some None f y e = cc
given_some (Some x) f y e = (x, refl, e)

pub same_some : {A : Type 0} (x y : A) → ◌≡◌ {A = Option A} (Some x) (Some y) → x ≡ y
same_some x y e = cc

pub kept : {A : Type 0} (b : Bool) (o : Option A) (y : A) → cond b o None ≡ Some y → (b ≡ true) × (o ≡ Some y)
kept true o y e = (refl, e)
kept false o y e = cc

other : {A : Type 0} (b : Bool) (o : Option A) (y : A) → cond b None o ≡ Some y → (b ≡ false) × (o ≡ Some y)
other true o y e = cc
other false o y e = (refl, e)

-- a name
pub name_sound : (text t : List ℕ) (u : Unit {0}) → this_word text t ≡ Some u → t ≡ text
name_sound text t u e = (bytes_eq-Decides t text).0 (kept (bytes_eq t text) (Some tt) u e).0

-- hexadecimal digits
digit_sound : (c d : ℕ) → digit_of c ≡ Some d → (is_ascii_hexdigit c ≡ true) × (d ≡ digit_value c)
digit_sound c d e = (grind (arith, leb_tells), grind (arith, leb_tells))

hexadecimal_sound : (n : ℕ) (ds : List ℕ) (m : ℕ) → hexadecimal n ds ≡ Some m → (are_hexadecimal ds ≡ true) × (m ≡ digits_value_after 16 n ds)
hexadecimal_sound n [] m e = (refl, sym (same_some n m e))
hexadecimal_sound n (c ∷ cs) m e =
    let (d, first, more) = given_some (digit_of c) (λ d. hexadecimal (n * 16 + d) cs) m e in
    let (is, value) = digit_sound c d first in
    let (all, whole) = hexadecimal_sound (n * 16 + d) cs m more in
    (rw (is, all) refl, whole ∙ ap (λ d. digits_value_after 16 (n * 16 + d) cs) value)

all_digits : (word : List ℕ) → are_hexadecimal word ≡ true → AllDigits 16 word
all_digits [] h = tt
all_digits (c ∷ cs) h =
    let (first, more) = and_parts (is_ascii_hexdigit c) (are_hexadecimal cs) h in
    (digit_below c first, all_digits cs more)

hex_push : (k n d : ℕ) → d < 16 → hex (suc k) (n * 16 + d) ≡ hex k n ++ hex_digit d ∷ []
hex_push k n d small =
    let quotient : (n * 16 + d) / 16 ≡ n = omega arith in
    let rest : (n * 16 + d) % 16 ≡ d = omega arith in
    hex_suc k (n * 16 + d) ∙ rw (quotient, rest) refl

hex_after : (j n : ℕ) (ds : List ℕ) → are_hexadecimal ds ≡ true → hex (j + length ds) (digits_value_after 16 n ds) ≡ hex j n ++ str_to_ascii_uppercase ds
hex_after j n [] h = ap (λ k. hex k n) {x = j + 0} {y = j} (omega arith) ∙ sym (append-nil (hex j n))
hex_after j n (c ∷ cs) h =
    let (first, more) = and_parts (is_ascii_hexdigit c) (are_hexadecimal cs) h in
    let count : j + length (c ∷ cs) ≡ suc j + length cs = omega arith in
    let m = n * 16 + digit_value c in
    ap (λ k. hex k (digits_value_after 16 m cs)) count
    ∙ hex_after (suc j) m cs more
    ∙ ap (λ x. x ++ str_to_ascii_uppercase cs) (hex_push j n (digit_value c) (digit_below c first) ∙ ap (λ x. hex j n ++ x ∷ []) (digit_in_upper_case c first))
    ∙ append_assoc (hex j n) (to_ascii_uppercase c ∷ []) (str_to_ascii_uppercase cs)

spelled : (word : List ℕ) (count n : ℕ) → length word ≡ count → are_hexadecimal word ≡ true → n ≡ digits_value 16 word → (n < 16 ^ count) × (str_to_ascii_uppercase word ≡ hex count n)
spelled word count n long digits value =
    let small : digits_value 16 word < 16 ^ length word = digits_value-lt 16 word (all_digits word digits) in
    let own : hex (length word) (digits_value 16 word) ≡ str_to_ascii_uppercase word =
    ap (λ k. hex k (digits_value 16 word)) {x = length word} {y = 0 + length word} (omega arith) ∙ hex_after 0 0 word digits ∙ ap (λ x. x ++ str_to_ascii_uppercase word) (hex_zero 0) in
    (subst (λ n. n < 16 ^ count) (sym value) (subst (λ k. digits_value 16 word < 16 ^ k) long small), sym own ∙ ap (λ k. hex k (digits_value 16 word)) long ∙ ap (hex count) (sym value))

pub digits_sound : (count n : ℕ) (word : List ℕ) → digits_of count word ≡ Some n → (n < 16 ^ count) × (str_to_ascii_uppercase word ≡ hex count n)
unfolding digits_of
digits_sound count n word e =
    let (long, more) = kept (length word == count) (hexadecimal 0 word) n e in
    let (all, value) = hexadecimal_sound 0 word n more in
    spelled word count n (eqb-true (length word) count long) all value

pub plain_sound : (count n : ℕ) (word : List ℕ) → digits_of count word ≡ Some n → SpellsDigits [] count n word
plain_sound count n word e = let (small, upper) = digits_sound count n word e in (small, word, refl, upper)

label_sound : (label word back : List ℕ) → behind_label label word ≡ Some back → word ≡ label ++ back
label_sound label word back e =
    let (test, rest) = kept (bytes_eq (take (length label) word) label) (Some (drop (length label) word)) back e in
    let front : take (length label) word ≡ label = (bytes_eq-Decides (take (length label) word) label).0 test in
    sym (take-append-drop (length label) word) ∙ ap (λ l. l ++ drop (length label) word) front ∙ ap (λ l. label ++ l) (same_some _ _ rest)

pub labelled_sound : (label : List ℕ) (count n : ℕ) (word : List ℕ) → labelled_digits label count word ≡ Some n → SpellsDigits label count n word
labelled_sound label count n word e =
    let (back, is, more) = given_some (behind_label label word) (digits_of count) n e in
    let (small, upper) = digits_sound count n back more in
    (small, back, label_sound label word back is, upper)

-- bytes
pairs_sound : (word bytes : List ℕ) → pairs_of word ≡ Some bytes → AreBytes bytes × (str_to_ascii_uppercase word ≡ hex_text bytes) × (length word ≤ 2 * length bytes)
pairs_sound [] bytes e = subst (λ v. AreBytes v × ([] ≡ hex_text v) × (0 ≤ 2 * length v)) (same_some [] bytes e) (tt, refl, omega arith)
pairs_sound (c ∷ []) bytes e = cc
pairs_sound (c ∷ d ∷ cs) bytes e =
    let (b, first, rest) = given_some (digits_of 2 (c ∷ d ∷ [])) (λ b. given (pairs_of cs) (λ bs. Some (b ∷ bs))) bytes e in
    let (bs, more, same) = given_some (pairs_of cs) (λ bs. Some (b ∷ bs)) bytes rest in
    let (small, upper) = digits_sound 2 b (c ∷ d ∷ []) first in
    let (all, spelled, long) = pairs_sound cs bs more in
    subst (λ v. AreBytes v × (str_to_ascii_uppercase (c ∷ d ∷ cs) ≡ hex_text v) × (length (c ∷ d ∷ cs) ≤ 2 * length v)) (same_some (b ∷ bs) bytes same)
    ((omega (arith, small), all), ap (λ l. l ++ str_to_ascii_uppercase cs) upper ∙ ap (λ l. hex 2 b ++ l) spelled, omega (arith, long))

some_text : (bytes : List ℕ) → 0 < length bytes → hex_text bytes ≡ bytes_text bytes
some_text [] h = absurd (omega (arith, h))
some_text (b ∷ bs) h = refl

octets_by : (b : Bool) (word bytes : List ℕ) → 0 < length word → (b ≡ true → word ≡ codes "-") → cond b (Some []) (pairs_of word) ≡ Some bytes → AreBytes bytes × (str_to_ascii_uppercase word ≡ bytes_text bytes)
octets_by true word bytes some is e =
    subst (λ v. AreBytes v × (str_to_ascii_uppercase word ≡ bytes_text v)) (same_some [] bytes e) (tt, ap str_to_ascii_uppercase (is refl))
octets_by false word bytes some is e =
    let (all, spelled, long) = pairs_sound word bytes e in
    (all, spelled ∙ some_text bytes (omega (arith, some, long)))

pub octets_sound : (word bytes : List ℕ) → octets_of word ≡ Some bytes → AreBytes bytes × (str_to_ascii_uppercase word ≡ bytes_text bytes)
unfolding octets_of
octets_sound [] bytes e = cc
octets_sound (c ∷ cs) bytes e = octets_by (bytes_eq (c ∷ cs) (codes "-")) (c ∷ cs) bytes (omega arith) (bytes_eq-Decides (c ∷ cs) (codes "-")).0 e

-- decimal digits
ten_sound : (c d : ℕ) → digit_ten c ≡ Some d → (digit_value c < 10) × (d ≡ digit_value c)
ten_sound c d e = (grind (arith, leb_tells), grind (arith, leb_tells))

below_sound : (limit n m : ℕ) → below limit n ≡ Some m → (n ≡ m) × (m < limit)
below_sound limit n m e = (grind arith, grind arith)

decimals_sound : (n : ℕ) (ds : List ℕ) (m : ℕ) → n < 2 ^ 32 → decimals n ds ≡ Some m → AllDigits 10 ds × (m ≡ digits_value_after 10 n ds) × (m < 2 ^ 32)
decimals_sound n [] m small e = (tt, sym (same_some n m e), subst (λ m. m < 2 ^ 32) (same_some n m e) small)
decimals_sound n (c ∷ cs) m small e =
    let (d, first, rest) = given_some (digit_ten c) (λ d. given (below (2 ^ 32) (n * 10 + d)) (λ more. decimals more cs)) m e in
    let (k, fits, more) = given_some (below (2 ^ 32) (n * 10 + d)) (λ more. decimals more cs) m rest in
    let (digit, value) = ten_sound c d first in
    let (same, less) = below_sound (2 ^ 32) (n * 10 + d) k fits in
    let (all, whole, limit) = decimals_sound k cs m less more in
    ((digit, all), whole ∙ ap (λ k. digits_value_after 10 k cs) (sym same ∙ ap (λ d. n * 10 + d) value), limit)

decimal_by : (n : ℕ) (ds : List ℕ) → 0 < length ds → (get_or ds 0 0 ≡ 48 → length ds ≡ 1) → decimals 0 ds ≡ Some n → (n < 2 ^ 32) × (ds ≡ decimal n)
decimal_by n ds some lead e =
    let (all, value, limit) = decimals_sound 0 ds n (omega arith) e in
    let same : digits_value 10 ds ≡ n = sym value in
    (limit, sym (decimal-digits_value {P = AllDigits 10} {v = digits_value 10} (record { to = λ ds p. p; from = λ ds p. p; same = λ ds d. refl }) ds all some lead (omega (arith, same, limit))) ∙ ap decimal same)

not_both : (b : ℕ) → (b == 48) ≡ false → b ≡ 48 → ⊥
not_both b h e = grind arith

pub decimal_sound : (n : ℕ) (word : List ℕ) → decimal_of word ≡ Some n → (n < 2 ^ 32) × (word ≡ decimal n)
unfolding decimal_of
decimal_sound n [] e = cc
decimal_sound n (b ∷ []) e = decimal_by n (b ∷ []) (omega arith) (λ h. refl) e
decimal_sound n (b ∷ c ∷ cs) e =
    let (test, more) = other (b == 48) (decimals 0 (b ∷ c ∷ cs)) n e in
    decimal_by n (b ∷ c ∷ cs) (omega arith) (λ h. absurd (not_both b test h)) more
