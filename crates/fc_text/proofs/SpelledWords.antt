-- What a word says is read from it.
use Rattle.std.proofs.Common.{◌≡◌, ◌<◌, ◌≤◌, ◌+◌, ◌*◌, ◌/◌, ◌%◌, ◌^◌, ℕ, zero, suc, Bool, true, false, cond, ◌==◌, List, [], ◌∷◌, ◌++◌, length, take, drop, get_or, codes, decimal, Some, None, refl, sym, ap, subst, ◌∙◌, arith, length-append}
use Rattle.std.specs.Char.{digit_value, is_ascii_hexdigit, to_ascii_uppercase}
use Rattle.std.specs.List.{list_all}
use Rattle.std.specs.Str.{bytes_eq, str_to_ascii_uppercase}
use Rattle.std.specs.Str.Parse.{AllDigits, digits_value, digits_value_after}
use Rattle.std.proofs.Math.Nat.{pow-suc}
use Rattle.std.proofs.lemmas.Bool.{and_parts, ne_eqb, eq-eqb}
use Rattle.std.proofs.lemmas.Bool.Decides.{leb_tells}
use Rattle.std.proofs.lemmas.Fmt.{decimal_is_IsNumeral, decimal_digit, first_decimal}
use Rattle.std.proofs.lemmas.Int.Digits.{digits_value_push}
use Rattle.std.proofs.lemmas.List.{length-map, take_at, drop_at}
use Rattle.std.proofs.lemmas.List.Folds.{list_all-append}
use Rattle.std.proofs.lemmas.Slice.Eq.{bytes_eq-Decides}
use Rattle.fc_base.specs.Hex.{hex, hex_digit, hex_text}
use Rattle.fc_wire.specs.Bytes.{AreBytes}
use Rattle.fc_lines.specs.LineWords.{labelled_digits}
use Rattle.fc_text.specs.Text.{bytes_text}
use Rattle.fc_text.specs.TextGrammar.{SpellsDigits}
use Rattle.fc_lines.specs.WordValues.{given, digit_of, hexadecimal, digits_of, decimal_digit as digit_ten, below, decimals, decimal_of, pairs_of, octets_of}

-- a name
pub same_bytes : (text : List ℕ) → bytes_eq text text ≡ true
same_bytes text = (bytes_eq-Decides text text).1 refl

-- one hexadecimal character
pub digit_in_upper_case : (c : ℕ) → is_ascii_hexdigit c ≡ true → hex_digit (digit_value c) ≡ to_ascii_uppercase c
digit_in_upper_case c h = grind (arith, leb_tells)

pub digit_below : (c : ℕ) → is_ascii_hexdigit c ≡ true → digit_value c < 16
digit_below c h = grind (arith, leb_tells)

either_case_value : (c : ℕ) → digit_value (to_ascii_uppercase c) ≡ digit_value c
either_case_value c = grind (arith, leb_tells)

either_case_digit : (c : ℕ) → is_ascii_hexdigit (to_ascii_uppercase c) ≡ is_ascii_hexdigit c
either_case_digit c = grind (arith, leb_tells)

hex_digit_is : (d : ℕ) → d < 16 → (is_ascii_hexdigit (hex_digit d) ≡ true) × (digit_value (hex_digit d) ≡ d)
hex_digit_is d small = grind (arith, leb_tells)

digit_read : (c : ℕ) → is_ascii_hexdigit c ≡ true → digit_of c ≡ Some (digit_value c)
digit_read c h = grind (arith, leb_tells)

-- hexadecimal digits
abbrev pub are_hexadecimal : List ℕ → Bool
are_hexadecimal = list_all is_ascii_hexdigit

hexadecimal_value : (n : ℕ) (ds : List ℕ) → are_hexadecimal ds ≡ true → hexadecimal n ds ≡ Some (digits_value_after 16 n ds)
hexadecimal_value n [] h = refl
hexadecimal_value n (c ∷ cs) h =
    let (first, more) = and_parts (is_ascii_hexdigit c) (are_hexadecimal cs) h in
    ap (λ o. given o (λ d. hexadecimal (n * 16 + d) cs)) (digit_read c first) ∙ hexadecimal_value (n * 16 + digit_value c) cs more

pub hex_suc : (k n : ℕ) → hex (suc k) n ≡ hex k (n / 16) ++ hex_digit (n % 16) ∷ []
unfolding hex
hex_suc k n = refl

pub hex_zero : (n : ℕ) → hex 0 n ≡ []
unfolding hex
hex_zero n = refl

pub length-hex : (k n : ℕ) → length (hex k n) ≡ k
length-hex zero n = ap length (hex_zero n)
length-hex (suc k) n = ap length (hex_suc k n) ∙ length-append (hex k (n / 16)) (hex_digit (n % 16) ∷ []) ∙ omega (arith, length-hex k (n / 16))

pub hex_digits : (k n : ℕ) → are_hexadecimal (hex k n) ≡ true
hex_digits zero n = ap are_hexadecimal (hex_zero n)
hex_digits (suc k) n =
    ap are_hexadecimal (hex_suc k n) ∙ list_all-append is_ascii_hexdigit (hex k (n / 16)) (hex_digit (n % 16) ∷ []) ∙ rw (hex_digits k (n / 16), (hex_digit_is (n % 16) (omega arith)).0) refl

hex_value : (k n : ℕ) → n < 16 ^ k → digits_value 16 (hex k n) ≡ n
hex_value zero n small = ap (digits_value 16) (hex_zero n) ∙ omega (arith, small)
hex_value (suc k) n small =
    let less : n / 16 < 16 ^ k = omega (arith, small, pow-suc 16 k) in
    ap (digits_value 16) (hex_suc k n) ∙ digits_value_push 16 (hex k (n / 16)) (hex_digit (n % 16)) ∙ omega (arith, hex_value k (n / 16) less, (hex_digit_is (n % 16) (omega arith)).1)

either_case_after : (n : ℕ) (word : List ℕ) → digits_value_after 16 n (str_to_ascii_uppercase word) ≡ digits_value_after 16 n word
either_case_after n [] = refl
either_case_after n (c ∷ cs) = ap (λ d. digits_value_after 16 (n * 16 + d) (str_to_ascii_uppercase cs)) (either_case_value c) ∙ either_case_after (n * 16 + digit_value c) cs

pub either_case_digits : (word : List ℕ) → are_hexadecimal (str_to_ascii_uppercase word) ≡ are_hexadecimal word
either_case_digits [] = refl
either_case_digits (c ∷ cs) = rw (either_case_digit c, either_case_digits cs) refl

pub digits_read : (count n : ℕ) (word : List ℕ) → n < 16 ^ count → str_to_ascii_uppercase word ≡ hex count n → digits_of count word ≡ Some n
unfolding digits_of
digits_read count n word small e =
    let long : length word ≡ count = sym (length-map word to_ascii_uppercase) ∙ ap length e ∙ length-hex count n in
    let value : digits_value 16 word ≡ n = sym (either_case_after 0 word) ∙ ap (digits_value 16) e ∙ hex_value count n small in
    let digits : are_hexadecimal word ≡ true = sym (either_case_digits word) ∙ ap are_hexadecimal e ∙ hex_digits count n in
    ap (λ b. cond b (hexadecimal 0 word) None) (eq-eqb (length word) count long) ∙ hexadecimal_value 0 word digits ∙ ap Some value

pub labelled_read : (label : List ℕ) (count n : ℕ) (word : List ℕ) → SpellsDigits label count n word → labelled_digits label count word ≡ Some n
labelled_read label count n word (small, back, whole, e) =
    let front : take (length label) (label ++ back) ≡ label = take_at label back (length label) refl in
    let behind : drop (length label) (label ++ back) ≡ back = drop_at label back (length label) refl in
    let test : bytes_eq (take (length label) (label ++ back)) label ≡ true = ap (λ l. bytes_eq l label) front ∙ same_bytes label in
    ap (λ w. labelled_digits label count w) whole
    ∙ ap (λ b. given (cond b (Some (drop (length label) (label ++ back))) None) (digits_of count)) test
    ∙ ap (digits_of count) behind ∙ digits_read count n back small e

-- bytes
pair_read : (c d b : ℕ) (rest bs : List ℕ) → digits_of 2 (c ∷ d ∷ []) ≡ Some b → pairs_of rest ≡ Some bs → pairs_of (c ∷ d ∷ rest) ≡ Some (b ∷ bs)
pair_read c d b rest bs h k = ap (λ o. given o (λ b. given (pairs_of rest) (λ bs. Some (b ∷ bs)))) h ∙ ap (λ o. given o (λ bs. Some (b ∷ bs))) k

pub two_digits : (b : ℕ) → hex 2 b ≡ hex_digit (b / 16 % 16) ∷ hex_digit (b % 16) ∷ []
unfolding hex
two_digits b = refl

pairs_read : (word bytes : List ℕ) → AreBytes bytes → str_to_ascii_uppercase word ≡ hex_text bytes → pairs_of word ≡ Some bytes
pairs_read [] [] all e = refl
pairs_read (c ∷ cs) [] all e = cc
pairs_read [] (b ∷ bs) all e = absurd (omega (arith, ap length (e ∙ ap (λ l. l ++ hex_text bs) (two_digits b))))
pairs_read (c ∷ []) (b ∷ bs) all e = absurd (omega (arith, ap length (e ∙ ap (λ l. l ++ hex_text bs) (two_digits b))))
pairs_read (c ∷ d ∷ cs) (b ∷ bs) all e =
    let own : to_ascii_uppercase c ∷ to_ascii_uppercase d ∷ str_to_ascii_uppercase cs ≡ hex_digit (b / 16 % 16) ∷ hex_digit (b % 16) ∷ hex_text bs = e ∙ ap (λ l. l ++ hex_text bs) (two_digits b) in
    let two : to_ascii_uppercase c ∷ to_ascii_uppercase d ∷ [] ≡ hex 2 b = ap (take 2) own ∙ sym (two_digits b) in
    pair_read c d b cs bs (digits_read 2 b (c ∷ d ∷ []) (omega (arith, all.0)) two) (pairs_read cs bs all.1 (ap (drop 2) own))

hyphen : (c : ℕ) → to_ascii_uppercase c ≡ 45 → c ≡ 45
hyphen c e = grind (arith, leb_tells)

not_alone : (c d : ℕ) (cs : List ℕ) → bytes_eq (c ∷ d ∷ cs) (codes "-") ≡ false
not_alone c d cs = grind arith

skip : {A : Type 0} (b : Bool) (x y : A) → b ≡ false → cond b x y ≡ y
skip true x y e = cc
skip false x y e = refl

pub octets_read : (word bytes : List ℕ) → AreBytes bytes → str_to_ascii_uppercase word ≡ bytes_text bytes → octets_of word ≡ Some bytes
unfolding octets_of
octets_read [] [] all e = cc
octets_read (c ∷ []) [] all e = ap (λ c. octets_of (c ∷ [])) (hyphen c (ap (λ l. get_or l 0 0) e))
octets_read (c ∷ d ∷ cs) [] all e = absurd (omega (arith, ap length e))
octets_read [] (b ∷ bs) all e = absurd (omega (arith, ap length (e ∙ ap (λ l. l ++ hex_text bs) (two_digits b))))
octets_read (c ∷ []) (b ∷ bs) all e = absurd (omega (arith, ap length (e ∙ ap (λ l. l ++ hex_text bs) (two_digits b))))
octets_read (c ∷ d ∷ cs) (b ∷ bs) all e = skip (bytes_eq (c ∷ d ∷ cs) (codes "-")) _ _ (not_alone c d cs) ∙ pairs_read (c ∷ d ∷ cs) (b ∷ bs) all e

-- decimal digits
digit_ten_read : (c : ℕ) → digit_value c < 10 → digit_ten c ≡ Some (digit_value c)
digit_ten_read c h = grind (arith, leb_tells)

grows : (n : ℕ) (ds : List ℕ) → n ≤ digits_value_after 10 n ds
grows n [] = omega arith
grows n (c ∷ cs) = omega (arith, grows (n * 10 + digit_value c) cs)

below_read : (n : ℕ) → n < 2 ^ 32 → below (2 ^ 32) n ≡ Some n
below_read n h = grind arith

decimals_value : (n : ℕ) (ds : List ℕ) → AllDigits 10 ds → digits_value_after 10 n ds < 2 ^ 32 → decimals n ds ≡ Some (digits_value_after 10 n ds)
decimals_value n [] all small = refl
decimals_value n (c ∷ cs) all small =
    let m = n * 10 + digit_value c in
    let fits : m < 2 ^ 32 = omega (arith, grows m cs, small) in
    ap (λ o. given o (λ d. given (below (2 ^ 32) (n * 10 + d)) (λ more. decimals more cs))) (digit_ten_read c all.0)
    ∙ ap (λ o. given o (λ more. decimals more cs)) (below_read m fits) ∙ decimals_value m cs all.1 small

not_first : (n b : ℕ) (bs : List ℕ) → n < 2 ^ 32 → 1 < length (b ∷ bs) → b ∷ bs ≡ decimal n → (b == 48) ≡ false
not_first zero b bs small long e = absurd (omega (arith, long, ap length (e ∙ decimal_digit 0 (omega arith))))
not_first (suc n) b bs small long e =
    ne_eqb b 48 (λ zero_first. omega (arith, zero_first, subst (λ ds. 48 < get_or ds 0 0) (sym e) (first_decimal (suc n) (omega arith) (omega arith))))

decimal_by : (n : ℕ) (word : List ℕ) → n < 2 ^ 32 → AllDigits 10 word → 0 < length word → digits_value 10 word ≡ n → word ≡ decimal n → decimal_of word ≡ Some n
unfolding decimal_of
decimal_by n [] small all some value e = absurd (omega (arith, some))
decimal_by n (b ∷ []) small all some value e = decimals_value 0 (b ∷ []) all (omega (arith, value, small)) ∙ ap Some value
decimal_by n (b ∷ c ∷ cs) small all some value e =
    skip (b == 48) _ _ (not_first n b (c ∷ cs) small (omega arith) e) ∙ decimals_value 0 (b ∷ c ∷ cs) all (omega (arith, value, small)) ∙ ap Some value

pub decimal_read : (n : ℕ) (word : List ℕ) → n < 2 ^ 32 → word ≡ decimal n → decimal_of word ≡ Some n
decimal_read n word small e =
    let numeral = decimal_is_IsNumeral n (omega (arith, small)) in
    decimal_by n word small (subst (AllDigits 10) (sym e) numeral.0.1) (subst (λ ds. 0 < length ds) (sym e) numeral.0.0) (ap (digits_value 10) e ∙ numeral.1) e
