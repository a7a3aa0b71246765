-- Words that spell numbers in decimal.
use Rattle.std.proofs.Common.{◌≡◌, ◌<◌, ◌≤◌, ◌^◌, ℕ, zero, suc, Bool, true, false, cond, ◌&&◌, nat_le, List, [], ◌∷◌, drop, get_or, decimal, Some, None, Result, Ok, Err, if◌then◌else◌, refl, sym, ap, subst, ◌∙◌, arith}
use Rattle.std.specs.Bool.{Decides}
use Rattle.std.specs.Str.{bytes_eq}
use Rattle.std.specs.Str.Parse.{AllDigits, IsNumeral, ParsesUnsigned, digits_value, without_leading_plus}
use Rattle.std.proofs.lemmas.Bool.{ne_eqb, and_parts, le-leb, leb-true, false≢true}
use Rattle.std.proofs.lemmas.Bool.Decides.{Decides-and}
use Rattle.std.proofs.lemmas.Fmt.{decimal-digits_value, decimal_digit, decimal_is_IsNumeral, first_decimal}
use Rattle.std.proofs.lemmas.Option.{same_Some}
use Rattle.std.proofs.lemmas.Slice.Eq.{bytes_eq-Decides}
use Rattle.std.proofs.lemmas.Str.Parse.{digit_from_value}
use Rattle.fc_words.specs.Commands.{is_dashed}
use Rattle.fc_words.specs.Numbers.{at_most, begins_without_zero, decimal_up_to}

Decides-le : (a b : ℕ) → Decides (nat_le a b) (a ≤ b)
Decides-le a b = (leb-true a b, le-leb a b)

-- what the test of a spelling says
abbrev Spells : ℕ → List ℕ → ℕ → Type 0
Spells most word n = (word ≡ decimal n) × ((1 ≤ n) × (n ≤ most))

abbrev is_spelled : ℕ → List ℕ → ℕ → Bool
is_spelled most word n = bytes_eq word (decimal n) && (nat_le 1 n && nat_le n most)

spells : (most : ℕ) (word : List ℕ) (n : ℕ) → Decides (is_spelled most word n) (Spells most word n)
spells most word n = Decides-and _ _ (bytes_eq-Decides word (decimal n)) (Decides-and _ _ (Decides-le 1 n) (Decides-le n most))

-- a value that stands under a test
pub kept : {A : Type 0} (b : Bool) (x y : A) → (if b then Some x else None) ≡ Some y → (b ≡ true) × (x ≡ y)
kept true x y e = (refl, same_Some _ _ e)
kept false x y e = cc

pub dropped : {A : Type 0} (b : Bool) (x : A) → (b ≡ true → ⊥) → (if b then Some x else None) ≡ None
dropped true x no_more = absurd (no_more refl)
dropped false x no_more = refl

pub decimal_sound : (most n : ℕ) (word : List ℕ) → decimal_up_to most word ≡ Some n → Spells most word n
decimal_sound most n word e =
    let (test, same) = kept _ _ _ e in
    subst (Spells most word) same ((spells most word (digits_value 10 word)).0 test)

value_of : (n : ℕ) (word : List ℕ) → n < 2 ^ 64 → word ≡ decimal n → digits_value 10 word ≡ n
value_of n word small e = ap (digits_value 10) e ∙ (decimal_is_IsNumeral n small).1

pub decimal_complete : (most n : ℕ) (word : List ℕ) → most < 2 ^ 32 → Spells most word n → decimal_up_to most word ≡ Some n
decimal_complete most n word small s =
    let value = value_of n word (omega (arith, s.1.1)) s.0 in
    ap (λ (v : ℕ). if is_spelled most word v then Some v else None) value ∙ rw ((spells most word n).1 s) refl

decimal_none : (most : ℕ) (word : List ℕ) → (Spells most word (digits_value 10 word) → ⊥) → decimal_up_to most word ≡ None
decimal_none most word no_more = dropped _ _ (λ test. no_more ((spells most word (digits_value 10 word)).0 test))

-- the first character of a number from 1 is a digit other than 0
first_is : (n b : ℕ) (bs : List ℕ) → 0 < n → n < 2 ^ 64 → b ∷ bs ≡ decimal n → (49 ≤ b) × (b ≤ 57)
first_is n b bs some small e =
    let digits : AllDigits 10 (b ∷ bs) = subst (AllDigits 10) (sym e) (decimal_is_IsNumeral n small).0.1 in
    let first : 48 < b = subst (λ ds. 48 < get_or ds 0 0) (sym e) (first_decimal n some small) in
    (omega (arith, first), (digit_from_value b digits.0).1)

-- so it does not begin with '-'
pub plain_decimal : (n : ℕ) (ds : List ℕ) → 0 < n → n < 2 ^ 64 → ds ≡ decimal n → is_dashed ds ≡ false
plain_decimal n [] some small e = refl
plain_decimal n (b ∷ bs) some small e = ne_eqb b 45 (λ minus. omega (arith, minus, (first_is n b bs some small e).0))

pub none_other : (most : ℕ) (word : List ℕ) → most < 2 ^ 32 → begins_without_zero word ≡ false → decimal_up_to most word ≡ None
none_other most [] small begins = decimal_none most [] (λ s. omega (arith, s.1.0))
none_other most (b ∷ bs) small begins =
    decimal_none most (b ∷ bs) λ s.
    let n = digits_value 10 (b ∷ bs) in
    let (low, high) = first_is n b bs (omega (arith, s.1.0)) (omega (arith, s.1.1)) s.0 in
    false≢true (sym begins ∙ (Decides-and _ _ (Decides-le 49 b) (Decides-le b 57)).1 (low, high))

not_zero : (n : ℕ) → (n ≡ 0 → ⊥) → 1 ≤ n
not_zero zero some = absurd (some refl)
not_zero (suc n) some = omega arith

-- digits that begin with one other than 0 are what is written for their number, which is not 0
module _ (b : ℕ) (bs : List ℕ) (low : 49 ≤ b) where
  no_plus : without_leading_plus (b ∷ bs) ≡ b ∷ bs
  no_plus = ap (λ (t : Bool). drop (cond t 1 0) (b ∷ bs)) (ne_eqb b 43 (λ e. omega (arith, e)))

  spelled : AllDigits 10 (b ∷ bs) → digits_value 10 (b ∷ bs) < 2 ^ 32 → decimal (digits_value 10 (b ∷ bs)) ≡ b ∷ bs
  spelled digits small =
      decimal-digits_value {P = AllDigits 10} {v = digits_value 10} (record { to = λ ds p. p; from = λ ds p. p; same = λ ds d. refl }) (b ∷ bs) digits (omega arith) (λ (zero_first : b ≡ 48). absurd (omega (arith, zero_first))) (omega arith)

  some : digits_value 10 (b ∷ bs) ≡ 0 → b ∷ bs ≡ decimal (digits_value 10 (b ∷ bs)) → ⊥
  some none e = omega (arith, ap (λ ds. get_or ds 0 0) (e ∙ ap decimal none ∙ decimal_digit 0 (omega arith)))

pub read_is : {E : Type 0} (most : ℕ) (word : List ℕ) (r : Result ℕ E) → most < 2 ^ 32 → begins_without_zero word ≡ true → ParsesUnsigned 32 10 word r → decimal_up_to most word ≡ at_most most r
read_is most [] r small begins parses = cc
read_is most (b ∷ bs) (Ok n) small begins parses =
    let low = leb-true 49 b (and_parts (nat_le 49 b) (nat_le b 57) begins).0 in
    let plain = no_plus b bs low in
    let digits : AllDigits 10 (b ∷ bs) = subst (AllDigits 10) plain parses.0.0.1 in
    let value : n ≡ digits_value 10 (b ∷ bs) = parses.1 ∙ ap (digits_value 10) plain in
    let fits : digits_value 10 (b ∷ bs) < 2 ^ 32 = subst (λ ds. digits_value 10 ds < 2 ^ 32) plain parses.0.1 in
    let own = sym (spelled b bs low digits fits) in
    let more : 1 ≤ digits_value 10 (b ∷ bs) = not_zero _ (λ none. some b bs low none own) in
    rw ((bytes_eq-Decides (b ∷ bs) _).1 own, le-leb 1 _ more, value) refl
read_is most (b ∷ bs) (Err e) small begins parses =
    let low = leb-true 49 b (and_parts (nat_le 49 b) (nat_le b 57) begins).0 in
    let plain = no_plus b bs low in
    decimal_none most (b ∷ bs) λ s.
    let numeral = decimal_is_IsNumeral (digits_value 10 (b ∷ bs)) (omega (arith, s.1.1)) in
    let whole : IsNumeral 10 (b ∷ bs) = subst (IsNumeral 10) (sym s.0) numeral.0 in
    parses (subst (λ ds. IsNumeral 10 ds × (digits_value 10 ds < 2 ^ 32)) (sym plain) (whole, omega (arith, s.1.1)))
