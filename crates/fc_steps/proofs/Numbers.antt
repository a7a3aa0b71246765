-- Words that spell numbers in decimal.
use Rattle.std.proofs.Common.{◌≡◌, ◌<◌, ◌≤◌, ◌^◌, ℕ, zero, suc, Bool, true, false, cond, ◌&&◌, nat_le, List, [], ◌∷◌, drop, get_or, length, decimal, Some, None, Result, Ok, Err, if◌then◌else◌, refl, sym, ap, subst, ◌∙◌, arith}
use Rattle.std.specs.Bool.{Decides}
use Rattle.std.specs.Str.{bytes_eq}
use Rattle.std.specs.Str.Parse.{AllDigits, IsNumeral, ParsesUnsigned, digits_value, without_leading_plus}
use Rattle.std.proofs.lemmas.Bool.{ne_eqb, and_parts, le-leb, leb-true, false≢true}
use Rattle.std.proofs.lemmas.Bool.Decides.{Decides-and}
use Rattle.std.proofs.lemmas.Fmt.{decimal-digits_value, decimal_digit, decimal_is_IsNumeral, decimal_nonempty, first_decimal}
use Rattle.std.proofs.lemmas.Option.{same_Some}
use Rattle.std.proofs.lemmas.Slice.Eq.{bytes_eq-Decides}
use Rattle.std.proofs.lemmas.Str.Parse.{digit_from_value}
use Rattle.fc_steps.specs.Words.{begins_like_a_number, in_range, number}

Decides-le : (a b : ℕ) → Decides (nat_le a b) (a ≤ b)
Decides-le a b = (leb-true a b, le-leb a b)

-- what the test of a spelling says
abbrev pub Spells : ℕ → ℕ → List ℕ → ℕ → Type 0
Spells low most word n = (word ≡ decimal n) × ((low ≤ n) × (n ≤ most))

abbrev is_spelled : ℕ → ℕ → List ℕ → ℕ → Bool
is_spelled low most word n = bytes_eq word (decimal n) && (nat_le low n && nat_le n most)

spells : (low most : ℕ) (word : List ℕ) (n : ℕ) → Decides (is_spelled low most word n) (Spells low most word n)
spells low most word n = Decides-and _ _ (bytes_eq-Decides word (decimal n)) (Decides-and _ _ (Decides-le low n) (Decides-le n most))

-- a value that stands under a test
pub kept : {A : Type 0} (b : Bool) (x y : A) → (if b then Some x else None) ≡ Some y → (b ≡ true) × (x ≡ y)
kept true x y e = (refl, same_Some _ _ e)
kept false x y e = cc

dropped : {A : Type 0} (b : Bool) (x : A) → (b ≡ true → ⊥) → (if b then Some x else None) ≡ None
dropped true x no_more = absurd (no_more refl)
dropped false x no_more = refl

pub number_sound : (low most : ℕ) (word : List ℕ) (n : ℕ) → number low most word ≡ Some n → Spells low most word n
number_sound low most word n e =
    let (test, same) = kept _ _ _ e in
    subst (Spells low most word) same ((spells low most word (digits_value 10 word)).0 test)

value_of : (n : ℕ) (word : List ℕ) → n < 2 ^ 64 → word ≡ decimal n → digits_value 10 word ≡ n
value_of n word small e = ap (digits_value 10) e ∙ (decimal_is_IsNumeral n small).1

pub number_complete : (low most : ℕ) (word : List ℕ) (n : ℕ) → most < 2 ^ 64 → Spells low most word n → number low most word ≡ Some n
number_complete low most word n small s =
    let value = value_of n word (omega (arith, s.1.1)) s.0 in
    ap (λ (v : ℕ). if is_spelled low most word v then Some v else None) value ∙ rw ((spells low most word n).1 s) refl

pub number_none : (low most : ℕ) (word : List ℕ) → (Spells low most word (digits_value 10 word) → ⊥) → number low most word ≡ None
number_none low most word no_more = dropped _ _ (λ test. no_more ((spells low most word (digits_value 10 word)).0 test))

-- how a number begins
begins_zero : (word : List ℕ) → word ≡ decimal 0 → begins_like_a_number word ≡ true
begins_zero word e = ap begins_like_a_number (e ∙ decimal_digit 0 (omega arith))

begins_some : (b : ℕ) (bs : List ℕ) → 48 < b → b ≤ 57 → begins_like_a_number (b ∷ bs) ≡ true
begins_some b [] low high = (Decides-and _ _ (Decides-le 48 b) (Decides-le b 57)).1 (omega (arith, low), high)
begins_some b (c ∷ bs) low high = (Decides-and _ _ (Decides-le 49 b) (Decides-le b 57)).1 (omega (arith, low), high)

begins_by : (n : ℕ) (word : List ℕ) → n < 2 ^ 64 → word ≡ decimal n → begins_like_a_number word ≡ true
begins_by zero word small e = begins_zero word e
begins_by (suc n) [] small e = absurd (omega (arith, subst (λ ds. 0 < length ds) (sym e) (decimal_nonempty (suc n) small)))
begins_by (suc n) (b ∷ bs) small e =
    let digits : AllDigits 10 (b ∷ bs) = subst (AllDigits 10) (sym e) (decimal_is_IsNumeral (suc n) small).0.1 in
    let first : 48 < b = subst (λ ds. 48 < get_or ds 0 0) (sym e) (first_decimal (suc n) (omega arith) small) in
    begins_some b bs first (digit_from_value b digits.0).1

pub none_other : (low most : ℕ) (word : List ℕ) → most < 2 ^ 64 → begins_like_a_number word ≡ false → number low most word ≡ None
none_other low most word small begins =
    number_none low most word (λ s. false≢true (sym begins ∙ begins_by (digits_value 10 word) word (omega (arith, s.1.1)) s.0))

-- a number begins with a digit, which is 0 only where it stands alone
pub record Begins (b : ℕ) (bs : List ℕ) : Type 0 where
  pub digit : 48 ≤ b
  pub alone : b ≡ 48 → length (b ∷ bs) ≡ 1

begins : (b : ℕ) (bs : List ℕ) → begins_like_a_number (b ∷ bs) ≡ true → Begins b bs
begins b [] h = record { digit = leb-true 48 b (and_parts (nat_le 48 b) (nat_le b 57) h).0; alone = λ e. refl }
begins b (c ∷ bs) h =
    let low = leb-true 49 b (and_parts (nat_le 49 b) (nat_le b 57) h).0 in
    record { digit = omega (arith, low); alone = λ e. absurd (omega (arith, low, e)) }

-- digits that begin so are what is written for their number
module _ (b : ℕ) (bs : List ℕ) (begins_so : Begins b bs) where
  no_plus : without_leading_plus (b ∷ bs) ≡ b ∷ bs
  no_plus = ap (λ (t : Bool). drop (cond t 1 0) (b ∷ bs)) (ne_eqb b 43 (λ e. omega (arith, e, begins_so.digit)))

  spelled : AllDigits 10 (b ∷ bs) → digits_value 10 (b ∷ bs) < 2 ^ 64 → decimal (digits_value 10 (b ∷ bs)) ≡ b ∷ bs
  spelled digits small =
      decimal-digits_value {P = AllDigits 10} {v = digits_value 10} (record { to = λ ds p. p; from = λ ds p. p; same = λ ds d. refl }) (b ∷ bs) digits (omega arith) begins_so.alone small

pub read_is : {E : Type 0} (low most : ℕ) (word : List ℕ) (r : Result ℕ E) → most < 2 ^ 64 → begins_like_a_number word ≡ true → ParsesUnsigned 64 10 word r → number low most word ≡ in_range low most r
read_is low most [] r small h parses = cc
read_is low most (b ∷ bs) (Ok n) small h parses =
    let plain = no_plus b bs (begins b bs h) in
    let digits : AllDigits 10 (b ∷ bs) = subst (AllDigits 10) plain parses.0.0.1 in
    let value : n ≡ digits_value 10 (b ∷ bs) = parses.1 ∙ ap (digits_value 10) plain in
    let fits : digits_value 10 (b ∷ bs) < 2 ^ 64 = subst (λ ds. digits_value 10 ds < 2 ^ 64) plain parses.0.1 in
    rw ((bytes_eq-Decides (b ∷ bs) _).1 (sym (spelled b bs (begins b bs h) digits fits)), value) refl
read_is low most (b ∷ bs) (Err e) small h parses =
    let plain = no_plus b bs (begins b bs h) in
    number_none low most (b ∷ bs) λ s.
    let numeral = decimal_is_IsNumeral (digits_value 10 (b ∷ bs)) (omega (arith, s.1.1)) in
    let whole : IsNumeral 10 (b ∷ bs) = subst (IsNumeral 10) (sym s.0) numeral.0 in
    parses (subst (λ ds. IsNumeral 10 ds × (digits_value 10 ds < 2 ^ 64)) (sym plain) (whole, omega (arith, s.1.1)))
