-- The table of the values of digits.
use Rattle.std.proofs.Common.{◌≡◌, ◌<◌, ◌≤◌, ◌+◌, ◌-◌, ◌&&◌, not, nat_lt, ℕ, zero, suc, Bool, true, false, cond, List, [], ◌∷◌, slice_index_or, Option, Some, None, IfSome, ◌*◌, ◌==◌, ◌++◌, get_or, take, drop, length, refl, sym, ap, ◌∙◌, arith, eq-eqb}
use Rattle.std.proofs.lemmas.List.{take-append-drop}
use Rattle.fc_lines.proofs.Cutting.{stay}
use Rattle.fc_lines.specs.WordValues.{digit_of, digits_of, given, hexadecimal, mark}

-- the values of so many bytes from one on
abbrev pub marks : ℕ → ℕ → List ℕ
marks zero byte = []
marks (suc n) byte = mark (digit_of byte) ∷ marks n (suc byte)

none : (s : ℕ) → s ≡ s + 0
none s = omega arith

move : (s d : ℕ) → suc s + d ≡ s + suc d
move s d = omega arith

mark_in : (n s d : ℕ) → d < n → slice_index_or (marks n s) d 0 ≡ mark (digit_of (s + d))
mark_in zero s d lt = absurd (omega (arith, lt))
mark_in (suc n) s zero lt = ap (λ k. mark (digit_of k)) (none s)
mark_in (suc n) s (suc d) lt = mark_in n (suc s) d (omega (arith, lt)) ∙ ap (λ k. mark (digit_of k)) (move s d)

same : (b : ℕ) → 0 + b ≡ b
same b = omega arith

pub mark_at : (b : ℕ) → b < 256 → slice_index_or (marks 256 0) b 0 ≡ mark (digit_of b)
mark_at b lt = mark_in 256 0 b lt ∙ ap (λ k. mark (digit_of k)) (same b)

-- a digit is below 16
small_by : (a b c : Bool) (byte : ℕ) → (not (nat_lt byte 48) && not (nat_lt 57 byte)) ≡ a → (not (nat_lt byte 65) && not (nat_lt 70 byte)) ≡ b → (not (nat_lt byte 97) && not (nat_lt 102 byte)) ≡ c
    → IfSome (cond a (Some (byte - 48)) (cond b (Some (byte - 55)) (cond c (Some (byte - 87)) None))) (λ d. d < 16)
small_by true b c byte p q r = grind arith
small_by false true c byte p q r = grind arith
small_by false false true byte p q r = grind arith
small_by false false false byte p q r = tt

pub small_digit : (byte : ℕ) → IfSome (digit_of byte) (λ d. d < 16)
small_digit byte = small_by _ _ _ byte refl refl refl

-- the marks of bytes together, and the number behind another one that they make
abbrev pub sum_of : List ℕ → ℕ
sum_of [] = 0
sum_of (byte ∷ bytes) = mark (digit_of byte) + sum_of bytes

abbrev pub number_from : ℕ → List ℕ → ℕ
number_from n [] = n
number_from n (byte ∷ bytes) = number_from (n * 16 + mark (digit_of byte)) bytes

-- marks that are few are those of digits
pub are_digits : (n : ℕ) (bytes : List ℕ) → sum_of bytes < 255 → hexadecimal n bytes ≡ Some (number_from n bytes)
are_digits n [] few = refl
are_digits n (byte ∷ bytes) few = by (digit_of byte) few (λ k. are_digits k bytes)
  where
    by : (o : Option ℕ) → mark o + sum_of bytes < 255 → ((k : ℕ) → sum_of bytes < 255 → hexadecimal k bytes ≡ Some (number_from k bytes)) → given o (λ d. hexadecimal (n * 16 + d) bytes) ≡ Some (number_from (n * 16 + mark o) bytes)
    by None few more = absurd (omega (arith, few))
    by (Some d) few more = more (n * 16 + d) (omega (arith, few))

-- those of digits are few
few_marks : (n v : ℕ) (bytes : List ℕ) → hexadecimal n bytes ≡ Some v → sum_of bytes ≤ 15 * length bytes
few_marks n v [] e = omega arith
few_marks n v (byte ∷ bytes) e = by (digit_of byte) (small_digit byte) e (λ k f. few_marks k v bytes f)
  where
    by : (o : Option ℕ) → IfSome o (λ d. d < 16) → given o (λ d. hexadecimal (n * 16 + d) bytes) ≡ Some v → ((k : ℕ) → hexadecimal k bytes ≡ Some v → sum_of bytes ≤ 15 * length bytes) → mark o + sum_of bytes ≤ 15 * suc (length bytes)
    by None small e more = cc
    by (Some d) small e more = omega (arith, small, more (n * 16 + d) e)

pub no_digits : (n : ℕ) (bytes : List ℕ) → length bytes ≤ 16 → 240 < sum_of bytes → hexadecimal n bytes ≡ None
no_digits n bytes short many = by (hexadecimal n bytes) refl
  where
    by : (o : Option ℕ) → hexadecimal n bytes ≡ o → o ≡ None
    by None e = refl
    by (Some v) e = absurd (omega (arith, few_marks n v bytes e, short, many))

-- digits behind others
behind_digits : (n : ℕ) (front back : List ℕ) → hexadecimal n (front ++ back) ≡ given (hexadecimal n front) (λ k. hexadecimal k back)
behind_digits n [] back = refl
behind_digits n (byte ∷ front) back = by (digit_of byte) (λ k. behind_digits k front back)
  where
    by : (o : Option ℕ) → ((k : ℕ) → hexadecimal k (front ++ back) ≡ given (hexadecimal k front) (λ k. hexadecimal k back))
        → given o (λ d. hexadecimal (n * 16 + d) (front ++ back)) ≡ given (given o (λ d. hexadecimal (n * 16 + d) front)) (λ k. hexadecimal k back)
    by None more = refl
    by (Some d) more = more (n * 16 + d)

pub whole_word : (count : ℕ) (word : List ℕ) → length word ≡ count → digits_of count word ≡ hexadecimal 0 word
unfolding digits_of
whole_word count word e = stay (length word == count) _ _ (eq-eqb (length word) count e)

-- the mark of a byte of a list
abbrev pub nth_mark : List ℕ → ℕ → ℕ
nth_mark bytes i = mark (digit_of (get_or bytes i 0))

pub small_mark : (byte value : ℕ) → value ≡ mark (digit_of byte) → value < 255 → value ≤ 15
small_mark byte value e h = by (digit_of byte) (small_digit byte) e
  where
    by : (o : Option ℕ) → IfSome o (λ d. d < 16) → value ≡ mark o → value ≤ 15
    by None small f = absurd (omega (arith, f, h))
    by (Some d) small f = omega (arith, f, small)

-- eight digits
pub eight_sum : (xs : List ℕ) → length xs ≡ 8
    → sum_of xs ≡ nth_mark xs 0 + nth_mark xs 1 + nth_mark xs 2 + nth_mark xs 3 + nth_mark xs 4 + nth_mark xs 5 + nth_mark xs 6 + nth_mark xs 7
eight_sum [] l = absurd (omega (arith, l))
eight_sum (a ∷ []) l = absurd (omega (arith, l))
eight_sum (a ∷ b ∷ []) l = absurd (omega (arith, l))
eight_sum (a ∷ b ∷ c ∷ []) l = absurd (omega (arith, l))
eight_sum (a ∷ b ∷ c ∷ d ∷ []) l = absurd (omega (arith, l))
eight_sum (a ∷ b ∷ c ∷ d ∷ e ∷ []) l = absurd (omega (arith, l))
eight_sum (a ∷ b ∷ c ∷ d ∷ e ∷ f ∷ []) l = absurd (omega (arith, l))
eight_sum (a ∷ b ∷ c ∷ d ∷ e ∷ f ∷ g ∷ []) l = absurd (omega (arith, l))
eight_sum (a ∷ b ∷ c ∷ d ∷ e ∷ f ∷ g ∷ h ∷ []) l = omega arith
eight_sum (a ∷ b ∷ c ∷ d ∷ e ∷ f ∷ g ∷ h ∷ i ∷ xs) l = absurd (omega (arith, l))

abbrev pub four_joined : ℕ → ℕ → ℕ → ℕ → ℕ
four_joined a b c d = ((a * 16 + b) * 16 + c) * 16 + d

pub eight_number : (xs : List ℕ) → length xs ≡ 8
    → number_from 0 xs ≡ four_joined (nth_mark xs 0) (nth_mark xs 1) (nth_mark xs 2) (nth_mark xs 3) * 65536 + four_joined (nth_mark xs 4) (nth_mark xs 5) (nth_mark xs 6) (nth_mark xs 7)
eight_number [] l = absurd (omega (arith, l))
eight_number (a ∷ []) l = absurd (omega (arith, l))
eight_number (a ∷ b ∷ []) l = absurd (omega (arith, l))
eight_number (a ∷ b ∷ c ∷ []) l = absurd (omega (arith, l))
eight_number (a ∷ b ∷ c ∷ d ∷ []) l = absurd (omega (arith, l))
eight_number (a ∷ b ∷ c ∷ d ∷ e ∷ []) l = absurd (omega (arith, l))
eight_number (a ∷ b ∷ c ∷ d ∷ e ∷ f ∷ []) l = absurd (omega (arith, l))
eight_number (a ∷ b ∷ c ∷ d ∷ e ∷ f ∷ g ∷ []) l = absurd (omega (arith, l))
eight_number (a ∷ b ∷ c ∷ d ∷ e ∷ f ∷ g ∷ h ∷ []) l = omega arith
eight_number (a ∷ b ∷ c ∷ d ∷ e ∷ f ∷ g ∷ h ∷ i ∷ xs) l = absurd (omega (arith, l))

-- sixteen digits, by their halves
pub eight_moved : (n : ℕ) (xs : List ℕ) → length xs ≡ 8 → number_from n xs ≡ n * 4294967296 + number_from 0 xs
eight_moved n [] l = absurd (omega (arith, l))
eight_moved n (a ∷ []) l = absurd (omega (arith, l))
eight_moved n (a ∷ b ∷ []) l = absurd (omega (arith, l))
eight_moved n (a ∷ b ∷ c ∷ []) l = absurd (omega (arith, l))
eight_moved n (a ∷ b ∷ c ∷ d ∷ []) l = absurd (omega (arith, l))
eight_moved n (a ∷ b ∷ c ∷ d ∷ e ∷ []) l = absurd (omega (arith, l))
eight_moved n (a ∷ b ∷ c ∷ d ∷ e ∷ f ∷ []) l = absurd (omega (arith, l))
eight_moved n (a ∷ b ∷ c ∷ d ∷ e ∷ f ∷ g ∷ []) l = absurd (omega (arith, l))
eight_moved n (a ∷ b ∷ c ∷ d ∷ e ∷ f ∷ g ∷ h ∷ []) l = omega arith
eight_moved n (a ∷ b ∷ c ∷ d ∷ e ∷ f ∷ g ∷ h ∷ i ∷ xs) l = absurd (omega (arith, l))

some_is : (a b : ℕ) → Some a ≡ Some b → a ≡ b
some_is a b e = cc

module _ (digits front back : List ℕ) (a : front ≡ take 8 digits) (b : back ≡ drop 8 digits) where
  both : hexadecimal 0 digits ≡ given (hexadecimal 0 front) (λ k. hexadecimal k back)
  both = ap (hexadecimal 0) (sym (take-append-drop 8 digits) ∙ ap (λ l. l ++ drop 8 digits) (sym a) ∙ ap (λ l. front ++ l) (sym b)) ∙ behind_digits 0 front back

  pub halves : (high low : ℕ) → hexadecimal 0 front ≡ Some high → hexadecimal 0 back ≡ Some low → length back ≡ 8 → hexadecimal 0 digits ≡ Some (high * 4294967296 + low)
  halves high low h l size =
      let few : sum_of back < 255 = omega (arith, few_marks 0 low back l, size) in
      let is : number_from 0 back ≡ low = some_is (number_from 0 back) low (sym (are_digits 0 back few) ∙ l) in
      both ∙ ap (λ o. given o (λ k. hexadecimal k back)) h ∙ are_digits high back few ∙ ap Some (omega (arith, eight_moved high back size, is))

  pub first_half : hexadecimal 0 front ≡ None → hexadecimal 0 digits ≡ None
  first_half h = both ∙ ap (λ o. given o (λ k. hexadecimal k back)) h

  pub last_half : (high : ℕ) → hexadecimal 0 front ≡ Some high → hexadecimal 0 back ≡ None → length back ≡ 8 → hexadecimal 0 digits ≡ None
  last_half high h l size = both ∙ ap (λ o. given o (λ k. hexadecimal k back)) h ∙ by (hexadecimal high back) refl
    where
      by : (o : Option ℕ) → hexadecimal high back ≡ o → o ≡ None
      by None e = refl
      by (Some v) e =
          let few : sum_of back < 255 = omega (arith, few_marks high v back e, size) in
          absurd (never (number_from 0 back) (sym (are_digits 0 back few) ∙ l))
        where
          never : (n : ℕ) → Some n ≡ None → ⊥
          never n e = cc
