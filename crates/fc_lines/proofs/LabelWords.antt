-- A word that is a label and digits.
use Rattle.std.proofs.Common.{◌≡◌, ◌≢◌, ℕ, ◌+◌, ◌*◌, ◌≤◌, ◌++◌, List, [], ◌∷◌, length, take, drop, Bool, true, false, cond, Option, Some, None, refl, sym, ap, ◌∙◌, subst, arith, rules, append_assoc, length-append}
use Rattle.std.specs.Str.{bytes_eq}
use Rattle.std.proofs.Math.Seq.{drop-append_seam, take-append_seam}
use Rattle.std.proofs.lemmas.List.{take-append-drop}
use Rattle.std.proofs.lemmas.Slice.Eq.{bytes_eq-Decides}
use Rattle.fc_lines.specs.LineWords.{EndsWord, IsPlain, behind_label, label_bytes, labelled_digits}
use Rattle.fc_lines.specs.WordValues.{digit_of, digits_of, given, hexadecimal}
use Rattle.fc_lines.specs.declared.label.Label.{Label}
use Rattle.fc_lines.specs.declared.label.Label.TheVariants as labels
use Rattle.fc_lines.proofs.DigitValues.{whole_word}

-- digits are neither spaces nor line feeds
no_end : (byte d : ℕ) → digit_of byte ≡ Some d → (byte ≢ 32) × (byte ≢ 10)
no_end byte d e = (
  λ is. never (sym (ap digit_of is) ∙ e),
  λ is. never (sym (ap digit_of is) ∙ e),
)
  where
    never : None ≡ Some d → ⊥
    never e = cc

pub plain_digits : (n v : ℕ) (digits : List ℕ) → hexadecimal n digits ≡ Some v → IsPlain digits
plain_digits n v [] e = tt
plain_digits n v (byte ∷ digits) e = by (digit_of byte) refl e (λ k f. plain_digits k v digits f)
  where
    by : (o : Option ℕ) → digit_of byte ≡ o → given o (λ d. hexadecimal (n * 16 + d) digits) ≡ Some v → ((k : ℕ) → hexadecimal k digits ≡ Some v → IsPlain digits) → (byte ≢ 32) × (byte ≢ 10) × IsPlain digits
    by None is e more = cc
    by (Some d) is e more = let (a, b) = no_end byte d is in (a, b, more (n * 16 + d) e)

plain_join : (v w : List ℕ) → IsPlain v → IsPlain w → IsPlain (v ++ w)
plain_join [] w p q = q
plain_join (b ∷ bs) w p q = (p.0, p.1, plain_join bs w p.2 q)

plain_label : (label : Label) → IsPlain (label_bytes label)
plain_label labels.From = search rules
plain_label labels.To = search rules
plain_label labels.Corr = search rules
plain_label labels.Flags = search rules

-- the word in front
found_by : (t : Bool) (label bytes back : List ℕ) → (t ≡ true → take (length label) bytes ≡ label) → Some back ≡ cond t (Some (drop (length label) bytes)) None → bytes ≡ label ++ back
found_by true label bytes back same e =
    sym (take-append-drop (length label) bytes) ∙ ap (λ l. l ++ drop (length label) bytes) (same refl) ∙ ap (λ l. label ++ l) (sym (some_is back (drop (length label) bytes) e))
  where
    some_is : (a b : List ℕ) → Some a ≡ Some b → a ≡ b
    some_is a b e = cc
found_by false label bytes back same e = cc

found_is : (label bytes back : List ℕ) → Some back ≡ behind_label label bytes → bytes ≡ label ++ back
found_is label bytes back e = found_by (bytes_eq (take (length label) bytes) label) label bytes back (bytes_eq-Decides (take (length label) bytes) label).0 e

labelled_is : (label digits : List ℕ) (count n : ℕ) → length digits ≡ count → hexadecimal 0 digits ≡ Some n → labelled_digits label count (label ++ digits) ≡ Some n
labelled_is label digits count n size value =
    let front : take (length label) (label ++ digits) ≡ label = take-append_seam label digits in
    let same : bytes_eq (take (length label) (label ++ digits)) label ≡ true = (bytes_eq-Decides (take (length label) (label ++ digits)) label).1 front in
    ap (λ t. given (cond t (Some (drop (length label) (label ++ digits))) None) (digits_of count)) same
    ∙ ap (digits_of count) (drop-append_seam label digits) ∙ whole_word count digits size ∙ value

abbrev pub FrontWord : List ℕ → ℕ → ℕ → ℕ → List ℕ → Type 0
FrontWord label count n len bytes = (len ≤ length bytes) × IsPlain (take len bytes) × EndsWord (drop len bytes) × (labelled_digits label count (take len bytes) ≡ Some n)

pub in_front : (label : Label) (count n len : ℕ) (bytes back digits behind : List ℕ) → Some back ≡ behind_label (label_bytes label) bytes → digits ≡ take count back → behind ≡ drop count back → length digits ≡ count → hexadecimal 0 digits ≡ Some n
    → EndsWord behind → len ≡ length (label_bytes label) + count → FrontWord (label_bytes label) count n len bytes
in_front label count n len bytes back digits behind found front rest size value ends long =
    let text = label_bytes label in
    let word = text ++ digits in
    let cut : back ≡ digits ++ behind = sym (take-append-drop count back) ∙ ap (λ l. l ++ drop count back) (sym front) ∙ ap (λ l. digits ++ l) (sym rest) in
    let all : bytes ≡ word ++ behind = found_is text bytes back found ∙ ap (λ l. text ++ l) cut ∙ sym (append_assoc text digits behind) in
    let whole : length word ≡ len = omega (arith, length-append text digits, size, long) in
    let first : take len bytes ≡ word = ap (take len) all ∙ ap (λ k. take k (word ++ behind)) (sym whole) ∙ take-append_seam word behind in
    let last : drop len bytes ≡ behind = ap (drop len) all ∙ ap (λ k. drop k (word ++ behind)) (sym whole) ∙ drop-append_seam word behind in (
      omega (arith, ap length all, length-append word behind, whole),
      subst IsPlain (sym first) (plain_join text digits (plain_label label) (plain_digits 0 n digits value)),
      subst EndsWord (sym last) ends,
      ap (labelled_digits text count) first ∙ labelled_is text digits count n size value,
    )
