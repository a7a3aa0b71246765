-- The words of a line have no space and no line feed, and so a line of them is one.
use Rattle.std.proofs.Common.{◌≡◌, ◌<◌, ℕ, suc, true, List, [], ◌∷◌, length, codes, decimal, refl, sym, ap, subst, ◌∙◌, arith, length-append}
use Rattle.std.specs.Char.{digit_value, is_ascii_hexdigit, to_ascii_uppercase}
use Rattle.std.specs.List.{list_all, AllByRecursion}
use Rattle.std.specs.Str.{str_to_ascii_uppercase}
use Rattle.std.specs.Str.Parse.{AllDigits}
use Rattle.std.proofs.lemmas.Bool.{and_parts}
use Rattle.std.proofs.lemmas.Bool.Decides.{leb_tells}
use Rattle.std.proofs.lemmas.Fmt.{decimal_is_IsNumeral}
use Rattle.std.proofs.lemmas.List.{length-map}
use Rattle.std.proofs.lemmas.List.Folds.{list_all-append}
use Rattle.fc_base.specs.Hex.{hex, hex_text}
use Rattle.fc_text.specs.Text.{bytes_text}
use Rattle.fc_text.specs.TextGrammar.{Word, Line, name, number, digits, octets, flags, SpellsDigits, SpellsWord, SpellsLine, AreEach}
use Rattle.fc_text.proofs.SpelledWords.{are_hexadecimal, hex_digits, length-hex}
use Rattle.fc_text.proofs.SplitLines.{is_plain, IsWord, IsLine, line_is}

-- characters
hexadecimal_plain : (c : ℕ) → is_ascii_hexdigit c ≡ true → is_plain c ≡ true
hexadecimal_plain c h = grind (arith, leb_tells)

decimal_plain : (c : ℕ) → digit_value c < 10 → is_plain c ≡ true
decimal_plain c h = grind (arith, leb_tells)

either_case_plain : (c : ℕ) → is_plain (to_ascii_uppercase c) ≡ is_plain c
either_case_plain c = grind (arith, leb_tells)

all_hexadecimal : (w : List ℕ) → are_hexadecimal w ≡ true → list_all is_plain w ≡ true
all_hexadecimal [] h = refl
all_hexadecimal (c ∷ cs) h =
    let (first, more) = and_parts (is_ascii_hexdigit c) (are_hexadecimal cs) h in
    rw (hexadecimal_plain c first, all_hexadecimal cs more) refl

all_decimal : (w : List ℕ) → AllDigits 10 w → list_all is_plain w ≡ true
all_decimal [] h = refl
all_decimal (c ∷ cs) h = rw (decimal_plain c h.0, all_decimal cs h.1) refl

either_case : (w : List ℕ) → list_all is_plain (str_to_ascii_uppercase w) ≡ list_all is_plain w
either_case [] = refl
either_case (c ∷ cs) = rw (either_case_plain c, either_case cs) refl

hex_plain : (k n : ℕ) → list_all is_plain (hex k n) ≡ true
hex_plain k n = all_hexadecimal (hex k n) (hex_digits k n)

text_plain : (bytes : List ℕ) → list_all is_plain (hex_text bytes) ≡ true
text_plain [] = refl
text_plain (b ∷ bs) = list_all-append is_plain (hex 2 b) (hex_text bs) ∙ rw (hex_plain 2 b, text_plain bs) refl

bytes_plain : (bytes : List ℕ) → IsWord (bytes_text bytes)
bytes_plain [] = record { some = omega arith; plain = refl }
bytes_plain (b ∷ bs) = record { some = omega (arith, length-append (hex 2 b) (hex_text bs), length-hex 2 b); plain = text_plain (b ∷ bs) }

-- a word of a line has this name, or a label that is one or none and some digits
abbrev pub Named : Word → Type 0
Named (name text) = IsWord text
Named (number n) = Unit {0}
Named (digits label count n) = (list_all is_plain label ≡ true) × (0 < count)
Named (octets value) = Unit {0}
Named (flags values) = Unit {0}

digits_word : (label : List ℕ) (count n : ℕ) (bytes : List ℕ) → list_all is_plain label ≡ true → 0 < count → SpellsDigits label count n bytes → IsWord bytes
digits_word label count n bytes plain some (small, back, whole, e) =
    let long : length back ≡ count = sym (length-map back to_ascii_uppercase) ∙ ap length e ∙ length-hex count n in
    let other : list_all is_plain back ≡ true = sym (either_case back) ∙ ap (list_all is_plain) e ∙ hex_plain count n in
    record {
      some = omega (arith, ap length whole, length-append label back, long, some);
      plain = ap (list_all is_plain) whole ∙ list_all-append is_plain label back ∙ rw (plain, other) refl;
    }

pub word_is : (w : Word) (bytes : List ℕ) → Named w → SpellsWord w bytes → IsWord bytes
word_is (name text) bytes h s = subst IsWord (sym s) h
word_is (number n) bytes h s =
    let numeral = decimal_is_IsNumeral n (omega (arith, s.0)) in
    subst IsWord (sym s.1) (record { some = numeral.0.0; plain = all_decimal (decimal n) numeral.0.1 })
word_is (digits label count n) bytes h s = digits_word label count n bytes h.0 h.1 s
word_is (octets value) bytes h s =
    let text = bytes_plain value in
    record {
      some = omega (arith, length-map bytes to_ascii_uppercase, ap length s.1, text.some);
      plain = sym (either_case bytes) ∙ ap (list_all is_plain) s.1 ∙ text.plain;
    }
word_is (flags values) bytes h s = digits_word (codes "flags=") 8 s.0 bytes refl (omega arith) s.2

pub words_are : (ws : List Word) (texts : List (List ℕ)) → AllByRecursion Named ws → AreEach SpellsWord ws texts → AllByRecursion IsWord texts
words_are [] [] h s = tt
words_are [] (t ∷ ts) h s = absurd s
words_are (w ∷ ws) [] h s = absurd s
words_are (w ∷ ws) (t ∷ ts) h s = (word_is w t h.0 s.0, words_are ws ts h.1 s.1)

pub same_number : {A : Type 0} (Is : A → List ℕ → Type 0) (xs : List A) (texts : List (List ℕ)) → AreEach Is xs texts → length texts ≡ length xs
same_number Is [] [] s = refl
same_number Is [] (t ∷ ts) s = absurd s
same_number Is (x ∷ xs) [] s = absurd s
same_number Is (x ∷ xs) (t ∷ ts) s = ap suc (same_number Is xs ts s.1)

-- a line with some words, all of which are named
pub record Whole (l : Line) : Type 0 where
  pub some : 0 < length l.words
  pub named : AllByRecursion Named l.words

pub line_of : (l : Line) (bytes : List ℕ) → Whole l → SpellsLine l bytes → IsLine bytes
line_of l bytes h (words, each, e) =
    subst IsLine (sym e) (line_is l.level words (omega (arith, h.some, same_number SpellsWord l.words words each)) (words_are l.words words h.named each))

pub lines_are : (ls : List Line) (texts : List (List ℕ)) → AllByRecursion Whole ls → AreEach SpellsLine ls texts → AllByRecursion IsLine texts
lines_are [] [] h s = tt
lines_are [] (t ∷ ts) h s = absurd s
lines_are (l ∷ ls) [] h s = absurd s
lines_are (l ∷ ls) (t ∷ ts) h s = (line_of l t h.0 s.0, lines_are ls ts h.1 s.1)
