-- Lines that are spelled are read, word for word.
use Rattle.std.proofs.Common.{◌≡◌, ◌<◌, ◌+◌, ◌*◌, ◌^◌, ℕ, Bool, true, false, cond, ◌==◌, List, [], ◌∷◌, ◌++◌, length, codes, decimal, Option, Some, None, Result, Ok, refl, sym, ap, subst, ◌∙◌, arith, eq-eqb}
use Rattle.std.specs.List.{AllByRecursion}
use Rattle.std.specs.Str.{bytes_eq}
use Rattle.std.specs.Str.Parse.{AllDigits}
use Rattle.std.proofs.lemmas.Fmt.{decimal_is_IsNumeral}
use Rattle.std.proofs.lemmas.Slice.Eq.{bytes_eq-Decides}
use Rattle.fc_wire.specs.declared.ilvs.Ilv.{Ilv}
use Rattle.fc_path.specs.declared.path.Key.{Key}
use Rattle.fc_lines.specs.LineWords.{WordsLeft, LinesLeft, words_left, lines_left, placed, spaces_before, line_at, word_in, meaning, fits_as, ended, exactly, this_word, decimal_in, digits_in, octets_in, labelled_in, labelled_digits}
use Rattle.fc_text.specs.Text.{indent}
use Rattle.fc_text.specs.TextGrammar.{Word, Line, line, name, number, digits, octets, parted, step_words, ilv_line, code_line, SpellsDigits, SpellsWord, SpellsLine, AreEach}
use Rattle.fc_base.specs.Answers.{◌>>=◌}
use Rattle.fc_lines.specs.TextPlaces.{TextPlace, place}
use Rattle.fc_lines.specs.LineReading.{key_in, steps_of, steps_in, ilv_at, code_in, outcome_at}
use Rattle.fc_lines.specs.WordValues.{decimal_of, digits_of, octets_of}
use Rattle.fc_text.proofs.PlainWords.{Named, Whole, words_are, same_number}
use Rattle.fc_text.proofs.SpelledWords.{same_bytes, decimal_read, digits_read, octets_read, labelled_read}
use Rattle.fc_text.proofs.SplitLines.{IsWord, words_back, behind_indent, spaces_of}

-- a word that was read, and the words behind it
pub record Took {A : Type 0} (read : Result (A × WordsLeft) TextPlace) (a : A) (ws : List Word) (n e : ℕ) : Type 0 where
  pub rest : List (List ℕ)
  pub column : ℕ
  pub is : read ≡ Ok (a, words_left n e (placed column rest))
  pub each : AreEach SpellsWord ws rest

pub next_word : {A : Type 0} (means : List ℕ → Option A) (n e c : ℕ) (t : List ℕ) (ts : List (List ℕ)) (a : A) → means t ≡ Some a
    → meaning means (words_left n e (placed c (t ∷ ts))) ≡ Ok (a, words_left n e (placed (c + length t + 1) ts))
unfolding word_in
next_word means n e c t ts a h = ap (λ o. fits_as o (place n c) >>= λ a. Ok (a, words_left n e (placed (c + length t + 1) ts))) h

module _ {A : Type 0} (means : List ℕ → Option A) (w : Word) (a : A) (says : (t : List ℕ) → SpellsWord w t → means t ≡ Some a) where
  pub took : (n e c : ℕ) (ws : List Word) (ts : List (List ℕ)) → AreEach SpellsWord (w ∷ ws) ts → Took (meaning means (words_left n e (placed c ts))) a ws n e
  took n e c ws [] h = absurd h
  took n e c ws (t ∷ ts) h = record {
    rest = ts;
    column = c + length t + 1;
    is = next_word means n e c t ts a (says t h.0);
    each = h.1;
  }

name_says : (text t : List ℕ) → t ≡ text → this_word text t ≡ Some tt
name_says text t e = ap (λ b. cond b (Some tt) None) (ap (λ x. bytes_eq x text) e ∙ same_bytes text)

pub took_name : (text : List ℕ) (n e c : ℕ) (ws : List Word) (ts : List (List ℕ)) → AreEach SpellsWord (name text ∷ ws) ts → Took (exactly text (words_left n e (placed c ts))) tt ws n e
unfolding exactly
took_name text = took (this_word text) (name text) tt (name_says text)

pub took_number : (k n e c : ℕ) (ws : List Word) (ts : List (List ℕ)) → AreEach SpellsWord (number k ∷ ws) ts → Took (decimal_in (words_left n e (placed c ts))) k ws n e
unfolding decimal_in
took_number k = took decimal_of (number k) k (λ t s. decimal_read k t s.0 s.1)

plain_digits : (count k : ℕ) (t : List ℕ) → SpellsDigits [] count k t → digits_of count t ≡ Some k
plain_digits count k t (small, back, e, upper) = ap (digits_of count) e ∙ digits_read count k back small upper

pub took_digits : (count k n e c : ℕ) (ws : List Word) (ts : List (List ℕ)) → AreEach SpellsWord (digits [] count k ∷ ws) ts → Took (digits_in count (words_left n e (placed c ts))) k ws n e
unfolding digits_in
took_digits count k = took (digits_of count) (digits [] count k) k (plain_digits count k)

pub took_octets : (value : List ℕ) (n e c : ℕ) (ws : List Word) (ts : List (List ℕ)) → AreEach SpellsWord (octets value ∷ ws) ts → Took (octets_in (words_left n e (placed c ts))) value ws n e
unfolding octets_in
took_octets value = took octets_of (octets value) value (λ t s. octets_read t value s.0 s.1)

pub took_labelled : (label : List ℕ) (count k n e c : ℕ) (ws : List Word) (ts : List (List ℕ)) → AreEach SpellsWord (digits label count k ∷ ws) ts → Took (labelled_in label count (words_left n e (placed c ts))) k ws n e
unfolding labelled_in
took_labelled label count k = took (labelled_digits label count) (digits label count k) k (labelled_read label count k)

pub none_left : (n e c : ℕ) (ts : List (List ℕ)) → AreEach SpellsWord [] ts → ended (words_left n e (placed c ts)) ≡ Ok tt
unfolding ended
none_left n e c [] h = refl
none_left n e c (t ∷ ts) h = absurd h

-- a line that was read, and its words
pub record Began (read : Result (WordsLeft × LinesLeft) TextPlace) (ws : List Word) (rest : List (List ℕ)) : Type 0 where
  pub taken : ℕ
  pub end : ℕ
  pub column : ℕ
  pub words : List (List ℕ)
  pub is : read ≡ Ok (words_left taken end (placed column words), lines_left taken rest)
  pub each : AreEach SpellsWord ws words

pub begin_by : (level taken : ℕ) (words rest : List (List ℕ)) (bytes : List ℕ) → 0 < length words → AllByRecursion IsWord words → bytes ≡ indent level ++ parted words
    → line_at level (lines_left taken (bytes ∷ rest)) ≡ Ok (words_left (taken + 1) (2 * level + 1 + length (parted words)) (placed (2 * level + 1) words), lines_left (taken + 1) rest)
unfolding line_at
begin_by level taken words rest bytes some all e =
    let spaces : (spaces_before (indent level ++ parted words) == 2 * level) ≡ true = eq-eqb _ _ (spaces_of level words some all) in
    ap (λ b. line_at level (lines_left taken (b ∷ rest))) e
    ∙ rw (spaces, behind_indent level (parted words), words_back words some all) refl

pub begin : (l : Line) (taken : ℕ) (bytes : List ℕ) (rest : List (List ℕ)) → Whole l → SpellsLine l bytes → Began (line_at l.level (lines_left taken (bytes ∷ rest))) l.words rest
begin l taken bytes rest h s =
    let some : 0 < length s.0 = omega (arith, h.some, same_number SpellsWord l.words s.0 s.1) in
    record {
      taken = taken + 1;
      end = 2 * l.level + 1 + length (parted s.0);
      column = 2 * l.level + 1;
      words = s.0;
      is = begin_by l.level taken s.0 rest bytes some (words_are l.words s.0 h.named s.1) s.2;
      each = s.1;
    }

pub spaces_are : (l : Line) (bytes : List ℕ) → Whole l → SpellsLine l bytes → spaces_before bytes ≡ 2 * l.level
spaces_are l bytes h s =
    let some : 0 < length s.0 = omega (arith, h.some, same_number SpellsWord l.words s.0 s.1) in
    ap spaces_before s.2 ∙ spaces_of l.level s.0 some (words_are l.words s.0 h.named s.1)

-- a key, and the IDs before it
pub key_read : (key : Key) (n e c : ℕ) (ts : List (List ℕ)) → AreEach SpellsWord (number key.ident ∷ octets key.value ∷ []) ts → key_in (words_left n e (placed c ts)) ≡ Ok key
unfolding key_in
key_read key n e c ts h =
    let a = took_number key.ident n e c (octets key.value ∷ []) ts h in
    let b = took_octets key.value n e a.column [] a.rest a.each in
    let d = none_left n e b.column b.rest b.each in
    rw (a.is, b.is, d) refl

not_key : (n : ℕ) (word : List ℕ) → n < 2 ^ 32 → word ≡ decimal n → bytes_eq word (codes "key") ≡ false
not_key n word small e = not_true_of (bytes_eq word (codes "key")) λ same.
    let is : word ≡ codes "key" = (bytes_eq-Decides word (codes "key")).0 same in
    let digit : AllDigits 10 (codes "key") = subst (AllDigits 10) (sym e ∙ is) (decimal_is_IsNumeral n (omega (arith, small))).0.1 in
    omega (arith, digit.0)
  where
    not_true_of : (b : Bool) → (b ≡ true → ⊥) → b ≡ false
    not_true_of true h = absurd (h refl)
    not_true_of false h = refl

steps_read_of : (ids : List ℕ) (key : Option Key) (n e c : ℕ) (ts : List (List ℕ)) → AreEach SpellsWord (step_words ids key) ts → steps_of n e (placed c ts) ≡ Ok (ids, key)
steps_read_of [] None n e c [] h = refl
steps_read_of [] None n e c (t ∷ ts) h = absurd h
steps_read_of [] (Some key) n e c [] h = absurd h
steps_read_of [] (Some key) n e c (t ∷ ts) h =
    let is : bytes_eq t (codes "key") ≡ true = ap (λ x. bytes_eq x (codes "key")) h.0 in
    rw (is, key_read key n e (c + length t + 1) ts h.1) refl
steps_read_of (id ∷ ids) key n e c [] h = absurd h
steps_read_of (id ∷ ids) key n e c (t ∷ ts) h =
    let more : steps_of n e (placed (c + length t + 1) ts) ≡ Ok (ids, key) = steps_read_of ids key n e (c + length t + 1) ts h.1 in
    rw (not_key id t h.0.0 h.0.1, decimal_read id t h.0.0 h.0.1, more) refl

pub steps_read : (ids : List ℕ) (key : Option Key) (n e c : ℕ) (ts : List (List ℕ)) → AreEach SpellsWord (step_words ids key) ts → steps_in (words_left n e (placed c ts)) ≡ Ok (ids, key)
unfolding steps_in
steps_read ids key n e c ts h = steps_read_of ids key n e c ts h

-- what was read of lines, and those behind it
abbrev pub Gives : {X : Type 0} → Result (X × LinesLeft) TextPlace → X → List (List ℕ) → Type 0
Gives read x rest = (n : ℕ) × (read ≡ Ok (x, lines_left n rest))

-- a line of its own
pub alone : (text : List ℕ) → IsWord text → (ws : List Word) → AllByRecursion Named ws → (level : ℕ) → Whole (line level (name text ∷ ws))
alone text is ws named level = record { some = omega arith; named = (is, named) }

pub ilv_whole : (level : ℕ) (ilv : Ilv) → Whole (ilv_line level ilv)
ilv_whole level ilv = alone (codes "ilv") (record { some = omega arith; plain = refl }) _ (tt, (tt, tt)) level

pub code_whole : (level code : ℕ) → Whole (code_line level code)
code_whole level code = alone (codes "code") (record { some = omega arith; plain = refl }) _ ((refl, omega arith), tt) level

pub ilv_read : (level : ℕ) (ilv : Ilv) (t : List ℕ) (rest : List (List ℕ)) (taken : ℕ) → SpellsLine (ilv_line level ilv) t → Gives (ilv_at level (lines_left taken (t ∷ rest))) ilv rest
unfolding ilv_at
ilv_read level ilv t rest taken s =
    let l = begin (ilv_line level ilv) taken t rest (ilv_whole level ilv) s in
    let w = took_name (codes "ilv") l.taken l.end l.column (number ilv.ident ∷ octets ilv.value ∷ []) l.words l.each in
    let a = took_number ilv.ident l.taken l.end w.column (octets ilv.value ∷ []) w.rest w.each in
    let b = took_octets ilv.value l.taken l.end a.column [] a.rest a.each in
    let d = none_left l.taken l.end b.column b.rest b.each in
    (l.taken, rw (l.is, w.is, a.is, b.is, d) refl)

pub code_read : (code n e c : ℕ) (ts : List (List ℕ)) → AreEach SpellsWord (digits [] 2 code ∷ []) ts → code_in (words_left n e (placed c ts)) ≡ Ok code
unfolding code_in
code_read code n e c ts h =
    let a = took_digits 2 code n e c [] ts h in
    let d = none_left n e a.column a.rest a.each in
    rw (a.is, d) refl

pub outcome_read : (level code : ℕ) (t : List ℕ) (rest : List (List ℕ)) (taken : ℕ) → SpellsLine (code_line level code) t → Gives (outcome_at level (lines_left taken (t ∷ rest))) code rest
unfolding outcome_at
outcome_read level code t rest taken s =
    let l = begin (code_line level code) taken t rest (code_whole level code) s in
    let w = took_name (codes "code") l.taken l.end l.column (digits [] 2 code ∷ []) l.words l.each in
    let d = code_read code l.taken l.end w.column w.rest w.each in
    (l.taken, rw (l.is, w.is, d) refl)
