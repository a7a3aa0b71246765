-- Words in a line whose end is not looked for before they are taken.
use Rattle.std.proofs.Common.{◌≡◌, ◌≢◌, ◌⊎◌, ℕ, zero, suc, ◌+◌, ◌*◌, ◌<◌, ◌≤◌, ◌==◌, ◌++◌, List, [], ◌∷◌, length, take, drop, get_or, Bool, true, false, cond, Option, Some, None, Ok, Err, Result, refl, sym, ap, ◌∙◌, subst, arith, ne_eqb, append-nil, length-append, add-one}
use Rattle.std.proofs.lemmas.Bool.{eqb-true}
use Rattle.fc_base.specs.Answers.{◌>>=◌}
use Rattle.fc_lines.specs.TextPlaces.{TextPlace, place}
use Rattle.fc_lines.specs.LineWords.{EndsWord, IsPlain, LinesLeft, WordsLeft, in_front, line_in, behind_line, lines_of, words_of, words_from, words_left, placed, first_word, rest_words, ended, word_in, word_of, WordItem, spaces_before, stands_at, line_at, lines_left, open_from, fits_as, labelled_digits, labelled_in, QuickNumber, decimal_in}
use Rattle.fc_lines.specs.WordValues.{decimal_of}
use Rattle.fc_lines.proofs.Cutting.{skip}
use Rattle.fc_lines.proofs.LineSteps.{there, spaces_fit, stands_some, stands_spaces}

-- bytes without spaces and line feeds stand in front of the line, and of its first word
pub line_in_front : (w rest : List ℕ) → IsPlain w → line_in (w ++ rest) ≡ w ++ line_in rest
line_in_front [] rest p = refl
line_in_front (b ∷ bs) rest p = skip (b == 10) _ _ (ne_eqb b 10 p.1) ∙ ap (λ l. b ∷ l) (line_in_front bs rest p.2)

pub behind_front : (w rest : List ℕ) → IsPlain w → behind_line (w ++ rest) ≡ behind_line rest
behind_front [] rest p = refl
behind_front (b ∷ bs) rest p = skip (b == 10) _ _ (ne_eqb b 10 p.1) ∙ behind_front bs rest p.2

pub words_space : (w l : List ℕ) → IsPlain w → words_of (w ++ 32 ∷ l) ≡ w ∷ words_of l
words_space [] l p = refl
words_space (b ∷ bs) l p = skip (b == 32) _ _ (ne_eqb b 32 p.0) ∙ ap (in_front b) (words_space bs l p.2)

pub words_end : (w : List ℕ) → IsPlain w → words_of w ≡ w ∷ []
words_end [] p = refl
words_end (b ∷ bs) p = skip (b == 32) _ _ (ne_eqb b 32 p.0) ∙ ap (in_front b) (words_end bs p.2)

-- one byte more
plain_end : (w : List ℕ) (b : ℕ) → IsPlain w → b ≢ 32 → b ≢ 10 → IsPlain (w ++ b ∷ [])
plain_end [] b p n m = (n, m, tt)
plain_end (c ∷ cs) b p n m = (p.0, p.1, plain_end cs b p.2 n m)

pub take_more : (n : ℕ) (bytes : List ℕ) → n < length bytes → take (suc n) bytes ≡ take n bytes ++ get_or bytes n 0 ∷ []
take_more n [] h = absurd (omega (arith, h))
take_more zero (b ∷ bs) h = refl
take_more (suc n) (b ∷ bs) h = ap (λ l. b ∷ l) (take_more n bs (omega (arith, h)))

pub plain_more : (n : ℕ) (bytes : List ℕ) → n < length bytes → IsPlain (take n bytes) → get_or bytes n 0 ≢ 32 → get_or bytes n 0 ≢ 10 → IsPlain (take (n + 1) bytes)
plain_more n bytes h p a b =
    rw add-one (subst IsPlain (sym (take_more n bytes h)) (plain_end (take n bytes) (get_or bytes n 0) p a b))

-- where a word ends
pub ends_at : (n : ℕ) (bytes : List ℕ) → (n < length bytes → (get_or bytes n 0 ≡ 32) ⊎ (get_or bytes n 0 ≡ 10)) → EndsWord (drop n bytes)
ends_at zero [] h = tt
ends_at (suc n) [] h = tt
ends_at zero (b ∷ bs) h = h (omega arith)
ends_at (suc n) (b ∷ bs) h = ends_at n bs (λ k. h (omega (arith, k)))

-- the last word of a line
module _ (line column len : ℕ) (rest text behind : List ℕ) (is : rest ≡ text ++ behind) (size : length text ≡ len) (plain : IsPlain text) where
  whole : line_in behind ≡ [] → line_in rest ≡ text
  whole end = ap line_in is ∙ line_in_front text behind plain ∙ ap (λ l. text ++ l) end ∙ append-nil text

  pub last_word : line_in behind ≡ [] → first_word (placed column (words_of (line_in rest))) ≡ Some (record { column = column; text = text })
  last_word end = ap (λ l. first_word (placed column (words_of l))) (whole end) ∙ ap (λ ws. first_word (placed column ws)) (words_end text plain)

  pub last_words : line_in behind ≡ []
      → words_from line (column + len) false (line_in behind) ≡ words_left line (column + length (line_in rest)) (rest_words (placed column (words_of (line_in rest))))
  last_words end =
      let size_is : column + len + length (line_in behind) ≡ column + length (line_in rest) = omega (arith, size, ap length (whole end), ap length end) in
      ap (λ k. words_left line k []) size_is
      ∙ ap (λ ws. words_left line (column + length (line_in rest)) (rest_words (placed column ws))) (sym (ap words_of (whole end) ∙ words_end text plain))

  pub same_behind : behind_line behind ≡ behind_line rest
  same_behind = sym (ap behind_line is ∙ behind_front text behind plain)

  -- a word in front of others
  module _ (others : List ℕ) (space : behind ≡ 32 ∷ others) where
    front : line_in rest ≡ text ++ 32 ∷ line_in others
    front = ap line_in is ∙ line_in_front text behind plain ∙ ap (λ l. text ++ line_in l) space

    words : words_of (line_in rest) ≡ text ∷ words_of (line_in others)
    words = ap words_of front ∙ words_space text (line_in others) plain

    pub next_word : first_word (placed column (words_of (line_in rest))) ≡ Some (record { column = column; text = text })
    next_word = ap (λ ws. first_word (placed column ws)) words

    pub next_words : words_from line (column + len + 1) true (line_in others) ≡ words_left line (column + length (line_in rest)) (rest_words (placed column (words_of (line_in rest))))
    next_words =
        let size_is : column + len + 1 + length (line_in others) ≡ column + length (line_in rest) = omega (arith, size, ap length front, length-append text (32 ∷ line_in others)) in
        ap (λ k. words_left line k (placed (column + len + 1) (words_of (line_in others)))) size_is
        ∙ ap (λ k. words_left line (column + length (line_in rest)) (placed (column + k + 1) (words_of (line_in others)))) (sym size)
        ∙ ap (λ ws. words_left line (column + length (line_in rest)) (rest_words (placed column ws))) (sym words)

    pub next_behind : behind_line others ≡ behind_line rest
    next_behind = ap behind_line (sym space) ∙ same_behind

-- whether words are left
first_of_words : (l : List ℕ) → (first : List ℕ) × (more : List (List ℕ)) × (words_of l ≡ first ∷ more)
first_of_words [] = ([], [], refl)
first_of_words (b ∷ bs) = by (b == 32) (first_of_words bs)
  where
    by : (t : Bool) → (first : List ℕ) × (more : List (List ℕ)) × (words_of bs ≡ first ∷ more) → (first : List ℕ) × (more : List (List ℕ)) × (cond t ([] ∷ words_of bs) (in_front b (words_of bs)) ≡ first ∷ more)
    by true h = ([], words_of bs, refl)
    by false (first, more, is) = (b ∷ first, more, ap (in_front b) is)

pub more_ended : (line column : ℕ) (more : Bool) (bytes : List ℕ) → more ≡ true → ended (words_from line column more bytes) ≡ Err (place line column)
unfolding ended
more_ended line column false bytes m = cc
more_ended line column true bytes m =
    let (first, others, is) = first_of_words bytes in ap (λ ws. ended (words_left line (column + length bytes) (placed column ws))) is

pub ended_none : (w : WordsLeft) → ended w ≡ Ok tt → w.words ≡ []
unfolding ended
ended_none w e = by w.words refl e
  where
    by : (ws : List _) → w.words ≡ ws → ended w ≡ Ok tt → w.words ≡ []
    by [] is e = is
    by (x ∷ xs) is e = cc

-- the line that is opened
some_lines : (b : ℕ) (bs : List ℕ) → lines_of (b ∷ bs) ≡ line_in (b ∷ bs) ∷ lines_of (behind_line (b ∷ bs))
some_lines b [] = by (b == 10)
  where
    by : (t : Bool) → cond t ([] ∷ []) (in_front b []) ≡ cond t [] (b ∷ []) ∷ lines_of (cond t [] [])
    by true = refl
    by false = refl
some_lines b (c ∷ cs) = by (b == 10) (some_lines c cs)
  where
    by : (t : Bool) → lines_of (c ∷ cs) ≡ line_in (c ∷ cs) ∷ lines_of (behind_line (c ∷ cs))
        → cond t ([] ∷ lines_of (c ∷ cs)) (in_front b (lines_of (c ∷ cs))) ≡ cond t [] (b ∷ line_in (c ∷ cs)) ∷ lines_of (cond t (c ∷ cs) (behind_line (c ∷ cs)))
    by true h = refl
    by false h = ap (in_front b) h

pub lines_split : (bytes : List ℕ) → 0 < length bytes → lines_of bytes ≡ line_in bytes ∷ lines_of (behind_line bytes)
lines_split [] h = absurd (omega (arith, h))
lines_split (b ∷ bs) h = some_lines b bs

-- behind the indentation
pub indented : (n : ℕ) (bytes : List ℕ) → n ≤ spaces_before bytes → (line_in (drop n bytes) ≡ drop n (line_in bytes)) × (behind_line (drop n bytes) ≡ behind_line bytes)
indented zero bytes h = (refl, refl)
indented (suc n) [] h = (refl, refl)
indented (suc n) (b ∷ bs) h = by (b == 32) refl h (λ k. indented n bs k)
  where
    by : (t : Bool) → (b == 32) ≡ t → suc n ≤ cond t (suc (spaces_before bs)) 0 → (n ≤ spaces_before bs → (line_in (drop n bs) ≡ drop n (line_in bs)) × (behind_line (drop n bs) ≡ behind_line bs))
        → (line_in (drop n bs) ≡ drop (suc n) (line_in (b ∷ bs))) × (behind_line (drop n bs) ≡ behind_line (b ∷ bs))
    by true is h more =
        let (one, two) = more (omega (arith, h)) in
        let no : (b == 10) ≡ false = ap (λ k. k == 10) (eqb-true b 32 is) in
        (one ∙ ap (drop (suc n)) (sym (skip (b == 10) _ _ no)), two ∙ sym (skip (b == 10) _ _ no))
    by false is h more = absurd (omega (arith, h))

pub opened_fits : (level : ℕ) (rest : List ℕ) → stands_at level (lines_of rest) ≡ true → 2 * level ≤ length rest
opened_fits level rest h =
    let some : 0 < length rest = stands_some level rest h in
    let same : spaces_before rest ≡ 2 * level = eqb-true (spaces_before rest) (2 * level) (sym (stands_spaces level rest some) ∙ h) in
    omega (arith, spaces_fit rest, same)

pub opened : (level taken : ℕ) (rest : List ℕ) → stands_at level (lines_of rest) ≡ true
    → line_at level (lines_left taken (lines_of rest)) ≡ Ok (open_from (taken + 1) (2 * level + 1) true (drop (2 * level) rest))
opened level taken rest h =
    let some : 0 < length rest = stands_some level rest h in
    let same : spaces_before rest ≡ 2 * level = eqb-true (spaces_before rest) (2 * level) (sym (stands_spaces level rest some) ∙ h) in
    let (line, others) = indented (2 * level) rest (omega (arith, same)) in
    there level taken (line_in rest) (lines_of (behind_line rest)) (lines_of rest) (lines_split rest some) h
    ∙ ap (λ l. Ok (words_from (taken + 1) (2 * level + 1) true l, lines_left (taken + 1) (lines_of (behind_line rest)))) (sym line)
    ∙ ap (λ l. Ok (words_from (taken + 1) (2 * level + 1) true (line_in (drop (2 * level) rest)), lines_left (taken + 1) (lines_of l))) (sym others)

pub opened_less : (level : ℕ) (rest : List ℕ) → stands_at level (lines_of rest) ≡ true → length (lines_of (behind_line (drop (2 * level) rest))) < length (lines_of rest)
opened_less level rest h =
    let some : 0 < length rest = stands_some level rest h in
    let same : spaces_before rest ≡ 2 * level = eqb-true (spaces_before rest) (2 * level) (sym (stands_spaces level rest some) ∙ h) in
    let (line, others) = indented (2 * level) rest (omega (arith, same)) in
    omega (arith, ap length (lines_split rest some), ap (λ l. length (lines_of l)) others)

-- the next word, and where it is missing
pub word_is : (w new : WordsLeft) (x : WordItem) → first_word w.words ≡ Some x → new ≡ words_left w.line w.end (rest_words w.words) → word_in w ≡ Ok (x, new)
unfolding word_in
word_is w new x first is = by w.words first is
  where
    by : (ws : List WordItem) → first_word ws ≡ Some x → new ≡ words_left w.line w.end (rest_words ws) → word_of w.line w.end ws ≡ Ok (x, new)
    by [] f e = cc
    by (y ∷ ys) f e = ap (λ n. Ok (y, n)) (sym e) ∙ ap (λ o. the o) f
      where
        the : Option WordItem → Result (WordItem × WordsLeft) TextPlace
        the None = Ok (y, new)
        the (Some z) = Ok (z, new)

pub no_word : (line column : ℕ) (more : Bool) (bytes : List ℕ) → more ≡ false → (more ≡ false → bytes ≡ []) → word_in (words_from line column more bytes) ≡ Err (place line column)
unfolding word_in
no_word line column true bytes m none = cc
no_word line column false bytes m none =
    let same : column + length bytes ≡ column = omega (arith, ap length (none m)) in ap (λ k. Err (place line k)) same

-- there are not more words than bytes, and one
words_few_by : (b : ℕ) (t : Bool) (pieces : List (List ℕ)) (n : ℕ) → length pieces ≤ suc n → length (cond t ([] ∷ pieces) (in_front b pieces)) ≤ suc (suc n)
words_few_by b true pieces n h = omega (arith, h)
words_few_by b false [] n h = omega arith
words_few_by b false (p ∷ ps) n h = omega (arith, h)

words_few : (bytes : List ℕ) → length (words_of bytes) ≤ suc (length bytes)
words_few [] = omega arith
words_few (b ∷ bs) = words_few_by b (b == 32) (words_of bs) (length bs) (words_few bs)

line_few_by : (b : ℕ) (t : Bool) (line : List ℕ) (n : ℕ) → length line ≤ n → length (cond t [] (b ∷ line)) ≤ suc n
line_few_by b true line n h = omega arith
line_few_by b false line n h = omega (arith, h)

line_few : (bytes : List ℕ) → length (line_in bytes) ≤ length bytes
line_few [] = omega arith
line_few (b ∷ bs) = line_few_by b (b == 10) (line_in bs) (length bs) (line_few bs)

placed_few : (column : ℕ) (ws : List (List ℕ)) → length (placed column ws) ≡ length ws
placed_few column [] = refl
placed_few column (w ∷ ws) = ap suc (placed_few (column + length w + 1) ws)

pub few_words : (line column : ℕ) (more : Bool) (bytes : List ℕ) → length (words_from line column more (line_in bytes)).words ≤ length bytes + 1
few_words line column false bytes = omega arith
few_words line column true bytes = omega (arith, placed_few column (words_of (line_in bytes)), words_few (line_in bytes), line_few bytes)

-- a word that is a label and digits is taken
labelled_read : (label : List ℕ) (count n : ℕ) (w new : WordsLeft) (x : WordItem) → word_in w ≡ Ok (x, new) → labelled_digits label count x.text ≡ Some n → labelled_in label count w ≡ Ok (n, new)
unfolding labelled_in
labelled_read label count n w new x is means =
    ap (λ q. q >>= λ y. fits_as (labelled_digits label count y.0.text) (place w.line y.0.column) >>= λ a. Ok (a, y.1)) is
    ∙ ap (λ o. fits_as o (place w.line x.column) >>= λ a. Ok (a, new)) means

pub quick_read : (label : List ℕ) (count n line column len : ℕ) (more : Bool) (rest : List ℕ) (now made new : WordsLeft × LinesLeft) (x : WordItem) → open_from line column more rest ≡ now → more ≡ true
    → first_word (open_from line column true rest).0.words ≡ Some x → x.text ≡ take len rest → made.0 ≡ words_left line (column + length (line_in rest)) (rest_words (open_from line column true rest).0.words)
    → made.1 ≡ lines_left line (lines_of (behind_line rest)) → new ≡ made → labelled_digits label count (take len rest) ≡ Some n → (labelled_in label count now.0 ≡ Ok (n, new.0)) × (new.1 ≡ now.1)
quick_read label count n line column len more rest now made new x is all first text words behind same means =
    let here : open_from line column true rest ≡ now = ap (λ m. open_from line column m rest) (sym all) ∙ is in (
      ap (λ (w : WordsLeft × LinesLeft). labelled_in label count w.0) (sym here)
          ∙ labelled_read label count n (open_from line column true rest).0 new.0 x
          (word_is (open_from line column true rest).0 new.0 x first (ap (λ (w : WordsLeft × LinesLeft). w.0) same ∙ words)) (ap (labelled_digits label count) text ∙ means),
      ap (λ (w : WordsLeft × LinesLeft). w.1) same ∙ behind ∙ ap (λ (w : WordsLeft × LinesLeft). w.1) here,
    )

-- a decimal number is taken
pub quick_number : (n line column len : ℕ) (more : Bool) (rest : List ℕ) (now made new : WordsLeft × LinesLeft) (x : WordItem) → open_from line column more rest ≡ now → more ≡ true
    → first_word (open_from line column true rest).0.words ≡ Some x → x.text ≡ take len rest → made.0 ≡ words_left line (column + length (line_in rest)) (rest_words (open_from line column true rest).0.words)
    → made.1 ≡ lines_left line (lines_of (behind_line rest)) → new ≡ made → decimal_of (take len rest) ≡ Some n → QuickNumber n now.0 new.0 × (new.1 ≡ now.1)
quick_number n line column len more rest now made new x is all first text words behind same means =
    let here : open_from line column true rest ≡ now = ap (λ m. open_from line column m rest) (sym all) ∙ is in
    let made_is : new.0 ≡ words_left line (column + length (line_in rest)) (rest_words (open_from line column true rest).0.words) = ap (λ (w : WordsLeft × LinesLeft). w.0) same ∙ words in (
      subst (λ (w : WordsLeft × LinesLeft). QuickNumber n w.0 new.0) here (record { word = x; first = first; value = ap decimal_of text ∙ means; rest = made_is }),
      ap (λ (w : WordsLeft × LinesLeft). w.1) same ∙ behind ∙ ap (λ (w : WordsLeft × LinesLeft). w.1) here,
    )

pub number_read : (n : ℕ) (w new : WordsLeft) → QuickNumber n w new → decimal_in w ≡ Ok (n, new)
unfolding decimal_in
number_read n w new q =
    ap (λ r. r >>= λ y. fits_as (decimal_of y.0.text) (place w.line y.0.column) >>= λ a. Ok (a, y.1)) (word_is w new q.word q.first q.rest)
    ∙ ap (λ o. fits_as o (place w.line q.word.column) >>= λ a. Ok (a, new)) q.value
