-- The IDs of a PATH-DATA, as words that are read and then lent.
use Rattle.std.proofs.Common.{◌≡◌, ◌≢◌, ℕ, zero, suc, ◌+◌, ◌-◌, ◌≤◌, ◌∷◌, ◌++◌, List, [], length, drop, Bool, true, false, codes, Option, Some, None, Result, Ok, Err, refl, sym, ap, ◌∙◌, arith, append_assoc, add-one}
use Rattle.std.proofs.lemmas.List.{drop-drop}
use Rattle.std.proofs.lemmas.Slice.Eq.{bytes_eq-Decides}
use Rattle.std.specs.Str.{bytes_eq}
use Rattle.fc_base.specs.Answers.{◌>>=◌}
use Rattle.fc_path.specs.declared.path.Key.{Key}
use Rattle.fc_lines.specs.LineReading.{steps_of}
use Rattle.fc_lines.specs.LineWords.{QuickNumber, WordItem, WordsLeft, first_word, fits_as, numbers_of, rest_words, value_of, words_left}
use Rattle.fc_lines.specs.TextPlaces.{TextPlace, place}
use Rattle.fc_lines.specs.WordValues.{decimal_of}
use Rattle.fc_lines.proofs.Cutting.{skip}

pub numbers_length : (count : ℕ) (words : List WordItem) → count ≤ length words → length (numbers_of count words) ≡ count
numbers_length zero words h = refl
numbers_length (suc n) [] h = absurd (omega (arith, h))
numbers_length (suc n) (w ∷ ws) h = omega (arith, numbers_length n ws (omega (arith, h)))

-- where no word is left
pub no_number : (count : ℕ) (words : List WordItem) → None ≡ first_word words → numbers_of count words ≡ []
no_number zero words is = refl
no_number (suc n) [] is = refl
no_number (suc n) (x ∷ xs) is = cc

pub fewer : (count : ℕ) (words : List WordItem) → count ≢ 0 → count ≤ length words → count - 1 ≤ length (rest_words words)
fewer count [] some h = omega (arith, h)
fewer count (x ∷ xs) some h = omega (arith, h)

-- one more number behind those that were read
pub numbers_more : (count : ℕ) (words rest : List WordItem) (w : WordItem) (n : ℕ) → drop count words ≡ w ∷ rest → decimal_of w.text ≡ Some n → numbers_of (suc count) words ≡ numbers_of count words ++ n ∷ []
numbers_more zero [] rest w n is d = cc
numbers_more zero (x ∷ xs) rest w n is d = ap (λ o. value_of o ∷ []) (ap (λ (l : List WordItem). text_in l) is ∙ d)
  where
    text_in : List WordItem → Option ℕ
    text_in [] = None
    text_in (y ∷ ys) = decimal_of y.text
numbers_more (suc k) [] rest w n is d = cc
numbers_more (suc k) (x ∷ xs) rest w n is d = ap (λ l. value_of (decimal_of x.text) ∷ l) (numbers_more k xs rest w n is d)

-- IDs in front of those that were read
abbrev pub Steps : Type 0
Steps = List ℕ × Option Key

abbrev pub behind_ids : List ℕ → Steps → Result Steps TextPlace
behind_ids front s = Ok (front ++ s.0, s.1)

abbrev one_id : ℕ → Steps → Result Steps TextPlace
one_id n s = Ok (n ∷ s.0, s.1)

-- the IDs in front are read, and these words are still to come
pub record Stepping (start now : WordsLeft) (count : ℕ) : Type 0 where
  pub line : now.line ≡ start.line
  pub end : now.end ≡ start.end
  pub at : drop count start.words ≡ now.words
  pub few : count + length now.words ≡ length start.words
  pub so_far : (steps_of start.line start.end now.words >>= behind_ids (numbers_of count start.words)) ≡ steps_of start.line start.end start.words

pub starts : (w : WordsLeft) → Stepping w w 0
starts w = record { line = refl; end = refl; at = refl; few = omega arith; so_far = same (steps_of w.line w.end w.words) }
  where
    same : (r : Result Steps TextPlace) → (r >>= behind_ids []) ≡ r
    same (Ok s) = refl
    same (Err e) = refl

moved : (front : List ℕ) (n : ℕ) (r : Result Steps TextPlace) → (r >>= behind_ids (front ++ n ∷ [])) ≡ ((r >>= one_id n) >>= behind_ids front)
moved front n (Err e) = refl
moved front n (Ok s) = ap (λ l. Ok (l, s.1)) (append_assoc front (n ∷ []) s.0)

steps_cons : (line end n : ℕ) (w : WordItem) (ws : List WordItem) → bytes_eq w.text (codes "key") ≡ false → decimal_of w.text ≡ Some n
    → steps_of line end (w ∷ ws) ≡ (steps_of line end ws >>= one_id n)
steps_cons line end n w ws other d =
    skip (bytes_eq w.text (codes "key")) _ _ other
    ∙ ap (λ o. fits_as o (place line w.column) >>= (λ id. steps_of line end ws >>= one_id id)) d

pub steps : (start now new : WordsLeft) (count n : ℕ) (w : WordItem) → Stepping start now count → first_word now.words ≡ Some w → new ≡ words_left now.line now.end (rest_words now.words)
    → bytes_eq w.text (codes "key") ≡ false → decimal_of w.text ≡ Some n → Stepping start new (count + 1)
steps start now new count n w g first is other d = by now.words refl first
  where
    some_same : (a b : WordItem) → Some a ≡ Some b → a ≡ b
    some_same a b e = cc

    by : (ws : List WordItem) → now.words ≡ ws → first_word ws ≡ Some w → Stepping start new (count + 1)
    by [] e f = cc
    by (x ∷ xs) e f =
        let same : x ≡ w = some_same x w f in
        let here : now.words ≡ w ∷ xs = e ∙ ap (λ y. y ∷ xs) same in
        let left : new.words ≡ xs = ap (λ (v : WordsLeft). v.words) is ∙ ap rest_words here in
        let front = numbers_of count start.words in
        let more : numbers_of (count + 1) start.words ≡ front ++ n ∷ [] = rw add-one (numbers_more count start.words xs w n (g.at ∙ here) d) in
        record {
          line = ap (λ (v : WordsLeft). v.line) is ∙ g.line;
          end = ap (λ (v : WordsLeft). v.end) is ∙ g.end;
          at = sym (drop-drop 1 count start.words) ∙ ap (drop 1) (g.at ∙ here) ∙ sym left;
          few = omega (arith, g.few, ap length here, ap length left);
          so_far = ap (λ l. steps_of start.line start.end l >>= behind_ids (numbers_of (count + 1) start.words)) left
              ∙ ap (λ l. steps_of start.line start.end xs >>= behind_ids l) more
              ∙ moved front n (steps_of start.line start.end xs)
              ∙ ap (λ r. r >>= behind_ids front) (sym (steps_cons start.line start.end n w xs other d))
              ∙ ap (λ l. steps_of start.line start.end l >>= behind_ids front) (sym here)
              ∙ g.so_far;
        }

-- a number is not the word in front of a key
no_key_by : (t : Bool) (text : List ℕ) (n : ℕ) → (t ≡ true → text ≡ codes "key") → decimal_of text ≡ Some n → t ≡ false
unfolding decimal_of
no_key_by false text n same d = refl
no_key_by true text n same d = never (sym (ap decimal_of (same refl)) ∙ d)
  where
    never : None ≡ Some n → true ≡ false
    never e = cc

no_key : (text : List ℕ) (n : ℕ) → decimal_of text ≡ Some n → bytes_eq text (codes "key") ≡ false
no_key text n d = no_key_by (bytes_eq text (codes "key")) text n (bytes_eq-Decides text (codes "key")).0 d

pub quick_steps : (start now new : WordsLeft) (count n : ℕ) → Stepping start now count → QuickNumber n now new → Stepping start new (count + 1)
quick_steps start now new count n g q = steps start now new count n q.word g q.first q.rest (no_key q.word.text n q.value) q.value
