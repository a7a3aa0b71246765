-- The lines of a text and the words of a line. A line ends at a line feed or at the end of the text, and single spaces part
-- its words. This profile's own.
use Rattle.std.specs.Prelude.{◌≡◌, ◌≢◌, ◌⊎◌, ◌<◌, ◌≤◌, ◌^◌, ℕ, zero, suc, ◌+◌, ◌*◌, ◌==◌, if◌then◌else◌, List, [], ◌∷◌, codes, length, take, drop, Bool, true, false, Option, Some, None, Result, Ok, Err}
use Rattle.std.specs.Str.{bytes_eq}
use Rattle.fc_base.specs.Answers.{◌>>=◌}
use Rattle.fc_lines.specs.declared.label.Label.{Label}
use Rattle.fc_lines.specs.declared.label.Label.TheVariants as labels
use Rattle.fc_lines.specs.TextPlaces.{TextPlace, place}
use Rattle.fc_lines.specs.WordValues.{given, decimal_of, decimals, digits_of, octets_of}

-- with one byte more in front of the first piece
abbrev pub in_front : ℕ → List (List ℕ) → List (List ℕ)
in_front byte [] = (byte ∷ []) ∷ []
in_front byte (piece ∷ pieces) = (byte ∷ piece) ∷ pieces

-- the lines of a text; a line feed at the end begins no further line
abbrev pub lines_of : List ℕ → List (List ℕ)
lines_of [] = []
lines_of (byte ∷ bytes) = if byte == 10 then [] ∷ lines_of bytes else in_front byte (lines_of bytes)

-- the words of a line, of which two spaces beside one another, or one at the end, make one without bytes
abbrev pub words_of : List ℕ → List (List ℕ)
words_of [] = [] ∷ []
words_of (byte ∷ bytes) = if byte == 32 then [] ∷ words_of bytes else in_front byte (words_of bytes)

-- the first line of bytes, and what stands behind its line feed
abbrev pub line_in : List ℕ → List ℕ
line_in [] = []
line_in (byte ∷ bytes) = if byte == 10 then [] else byte ∷ line_in bytes

abbrev pub behind_line : List ℕ → List ℕ
behind_line [] = []
behind_line (byte ∷ bytes) = if byte == 10 then bytes else behind_line bytes

-- bytes of which none parts words or lines
abbrev pub IsPlain : List ℕ → Type 0
IsPlain [] = Unit {0}
IsPlain (byte ∷ bytes) = (byte ≢ 32) × (byte ≢ 10) × IsPlain bytes

-- a word ends in front of these bytes: at a space, at a line feed, or with the text
abbrev pub EndsWord : List ℕ → Type 0
EndsWord [] = Unit {0}
EndsWord (byte ∷ bytes) = (byte ≡ 32) ⊎ (byte ≡ 10)

-- how many spaces a line begins with
abbrev pub spaces_before : List ℕ → ℕ
spaces_before [] = 0
spaces_before (byte ∷ bytes) = if byte == 32 then suc (spaces_before bytes) else 0

-- a word with the column of its first byte, from 1
pub record WordItem : Type 0 where
  pub column : ℕ
  pub text : List ℕ

-- the words with their columns, that of the first of which is given
abbrev pub placed : ℕ → List (List ℕ) → List WordItem
placed column [] = []
placed column (word ∷ words) = record { column = column; text = word } ∷ placed (column + length word + 1) words

-- the words of a line that are still to come, with its number and the column behind its end
pub record WordsLeft : Type 0 where
  pub line : ℕ
  pub end : ℕ
  pub words : List WordItem

abbrev pub words_left : ℕ → ℕ → List WordItem → WordsLeft
words_left line end words = record { line = line; end = end; words = words }

-- what stands from a column of a line on
abbrev pub words_from : ℕ → ℕ → Bool → List ℕ → WordsLeft
words_from line column more bytes =
    words_left line (column + length bytes) (if more then placed column (words_of bytes) else [])

-- the lines of a text that are still to come, with the number of those that were taken
pub record LinesLeft : Type 0 where
  pub taken : ℕ
  pub lines : List (List ℕ)

abbrev pub lines_left : ℕ → List (List ℕ) → LinesLeft
lines_left taken lines = record { taken = taken; lines = lines }

abbrev pub text_lines : List ℕ → LinesLeft
text_lines bytes = lines_left 0 (lines_of bytes)

-- what stands from a column of a line on: the words up to its end, and the lines behind it
abbrev pub open_from : ℕ → ℕ → Bool → List ℕ → WordsLeft × LinesLeft
open_from line column more bytes =
    (words_from line column more (line_in bytes), lines_left line (lines_of (behind_line bytes)))

-- there is a next line, and it is indented by this level: by two spaces for each
abbrev pub stands_at : ℕ → List (List ℕ) → Bool
stands_at level [] = false
stands_at level (line ∷ lines) = spaces_before line == 2 * level

-- the next line, which has to be indented by this level, and those that follow it
abbrev pub line_of : ℕ → ℕ → List (List ℕ) → Result (WordsLeft × LinesLeft) TextPlace
line_of level taken [] = Err (place (taken + 1) 1)
line_of level taken (line ∷ lines) =
    if spaces_before line == 2 * level
    then Ok (words_from (taken + 1) (2 * level + 1) true (drop (2 * level) line), lines_left (taken + 1) lines)
    else Err (place (taken + 1) 1)

unfoldable pub line_at : ℕ → LinesLeft → Result (WordsLeft × LinesLeft) TextPlace
line_at level left = line_of level left.taken left.lines

-- no line is left
abbrev pub none_left : List (List ℕ) → Bool
none_left [] = true
none_left (line ∷ lines) = false

unfoldable pub closed : LinesLeft → Result (Unit {0}) TextPlace
closed left = if none_left left.lines then Ok tt else Err (place (left.taken + 1) 1)

-- the first of the words, and those that follow it
abbrev pub first_word : List WordItem → Option WordItem
first_word [] = None
first_word (word ∷ words) = Some word

abbrev pub rest_words : List WordItem → List WordItem
rest_words [] = []
rest_words (word ∷ words) = words

-- the next word and those that follow it, or where it is missing
abbrev pub word_of : ℕ → ℕ → List WordItem → Result (WordItem × WordsLeft) TextPlace
word_of line end [] = Err (place line end)
word_of line end (word ∷ words) = Ok (word, words_left line end words)

unfoldable pub word_in : WordsLeft → Result (WordItem × WordsLeft) TextPlace
word_in w = word_of w.line w.end w.words

-- no word is left
abbrev pub ended_of : ℕ → List WordItem → Result (Unit {0}) TextPlace
ended_of line [] = Ok tt
ended_of line (word ∷ words) = Err (place line word.column)

unfoldable pub ended : WordsLeft → Result (Unit {0}) TextPlace
ended w = ended_of w.line w.words

-- the value of a word, or that the word at this place does not fit
abbrev pub fits_as : {A : Type 0} → Option A → TextPlace → Result A TextPlace
fits_as None at = Err at
fits_as (Some a) at = Ok a

-- the next word, by what it has to mean
abbrev pub meaning : {A : Type 0} → (List ℕ → Option A) → WordsLeft → Result (A × WordsLeft) TextPlace
meaning means w =
    word_in w >>= λ x. fits_as (means x.0.text) (place w.line x.0.column) >>= λ a. Ok (a, x.1)

-- the next word, which has to be this one
abbrev pub this_word : List ℕ → List ℕ → Option (Unit {0})
this_word name text = if bytes_eq text name then Some tt else None

unfoldable pub exactly : List ℕ → WordsLeft → Result (Unit {0} × WordsLeft) TextPlace
exactly name w = meaning (this_word name) w

-- the next word as a number or as bytes
unfoldable pub decimal_in : WordsLeft → Result (ℕ × WordsLeft) TextPlace
decimal_in w = meaning decimal_of w

unfoldable pub digits_in : ℕ → WordsLeft → Result (ℕ × WordsLeft) TextPlace
digits_in count w = meaning (digits_of count) w

unfoldable pub octets_in : WordsLeft → Result (List ℕ × WordsLeft) TextPlace
octets_in w = meaning octets_of w

-- the same behind a label
abbrev pub behind_label : List ℕ → List ℕ → Option (List ℕ)
behind_label label text = if bytes_eq (take (length label) text) label then Some (drop (length label) text) else None

abbrev pub labelled_digits : List ℕ → ℕ → List ℕ → Option ℕ
labelled_digits label count text = given (behind_label label text) (digits_of count)

-- the labels of the numbers in the line of a message
abbrev pub label_bytes : Label → List ℕ
label_bytes labels.From = codes "from="
label_bytes labels.To = codes "to="
label_bytes labels.Corr = codes "corr="
label_bytes labels.Flags = codes "flags="

unfoldable pub labelled_in : List ℕ → ℕ → WordsLeft → Result (ℕ × WordsLeft) TextPlace
labelled_in label count w = meaning (labelled_digits label count) w

-- the numbers of so many words, which are decimal numbers
abbrev pub value_of : Option ℕ → ℕ
value_of None = 0
value_of (Some n) = n

abbrev pub numbers_of : ℕ → List WordItem → List ℕ
numbers_of zero words = []
numbers_of (suc count) [] = []
numbers_of (suc count) (word ∷ words) = value_of (decimal_of word.text) ∷ numbers_of count words

-- so many decimal digits in front of bytes, nine at most, which make this number
pub record Digits (bytes : List ℕ) (number len : ℕ) : Type 0 where
  pub within : len ≤ length bytes
  pub few : len ≤ 9
  pub plain : IsPlain (take len bytes)
  pub value : decimals 0 (take len bytes) ≡ Some number
  pub small : number < 10 ^ len

-- the next word is this decimal number, and it is taken
pub record QuickNumber (number : ℕ) (old new : WordsLeft) : Type 0 where
  pub word : WordItem
  pub first : first_word old.words ≡ Some word
  pub value : decimal_of word.text ≡ Some number
  pub rest : new ≡ words_left old.line old.end (rest_words old.words)
