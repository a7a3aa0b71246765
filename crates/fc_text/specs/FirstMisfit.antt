-- Where a text is refused, in the words of its grammar and not of its reading: at the first place at which nothing fits. What
-- stands before the place begins a text, and no text has the same before it and at it. This profile's own.
use Rattle.std.specs.Prelude.{◌≡◌, ◌<◌, ◌≤◌, ◌⊎◌, ℕ, ◌+◌, ◌-◌, ◌==◌, nat_lt, if◌then◌else◌, List, [], ◌∷◌, ◌++◌, length, take, drop, slice_index_or, Option, Some, None, true, false}
use Rattle.std.specs.List.{flat_map, AllByRecursion}
use Rattle.fc_path.specs.declared.oper.Select.{Select}
use Rattle.fc_msg.specs.Messages.{IsProper, message_fits}
use Rattle.fc_msg.specs.declared.message.Message.{Message}
use Rattle.fc_lines.specs.LineWords.{WordItem, lines_of, placed, spaces_before, stands_at, words_of}
use Rattle.fc_text.specs.TextGrammar.{AreEach, SpellsLine, SpellsLines, SpellsSelects, message_lines}
use Rattle.fc_lines.specs.TextPlaces.{TextPlace}

-- the words of a line behind its indentation, with their columns
abbrev pub words_on : List ℕ → List WordItem
words_on line = placed (spaces_before line + 1) (words_of (drop (spaces_before line) line))

-- the words that begin before a column
abbrev pub before : ℕ → List WordItem → List WordItem
before column [] = []
before column (word ∷ words) = if nat_lt word.column column then word ∷ before column words else []

-- the word that begins at a column
abbrev pub word_at : ℕ → List WordItem → Option (List ℕ)
word_at column [] = None
word_at column (word ∷ words) = if word.column == column then Some word.text else word_at column words

-- two lines have the same before a column: the same indentation, and the same words
pub record SameBefore (column : ℕ) (line other : List ℕ) : Type 0 where
  pub indent : spaces_before line ≡ spaces_before other
  pub words : before column (words_on line) ≡ before column (words_on other)

-- two lines have the same before a column and at it: the same word begins there, or none, and both end before it, or neither
pub record SameAt (column : ℕ) (line other : List ℕ) : Type 0 where
  pub front : SameBefore column line other
  pub word : word_at column (words_on line) ≡ word_at column (words_on other)
  pub ends : nat_lt (length line) column ≡ nat_lt (length other) column

-- the same of lines from that of the place on; nothing stands before the first column
abbrev pub RestBefore : ℕ → List (List ℕ) → List (List ℕ) → Type 0
RestBefore column [] others = Unit {0}
RestBefore column (line ∷ lines) [] = column ≡ 1
RestBefore column (line ∷ lines) (other ∷ others) = 1 < column → SameBefore column line other

abbrev pub RestAt : ℕ → List (List ℕ) → List (List ℕ) → Type 0
RestAt column [] [] = Unit {0}
RestAt column [] (other ∷ others) = ⊥
RestAt column (line ∷ lines) [] = ⊥
RestAt column (line ∷ lines) (other ∷ others) = SameAt column line other

-- two texts have the same lines before a place, and the same before its column
pub record TextsBefore (p : TextPlace) (lines others : List (List ℕ)) : Type 0 where
  pub earlier : take (p.line - 1) lines ≡ take (p.line - 1) others
  pub rest : RestBefore p.column (drop (p.line - 1) lines) (drop (p.line - 1) others)

-- two texts have the same before a place and at it
pub record TextsAt (p : TextPlace) (lines others : List (List ℕ)) : Type 0 where
  pub earlier : take (p.line - 1) lines ≡ take (p.line - 1) others
  pub rest : RestAt p.column (drop (p.line - 1) lines) (drop (p.line - 1) others)

-- what stands before a place of a text begins one that fits
abbrev pub BeginsText : (List ℕ → Type 0) → TextPlace → List ℕ → Type 0
BeginsText Fits p bytes = (other : List ℕ) × TextsBefore p (lines_of bytes) (lines_of other) × Fits other

-- the first place of a text at which nothing fits, of texts that fit; where it stands in the text, it is the only one
pub record FirstMisfit (Fits : List ℕ → Type 0) (p : TextPlace) (bytes : List ℕ) : Type 0 where
  pub begins : BeginsText Fits p bytes
  pub misfit : (other : List ℕ) → TextsAt p (lines_of bytes) (lines_of other) → Fits other → ⊥

-- the bytes are a text of proper messages, however long these are
abbrev pub FitsMessages : List ℕ → Type 0
FitsMessages bytes = (ms : List Message) × SpellsLines (flat_map message_lines ms) bytes × AllByRecursion IsProper ms

-- the bytes are a text of the LFBselects of a Config
abbrev pub FitsSelects : List ℕ → Type 0
FitsSelects bytes = (ss : List Select) × SpellsSelects ss bytes

-- a place is the first of the lines of a message that can't be encoded, behind those of messages that can
pub record TooLongAt (p : TextPlace) (bytes : List ℕ) : Type 0 where
  pub earlier : List Message
  pub long : Message
  pub front : List (List ℕ)
  pub own : List (List ℕ)
  pub back : List (List ℕ)
  pub lines : lines_of bytes ≡ front ++ (own ++ back)
  pub before : AreEach SpellsLine (flat_map message_lines earlier) front
  pub fit : AllByRecursion (λ m. IsProper m × (message_fits m ≡ true)) earlier
  pub spelled : AreEach SpellsLine (message_lines long) own
  pub proper : IsProper long
  pub too_long : message_fits long ≡ false
  pub ended : (stands_at 0 back ≡ true) ⊎ (back ≡ [])
  pub line : p.line ≡ length front + 1
  pub column : p.column ≡ 1

-- a column of a line at which something may not fit: the first, that of a word, or the one right behind the end
abbrev pub IsColumn : ℕ → List ℕ → Type 0
IsColumn column line = (column ≡ 1) ⊎ ((column ≡ length line + 1) ⊎ ((word : List ℕ) × (word_at column (words_on line) ≡ Some word)))

-- a place stands in a text, or right behind a line or the text
pub record IsWithin (p : TextPlace) (bytes : List ℕ) : Type 0 where
  pub first : 0 < p.line
  pub last : p.line ≤ length (lines_of bytes) + 1
  pub left : 0 < p.column
  pub right : p.column ≤ length (slice_index_or (lines_of bytes) (p.line - 1) []) + 1
  pub stands : IsColumn p.column (slice_index_or (lines_of bytes) (p.line - 1) [])
