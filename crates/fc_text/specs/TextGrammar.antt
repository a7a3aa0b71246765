-- The grammar of a text, apart from how it is read: a message has lines, a line has a level and words, and a text spells
-- the lines one after the other. Hexadecimal digits stand in either case, and the other bits of flags are free. This
-- profile's own.
use Rattle.std.specs.Prelude.{◌≡◌, ◌<◌, ◌⊎◌, ℕ, ◌+◌, ◌^◌, List, [], ◌∷◌, ◌++◌, map, length, codes, decimal, Option, Some, None, true}
use Rattle.std.specs.List.{flat_map, AllByRecursion}
use Rattle.std.specs.Str.{str_to_ascii_uppercase}
use Rattle.fc_base.specs.Hex.{hex}
use Rattle.fc_wire.specs.Bytes.{AreBytes}
use Rattle.fc_wire.specs.Flags.{FlagValues, FlagsFit}
use Rattle.fc_wire.specs.declared.ilvs.Ilv.{Ilv}
use Rattle.fc_path.specs.Proper.{ProperSelect}
use Rattle.fc_path.specs.declared.oper.Oper.{Oper}
use Rattle.fc_path.specs.declared.oper.Oper.TheVariants as oper
use Rattle.fc_path.specs.declared.oper.Select.{Select}
use Rattle.fc_path.specs.declared.path.Key.{Key}
use Rattle.fc_path.specs.declared.path.PathData.{PathData}
use Rattle.fc_path.specs.declared.path.Body.{Body}
use Rattle.fc_path.specs.declared.path.Body.TheFolds.{fold-PathData, fold-Body}
use Rattle.fc_path.specs.declared.path.Body.TheOpen.{Body-F, PathData-F}
use Rattle.fc_msg.specs.Messages.{IsProper, message_fits}
use Rattle.fc_msg.specs.Reading.{flags_in}
use Rattle.fc_msg.specs.MessageTypes as types
use Rattle.fc_msg.specs.declared.message.Message.{Message}
use Rattle.fc_msg.specs.declared.message.MsgBody.{MsgBody}
use Rattle.fc_msg.specs.declared.message.MsgBody.TheVariants.{Setup, SetupResponse, Teardown, Config, ConfigResponse, Query, QueryResponse, Event, Heartbeat}
use Rattle.fc_text.specs.Text.{body_name, kind_name, bytes_text, indent}

-- what a word says
pub data Word : Type 0 where
  -- a name
  name : List ℕ → Word
  -- a number in decimal
  number : ℕ → Word
  -- so many hexadecimal digits of a number, behind a label
  digits : List ℕ → ℕ → ℕ → Word
  -- bytes in hexadecimal
  octets : List ℕ → Word
  -- flags
  flags : FlagValues → Word

-- a level and the words that stand at it
pub record Line : Type 0 where
  pub level : ℕ
  pub words : List Word

abbrev pub line : ℕ → List Word → Line
line level words = record { level = level; words = words }

-- the words of a PATH-DATA behind its name: its IDs, and its key where it has one
abbrev pub key_words : Option Key → List Word
key_words None = []
key_words (Some key) = name (codes "key") ∷ number key.ident ∷ octets key.value ∷ []

abbrev pub step_words : List ℕ → Option Key → List Word
step_words ids key = map number ids ++ key_words key

-- the lines of a body and of a PATH-DATA at a level
abbrev pub ilv_line : ℕ → Ilv → Line
ilv_line level ilv = line level (name (codes "ilv") ∷ number ilv.ident ∷ octets ilv.value ∷ [])

abbrev pub code_line : ℕ → ℕ → Line
code_line level code = line level (name (codes "code") ∷ digits [] 2 code ∷ [])

abbrev pub LinesAt : Type 0
LinesAt = ℕ → List Line

abbrev pub body_step : Body-F LinesAt LinesAt → LinesAt
body_step Body-F.Nothing level = []
body_step (Body-F.Full value) level = line level (name (codes "full") ∷ octets value ∷ []) ∷ []
body_step (Body-F.Sparse ilvs) level = line level (name (codes "sparse") ∷ []) ∷ map (ilv_line (level + 1)) ilvs
body_step (Body-F.Outcome code) level = code_line level code ∷ []
body_step (Body-F.Nested paths) level = flat_map (λ path. path level) paths

abbrev pub path_step : PathData-F LinesAt LinesAt → LinesAt
path_step path level = line level (name (codes "path") ∷ step_words path.ids path.key) ∷ path.body (level + 1)

abbrev pub body_lines : Body → LinesAt
body_lines = fold-Body LinesAt LinesAt body_step path_step

abbrev pub path_lines : PathData → LinesAt
path_lines = fold-PathData LinesAt LinesAt body_step path_step

-- the lines of an operation at a level
abbrev pub name_line : ℕ → List ℕ → Line
name_line level text = line level (name text ∷ [])

abbrev pub oper_lines : ℕ → Oper → List Line
oper_lines level (oper.Paths kind paths) =
    name_line level (kind_name kind) ∷ flat_map (λ path. path_lines path (level + 1)) paths
oper_lines level oper.Commit = name_line level (codes "COMMIT") ∷ []
oper_lines level oper.Trcomp = name_line level (codes "TRCOMP") ∷ []
oper_lines level (oper.CommitResponse code) =
    name_line level (codes "COMMIT-RESPONSE") ∷ code_line (level + 1) code ∷ []

-- the lines of an LFBselect at a level
abbrev pub select_lines : ℕ → Select → List Line
select_lines level s =
    line level (name (codes "lfb") ∷ digits [] 8 s.class ∷ digits [] 8 s.instance ∷ [])
    ∷ flat_map (oper_lines (level + 1)) s.opers

-- the lines of a message
abbrev pub head_line : Message → Line
head_line m =
    line 0 (name (body_name m.body) ∷ digits (codes "from=") 8 m.source ∷ digits (codes "to=") 8 m.dest
    ∷ digits (codes "corr=") 16 m.corr ∷ flags m.flags ∷ [])

abbrev pub number_line : List ℕ → ℕ → Line
number_line text n = line 1 (name text ∷ number n ∷ [])

abbrev pub content_lines : MsgBody → List Line
content_lines (Setup selects) = flat_map (select_lines 1) selects
content_lines (SetupResponse result) = number_line (codes "result") result ∷ []
content_lines (Teardown reason) = number_line (codes "reason") reason ∷ []
content_lines (Config selects) = flat_map (select_lines 1) selects
content_lines (ConfigResponse selects) = flat_map (select_lines 1) selects
content_lines (Query selects) = flat_map (select_lines 1) selects
content_lines (QueryResponse selects) = flat_map (select_lines 1) selects
content_lines (Event selects) = flat_map (select_lines 1) selects
content_lines Heartbeat = []

abbrev pub message_lines : Message → List Line
message_lines m = head_line m ∷ content_lines m.body

-- the numbers in words and lines are within the ranges of their types
abbrev pub WordFits : Word → Type 0
WordFits (name text) = Unit {0}
WordFits (number n) = n < 2 ^ 32
WordFits (digits label count n) = n < 16 ^ count
WordFits (octets value) = AreBytes value
WordFits (flags values) = FlagsFit values

abbrev pub LineFits : Line → Type 0
LineFits l = AllByRecursion WordFits l.words

abbrev pub LinesFit : List Line → Type 0
LinesFit lines = AllByRecursion LineFits lines

-- the bytes of a word
abbrev pub SpellsDigits : List ℕ → ℕ → ℕ → List ℕ → Type 0
SpellsDigits label count n bytes =
    (n < 16 ^ count) × (back : List ℕ) × (bytes ≡ label ++ back) × (str_to_ascii_uppercase back ≡ hex count n)

abbrev pub SpellsWord : Word → List ℕ → Type 0
SpellsWord (name text) bytes = bytes ≡ text
SpellsWord (number n) bytes = (n < 2 ^ 32) × (bytes ≡ decimal n)
SpellsWord (digits label count n) bytes = SpellsDigits label count n bytes
SpellsWord (octets value) bytes = AreBytes value × (str_to_ascii_uppercase bytes ≡ bytes_text value)
SpellsWord (flags values) bytes = (n : ℕ) × (values ≡ flags_in n) × SpellsDigits (codes "flags=") 8 n bytes

-- as many pieces as things, each the piece of its thing
abbrev pub AreEach : {A : Type 0} → (A → List ℕ → Type 0) → List A → List (List ℕ) → Type 0
AreEach Is [] [] = Unit {0}
AreEach Is [] (piece ∷ pieces) = ⊥
AreEach Is (x ∷ xs) [] = ⊥
AreEach Is (x ∷ xs) (piece ∷ pieces) = Is x piece × AreEach Is xs pieces

-- words in a line, each but the first behind a space
abbrev pub behind_space : List ℕ → List ℕ
behind_space word = 32 ∷ word

abbrev pub parted : List (List ℕ) → List ℕ
parted [] = []
parted (word ∷ words) = word ++ flat_map behind_space words

-- the bytes of a line: two spaces for each level, and the words
abbrev pub SpellsLine : Line → List ℕ → Type 0
SpellsLine l bytes = (words : List (List ℕ)) × AreEach SpellsWord l.words words × (bytes ≡ indent l.level ++ parted words)

-- lines one after the other, each with its line feed, which the last may lack
abbrev pub ended : List ℕ → List ℕ
ended text = text ++ codes "\n"

abbrev pub AreLines : List (List ℕ) → List ℕ → Type 0
AreLines lines bytes = (bytes ≡ flat_map ended lines) ⊎ (ended bytes ≡ flat_map ended lines)

abbrev pub SpellsLines : List Line → List ℕ → Type 0
SpellsLines lines bytes = (texts : List (List ℕ)) × AreEach SpellsLine lines texts × AreLines texts bytes

-- a message that has a text: it is proper, it can be encoded, and its numbers are within their ranges
pub record HasText (m : Message) : Type 0 where
  pub proper : IsProper m
  pub fits : message_fits m ≡ true
  pub ranges : LinesFit (message_lines m)

-- the bytes are the text of these messages, each of which is proper and can be encoded
pub record SpellsText (ms : List Message) (bytes : List ℕ) : Type 0 where
  pub lines : SpellsLines (flat_map message_lines ms) bytes
  pub proper : AllByRecursion IsProper ms
  pub fit : AllByRecursion (λ m. message_fits m ≡ true) ms

-- the bytes are the text of the LFBselects of a Config, without the indentation that they have in a message
pub record SpellsSelects (selects : List Select) (bytes : List ℕ) : Type 0 where
  pub lines : SpellsLines (flat_map (select_lines 0) selects) bytes
  pub some : 0 < length selects
  pub proper : AllByRecursion (ProperSelect types.config) selects
