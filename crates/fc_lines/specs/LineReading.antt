-- What each kind of line of a text says, or the first word in it that does not fit. This profile's own; which operations stand
-- in which messages, and what bodies their PATH-DATA have, is RFC 5810, section 7.1.6.
use Rattle.std.specs.Prelude.{ℕ, ◌&&◌, if◌then◌else◌, List, [], ◌∷◌, codes, Option, Some, None, option_map, Result, Ok, Err}
use Rattle.std.specs.Str.{bytes_eq}
use Rattle.fc_base.specs.Answers.{◌>>=◌}
use Rattle.fc_wire.specs.declared.ilvs.Ilv.{Ilv}
use Rattle.fc_path.specs.Kinds.{operation_of, takes_full, takes_sparse, takes_outcome}
use Rattle.fc_path.specs.declared.kinds.Operation.{Operation}
use Rattle.fc_path.specs.declared.oper.OperKind.{OperKind}
use Rattle.fc_path.specs.declared.path.Key.{Key}
use Rattle.fc_msg.specs.MessageTypes as types
use Rattle.fc_lines.specs.declared.said.BodyLine.{BodyLine}
use Rattle.fc_lines.specs.declared.said.BodyLine.TheVariants as body_line
use Rattle.fc_lines.specs.declared.said.Head.{Head}
use Rattle.fc_lines.specs.declared.said.LeafLine.{LeafLine}
use Rattle.fc_lines.specs.declared.said.LeafLine.TheVariants as leaf_line
use Rattle.fc_lines.specs.declared.said.Numbered.{Numbered}
use Rattle.fc_lines.specs.declared.said.PathLine.{PathLine}
use Rattle.fc_lines.specs.LineWords.{LinesLeft, WordItem, WordsLeft, closed, decimal_in, digits_in, ended, exactly, fits_as, labelled_in, line_at, meaning, octets_in, stands_at, word_in, words_left}
use Rattle.fc_lines.specs.TextPlaces.{TextPlace, place}
use Rattle.fc_lines.specs.WordValues.{decimal_of, given}

-- what reads something in front of lines, and what it leaves
abbrev pub Reader : Type 0 → Type 0
Reader X = LinesLeft → Result (X × LinesLeft) TextPlace

-- the number and the value of a key, with which its line ends
unfoldable pub key_in : WordsLeft → Result Key TextPlace
key_in words =
    decimal_in words >>= λ ident. octets_in ident.1 >>= λ value. ended value.1
    >>= λ _. Ok (record { ident = ident.0; value = value.0 })

-- IDs and a key, with which their line ends
abbrev pub steps_of : ℕ → ℕ → List WordItem → Result (List ℕ × Option Key) TextPlace
steps_of line end [] = Ok ([], None)
steps_of line end (word ∷ words) =
    if bytes_eq word.text (codes "key") then key_in (words_left line end words) >>= (λ key. Ok ([], Some key))
    else fits_as (decimal_of word.text) (place line word.column) >>= (λ id. steps_of line end words >>= λ more. Ok (id ∷ more.0, more.1))

unfoldable pub steps_in : WordsLeft → Result (List ℕ × Option Key) TextPlace
steps_in words = steps_of words.line words.end words.words

-- the line of an ILV
unfoldable pub ilv_at : ℕ → Reader Ilv
ilv_at level left =
    line_at level left >>= λ l. exactly (codes "ilv") l.0 >>= λ w. decimal_in w.1 >>= λ ident. octets_in ident.1
    >>= λ value. ended value.1 >>= λ _. Ok (record { ident = ident.0; value = value.0 }, l.1)

-- a code, with which its line ends
unfoldable pub code_in : WordsLeft → Result ℕ TextPlace
code_in words = digits_in 2 words >>= λ code. ended code.1 >>= λ _. Ok code.0

unfoldable pub outcome_at : ℕ → Reader ℕ
outcome_at level left =
    line_at level left >>= λ l. exactly (codes "code") l.0 >>= λ w. code_in w.1 >>= λ code. Ok (code, l.1)

-- the types of operations by their names
unfoldable pub number_named : List ℕ → Option ℕ
number_named name =
    if bytes_eq name (codes "SET") then Some 1
    else (if bytes_eq name (codes "SET-PROP") then Some 2
    else (if bytes_eq name (codes "SET-RESPONSE") then Some 3
    else (if bytes_eq name (codes "SET-PROP-RESPONSE") then Some 4
    else (if bytes_eq name (codes "DEL") then Some 5
    else (if bytes_eq name (codes "DEL-RESPONSE") then Some 6
    else (if bytes_eq name (codes "GET") then Some 7
    else (if bytes_eq name (codes "GET-PROP") then Some 8
    else (if bytes_eq name (codes "GET-RESPONSE") then Some 9
    else (if bytes_eq name (codes "GET-PROP-RESPONSE") then Some 10
    else (if bytes_eq name (codes "REPORT") then Some 11
    else (if bytes_eq name (codes "COMMIT") then Some 12
    else (if bytes_eq name (codes "COMMIT-RESPONSE") then Some 13
    else (if bytes_eq name (codes "TRCOMP") then Some 14 else None)))))))))))))

-- an operation that may stand in a message of a type, by its name
unfoldable pub operation_named : ℕ → List ℕ → Option Operation
operation_named message name = given (number_named name) (operation_of message)

unfoldable pub operation_in : ℕ → WordsLeft → Result (Operation × WordsLeft) TextPlace
operation_in message w = meaning (operation_named message) w

-- the line of a number
unfoldable pub number_at : List ℕ → Reader ℕ
number_at name left =
    line_at 1 left >>= λ l. exactly name l.0 >>= λ w. decimal_in w.1 >>= λ n. ended n.1 >>= λ _. Ok (n.0, l.1)

-- the types of messages by their names
unfoldable pub message_named : List ℕ → Option ℕ
message_named name =
    if bytes_eq name (codes "Heartbeat") then Some types.heartbeat
    else (if bytes_eq name (codes "Config") then Some types.config
    else (if bytes_eq name (codes "ConfigResponse") then Some types.config_response
    else (if bytes_eq name (codes "Query") then Some types.query
    else (if bytes_eq name (codes "QueryResponse") then Some types.query_response
    else (if bytes_eq name (codes "EventNotification") then Some types.event
    else (if bytes_eq name (codes "AssociationSetup") then Some types.setup
    else (if bytes_eq name (codes "AssociationSetupResponse") then Some types.setup_response
    else (if bytes_eq name (codes "AssociationTeardown") then Some types.teardown else None))))))))

unfoldable pub type_in : WordsLeft → Result (ℕ × WordsLeft) TextPlace
type_in w = meaning message_named w

-- the line of a header
unfoldable pub head_at : Reader Head
head_at left =
    line_at 0 left >>= λ l. type_in l.0 >>= λ kind. labelled_in (codes "from=") 8 kind.1
    >>= λ source. labelled_in (codes "to=") 8 source.1 >>= λ dest. labelled_in (codes "corr=") 16 dest.1
    >>= λ corr. labelled_in (codes "flags=") 8 corr.1 >>= λ flags. ended flags.1
    >>= λ _. Ok (record { kind = kind.0; source = source.0; dest = dest.0; corr = corr.0; flags = flags.0 }, l.1)

-- behind a message another begins, or the text ends
unfoldable pub shut : LinesLeft → Result (Unit {0}) TextPlace
shut left = if stands_at 0 left.lines then Ok tt else closed left

-- the line of an LFBselect: its class and its instance
unfoldable pub lfb_at : ℕ → Reader (ℕ × ℕ)
lfb_at level left =
    line_at level left >>= λ l. exactly (codes "lfb") l.0 >>= λ w. digits_in 8 w.1 >>= λ class. digits_in 8 class.1
    >>= λ instance. ended instance.1 >>= λ _. Ok ((class.0, instance.0), l.1)

-- the line of an operation of a message of a type
unfoldable pub name_at : ℕ → ℕ → Reader Operation
name_at message level left =
    line_at level left >>= λ l. operation_in message l.0 >>= λ which. ended which.1 >>= λ _. Ok (which.0, l.1)

-- the line of a PATH-DATA: its IDs and its key
unfoldable pub steps_at : ℕ → Reader (List ℕ × Option Key)
steps_at level left =
    line_at level left >>= λ l. exactly (codes "path") l.0 >>= λ w. steps_in w.1 >>= λ steps. Ok (steps, l.1)

-- the first line of a body that holds no PATH-DATA: a whole value, that parts of one follow, or a result
pub data LeafHead : Type 0 where
  full : List ℕ → LeafHead
  sparse : LeafHead
  outcome : ℕ → LeafHead

-- the same, which begins with this word
unfoldable pub leaf_head : OperKind → WordItem → WordsLeft → Reader LeafHead
leaf_head kind word words left =
    if takes_full kind && bytes_eq word.text (codes "full")
    then octets_in words >>= (λ value. ended value.1 >>= λ _. Ok (full value.0, left))
    else (if takes_sparse kind && bytes_eq word.text (codes "sparse") then ended words >>= (λ _. Ok (sparse, left))
    else (if takes_outcome kind && bytes_eq word.text (codes "code") then code_in words >>= (λ code. Ok (outcome code, left))
    else Err (place words.line word.column)))

unfoldable pub leaf_head_at : OperKind → ℕ → Reader LeafHead
leaf_head_at kind level left = line_at level left >>= λ l. word_in l.0 >>= λ x. leaf_head kind x.0 x.1 l.1

-- the first line of a body in which PATH-DATA may stand: it is such a line, or that of the first PATH-DATA
pub data BodyHead : Type 0 where
  leaf : LeafHead → BodyHead
  path : List ℕ × Option Key → BodyHead

unfoldable pub body_head : OperKind → WordItem → WordsLeft → Reader BodyHead
body_head kind word words left =
    if bytes_eq word.text (codes "path") then steps_in words >>= (λ steps. Ok (path steps, left))
    else leaf_head kind word words left >>= (λ head. Ok (leaf head.0, head.1))

unfoldable pub body_head_at : OperKind → ℕ → Reader BodyHead
body_head_at kind level left = line_at level left >>= λ l. word_in l.0 >>= λ x. body_head kind x.0 x.1 l.1

-- what is lent of a line, seen as what it says
abbrev pub key_of : Numbered → Key
key_of n = record { ident = n.number; value = n.bytes }

abbrev pub ilv_of : Numbered → Ilv
ilv_of n = record { ident = n.number; value = n.bytes }

abbrev pub steps_said : PathLine → List ℕ × Option Key
steps_said p = (p.ids, option_map key_of p.key)

abbrev pub leaf_said : LeafLine → LeafHead
leaf_said (leaf_line.Full value) = full value
leaf_said leaf_line.Sparse = sparse
leaf_said (leaf_line.Outcome code) = outcome code

abbrev pub body_said : BodyLine → BodyHead
body_said (body_line.Leaf said) = leaf (leaf_said said)
body_said (body_line.Path said) = path (steps_said said)
