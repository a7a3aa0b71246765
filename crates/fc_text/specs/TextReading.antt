-- What reading a text gives: its messages, or the first line that does not fit and the first word in it that does not. What
-- each kind of line says is `LineReading`. This profile's own.
use Rattle.std.specs.Prelude.{ℕ, zero, suc, ◌+◌, ◌==◌, ◌&&◌, not, if◌then◌else◌, List, [], ◌∷◌, length, codes, Option, Result, Ok, Err}
use Rattle.std.specs.Str.{bytes_eq}
use Rattle.fc_base.specs.Answers.{◌>>=◌}
use Rattle.fc_path.specs.Kinds.{takes_nothing, takes_full, takes_sparse, takes_outcome}
use Rattle.fc_path.specs.declared.kinds.Operation.{Operation}
use Rattle.fc_path.specs.declared.kinds.Operation.TheVariants as operation
use Rattle.fc_path.specs.declared.oper.OperKind.{OperKind}
use Rattle.fc_path.specs.declared.oper.Oper.{Oper}
use Rattle.fc_path.specs.declared.oper.Oper.TheVariants as oper
use Rattle.fc_path.specs.declared.oper.Select.{Select}
use Rattle.fc_path.specs.declared.path.Key.{Key}
use Rattle.fc_path.specs.declared.path.PathData.{PathData, roll-PathData}
use Rattle.fc_path.specs.declared.path.Body.{Body}
use Rattle.fc_path.specs.declared.path.Body.TheVariants as body
use Rattle.fc_msg.specs.Bodies.{holding}
use Rattle.fc_msg.specs.Messages.{message_fits}
use Rattle.fc_msg.specs.Reading.{flags_in}
use Rattle.fc_msg.specs.MessageTypes as types
use Rattle.fc_msg.specs.declared.message.Message.{Message}
use Rattle.fc_msg.specs.declared.message.MsgBody.{MsgBody}
use Rattle.fc_msg.specs.declared.message.MsgBody.TheVariants.{Setup, SetupResponse, Teardown, Heartbeat}
use Rattle.fc_lines.specs.LineReading.{Reader, code_in, head_at, ilv_at, number_at, operation_in, outcome_at, shut, steps_in}
use Rattle.fc_lines.specs.LineWords.{LinesLeft, WordItem, WordsLeft, closed, digits_in, ended, exactly, line_at, octets_in, stands_at, text_lines, word_in}
use Rattle.fc_lines.specs.TextPlaces.{TextPlace, place}
use Rattle.fc_lines.specs.declared.said.Head.{Head}

-- one more in front
abbrev pub and_more : {X : Type 0} → X → Result (List X × LinesLeft) TextPlace → Result (List X × LinesLeft) TextPlace
and_more x read = read >>= λ xs. Ok (x ∷ xs.0, xs.1)

-- items, while the next line is indented by this level
abbrev pub each_at : {X : Type 0} → ℕ → ℕ → Reader X → Reader (List X)
each_at zero level one left = Ok ([], left)
each_at (suc fuel) level one left =
    if stands_at level left.lines then one left >>= (λ x. and_more x.0 (each_at fuel level one x.1)) else Ok ([], left)

unfoldable pub many_at : {X : Type 0} → ℕ → Reader X → Reader (List X)
many_at level one left = each_at (length left.lines) level one left

-- the same, and there is at least one
unfoldable pub some_at : {X : Type 0} → ℕ → Reader X → Reader (List X)
some_at level one left = one left >>= λ x. and_more x.0 (many_at level one x.1)

-- a body that begins with this word, and holds no PATH-DATA
unfoldable pub leaf_in : OperKind → ℕ → WordItem → WordsLeft → Reader Body
leaf_in kind level word words left =
    if takes_full kind && bytes_eq word.text (codes "full")
    then octets_in words >>= (λ value. ended value.1 >>= λ _. Ok (body.Full value.0, left))
    else (if takes_sparse kind && bytes_eq word.text (codes "sparse")
    then ended words >>= (λ _. many_at (level + 1) (ilv_at (level + 1)) left >>= λ ilvs. Ok (body.Sparse ilvs.0, ilvs.1))
    else (if takes_outcome kind && bytes_eq word.text (codes "code")
    then code_in words >>= (λ code. Ok (body.Outcome code, left)) else Err (place words.line word.column)))

-- a PATH-DATA behind the word `path`, by what reads its body one level deeper
abbrev pub path_data : List ℕ × Option Key → Body → PathData
path_data steps body = roll-PathData (record { ids = steps.0; key = steps.1; body = body })

unfoldable pub path_by : (ℕ → Reader Body) → ℕ → WordsLeft → Reader PathData
path_by inside level words left =
    steps_in words >>= λ steps. inside (level + 1) left >>= λ b. Ok (path_data steps b.0, b.1)

-- PATH-DATA, the first one behind the word `path`, and the others with it
unfoldable pub path_line : (ℕ → Reader Body) → ℕ → Reader PathData
path_line inside level left =
    line_at level left >>= λ l. exactly (codes "path") l.0 >>= λ w. path_by inside level w.1 l.1

unfoldable pub paths_by : (ℕ → Reader Body) → ℕ → WordsLeft → Reader (List PathData)
paths_by inside level words left =
    path_by inside level words left >>= λ x. and_more x.0 (many_at level (path_line inside level) x.1)

-- a body, inside of which no more PATH-DATA may stand
unfoldable pub last_body : OperKind → ℕ → Reader Body
last_body kind level left =
    if takes_nothing kind then Ok (body.Nothing, left)
    else line_at level left >>= (λ l. word_in l.0 >>= λ x. leaf_in kind level x.0 x.1 l.1)

-- a body that may hold PATH-DATA with such bodies
unfoldable pub body_by : OperKind → (ℕ → Reader Body) → ℕ → Reader Body
body_by kind inside level left =
    if takes_nothing kind && not (stands_at level left.lines) then Ok (body.Nothing, left)
    else line_at level left >>= (λ l. word_in l.0 >>= λ x.
    if bytes_eq x.0.text (codes "path") then paths_by inside level x.1 l.1 >>= (λ paths. Ok (body.Nested paths.0, paths.1))
    else leaf_in kind level x.0 x.1 l.1)

-- a body, inside of which PATH-DATA may stand so many deep
abbrev pub body_at : OperKind → ℕ → ℕ → Reader Body
body_at kind zero = last_body kind
body_at kind (suc depth) = body_by kind (body_at kind depth)

-- the PATH-DATA of an operation, of which there is at least one, and at most 16 stand inside one another
unfoldable pub operation_paths_at : OperKind → ℕ → Reader (List PathData)
operation_paths_at kind level left =
    line_at level left >>= λ l. exactly (codes "path") l.0 >>= λ w. paths_by (body_at kind 15) level w.1 l.1

-- what stands below the line of an operation
abbrev pub operation_at : Operation → ℕ → Reader Oper
operation_at (operation.Paths kind) level left = operation_paths_at kind level left >>= λ paths. Ok (oper.Paths kind paths.0, paths.1)
operation_at operation.Commit level left = Ok (oper.Commit, left)
operation_at operation.Trcomp level left = Ok (oper.Trcomp, left)
operation_at operation.CommitResponse level left = outcome_at level left >>= λ code. Ok (oper.CommitResponse code.0, code.1)

-- an operation of a message of a type
unfoldable pub oper_at : ℕ → ℕ → Reader Oper
oper_at message level left =
    line_at level left >>= λ l. operation_in message l.0 >>= λ which. ended which.1
    >>= λ _. operation_at which.0 (level + 1) l.1

-- an LFBselect of a message of a type
unfoldable pub select_at : ℕ → ℕ → Reader Select
select_at message level left =
    line_at level left >>= λ l. exactly (codes "lfb") l.0 >>= λ w. digits_in 8 w.1 >>= λ class. digits_in 8 class.1
    >>= λ instance. ended instance.1 >>= λ _. some_at (level + 1) (oper_at message (level + 1)) l.1
    >>= λ opers. Ok (record { class = class.0; instance = instance.0; opers = opers.0 }, opers.1)

-- the body of a message of a type
unfoldable pub content_at : ℕ → Reader MsgBody
content_at kind left =
    if kind == types.heartbeat then Ok (Heartbeat, left)
    else (if kind == types.setup_response then number_at (codes "result") left >>= (λ n. Ok (SetupResponse n.0, n.1))
    else (if kind == types.teardown then number_at (codes "reason") left >>= (λ n. Ok (Teardown n.0, n.1))
    else (if kind == types.setup then many_at 1 (select_at kind 1) left >>= (λ s. Ok (Setup s.0, s.1))
    else some_at 1 (select_at kind 1) left >>= (λ s. Ok (holding kind s.0, s.1)))))

-- a message, whether it can be encoded or not
abbrev pub message_of : Head → MsgBody → Message
message_of head body = record {
  source = head.source;
  dest = head.dest;
  corr = head.corr;
  flags = flags_in head.flags;
  body = body;
}

unfoldable pub whole_at : Reader Message
whole_at left =
    head_at left >>= λ head. content_at head.0.kind head.1 >>= λ b. shut b.1 >>= λ _. Ok (message_of head.0 b.0, b.1)

-- a message, which can be encoded
unfoldable pub message_at : Reader Message
message_at left =
    whole_at left >>= λ m. if message_fits m.0 then Ok (m.0, m.1) else Err (place (left.taken + 1) 1)

-- the messages of a text
unfoldable pub text_in : List ℕ → Result (List Message) TextPlace
text_in bytes = many_at 0 message_at (text_lines bytes) >>= λ ms. closed ms.1 >>= λ _. Ok ms.0

-- the LFBselects of the body of a Config, whose lines stand without the indentation that they have in a message
unfoldable pub body_in : List ℕ → Result (List Select) TextPlace
body_in bytes = some_at 0 (select_at types.config 0) (text_lines bytes) >>= λ s. closed s.1 >>= λ _. Ok s.0
