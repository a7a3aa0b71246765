-- What is read of lines as messages is spelled by them.
use Rattle.std.proofs.Common.{◌≡◌, ◌<◌, ◌+◌, ◌^◌, ℕ, Bool, true, false, cond, ◌==◌, ◌&&◌, List, [], ◌∷◌, ◌++◌, length, codes, Option, Some, None, Result, Ok, Err, append-nil, refl, sym, ap, subst, ◌∙◌, arith, eqb-true}
use Rattle.std.specs.List.{flat_map, AllByRecursion}
use Rattle.std.specs.Str.{bytes_eq}
use Rattle.std.proofs.lemmas.Slice.Eq.{bytes_eq-Decides}
use Rattle.fc_path.specs.Kinds.{Row, operations, operation_in as row_in, operation_of, number_of, holds_selects}
use Rattle.fc_path.specs.Proper.{ProperOper, ProperSelect}
use Rattle.fc_path.specs.declared.kinds.Operation.{Operation}
use Rattle.fc_path.specs.declared.kinds.Operation.TheVariants as operation
use Rattle.fc_path.specs.declared.oper.OperKind.{OperKind}
use Rattle.fc_path.specs.declared.oper.OperKind.TheVariants as kinds
use Rattle.fc_path.specs.declared.oper.Oper.{Oper}
use Rattle.fc_path.specs.declared.oper.Oper.TheVariants as oper
use Rattle.fc_path.specs.declared.oper.Select.{Select}
use Rattle.fc_msg.specs.Messages.{IsProper, ProperMsgBody, message_fits}
use Rattle.fc_msg.specs.Reading.{flags_in}
use Rattle.fc_msg.specs.declared.message.Message.{Message}
use Rattle.fc_msg.specs.declared.message.MsgBody.{MsgBody}
use Rattle.fc_msg.specs.declared.message.MsgBody.TheVariants.{Setup, SetupResponse, Teardown, Config, ConfigResponse, Query, QueryResponse, Event, Heartbeat}
use Rattle.fc_wire.specs.Flags.{FlagValues}
use Rattle.fc_lines.specs.LineWords.{WordsLeft, LinesLeft, lines_of, text_lines, line_at, closed, none_left, ended as words_ended, exactly, decimal_in, digits_in, labelled_in}
use Rattle.fc_text.specs.Text.{body_name, kind_name}
use Rattle.fc_text.specs.TextGrammar.{Word, Line, name, number, digits, flags, code_line, path_lines, oper_lines, select_lines, number_line, content_lines, message_lines, SpellsWord, SpellsLine, SpellsText, SpellsSelects, AreEach, AreLines}
use Rattle.fc_base.specs.Answers.{◌>>=◌}
use Rattle.fc_lines.specs.TextPlaces.{TextPlace, place}
use Rattle.fc_lines.specs.declared.said.Head.{Head}
use Rattle.fc_lines.specs.LineReading.{outcome_at, number_named, operation_named, operation_in, number_at, message_named, type_in, head_at}
use Rattle.fc_lines.specs.LineReading.{shut}
use Rattle.fc_text.specs.TextReading.{many_at, some_at, operation_paths_at, operation_at, oper_at, select_at, content_at, message_of, whole_at, message_at, text_in, body_in}
use Rattle.fc_text.proofs.SoundValues.{given_some, same_some}
use Rattle.fc_text.proofs.SoundWords.{bind_ok, same_ok, same_pair, texts, Step, Taken, Found, meaning_sound, exactly_sound, number_sound, digits_sound, label_sound, outcome_sound, line_sound, lines_sound, no_more, one_more, one_line, and_lines}
use Rattle.fc_text.proofs.SoundPaths.{found_none, many_sound, some_sound, operation_paths_sound}
use Rattle.fc_text.proofs.TextLaws.{flags_fit}

-- a table of names with numbers
abbrev pub NameRow : Type 0
NameRow = List ℕ × ℕ

abbrev pub first_in : List NameRow → List ℕ → Option ℕ
first_in [] text = None
first_in (r ∷ rs) text = cond (bytes_eq text r.0) (Some r.1) (first_in rs text)

pub table_sound : (P : List ℕ → ℕ → Type 0) (rows : List NameRow) (text : List ℕ) (k : ℕ) → AllByRecursion (λ r. P r.0 r.1) rows → first_in rows text ≡ Some k → P text k
table_sound P [] text k all e = cc
table_sound P (r ∷ rs) text k all e = by (bytes_eq text r.0) (bytes_eq-Decides text r.0).0 (table_sound P rs text k all.1) e
  where
    by : (t : Bool) → (t ≡ true → text ≡ r.0) → (first_in rs text ≡ Some k → P text k) → cond t (Some r.1) (first_in rs text) ≡ Some k → P text k
    by true is more e = subst (λ k. P text k) (same_some r.1 k e) (subst (λ t. P t r.1) (sym (is refl)) all.0)
    by false is more e = more e

-- the operations
abbrev pub row : List ℕ → ℕ → NameRow
row text k = (text, k)

abbrev pub numbers : List NameRow
numbers =
    row (codes "SET") 1 ∷ row (codes "SET-PROP") 2 ∷ row (codes "SET-RESPONSE") 3 ∷ row (codes "SET-PROP-RESPONSE") 4 ∷ row (codes "DEL") 5 ∷ row (codes "DEL-RESPONSE") 6 ∷ row (codes "GET") 7
    ∷ row (codes "GET-PROP") 8 ∷ row (codes "GET-RESPONSE") 9 ∷ row (codes "GET-PROP-RESPONSE") 10 ∷ row (codes "REPORT") 11 ∷ row (codes "COMMIT") 12 ∷ row (codes "COMMIT-RESPONSE") 13 ∷ row (codes "TRCOMP") 14 ∷ []

pub named_in_table : (text : List ℕ) → number_named text ≡ first_in numbers text
unfolding number_named
named_in_table text = refl

abbrev name_in : List NameRow → ℕ → List ℕ
name_in [] k = []
name_in (r ∷ rs) k = cond (r.1 == k) r.0 (name_in rs k)

number_sound_in : (text : List ℕ) (k : ℕ) → number_named text ≡ Some k → text ≡ name_in numbers k
number_sound_in text k e =
    table_sound (λ t k. t ≡ name_in numbers k) numbers text k (refl, (refl, (refl, (refl, (refl, (refl, (refl, (refl, (refl, (refl, (refl, (refl, (refl, (refl, tt)))))))))))))) (sym (named_in_table text) ∙ e)

abbrev pub type_of : Operation → ℕ
type_of (operation.Paths kind) = number_of kind
type_of operation.Commit = 12
type_of operation.Trcomp = 14
type_of operation.CommitResponse = 13

abbrev pub name_of : Operation → List ℕ
name_of (operation.Paths kind) = kind_name kind
name_of operation.Commit = codes "COMMIT"
name_of operation.Trcomp = codes "TRCOMP"
name_of operation.CommitResponse = codes "COMMIT-RESPONSE"

kind_named : (kind : OperKind) → name_in numbers (number_of kind) ≡ kind_name kind
kind_named kinds.Set = refl
kind_named kinds.SetProp = refl
kind_named kinds.SetResponse = refl
kind_named kinds.SetPropResponse = refl
kind_named kinds.Del = refl
kind_named kinds.DelResponse = refl
kind_named kinds.Get = refl
kind_named kinds.GetProp = refl
kind_named kinds.GetResponse = refl
kind_named kinds.GetPropResponse = refl
kind_named kinds.Report = refl

type_named : (o : Operation) → name_in numbers (type_of o) ≡ name_of o
type_named (operation.Paths kind) = kind_named kind
type_named operation.Commit = refl
type_named operation.Trcomp = refl
type_named operation.CommitResponse = refl

abbrev Typed : Row → Type 0
Typed r = r.kind ≡ type_of r.operation

all_typed : AllByRecursion Typed operations
all_typed = (refl, (refl, (refl, (refl, (refl, (refl, (refl, (refl, (refl, (refl, (refl, (refl, (refl, (refl, (refl, tt)))))))))))))))

typed_in : (rows : List Row) (message n : ℕ) (o : Operation) → AllByRecursion Typed rows → row_in rows message n ≡ Some o → n ≡ type_of o
typed_in [] message n o all e = cc
typed_in (x ∷ xs) message n o all e = by (x.message == message) (x.kind == n) (eqb-true x.kind n) (typed_in xs message n o all.1) e
  where
    by : (s t : Bool) → (t ≡ true → x.kind ≡ n) → (row_in xs message n ≡ Some o → n ≡ type_of o) → cond (s && t) (Some x.operation) (row_in xs message n) ≡ Some o → n ≡ type_of o
    by true true is more e = sym (is refl) ∙ all.0 ∙ ap type_of (same_some x.operation o e)
    by true false is more e = more e
    by false t is more e = more e

pub operation_means : (message : ℕ) (text : List ℕ) (which : Operation) → operation_named message text ≡ Some which → (text ≡ name_of which) × (operation_of message (type_of which) ≡ Some which)
unfolding operation_named
operation_means message text which means =
    let (k, first, more) = given_some (number_named text) (operation_of message) which means in
    let typed = typed_in operations message k which all_typed more in
    (number_sound_in text k first ∙ ap (name_in numbers) typed ∙ type_named which, ap (operation_of message) (sym typed) ∙ more)

operation_sound : (message : ℕ) (v : WordsLeft) (which : Operation) (rest : WordsLeft) → operation_in message v ≡ Ok (which, rest) → Step (name (name_of which)) v rest × (operation_of message (type_of which) ≡ Some which)
unfolding operation_in
operation_sound message v which rest e =
    let (t, is, means) = meaning_sound (operation_named message) v which rest e in
    let (named, found) = operation_means message t which means in
    ((t, is, named), found)

-- what stands below the line of an operation
abbrev IsOper : ℕ → ℕ → Oper → LinesLeft → LinesLeft → Type 0
IsOper message level o left rest = Found (oper_lines level o) left rest × ProperOper message o

below_sound : (message level : ℕ) (which : Operation) (v : WordsLeft) (left mid : LinesLeft) (o : Oper) (rest : LinesLeft) → Taken level v left mid → AreEach SpellsWord (name (name_of which) ∷ []) (texts v)
    → operation_of message (type_of which) ≡ Some which → operation_at which (level + 1) mid ≡ Ok (o, rest) → IsOper message level o left rest
below_sound message level (operation.Paths kind) v left mid o rest taken words is e =
    bind_ok (operation_paths_at kind (level + 1) mid) _ (o, rest) e λ ps is1 e1.
    let (same, behind) = same_pair (oper.Paths kind ps.0) o ps.1 rest e1 in
    let all = operation_paths_sound kind (level + 1) mid ps.0 ps.1 is1 in
    subst (λ o. IsOper message level o left rest) same
    (subst (Found (oper_lines level (oper.Paths kind ps.0)) left) behind (and_lines level (name (kind_name kind) ∷ []) (flat_map (λ p. path_lines p (level + 1)) ps.0) left mid ps.1 v taken words all.0), (is, all.2, all.1))
below_sound message level operation.Commit v left mid o rest taken words is e =
    let (same, behind) = same_pair oper.Commit o mid rest e in
    subst (λ o. IsOper message level o left rest) same (subst (Found (oper_lines level oper.Commit) left) behind (one_line level (name (codes "COMMIT") ∷ []) left mid v taken words), is)
below_sound message level operation.Trcomp v left mid o rest taken words is e =
    let (same, behind) = same_pair oper.Trcomp o mid rest e in
    subst (λ o. IsOper message level o left rest) same (subst (Found (oper_lines level oper.Trcomp) left) behind (one_line level (name (codes "TRCOMP") ∷ []) left mid v taken words), is)
below_sound message level operation.CommitResponse v left mid o rest taken words is e =
    bind_ok (outcome_at (level + 1) mid) _ (o, rest) e λ code is1 e1.
    let (same, behind) = same_pair (oper.CommitResponse code.0) o code.1 rest e1 in
    let line_is = outcome_sound (level + 1) mid code.0 code.1 is1 in
    subst (λ o. IsOper message level o left rest) same
    (subst (Found (oper_lines level (oper.CommitResponse code.0)) left) behind (and_lines level (name (codes "COMMIT-RESPONSE") ∷ []) (code_line (level + 1) code.0 ∷ []) left mid code.1 v taken words line_is), is)

pub oper_sound : (message level : ℕ) (left : LinesLeft) (o : Oper) (rest : LinesLeft) → oper_at message level left ≡ Ok (o, rest) → IsOper message level o left rest
unfolding oper_at
oper_sound message level left o rest e =
    bind_ok (line_at level left) _ (o, rest) e λ l is1 e1.
    bind_ok (operation_in message l.0) _ (o, rest) e1 λ which is2 e2.
    bind_ok (words_ended which.1) _ (o, rest) e2 λ u is3 e3.
    let found = operation_sound message l.0 which.0 which.1 is2 in
    below_sound message level which.0 l.0 left l.1 o rest (line_sound level left l.0 l.1 is1) (one_more (name (name_of which.0)) [] l.0 which.1 found.0 (no_more which.1 u is3)) found.1 e3

-- an LFBselect
abbrev IsSelect : ℕ → ℕ → Select → LinesLeft → LinesLeft → Type 0
IsSelect message level s left rest = Found (select_lines level s) left rest × ProperSelect message s

abbrev select : ℕ → ℕ → List Oper → Select
select class instance opers = record { class = class; instance = instance; opers = opers }

pub select_sound : (message level : ℕ) → holds_selects message ≡ true → (left : LinesLeft) (s : Select) (rest : LinesLeft) → select_at message level left ≡ Ok (s, rest) → IsSelect message level s left rest
unfolding select_at
select_sound message level holds left s rest e =
    bind_ok (line_at level left) _ (s, rest) e λ l is1 e1.
    bind_ok (exactly (codes "lfb") l.0) _ (s, rest) e1 λ w is2 e2.
    bind_ok (digits_in 8 w.1) _ (s, rest) e2 λ class is3 e3.
    bind_ok (digits_in 8 class.1) _ (s, rest) e3 λ instance is4 e4.
    bind_ok (words_ended instance.1) _ (s, rest) e4 λ u is5 e5.
    bind_ok (some_at (level + 1) (oper_at message (level + 1)) l.1) _ (s, rest) e5 λ opers is6 e6.
    let (same, behind) = same_pair (select class.0 instance.0 opers.0) s opers.1 rest e6 in
    let third = one_more (digits [] 8 instance.0) [] class.1 instance.1 (digits_sound 8 class.1 instance.0 instance.1 is4) (no_more instance.1 u is5) in
    let second = one_more (digits [] 8 class.0) (digits [] 8 instance.0 ∷ []) w.1 class.1 (digits_sound 8 w.1 class.0 class.1 is3) third in
    let words = one_more (name (codes "lfb")) (digits [] 8 class.0 ∷ digits [] 8 instance.0 ∷ []) l.0 w.1 (exactly_sound (codes "lfb") l.0 w.0 w.1 is2) second in
    let all = some_sound (oper_lines (level + 1)) (ProperOper message) (oper_at message (level + 1)) (oper_sound message (level + 1)) (level + 1) l.1 opers.0 opers.1 is6 in
    subst (λ s. IsSelect message level s left rest) same (
      subst (Found (select_lines level (select class.0 instance.0 opers.0)) left) behind
          (and_lines level (name (codes "lfb") ∷ digits [] 8 class.0 ∷ digits [] 8 instance.0 ∷ []) (flat_map (oper_lines (level + 1)) opers.0) left l.1 opers.1 l.0 (line_sound level left l.0 l.1 is1) words all.0),
      (holds, all.2, all.1),
    )

-- the body of a message
number_line_sound : (text : List ℕ) (left : LinesLeft) (n : ℕ) (rest : LinesLeft) → number_at text left ≡ Ok (n, rest) → Found (number_line text n ∷ []) left rest × (n < 2 ^ 32)
unfolding number_at
number_line_sound text left n rest e =
    bind_ok (line_at 1 left) _ (n, rest) e λ l is1 e1.
    bind_ok (exactly text l.0) _ (n, rest) e1 λ w is2 e2.
    bind_ok (decimal_in w.1) _ (n, rest) e2 λ k is3 e3.
    bind_ok (words_ended k.1) _ (n, rest) e3 λ u is4 e4.
    let (same, behind) = same_pair k.0 n l.1 rest e4 in
    let step = number_sound w.1 k.0 k.1 is3 in
    let words = one_more (name text) (number k.0 ∷ []) l.0 w.1 (exactly_sound text l.0 w.0 w.1 is2) (one_more (number k.0) [] w.1 k.1 step (no_more k.1 u is4)) in
    subst (λ n. Found (number_line text n ∷ []) left rest × (n < 2 ^ 32)) same
    (subst (Found (number_line text k.0 ∷ []) left) behind (one_line 1 (name text ∷ number k.0 ∷ []) left l.1 l.0 (line_sound 1 left l.0 l.1 is1) words), step.2.0)

abbrev IsContent : List ℕ → ℕ → MsgBody → LinesLeft → LinesLeft → Type 0
IsContent text kind b left rest = (text ≡ body_name b) × Found (content_lines b) left rest × ProperMsgBody b

abbrev Reads : List ℕ → ℕ → Type 0
Reads text kind = (left : LinesLeft) (b : MsgBody) (rest : LinesLeft) → content_at kind left ≡ Ok (b, rest) → IsContent text kind b left rest

heartbeat_sound : Reads (codes "Heartbeat") 15
unfolding content_at
heartbeat_sound left b rest e =
    let (same, behind) = same_pair Heartbeat b left rest e in
    subst (λ b. IsContent (codes "Heartbeat") 15 b left rest) same (refl, found_none left rest behind, tt)

module _ (text : List ℕ) (kind : ℕ) (make : List Select → MsgBody) (holds : holds_selects kind ≡ true) (named : (ss : List Select) → body_name (make ss) ≡ text) (lines : (ss : List Select) → content_lines (make ss) ≡ flat_map (select_lines 1) ss) where
  some_content : (left : LinesLeft) (b : MsgBody) (rest : LinesLeft) → ((ss : List Select) → (0 < length ss) × AllByRecursion (ProperSelect kind) ss → ProperMsgBody (make ss))
      → (read : Result (MsgBody × LinesLeft) TextPlace) → read ≡ (some_at 1 (select_at kind 1) left >>= λ s. Ok (make s.0, s.1)) → read ≡ Ok (b, rest) → IsContent text kind b left rest
  some_content left b rest proper read is e =
      bind_ok (some_at 1 (select_at kind 1) left) _ (b, rest) (sym is ∙ e) λ ss is1 e1.
      let (same, behind) = same_pair (make ss.0) b ss.1 rest e1 in
      let all = some_sound (select_lines 1) (ProperSelect kind) (select_at kind 1) (select_sound kind 1 holds) 1 left ss.0 ss.1 is1 in
      subst (λ b. IsContent text kind b left rest) same
      (sym (named ss.0), subst (λ l. Found l left rest) (sym (lines ss.0)) (subst (Found (flat_map (select_lines 1) ss.0) left) behind all.0), proper ss.0 (all.2, all.1))

config_sound : Reads (codes "Config") 3
unfolding content_at
config_sound left b rest e = some_content (codes "Config") 3 Config refl (λ ss. refl) (λ ss. refl) left b rest (λ ss p. p) (content_at 3 left) refl e

config_response_sound : Reads (codes "ConfigResponse") 19
unfolding content_at
config_response_sound left b rest e = some_content (codes "ConfigResponse") 19 ConfigResponse refl (λ ss. refl) (λ ss. refl) left b rest (λ ss p. p) (content_at 19 left) refl e

query_sound : Reads (codes "Query") 4
unfolding content_at
query_sound left b rest e = some_content (codes "Query") 4 Query refl (λ ss. refl) (λ ss. refl) left b rest (λ ss p. p) (content_at 4 left) refl e

query_response_sound : Reads (codes "QueryResponse") 20
unfolding content_at
query_response_sound left b rest e = some_content (codes "QueryResponse") 20 QueryResponse refl (λ ss. refl) (λ ss. refl) left b rest (λ ss p. p) (content_at 20 left) refl e

event_sound : Reads (codes "EventNotification") 5
unfolding content_at
event_sound left b rest e = some_content (codes "EventNotification") 5 Event refl (λ ss. refl) (λ ss. refl) left b rest (λ ss p. p) (content_at 5 left) refl e

setup_sound : Reads (codes "AssociationSetup") 1
unfolding content_at
setup_sound left b rest e =
    bind_ok (many_at 1 (select_at 1 1) left) _ (b, rest) e λ ss is1 e1.
    let (same, behind) = same_pair (Setup ss.0) b ss.1 rest e1 in
    let all = many_sound (select_lines 1) (ProperSelect 1) (select_at 1 1) (select_sound 1 1 refl) 1 left ss.0 ss.1 is1 in
    subst (λ b. IsContent (codes "AssociationSetup") 1 b left rest) same (refl, subst (Found (flat_map (select_lines 1) ss.0) left) behind all.0, all.1)

setup_response_sound : Reads (codes "AssociationSetupResponse") 17
unfolding content_at
setup_response_sound left b rest e =
    bind_ok (number_at (codes "result") left) _ (b, rest) e λ n is1 e1.
    let (same, behind) = same_pair (SetupResponse n.0) b n.1 rest e1 in
    let all = number_line_sound (codes "result") left n.0 n.1 is1 in
    subst (λ b. IsContent (codes "AssociationSetupResponse") 17 b left rest) same (refl, subst (Found (number_line (codes "result") n.0 ∷ []) left) behind all.0, all.1)

teardown_sound : Reads (codes "AssociationTeardown") 2
unfolding content_at
teardown_sound left b rest e =
    bind_ok (number_at (codes "reason") left) _ (b, rest) e λ n is1 e1.
    let (same, behind) = same_pair (Teardown n.0) b n.1 rest e1 in
    let all = number_line_sound (codes "reason") left n.0 n.1 is1 in
    subst (λ b. IsContent (codes "AssociationTeardown") 2 b left rest) same (refl, subst (Found (number_line (codes "reason") n.0 ∷ []) left) behind all.0, all.1)

abbrev pub types : List NameRow
types =
    row (codes "Heartbeat") 15 ∷ row (codes "Config") 3 ∷ row (codes "ConfigResponse") 19 ∷ row (codes "Query") 4 ∷ row (codes "QueryResponse") 20 ∷ row (codes "EventNotification") 5
    ∷ row (codes "AssociationSetup") 1 ∷ row (codes "AssociationSetupResponse") 17 ∷ row (codes "AssociationTeardown") 2 ∷ []

pub types_in_table : (text : List ℕ) → message_named text ≡ first_in types text
unfolding message_named
types_in_table text = refl

pub content_sound : (text : List ℕ) (kind : ℕ) → message_named text ≡ Some kind → Reads text kind
content_sound text kind e =
    table_sound Reads types text kind
    (heartbeat_sound, (config_sound, (config_response_sound, (query_sound, (query_response_sound, (event_sound, (setup_sound, (setup_response_sound, (teardown_sound, tt)))))))))
    (sym (types_in_table text) ∙ e)

-- the line of a header
abbrev words_of_head : List ℕ → Head → FlagValues → List Word
words_of_head text h values = name text ∷ digits (codes "from=") 8 h.source ∷ digits (codes "to=") 8 h.dest ∷ digits (codes "corr=") 16 h.corr ∷ flags values ∷ []

pub record IsHead (h : Head) (left rest : LinesLeft) : Type 0 where
  pub text : List ℕ
  pub named : message_named text ≡ Some h.kind
  pub v : WordsLeft
  pub taken : Taken 0 v left rest
  pub words : AreEach SpellsWord (words_of_head text h (flags_in h.flags)) (texts v)
  pub source : h.source < 16 ^ 8
  pub dest : h.dest < 16 ^ 8
  pub corr : h.corr < 16 ^ 16
  pub word : h.flags < 16 ^ 8

abbrev head : ℕ → ℕ → ℕ → ℕ → ℕ → Head
head kind source dest corr word = record { kind = kind; source = source; dest = dest; corr = corr; flags = word }

pub head_sound : (left : LinesLeft) (h : Head) (rest : LinesLeft) → head_at left ≡ Ok (h, rest) → IsHead h left rest
unfolding head_at type_in
head_sound left h rest e =
    bind_ok (line_at 0 left) _ (h, rest) e λ l is1 e1.
    bind_ok (type_in l.0) _ (h, rest) e1 λ kind is2 e2.
    bind_ok (labelled_in (codes "from=") 8 kind.1) _ (h, rest) e2 λ source is3 e3.
    bind_ok (labelled_in (codes "to=") 8 source.1) _ (h, rest) e3 λ dest is4 e4.
    bind_ok (labelled_in (codes "corr=") 16 dest.1) _ (h, rest) e4 λ corr is5 e5.
    bind_ok (labelled_in (codes "flags=") 8 corr.1) _ (h, rest) e5 λ word is6 e6.
    bind_ok (words_ended word.1) _ (h, rest) e6 λ u is7 e7.
    let (same, behind) = same_pair (head kind.0 source.0 dest.0 corr.0 word.0) h l.1 rest e7 in
    let (text, front, means) = meaning_sound message_named l.0 kind.0 kind.1 is2 in
    let s1 = label_sound (codes "from=") 8 kind.1 source.0 source.1 is3 in
    let s2 = label_sound (codes "to=") 8 source.1 dest.0 dest.1 is4 in
    let s3 = label_sound (codes "corr=") 16 dest.1 corr.0 corr.1 is5 in
    let s4 = label_sound (codes "flags=") 8 corr.1 word.0 word.1 is6 in
    let w4 = one_more (flags (flags_in word.0)) [] corr.1 word.1 (s4.0, s4.1, (word.0, refl, s4.2)) (no_more word.1 u is7) in
    let w3 = one_more (digits (codes "corr=") 16 corr.0) (flags (flags_in word.0) ∷ []) dest.1 corr.1 s3 w4 in
    let w2 = one_more (digits (codes "to=") 8 dest.0) (digits (codes "corr=") 16 corr.0 ∷ flags (flags_in word.0) ∷ []) source.1 dest.1 s2 w3 in
    let w1 = one_more (digits (codes "from=") 8 source.0) (digits (codes "to=") 8 dest.0 ∷ digits (codes "corr=") 16 corr.0 ∷ flags (flags_in word.0) ∷ []) kind.1 source.1 s1 w2 in
    let words = one_more (name text) (digits (codes "from=") 8 source.0 ∷ digits (codes "to=") 8 dest.0 ∷ digits (codes "corr=") 16 corr.0 ∷ flags (flags_in word.0) ∷ []) l.0 kind.1 (text, front, refl) w1 in
    subst (λ (h : Head). IsHead h left rest) same
    (record {
      text = text;
      named = means;
      v = l.0;
      taken = subst (Taken 0 l.0 left) behind (line_sound 0 left l.0 l.1 is1);
      words = words;
      source = s1.2.0;
      dest = s2.2.0;
      corr = s3.2.0;
      word = s4.2.0;
    })

-- a message
abbrev IsMessage : Message → LinesLeft → LinesLeft → Type 0
IsMessage m left rest = Found (message_lines m) left rest × IsProper m

whole_by : (h : Head) (b : MsgBody) (left mid rest : LinesLeft) (is : IsHead h left mid) → IsContent is.text h.kind b mid rest → IsMessage (message_of h b) left rest
whole_by h b left mid rest is content =
    let words : AreEach SpellsWord (words_of_head (body_name b) h (flags_in h.flags)) (texts is.v) = subst (λ t. AreEach SpellsWord (words_of_head t h (flags_in h.flags)) (texts is.v)) content.0 is.words in
    let source = is.source in
    let dest = is.dest in
    let corr = is.corr in (
      and_lines 0 (words_of_head (body_name b) h (flags_in h.flags)) (content_lines b) left mid rest is.v is.taken words content.1,
      record {
        source = omega (arith, source);
        dest = omega (arith, dest);
        correlator = omega (arith, corr);
        flags = flags_fit (flags_in h.flags) h.flags is.word refl;
        body = content.2;
      },
    )

pub whole_sound : (left : LinesLeft) (m : Message) (rest : LinesLeft) → whole_at left ≡ Ok (m, rest) → IsMessage m left rest
unfolding whole_at
whole_sound left m rest e =
    bind_ok (head_at left) _ (m, rest) e λ h is1 e1.
    bind_ok (content_at h.0.kind h.1) _ (m, rest) e1 λ b is2 e2.
    bind_ok (shut b.1) _ (m, rest) e2 λ u is3 e3.
    let (same, behind) = same_pair (message_of h.0 b.0) m b.1 rest e3 in
    let front = head_sound left h.0 h.1 is1 in
    subst (λ m. IsMessage m left rest) same
    (subst (IsMessage (message_of h.0 b.0) left) behind (whole_by h.0 b.0 left h.1 b.1 front (content_sound front.text h.0.kind front.named h.1 b.0 b.1 is2)))

abbrev IsTaken : Message → Type 0
IsTaken m = IsProper m × (message_fits m ≡ true)

pub message_sound : (left : LinesLeft) (m : Message) (rest : LinesLeft) → message_at left ≡ Ok (m, rest) → Found (message_lines m) left rest × IsTaken m
unfolding message_at
message_sound left m rest e =
    bind_ok (whole_at left) _ (m, rest) e λ w is1 e1. by w.0 w.1 (message_fits w.0) (λ h. h) (whole_sound left w.0 w.1 is1) e1
  where
    by : (n : Message) (mid : LinesLeft) (t : Bool) → (t ≡ true → message_fits n ≡ true) → IsMessage n left mid → cond {A = Result (Message × LinesLeft) TextPlace} t (Ok (n, mid)) (Err (place (left.taken + 1) 1)) ≡ Ok (m, rest)
        → Found (message_lines m) left rest × IsTaken m
    by n mid true is found e =
        let (same, behind) = same_pair n m mid rest e in
        subst (λ m. Found (message_lines m) left rest × IsTaken m) same (subst (Found (message_lines n) left) behind found.0, (found.1, is refl))
    by n mid false is found e = cc

none_sound : (lines : List (List ℕ)) (at : TextPlace) (u : Unit {0}) → cond (none_left lines) (Ok tt) (Err at) ≡ Ok u → lines ≡ []
none_sound [] at u e = refl
none_sound (l ∷ ls) at u e = cc

pub closed_sound : (left : LinesLeft) (u : Unit {0}) → closed left ≡ Ok u → left.lines ≡ []
unfolding closed
closed_sound left u e = none_sound left.lines _ u e

whole_text : (ls : List Line) (bytes : List ℕ) (rest : LinesLeft) → Found ls (text_lines bytes) rest → rest.lines ≡ [] → (texts : List (List ℕ)) × AreEach SpellsLine ls texts × AreLines texts bytes
whole_text ls bytes rest (front, is, each) none =
    let all : lines_of bytes ≡ front = is ∙ ap (λ l. front ++ l) none ∙ append-nil front in
    (front, each, subst (λ t. AreLines t bytes) all (lines_sound bytes))

first_all : (ms : List Message) → AllByRecursion IsTaken ms → AllByRecursion IsProper ms
first_all [] h = tt
first_all (m ∷ ms) h = (h.0.0, first_all ms h.1)

second_all : (ms : List Message) → AllByRecursion IsTaken ms → AllByRecursion (λ m. message_fits m ≡ true) ms
second_all [] h = tt
second_all (m ∷ ms) h = (h.0.1, second_all ms h.1)

pub read_text_is_spelled : (ms : List Message) (bytes : List ℕ) → text_in bytes ≡ Ok ms → SpellsText ms bytes
unfolding text_in
read_text_is_spelled ms bytes e =
    bind_ok (many_at 0 message_at (text_lines bytes)) _ ms e λ all is1 e1.
    bind_ok (closed all.1) _ ms e1 λ u is2 e2.
    let found = many_sound message_lines IsTaken message_at message_sound 0 (text_lines bytes) all.0 all.1 is1 in
    subst (λ ms. SpellsText ms bytes) (same_ok all.0 ms e2)
    (record { lines = whole_text (flat_map message_lines all.0) bytes all.1 found.0 (closed_sound all.1 u is2); proper = first_all all.0 found.1; fit = second_all all.0 found.1 })

pub read_body_is_spelled : (ss : List Select) (bytes : List ℕ) → body_in bytes ≡ Ok ss → SpellsSelects ss bytes
unfolding body_in
read_body_is_spelled ss bytes e =
    bind_ok (some_at 0 (select_at 3 0) (text_lines bytes)) _ ss e λ all is1 e1.
    bind_ok (closed all.1) _ ss e1 λ u is2 e2.
    let found = some_sound (select_lines 0) (ProperSelect 3) (select_at 3 0) (select_sound 3 0 refl) 0 (text_lines bytes) all.0 all.1 is1 in
    subst (λ ss. SpellsSelects ss bytes) (same_ok all.0 ss e2)
    (record { lines = whole_text (flat_map (select_lines 0) all.0) bytes all.1 found.0 (closed_sound all.1 u is2); some = found.2; proper = found.1 })
