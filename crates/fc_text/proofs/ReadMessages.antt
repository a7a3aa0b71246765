-- Messages whose lines are spelled are read.
use Rattle.std.proofs.Common.{◌≡◌, ◌<◌, ◌+◌, ◌*◌, ℕ, suc, true, ◌==◌, List, [], ◌∷◌, ◌++◌, length, codes, Some, Ok, append-nil, refl, sym, ap, subst, ◌∙◌, arith, eq-eqb}
use Rattle.std.specs.List.{flat_map, list_all, AllByRecursion}
use Rattle.fc_wire.specs.Flags.{FlagValues}
use Rattle.fc_path.specs.Kinds.{operation_of, number_of}
use Rattle.fc_path.specs.Proper.{ProperOper, ProperSelect}
use Rattle.fc_path.specs.declared.kinds.Operation.{Operation}
use Rattle.fc_path.specs.declared.kinds.Operation.TheVariants as operation
use Rattle.fc_path.specs.declared.oper.OperKind.{OperKind}
use Rattle.fc_path.specs.declared.oper.OperKind.TheVariants as kinds
use Rattle.fc_path.specs.declared.oper.Oper.{Oper}
use Rattle.fc_path.specs.declared.oper.Oper.TheVariants as oper
use Rattle.fc_path.specs.declared.oper.Select.{Select}
use Rattle.fc_msg.specs.Messages.{IsProper, ProperMsgBody, ProperSelects, kind_of, message_fits}
use Rattle.fc_msg.specs.Reading.{flags_in}
use Rattle.fc_msg.specs.declared.message.Message.{Message}
use Rattle.fc_msg.specs.declared.message.MsgBody.{MsgBody}
use Rattle.fc_msg.specs.declared.message.MsgBody.TheVariants.{Setup, SetupResponse, Teardown, Config, ConfigResponse, Query, QueryResponse, Event, Heartbeat}
use Rattle.fc_lines.specs.LineWords.{lines_left, lines_of, spaces_before, text_lines, closed}
use Rattle.fc_text.specs.Text.{body_name, kind_name}
use Rattle.fc_text.specs.TextGrammar.{Word, Line, line, name, number, digits, flags, name_line, code_line, path_lines, oper_lines, select_lines, head_line, number_line, content_lines, message_lines, SpellsWord, SpellsLine, AreEach}
use Rattle.fc_lines.specs.declared.said.Head.{Head}
use Rattle.fc_lines.specs.LineReading.{number_named, operation_named, operation_in, number_at, message_named, type_in, head_at}
use Rattle.fc_lines.specs.LineReading.{shut}
use Rattle.fc_text.specs.TextReading.{many_at, some_at, operation_at, oper_at, select_at, content_at, message_of, whole_at, message_at, text_in}
use Rattle.fc_lines.specs.WordValues.{given}
use Rattle.fc_text.proofs.PlainWords.{Whole}
use Rattle.fc_text.proofs.ReadLines.{Gives, begin, took, took_name, took_number, took_digits, took_labelled, none_left, outcome_read, alone}
use Rattle.fc_text.proofs.ReadItems.{Before, Begins, before_more, many_reads, some_reads}
use Rattle.fc_text.proofs.ReadPaths.{operation_paths_read}
use Rattle.fc_text.proofs.SplitLines.{IsWord, is_plain}

-- names
pub word_by : (text : List ℕ) → 0 < length text → list_all is_plain text ≡ true → IsWord text
word_by text some plain = record { some = some; plain = plain }

abbrev pub number_for : Oper → ℕ
number_for (oper.Paths kind paths) = number_of kind
number_for oper.Commit = 12
number_for oper.Trcomp = 14
number_for (oper.CommitResponse code) = 13

abbrev pub which : Oper → Operation
which (oper.Paths kind paths) = operation.Paths kind
which oper.Commit = operation.Commit
which oper.Trcomp = operation.Trcomp
which (oper.CommitResponse code) = operation.CommitResponse

abbrev pub name_for : Oper → List ℕ
name_for (oper.Paths kind paths) = kind_name kind
name_for oper.Commit = codes "COMMIT"
name_for oper.Trcomp = codes "TRCOMP"
name_for (oper.CommitResponse code) = codes "COMMIT-RESPONSE"

kind_word : (kind : OperKind) → IsWord (kind_name kind)
kind_word kinds.Set = record { some = omega arith; plain = refl }
kind_word kinds.SetProp = record { some = omega arith; plain = refl }
kind_word kinds.SetResponse = record { some = omega arith; plain = refl }
kind_word kinds.SetPropResponse = record { some = omega arith; plain = refl }
kind_word kinds.Del = record { some = omega arith; plain = refl }
kind_word kinds.DelResponse = record { some = omega arith; plain = refl }
kind_word kinds.Get = record { some = omega arith; plain = refl }
kind_word kinds.GetProp = record { some = omega arith; plain = refl }
kind_word kinds.GetResponse = record { some = omega arith; plain = refl }
kind_word kinds.GetPropResponse = record { some = omega arith; plain = refl }
kind_word kinds.Report = record { some = omega arith; plain = refl }

pub oper_word : (o : Oper) → IsWord (name_for o)
oper_word (oper.Paths kind paths) = kind_word kind
oper_word oper.Commit = record { some = omega arith; plain = refl }
oper_word oper.Trcomp = record { some = omega arith; plain = refl }
oper_word (oper.CommitResponse code) = record { some = omega arith; plain = refl }

pub body_word : (b : MsgBody) → IsWord (body_name b)
body_word (Setup selects) = record { some = omega arith; plain = refl }
body_word (SetupResponse n) = record { some = omega arith; plain = refl }
body_word (Teardown n) = record { some = omega arith; plain = refl }
body_word (Config selects) = record { some = omega arith; plain = refl }
body_word (ConfigResponse selects) = record { some = omega arith; plain = refl }
body_word (Query selects) = record { some = omega arith; plain = refl }
body_word (QueryResponse selects) = record { some = omega arith; plain = refl }
body_word (Event selects) = record { some = omega arith; plain = refl }
body_word Heartbeat = record { some = omega arith; plain = refl }

kind_number : (kind : OperKind) → number_named (kind_name kind) ≡ Some (number_of kind)
unfolding number_named
kind_number kinds.Set = refl
kind_number kinds.SetProp = refl
kind_number kinds.SetResponse = refl
kind_number kinds.SetPropResponse = refl
kind_number kinds.Del = refl
kind_number kinds.DelResponse = refl
kind_number kinds.Get = refl
kind_number kinds.GetProp = refl
kind_number kinds.GetResponse = refl
kind_number kinds.GetPropResponse = refl
kind_number kinds.Report = refl

oper_number : (o : Oper) → number_named (name_for o) ≡ Some (number_for o)
unfolding number_named
oper_number (oper.Paths kind paths) = kind_number kind
oper_number oper.Commit = refl
oper_number oper.Trcomp = refl
oper_number (oper.CommitResponse code) = refl

pub body_number : (b : MsgBody) → message_named (body_name b) ≡ Some (kind_of b)
unfolding message_named
body_number (Setup selects) = refl
body_number (SetupResponse n) = refl
body_number (Teardown n) = refl
body_number (Config selects) = refl
body_number (ConfigResponse selects) = refl
body_number (Query selects) = refl
body_number (QueryResponse selects) = refl
body_number (Event selects) = refl
body_number Heartbeat = refl

proper_number : (message : ℕ) (o : Oper) → ProperOper message o → operation_of message (number_for o) ≡ Some (which o)
proper_number message (oper.Paths kind paths) p = p.0
proper_number message oper.Commit p = p
proper_number message oper.Trcomp p = p
proper_number message (oper.CommitResponse code) p = p

oper_says : (message : ℕ) (o : Oper) → ProperOper message o → (t : List ℕ) → t ≡ name_for o → operation_named message t ≡ Some (which o)
unfolding operation_named
oper_says message o p t e = ap (operation_named message) e ∙ ap (λ n. given n (operation_of message)) (oper_number o) ∙ proper_number message o p

-- an operation
abbrev under : ℕ → Oper → List Line
under level (oper.Paths kind paths) = flat_map (λ path. path_lines path (level + 1)) paths
under level oper.Commit = []
under level oper.Trcomp = []
under level (oper.CommitResponse code) = code_line (level + 1) code ∷ []

oper_lines_are : (level : ℕ) (o : Oper) → oper_lines level o ≡ name_line level (name_for o) ∷ under level o
oper_lines_are level (oper.Paths kind paths) = refl
oper_lines_are level oper.Commit = refl
oper_lines_are level oper.Trcomp = refl
oper_lines_are level (oper.CommitResponse code) = refl

name_whole : (level : ℕ) (o : Oper) → Whole (name_line level (name_for o))
name_whole level o = alone (name_for o) (oper_word o) [] tt level

pub oper_begins : (level : ℕ) (o : Oper) → Begins level (oper_lines level o)
oper_begins level o = record { first = name_line level (name_for o); more = under level o; is = oper_lines_are level o; level_is = refl; whole = name_whole level o }

under_read : (message level : ℕ) (o : Oper) (texts rest : List (List ℕ)) (taken : ℕ) → ProperOper message o → AreEach SpellsLine (under level o) texts → Before (suc level) rest
    → Gives (operation_at (which o) (level + 1) (lines_left taken (texts ++ rest))) o rest
under_read message level (oper.Paths kind paths) texts rest taken p h b =
    let ps = operation_paths_read kind (level + 1) paths texts rest taken p.1 p.2 h (before_more (suc level) (level + 1) rest (omega arith) b) in
    (ps.0, rw ps.1 refl)
under_read message level oper.Commit [] rest taken p h b = (taken, refl)
under_read message level oper.Commit (t ∷ ts) rest taken p h b = absurd h
under_read message level oper.Trcomp [] rest taken p h b = (taken, refl)
under_read message level oper.Trcomp (t ∷ ts) rest taken p h b = absurd h
under_read message level (oper.CommitResponse code) [] rest taken p h b = absurd h
under_read message level (oper.CommitResponse code) (t ∷ []) rest taken p h b =
    let c = outcome_read (level + 1) code t rest taken h.0 in
    (c.0, rw c.1 refl)
under_read message level (oper.CommitResponse code) (t ∷ s ∷ ts) rest taken p h b = absurd h.1

oper_by : (message level : ℕ) (o : Oper) (texts rest : List (List ℕ)) (taken : ℕ) → ProperOper message o → AreEach SpellsLine (name_line level (name_for o) ∷ under level o) texts → Before (suc level) rest
    → Gives (oper_at message level (lines_left taken (texts ++ rest))) o rest
unfolding oper_at operation_in
oper_by message level o [] rest taken p h b = absurd h
oper_by message level o (t ∷ ts) rest taken p h b =
    let l = begin (name_line level (name_for o)) taken t (ts ++ rest) (name_whole level o) h.0 in
    let w = took (operation_named message) (name (name_for o)) (which o) (oper_says message o p) l.taken l.end l.column [] l.words l.each in
    let z = none_left l.taken l.end w.column w.rest w.each in
    let u = under_read message level o ts rest l.taken p h.1 b in
    (u.0, rw (l.is, w.is, z, u.1) refl)

pub oper_reads : (message level : ℕ) (o : Oper) (texts rest : List (List ℕ)) (taken : ℕ) → ProperOper message o → AreEach SpellsLine (oper_lines level o) texts → Before (suc level) rest
    → Gives (oper_at message level (lines_left taken (texts ++ rest))) o rest
oper_reads message level o texts rest taken p h b = oper_by message level o texts rest taken p (subst (λ l. AreEach SpellsLine l texts) (oper_lines_are level o) h) b

-- an LFBselect
abbrev select_head : ℕ → Select → Line
select_head level s = line level (name (codes "lfb") ∷ digits [] 8 s.class ∷ digits [] 8 s.instance ∷ [])

pub select_whole : (level : ℕ) (s : Select) → Whole (select_head level s)
select_whole level s = alone (codes "lfb") (record { some = omega arith; plain = refl }) (digits [] 8 s.class ∷ digits [] 8 s.instance ∷ []) ((refl, omega arith), ((refl, omega arith), tt)) level

pub select_begins : (level : ℕ) (s : Select) → Begins level (select_lines level s)
select_begins level s = record { first = select_head level s; more = flat_map (oper_lines (level + 1)) s.opers; is = refl; level_is = refl; whole = select_whole level s }

pub select_reads : (message level : ℕ) (s : Select) (texts rest : List (List ℕ)) (taken : ℕ) → ProperSelect message s → AreEach SpellsLine (select_lines level s) texts → Before (suc level) rest
    → Gives (select_at message level (lines_left taken (texts ++ rest))) s rest
unfolding select_at
select_reads message level s [] rest taken p h b = absurd h
select_reads message level s (t ∷ ts) rest taken p h b =
    let l = begin (select_head level s) taken t (ts ++ rest) (select_whole level s) h.0 in
    let w = took_name (codes "lfb") l.taken l.end l.column (digits [] 8 s.class ∷ digits [] 8 s.instance ∷ []) l.words l.each in
    let c = took_digits 8 s.class l.taken l.end w.column (digits [] 8 s.instance ∷ []) w.rest w.each in
    let i = took_digits 8 s.instance l.taken l.end c.column [] c.rest c.each in
    let z = none_left l.taken l.end i.column i.rest i.each in
    let os = some_reads (oper_lines (level + 1)) (ProperOper message) (oper_at message (level + 1)) (level + 1) (oper_begins (level + 1)) (oper_reads message (level + 1)) s.opers l.taken ts rest p.1 p.2 h.1 (before_more (suc level) (level + 1) rest (omega arith) b) in
    (os.0, rw (l.is, w.is, c.is, i.is, z, os.1) refl)

-- the body of a message
number_read : (text : List ℕ) (k : ℕ) (texts rest : List (List ℕ)) (taken : ℕ) → IsWord text → AreEach SpellsLine (number_line text k ∷ []) texts → Gives (number_at text (lines_left taken (texts ++ rest))) k rest
unfolding number_at
number_read text k [] rest taken is h = absurd h
number_read text k (t ∷ s ∷ ts) rest taken is h = absurd h.1
number_read text k (t ∷ []) rest taken is h =
    let l = begin (number_line text k) taken t rest (alone text is (number k ∷ []) (tt, tt) 1) h.0 in
    let w = took_name text l.taken l.end l.column (number k ∷ []) l.words l.each in
    let n = took_number k l.taken l.end w.column [] w.rest w.each in
    let z = none_left l.taken l.end n.column n.rest n.each in
    (l.taken, rw (l.is, w.is, n.is, z) refl)

module _ (kind : ℕ) (ss : List Select) (texts rest : List (List ℕ)) (taken : ℕ) (h : AreEach SpellsLine (flat_map (select_lines 1) ss) texts) (b : Before 1 rest) where
  any_selects : AllByRecursion (ProperSelect kind) ss → Gives (many_at 1 (select_at kind 1) (lines_left taken (texts ++ rest))) ss rest
  any_selects p = many_reads (select_lines 1) (ProperSelect kind) (select_at kind 1) 1 (select_begins 1) (select_reads kind 1) ss taken texts rest p h b

  some_selects : ProperSelects kind ss → Gives (some_at 1 (select_at kind 1) (lines_left taken (texts ++ rest))) ss rest
  some_selects p = some_reads (select_lines 1) (ProperSelect kind) (select_at kind 1) 1 (select_begins 1) (select_reads kind 1) ss taken texts rest p.0 p.1 h b

pub content_read : (body : MsgBody) (texts rest : List (List ℕ)) (taken : ℕ) → ProperMsgBody body → AreEach SpellsLine (content_lines body) texts → Before 1 rest
    → Gives (content_at (kind_of body) (lines_left taken (texts ++ rest))) body rest
unfolding content_at
content_read (Setup ss) texts rest taken p h b = let s = any_selects 1 ss texts rest taken h b p in (s.0, rw s.1 refl)
content_read (SetupResponse n) texts rest taken p h b = let s = number_read (codes "result") n texts rest taken (record { some = omega arith; plain = refl }) h in (s.0, rw s.1 refl)
content_read (Teardown n) texts rest taken p h b = let s = number_read (codes "reason") n texts rest taken (record { some = omega arith; plain = refl }) h in (s.0, rw s.1 refl)
content_read (Config ss) texts rest taken p h b = let s = some_selects 3 ss texts rest taken h b p in (s.0, rw s.1 refl)
content_read (ConfigResponse ss) texts rest taken p h b = let s = some_selects 19 ss texts rest taken h b p in (s.0, rw s.1 refl)
content_read (Query ss) texts rest taken p h b = let s = some_selects 4 ss texts rest taken h b p in (s.0, rw s.1 refl)
content_read (QueryResponse ss) texts rest taken p h b = let s = some_selects 20 ss texts rest taken h b p in (s.0, rw s.1 refl)
content_read (Event ss) texts rest taken p h b = let s = some_selects 5 ss texts rest taken h b p in (s.0, rw s.1 refl)
content_read Heartbeat [] rest taken p h b = (taken, refl)
content_read Heartbeat (t ∷ ts) rest taken p h b = absurd h

-- the line of a header
pub head_whole : (m : Message) → Whole (head_line m)
head_whole m = record {
  some = omega arith;
  named = (body_word m.body, ((refl, omega arith), ((refl, omega arith), ((refl, omega arith), (tt, tt)))));
}

abbrev head_words : Message → ℕ → Head
head_words m word = record { kind = kind_of m.body; source = m.source; dest = m.dest; corr = m.corr; flags = word }

flags_back : (values : FlagValues) (ws : List Word) (texts : List (List ℕ)) → AreEach SpellsWord (flags values ∷ ws) texts → (n : ℕ) × (values ≡ flags_in n) × AreEach SpellsWord (digits (codes "flags=") 8 n ∷ ws) texts
flags_back values ws [] h = absurd h
flags_back values ws (t ∷ ts) h = (h.0.0, h.0.1, (h.0.2, h.1))

head_read : (m : Message) (t : List ℕ) (rest : List (List ℕ)) (taken : ℕ) → SpellsLine (head_line m) t → (word : ℕ) × (m.flags ≡ flags_in word) × Gives (head_at (lines_left taken (t ∷ rest))) (head_words m word) rest
unfolding head_at type_in
head_read m t rest taken h =
    let l = begin (head_line m) taken t rest (head_whole m) h in
    let kind = took message_named (name (body_name m.body)) (kind_of m.body) (λ t e. ap message_named e ∙ body_number m.body) l.taken l.end l.column
    (digits (codes "from=") 8 m.source ∷ digits (codes "to=") 8 m.dest ∷ digits (codes "corr=") 16 m.corr ∷ flags m.flags ∷ []) l.words l.each in
    let source = took_labelled (codes "from=") 8 m.source l.taken l.end kind.column (digits (codes "to=") 8 m.dest ∷ digits (codes "corr=") 16 m.corr ∷ flags m.flags ∷ []) kind.rest kind.each in
    let dest = took_labelled (codes "to=") 8 m.dest l.taken l.end source.column (digits (codes "corr=") 16 m.corr ∷ flags m.flags ∷ []) source.rest source.each in
    let corr = took_labelled (codes "corr=") 16 m.corr l.taken l.end dest.column (flags m.flags ∷ []) dest.rest dest.each in
    let back = flags_back m.flags [] corr.rest corr.each in
    let word = took_labelled (codes "flags=") 8 back.0 l.taken l.end corr.column [] corr.rest back.2 in
    let z = none_left l.taken l.end word.column word.rest word.each in
    (back.0, back.1, (l.taken, rw (l.is, kind.is, source.is, dest.is, corr.is, word.is, z) (refl {a = Ok (head_words m back.0, lines_left l.taken rest)})))

-- a message
shut_read : (taken : ℕ) (rest : List (List ℕ)) → Before 1 rest → shut (lines_left taken rest) ≡ Ok tt
unfolding shut closed
shut_read taken [] b = refl
shut_read taken (l ∷ ls) (k, less, e) = let none : (spaces_before l == 2 * 0) ≡ true = eq-eqb (spaces_before l) (2 * 0) (omega (arith, less, e)) in rw none refl

abbrev pub IsTaken : Message → Type 0
IsTaken m = IsProper m × (message_fits m ≡ true)

pub message_begins : (m : Message) → Begins 0 (message_lines m)
message_begins m = record { first = head_line m; more = content_lines m.body; is = refl; level_is = refl; whole = head_whole m }

whole_same : (m : Message) (word : ℕ) → m.flags ≡ flags_in word → message_of (head_words m word) m.body ≡ m
whole_same m word e = ap (λ (f : FlagValues). record { source = m.source; dest = m.dest; corr = m.corr; flags = f; body = m.body }) (sym e)

pub whole_read : (m : Message) (t : List ℕ) (ts rest : List (List ℕ)) (taken : ℕ) → IsProper m → SpellsLine (head_line m) t → AreEach SpellsLine (content_lines m.body) ts → Before 1 rest
    → Gives (whole_at (lines_left taken (t ∷ (ts ++ rest)))) m rest
unfolding whole_at
whole_read m t ts rest taken p h c b =
    let head = head_read m t (ts ++ rest) taken h in
    let body = content_read m.body ts rest head.2.0 p.body c b in
    let z = shut_read body.0 rest b in
    (body.0, rw (head.2.1, body.1, z) (ap (λ m. Ok (m, lines_left body.0 rest)) (whole_same m head.0 head.1)))

pub message_reads : (m : Message) (texts rest : List (List ℕ)) (taken : ℕ) → IsTaken m → AreEach SpellsLine (message_lines m) texts → Before 1 rest → Gives (message_at (lines_left taken (texts ++ rest))) m rest
unfolding message_at
message_reads m [] rest taken p h b = absurd h
message_reads m (t ∷ ts) rest taken p h b =
    let w = whole_read m t ts rest taken p.0 h.0 h.1 b in
    (w.0, rw (w.1, p.1) refl)

pub both_all : (ms : List Message) → AllByRecursion IsProper ms → AllByRecursion (λ m. message_fits m ≡ true) ms → AllByRecursion IsTaken ms
both_all [] p f = tt
both_all (m ∷ ms) p f = ((p.0, f.0), both_all ms p.1 f.1)

all_read : (ms : List Message) (texts : List (List ℕ)) → AllByRecursion IsTaken ms → AreEach SpellsLine (flat_map message_lines ms) texts → Gives (many_at 0 message_at (lines_left 0 texts)) ms []
all_read ms texts p h =
    let r = many_reads message_lines IsTaken message_at 0 message_begins message_reads ms 0 texts [] p h tt in
    (r.0, ap (λ l. many_at 0 message_at (lines_left 0 l)) (sym (append-nil texts)) ∙ r.1)

-- a text, by its lines
pub text_by : (ms : List Message) (texts : List (List ℕ)) (bytes : List ℕ) → AllByRecursion IsTaken ms → AreEach SpellsLine (flat_map message_lines ms) texts → lines_of bytes ≡ texts → text_in bytes ≡ Ok ms
unfolding text_in closed
text_by ms texts bytes p h e =
    let r = all_read ms texts p h in
    let same : text_lines bytes ≡ lines_left 0 texts = ap (lines_left 0) e in
    rw (same, r.1) refl
