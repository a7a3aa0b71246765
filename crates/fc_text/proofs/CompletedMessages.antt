-- Messages go on with other lines where they fail.
use Rattle.std.proofs.Common.{◌≡◌, ◌+◌, ℕ, suc, Bool, true, false, cond, List, [], ◌∷◌, ◌++◌, codes, Some, Result, Ok, Err, refl, sym, ap, subst, ◌∙◌, arith}
use Rattle.fc_path.specs.Kinds.{holds_selects, operation_of}
use Rattle.fc_path.specs.Proper.{ProperOper, ProperSelect}
use Rattle.fc_path.specs.declared.kinds.Operation.{Operation}
use Rattle.fc_path.specs.declared.kinds.Operation.TheVariants as operation
use Rattle.fc_path.specs.declared.oper.OperKind.TheVariants as kinds
use Rattle.fc_path.specs.declared.oper.Oper.TheVariants as oper
use Rattle.fc_msg.specs.Bodies.{holding}
use Rattle.fc_msg.specs.Messages.{IsProper, ProperMsgBody, kind_of}
use Rattle.fc_msg.specs.declared.message.Message.{Message}
use Rattle.fc_msg.specs.declared.message.MsgBody.{MsgBody}
use Rattle.fc_msg.specs.declared.message.MsgBody.TheVariants.{Setup, SetupResponse, Teardown, Heartbeat}
use Rattle.fc_text.specs.FirstMisfit.{RestBefore}
use Rattle.fc_lines.specs.LineWords.{WordsLeft, LinesLeft, lines_left, line_at, stands_at, none_left, closed, word_in, exactly, labelled_in, ended as words_ended}
use Rattle.fc_text.specs.TextGrammar.{oper_lines, select_lines, content_lines, message_lines, SpellsLine, AreEach}
use Rattle.fc_base.specs.Answers.{◌>>=◌}
use Rattle.fc_lines.specs.TextPlaces.{TextPlace, place}
use Rattle.fc_lines.specs.WordValues.{digits_of}
use Rattle.fc_lines.specs.declared.said.Head.{Head}
use Rattle.fc_lines.specs.LineReading.{Reader, code_in, outcome_at, number_named, operation_named, operation_in, number_at, message_named, type_in, head_at}
use Rattle.fc_lines.specs.LineReading.{shut}
use Rattle.fc_text.specs.TextReading.{many_at, some_at, operation_paths_at, operation_at, oper_at, select_at, content_at, message_of, whole_at}
use Rattle.fc_text.proofs.Completions.{same_place, word_goes, ended_goes}
use Rattle.fc_text.proofs.CompletedLines.{SameTo, Ended, Behind, Completes, CompletesLine, line_goes, done_goes, map_goes, same_goes, pure_err}
use Rattle.fc_text.proofs.CompletedItems.{ReadsAgain, GoesBehind, again_by, IsItem, then_goes, many_goes, some_goes}
use Rattle.fc_text.proofs.CompletedWords.{name_goes, number_goes, digits_goes, labelled_goes, final_goes, code_goes, code_words}
use Rattle.fc_text.proofs.CompletedPaths.{counted, line_stands, operation_paths_go}
use Rattle.fc_text.proofs.ReadFront.{oper_front, select_front, content_front, whole_front}
use Rattle.fc_text.proofs.ReadItems.{Before}
use Rattle.fc_text.proofs.ReadLines.{Gives}
use Rattle.fc_text.proofs.ReadMessages.{word_by, oper_reads, select_reads, body_number, content_read, whole_read}
use Rattle.fc_text.proofs.SoundMessages.{table_sound, numbers, named_in_table, types, types_in_table, oper_sound, select_sound, content_sound, whole_sound}
use Rattle.fc_text.proofs.SoundValues.{given_some, same_some}
use Rattle.fc_text.proofs.SoundWords.{Found}
use Rattle.fc_text.proofs.SplitLines.{IsWord}

-- the names of operations
operation_word : (message : ℕ) (t : List ℕ) (o : Operation) → operation_named message t ≡ Some o → IsWord t
unfolding operation_named
operation_word message t o e =
    let (k, first, more) = given_some (number_named t) (operation_of message) o e in
    table_sound (λ t k. IsWord t) numbers t k (
      word_by _ (omega arith) refl,
      (
        word_by _ (omega arith) refl,
        (
          word_by _ (omega arith) refl,
          (
            word_by _ (omega arith) refl,
            (
              word_by _ (omega arith) refl,
              (
                word_by _ (omega arith) refl,
                (
                  word_by _ (omega arith) refl,
                  (word_by _ (omega arith) refl, (word_by _ (omega arith) refl, (word_by _ (omega arith) refl, (word_by _ (omega arith) refl, (word_by _ (omega arith) refl, (word_by _ (omega arith) refl, (word_by _ (omega arith) refl, tt))))))),
                ),
              ),
            ),
          ),
        ),
      ),
    )
    (sym (named_in_table t) ∙ first)

-- a message in which an operation may stand
pub record HasOperation (message : ℕ) : Type 0 where
  pub name : List ℕ
  pub operation : Operation
  pub is : operation_named message name ≡ Some operation

pub setup_has : HasOperation 1
unfolding operation_named number_named
setup_has = record { name = codes "REPORT"; operation = operation.Paths kinds.Report; is = refl }

pub config_has : HasOperation 3
unfolding operation_named number_named
config_has = record { name = codes "SET"; operation = operation.Paths kinds.Set; is = refl }

query_has : HasOperation 4
unfolding operation_named number_named
query_has = record { name = codes "GET"; operation = operation.Paths kinds.Get; is = refl }

event_has : HasOperation 5
unfolding operation_named number_named
event_has = record { name = codes "REPORT"; operation = operation.Paths kinds.Report; is = refl }

config_response_has : HasOperation 19
unfolding operation_named number_named
config_response_has = record { name = codes "SET-RESPONSE"; operation = operation.Paths kinds.SetResponse; is = refl }

query_response_has : HasOperation 20
unfolding operation_named number_named
query_response_has = record { name = codes "GET-RESPONSE"; operation = operation.Paths kinds.GetResponse; is = refl }

-- an operation
outcome_goes : (level : ℕ) → Completes (outcome_at level)
unfolding outcome_at exactly word_in
outcome_goes level =
    line_goes level _ (λ n e left. refl)
    (name_goes Ended Behind (codes "code") (word_by _ (omega arith) refl) _ (final_goes Ended Behind code_in code_goes code_words _ λ code. done_goes code))

operation_goes : (which : Operation) (level : ℕ) → Completes (operation_at which level)
operation_goes (operation.Paths kind) level = map_goes (operation_paths_at kind level) (oper.Paths kind) (operation_paths_go kind level)
operation_goes operation.Commit level = done_goes oper.Commit
operation_goes operation.Trcomp level = done_goes oper.Trcomp
operation_goes operation.CommitResponse level = map_goes (outcome_at level) oper.CommitResponse (outcome_goes level)

oper_item : (message level : ℕ) → HasOperation message → IsItem level (oper_at message level)
unfolding oper_at operation_in word_in
oper_item message level has = record {
  goes = line_goes level _ (λ n e left. refl)
      (word_goes Ended Behind (operation_named message) _ (operation_word message) (λ t which e. ended_goes Ended Behind _ (operation_goes which (level + 1))) has.name has.operation has.is);
  again = again_by (suc level) (oper_at message level) (oper_lines level) (ProperOper message) (oper_sound message level) (oper_reads message level) (counted (oper_at message level) (oper_front message level));
  stands = λ left x rest e. line_stands level left _ (x, rest) e;
}

-- an LFBselect
pub select_item : (message level : ℕ) → holds_selects message ≡ true → HasOperation message → IsItem level (select_at message level)
unfolding select_at exactly word_in digits_of
select_item message level holds has = record {
  goes = line_goes level _ (λ n e left. refl)
      (name_goes Ended Behind (codes "lfb") (word_by _ (omega arith) refl) _
      (digits_goes Ended Behind 8 (codes "00000000") (omega arith) refl _ λ class.
      digits_goes Ended Behind 8 (codes "00000000") (omega arith) refl _ λ instance.
      ended_goes Ended Behind _
      (map_goes (some_at (level + 1) (oper_at message (level + 1))) (λ opers. record { class = class; instance = instance; opers = opers })
      (some_goes (level + 1) (oper_at message (level + 1)) (oper_item message (level + 1) has)))));
  again = again_by (suc level) (select_at message level) (select_lines level) (ProperSelect message) (select_sound message level holds) (select_reads message level) (counted (select_at message level) (select_front message level));
  stands = λ left x rest e. line_stands level left _ (x, rest) e;
}

-- the body of a message
number_line_goes : (text : List ℕ) → IsWord text → Completes (number_at text)
unfolding number_at exactly word_in
number_line_goes text is = line_goes 1 _ (λ n e left. refl) (name_goes Ended Behind text is _ (number_goes Ended Behind _ λ n. ended_goes Ended Behind _ (done_goes n)))

some_content : (kind : ℕ) → holds_selects kind ≡ true → HasOperation kind → Completes {X = MsgBody} (λ left. some_at 1 (select_at kind 1) left >>= λ s. Ok (holding kind s.0, s.1))
some_content kind holds has = map_goes (some_at 1 (select_at kind 1)) (holding kind) (some_goes 1 (select_at kind 1) (select_item kind 1 holds has))

content_goes : (text : List ℕ) (kind : ℕ) → message_named text ≡ Some kind → Completes (content_at kind)
unfolding content_at
content_goes text kind e =
    table_sound (λ t kind. Completes (content_at kind)) types text kind (
      done_goes Heartbeat,
      (
        some_content 3 refl config_has,
        (
          some_content 19 refl config_response_has,
          (
            some_content 4 refl query_has,
            (
              some_content 20 refl query_response_has,
              (
                some_content 5 refl event_has,
                (
                  map_goes (many_at 1 (select_at 1 1)) Setup (many_goes 1 (select_at 1 1) (select_item 1 1 refl setup_has)),
                  (
                    map_goes (number_at (codes "result")) SetupResponse (number_line_goes (codes "result") (word_by _ (omega arith) refl)),
                    (map_goes (number_at (codes "reason")) Teardown (number_line_goes (codes "reason") (word_by _ (omega arith) refl)), tt),
                  ),
                ),
              ),
            ),
          ),
        ),
      ),
    )
    (sym (types_in_table text) ∙ e)

abbrev IsBodyOf : ℕ → MsgBody → Type 0
IsBodyOf kind b = ProperMsgBody b × (kind_of b ≡ kind)

content_again : (text : List ℕ) (kind : ℕ) → message_named text ≡ Some kind → ReadsAgain 1 (content_at kind)
content_again text kind named = again_by 1 (content_at kind) content_lines (IsBodyOf kind) sound reads (counted (content_at kind) (content_front kind))
  where
    sound : (left : LinesLeft) (b : MsgBody) (rest : LinesLeft) → content_at kind left ≡ Ok (b, rest) → Found (content_lines b) left rest × IsBodyOf kind b
    sound left b rest e =
        let s = content_sound text kind named left b rest e in
        (s.1, (s.2, same_some (kind_of b) kind (sym (body_number b) ∙ ap message_named (sym s.0) ∙ named)))

    reads : (b : MsgBody) (texts rest : List (List ℕ)) (taken : ℕ) → IsBodyOf kind b → AreEach SpellsLine (content_lines b) texts → Before 1 rest → Gives (content_at kind (lines_left taken (texts ++ rest))) b rest
    reads b texts rest taken p h before = subst (λ k. Gives (content_at k (lines_left taken (texts ++ rest))) b rest) p.1 (content_read b texts rest taken p.0 h before)

-- behind a message another begins, or the text ends
none_behind : (lines : List (List ℕ)) (column : ℕ) → column ≡ 1 → RestBefore column lines []
none_behind [] column e = tt
none_behind (l ∷ ls) column e = e

pub nothing_more : (left : LinesLeft) (p : TextPlace) → place (left.taken + 1) 1 ≡ p → SameTo left.taken p left.lines []
nothing_more left p at = record {
  front = [];
  back = left.lines;
  more = [];
  is = refl;
  other = refl;
  line = omega (arith, ap (λ (p : TextPlace). p.line) at);
  rest = none_behind left.lines p.column (sym (ap (λ (p : TextPlace). p.column) at));
}

pub closed_err : (left : LinesLeft) (p : TextPlace) → closed left ≡ Err p → place (left.taken + 1) 1 ≡ p
unfolding closed
closed_err left p e = by (none_left left.lines) e
  where
    by : (t : Bool) → cond {A = Result (Unit {0}) TextPlace} t (Ok tt) (Err (place (left.taken + 1) 1)) ≡ Err p → place (left.taken + 1) 1 ≡ p
    by true e = cc
    by false e = same_place (place (left.taken + 1) 1) p e

shut_err : (left : LinesLeft) (p : TextPlace) → shut left ≡ Err p → place (left.taken + 1) 1 ≡ p
unfolding shut
shut_err left p e = by (stands_at 0 left.lines) e
  where
    by : (t : Bool) → cond {A = Result (Unit {0}) TextPlace} t (Ok tt) (closed left) ≡ Err p → place (left.taken + 1) 1 ≡ p
    by true e = cc
    by false e = closed_err left p e

shut_behind : (h : Head) → GoesBehind 1 (λ (b : MsgBody × LinesLeft). shut b.1 >>= λ _. Ok (message_of h b.0, b.1))
unfolding shut closed
shut_behind h = record {
  ends = λ b. (message_of h b, λ taken. (taken, refl));
  goes = λ b left p e. ([], message_of h b, (λ taken. (taken, refl)), nothing_more left p (shut_err left p (pure_err {B = Message × LinesLeft} (shut left) (λ u. (message_of h b, left)) p e)), tt);
}

-- a message, line by line
in_two_by : {A B C : Type 0} (r : Result A TextPlace) (f : A → Result B TextPlace) (g : B → Result C TextPlace) (h : A → Result C TextPlace) → ((a : A) → (f a >>= g) ≡ h a) → ((r >>= f) >>= g) ≡ (r >>= h)
in_two_by (Ok a) f g h e = e a
in_two_by (Err p) f g h e = refl

abbrev head : ℕ → ℕ → ℕ → ℕ → ℕ → Head
head kind source dest corr word = record { kind = kind; source = source; dest = dest; corr = corr; flags = word }

abbrev behind_head : Head → Reader Message
behind_head h left = content_at h.kind left >>= λ b. shut b.1 >>= λ _. Ok (message_of h b.0, b.1)

abbrev by_words : WordsLeft × LinesLeft → Result (Message × LinesLeft) TextPlace
by_words l =
    type_in l.0 >>= λ kind. labelled_in (codes "from=") 8 kind.1 >>= λ source. labelled_in (codes "to=") 8 source.1 >>= λ dest. labelled_in (codes "corr=") 16 dest.1 >>= λ corr. labelled_in (codes "flags=") 8 corr.1
    >>= λ flags. words_ended flags.1 >>= λ _. behind_head (head kind.0 source.0 dest.0 corr.0 flags.0) l.1

whole_by_words : (left : LinesLeft) → whole_at left ≡ (line_at 0 left >>= λ l. by_words l)
unfolding whole_at head_at
whole_by_words left =
    in_two_by (line_at 0 left) _ _ _ λ l. in_two_by (type_in l.0) _ _ _ λ kind. in_two_by (labelled_in (codes "from=") 8 kind.1) _ _ _ λ source. in_two_by (labelled_in (codes "to=") 8 source.1) _ _ _ λ dest.
    in_two_by (labelled_in (codes "corr=") 16 dest.1) _ _ _ λ corr. in_two_by (labelled_in (codes "flags=") 8 corr.1) _ _ _ λ flags. in_two_by (words_ended flags.1) _ _ _ λ u. refl

type_word : (t : List ℕ) (kind : ℕ) → message_named t ≡ Some kind → IsWord t
type_word t kind e =
    table_sound (λ t k. IsWord t) types t kind (
      word_by _ (omega arith) refl,
      (word_by _ (omega arith) refl, (word_by _ (omega arith) refl, (word_by _ (omega arith) refl, (word_by _ (omega arith) refl, (word_by _ (omega arith) refl, (word_by _ (omega arith) refl, (word_by _ (omega arith) refl, (word_by _ (omega arith) refl, tt)))))))),
    )
    (sym (types_in_table t) ∙ e)

behind_goes : (text : List ℕ) (h : Head) → message_named text ≡ Some h.kind → Completes (behind_head h)
behind_goes text h named = then_goes 1 (content_at h.kind) _ (content_goes text h.kind named) (content_again text h.kind named) (shut_behind h)

words_go : CompletesLine {X = Message} (λ w left. by_words (w, left))
unfolding type_in digits_of message_named
words_go =
    word_goes Ended Behind message_named _ type_word (λ text kind named.
    labelled_goes Ended Behind (codes "from=") 8 (codes "from=00000000") refl (omega arith) refl _ λ source.
    labelled_goes Ended Behind (codes "to=") 8 (codes "to=00000000") refl (omega arith) refl _ λ dest.
    labelled_goes Ended Behind (codes "corr=") 16 (codes "corr=0000000000000000") refl (omega arith) refl _ λ corr.
    labelled_goes Ended Behind (codes "flags=") 8 (codes "flags=00000000") refl (omega arith) refl _ λ flags.
    ended_goes Ended Behind _ (behind_goes text (head kind source dest corr flags) named)) (codes "Heartbeat") 15 refl

asks_type : (n e : ℕ) (left : LinesLeft) → by_words (record { line = n; end = e; words = [] }, left) ≡ Err (place n e)
unfolding type_in word_in
asks_type n e left = refl

pub whole_goes : Completes whole_at
whole_goes = same_goes (λ left. line_at 0 left >>= λ l. by_words l) whole_at whole_by_words (line_goes 0 by_words asks_type words_go)

pub whole_reads : (m : Message) (texts rest : List (List ℕ)) (taken : ℕ) → IsProper m → AreEach SpellsLine (message_lines m) texts → Before 1 rest → Gives (whole_at (lines_left taken (texts ++ rest))) m rest
whole_reads m [] rest taken p h b = absurd h
whole_reads m (t ∷ ts) rest taken p h b = whole_read m t ts rest taken p h.0 h.1 b

pub whole_item : IsItem 0 whole_at
whole_item = record {
  goes = whole_goes;
  again = again_by 1 whole_at message_lines IsProper whole_sound whole_reads (counted whole_at whole_front);
  stands = λ left m rest e. line_stands 0 left by_words (m, rest) (sym (whole_by_words left) ∙ e);
}
