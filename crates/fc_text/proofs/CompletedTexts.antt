-- What stands before the place at which a text is refused begins a text.
use Rattle.std.proofs.Common.{◌≡◌, ◌<◌, ◌-◌, ℕ, List, [], ◌++◌, length, take, drop, Result, Ok, Err, append-nil, refl, sym, ap, subst, ◌∙◌, arith, inl}
use Rattle.std.specs.List.{flat_map, AllByRecursion}
use Rattle.std.proofs.lemmas.List.{take_at, drop_at}
use Rattle.fc_path.specs.Proper.{ProperSelect}
use Rattle.fc_path.specs.declared.oper.Select.{Select}
use Rattle.fc_msg.specs.Messages.{IsProper}
use Rattle.fc_text.specs.FirstMisfit.{RestBefore, TextsBefore, BeginsText, FitsMessages, FitsSelects}
use Rattle.fc_lines.specs.LineWords.{LinesLeft, lines_of, lines_left, text_lines, closed}
use Rattle.fc_text.specs.TextGrammar.{Line, select_lines, message_lines, SpellsLine, SpellsLines, AreEach, ended}
use Rattle.fc_base.specs.Answers.{◌>>=◌}
use Rattle.fc_lines.specs.TextPlaces.{TextPlace}
use Rattle.fc_lines.specs.LineReading.{Reader}
use Rattle.fc_text.specs.TextReading.{many_at, some_at, select_at, whole_at, body_in}
use Rattle.fc_text.proofs.CompletedLines.{SameTo, Completes, pure_err}
use Rattle.fc_text.proofs.CompletedItems.{GoesBehind, again_by, then_goes, many_goes, some_goes}
use Rattle.fc_text.proofs.CompletedMessages.{config_has, select_item, nothing_more, closed_err, whole_reads, whole_item}
use Rattle.fc_text.proofs.CompletedPaths.{counted}
use Rattle.fc_text.proofs.LongMessages.{all_whole}
use Rattle.fc_text.proofs.PlainWords.{lines_are}
use Rattle.fc_text.proofs.ReadFront.{some_selects_front, whole_front, whole_shrinks, many_front}
use Rattle.fc_text.proofs.ReadItems.{many_reads, some_reads}
use Rattle.fc_text.proofs.ReadMessages.{message_begins, select_begins, select_reads}
use Rattle.fc_text.proofs.SoundMessages.{select_sound, whole_sound, closed_sound}
use Rattle.fc_text.proofs.SoundPaths.{many_sound, some_sound}
use Rattle.fc_text.proofs.SoundWords.{Found, bind_ok}
use Rattle.fc_text.proofs.SplitLines.{lines_back}
use Rattle.fc_text.proofs.WholeLines.{AreWhole, messages_whole, all_selects_whole}

-- the end of the text
closed_behind : {X : Type 0} → GoesBehind {X = X} {Y = X} 0 (λ x. closed x.1 >>= λ _. Ok (x.0, x.1))
unfolding closed
closed_behind {X = X} = record {
  ends = λ x. (x, λ taken. (taken, refl));
  goes = λ x left p e. ([], x, (λ taken. (taken, refl)), nothing_more left p (closed_err left p (pure_err {B = X × LinesLeft} (closed left) (λ u. (x, left)) p e)), tt);
}

all_go : Completes all_whole
unfolding all_whole
all_go =
    then_goes 0 (many_at 0 whole_at) _ (many_goes 0 whole_at whole_item)
    (again_by 0 (many_at 0 whole_at) (flat_map message_lines) (AllByRecursion IsProper) (many_sound message_lines IsProper whole_at whole_sound 0)
    (λ ms texts rest taken p h b. many_reads message_lines IsProper whole_at 0 message_begins whole_reads ms taken texts rest p h b) (counted (many_at 0 whole_at) (many_front 0 whole_at whole_shrinks whole_front)))
    closed_behind

-- the LFBselects of a text
abbrev all_selects : Reader (List Select)
all_selects left = some_at 0 (select_at 3 0) left >>= λ ss. closed ss.1 >>= λ _. Ok (ss.0, ss.1)

abbrev AreSelects : List Select → Type 0
AreSelects ss = AllByRecursion (ProperSelect 3) ss × (0 < length ss)

selects_go : Completes all_selects
selects_go =
    then_goes 0 (some_at 0 (select_at 3 0)) _ (some_goes 0 (select_at 3 0) (select_item 3 0 refl config_has))
    (again_by 0 (some_at 0 (select_at 3 0)) (flat_map (select_lines 0)) AreSelects
    (λ left ss rest e.
    let s = some_sound (select_lines 0) (ProperSelect 3) (select_at 3 0) (select_sound 3 0 refl) 0 left ss rest e in
    (s.0, (s.1, s.2)))
    (λ ss texts rest taken p h b. some_reads (select_lines 0) (ProperSelect 3) (select_at 3 0) 0 (select_begins 0) (select_reads 3 0) ss taken texts rest p.1 p.0 h b)
    (counted (some_at 0 (select_at 3 0)) (some_selects_front 3 0)))
    closed_behind

-- a text of lines
text_of : List (List ℕ) → List ℕ
text_of lines = flat_map ended lines

text_spelled : (ls : List Line) (texts : List (List ℕ)) → AreEach SpellsLine ls texts → SpellsLines ls (text_of texts)
unfolding text_of
text_spelled ls texts h = (texts, h, inl refl)

text_lines_are : (ls : List Line) (texts : List (List ℕ)) → AreWhole ls → AreEach SpellsLine ls texts → lines_of (text_of texts) ≡ texts
unfolding text_of
text_lines_are ls texts whole h = lines_back texts (flat_map ended texts) (lines_are ls texts whole h) (inl refl)

before_by : (p : TextPlace) (all others lines : List (List ℕ)) → SameTo 0 p all others → lines ≡ others → TextsBefore p all lines
before_by p all others lines s e =
    let front = s.front in
    let here : p.line - 1 ≡ length front = omega (arith, s.line) in
    let other : lines ≡ front ++ s.more = e ∙ s.other in
    let taken : (back : List (List ℕ)) (whole : List (List ℕ)) → whole ≡ front ++ back → take (p.line - 1) whole ≡ front = λ back whole is. ap (take (p.line - 1)) is ∙ take_at front back (p.line - 1) (sym here) in
    let left : (back : List (List ℕ)) (whole : List (List ℕ)) → whole ≡ front ++ back → drop (p.line - 1) whole ≡ back = λ back whole is. ap (drop (p.line - 1)) is ∙ drop_at front back (p.line - 1) (sym here) in
    record {
      earlier = taken s.back all s.is ∙ sym (taken s.more lines other);
      rest = subst (λ l. RestBefore p.column l (drop (p.line - 1) lines)) (sym (left s.back all s.is)) (subst (λ l. RestBefore p.column s.back l) (sym (left s.more lines other)) s.rest);
    }

-- lines that were read to their end
read_whole : (ls : List Line) (others : List (List ℕ)) (end : LinesLeft) → Found ls (lines_left 0 others) end → end.lines ≡ [] → AreEach SpellsLine ls others
read_whole ls others end found none = subst (AreEach SpellsLine ls) (sym (found.1 ∙ ap (λ l. found.0 ++ l) none ∙ append-nil found.0)) found.2

pub text_begins : (bytes : List ℕ) (p : TextPlace) → all_whole (text_lines bytes) ≡ Err p → BeginsText FitsMessages p bytes
unfolding all_whole
text_begins bytes p e =
    let d = all_go.completes (text_lines bytes) p e in
    let r = d.2 0 in
    bind_ok (many_at 0 whole_at (lines_left 0 d.0)) (λ ms. closed ms.1 >>= λ _. Ok (ms.0, ms.1)) (d.1, lines_left r.0 []) r.1 λ ms is1 e1.
    bind_ok (closed ms.1) _ (d.1, lines_left r.0 []) e1 λ u is2 e2.
    let (found, proper) = many_sound message_lines IsProper whole_at whole_sound 0 (lines_left 0 d.0) ms.0 ms.1 is1 in
    let each = read_whole (flat_map message_lines ms.0) d.0 ms.1 found (closed_sound ms.1 u is2) in
    (text_of d.0, before_by p (lines_of bytes) d.0 (lines_of (text_of d.0)) d.3 (text_lines_are (flat_map message_lines ms.0) d.0 (messages_whole ms.0 proper) each), (ms.0, text_spelled (flat_map message_lines ms.0) d.0 each, proper))

selects_err : (r : Result (List Select × LinesLeft) TextPlace) (p : TextPlace) → ◌>>=◌ {B = List Select} r (λ ss. closed ss.1 >>= λ _. Ok ss.0) ≡ Err p → ◌>>=◌ {B = List Select × LinesLeft} r (λ ss. closed ss.1 >>= λ _. Ok (ss.0, ss.1)) ≡ Err p
selects_err (Ok ss) p e = ap (λ r. r >>= λ _. Ok (ss.0, ss.1)) (pure_err {B = List Select} (closed ss.1) (λ u. ss.0) p e)
selects_err (Err q) p e = cc

pub body_begins : (bytes : List ℕ) (p : TextPlace) → body_in bytes ≡ Err p → BeginsText FitsSelects p bytes
unfolding body_in
body_begins bytes p e =
    let d = selects_go.completes (text_lines bytes) p (selects_err (some_at 0 (select_at 3 0) (text_lines bytes)) p e) in
    let r = d.2 0 in
    bind_ok (some_at 0 (select_at 3 0) (lines_left 0 d.0)) (λ ss. closed ss.1 >>= λ _. Ok (ss.0, ss.1)) (d.1, lines_left r.0 []) r.1 λ ss is1 e1.
    bind_ok (closed ss.1) _ (d.1, lines_left r.0 []) e1 λ u is2 e2.
    let (found, proper, some) = some_sound (select_lines 0) (ProperSelect 3) (select_at 3 0) (select_sound 3 0 refl) 0 (lines_left 0 d.0) ss.0 ss.1 is1 in
    let each = read_whole (flat_map (select_lines 0) ss.0) d.0 ss.1 found (closed_sound ss.1 u is2) in (
      text_of d.0,
      before_by p (lines_of bytes) d.0 (lines_of (text_of d.0)) d.3 (text_lines_are (flat_map (select_lines 0) ss.0) d.0 (all_selects_whole 3 0 ss.0 proper) each),
      (ss.0, record { lines = text_spelled (flat_map (select_lines 0) ss.0) d.0 each; some = some; proper = proper }),
    )
