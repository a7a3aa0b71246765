-- Where a text is refused nothing fits that is the same before that place and at it, and the place is within the text.
use Rattle.std.proofs.Common.{◌≡◌, ◌≤◌, ◌+◌, ◌-◌, ℕ, Bool, true, false, cond, slice_index_or, List, [], ◌∷◌, ◌++◌, length, take, drop, Result, Ok, Err, ◌⊎◌, inl, inr, append-nil, length-append, refl, sym, ap, subst, ◌∙◌, arith}
use Rattle.std.specs.List.{flat_map, AllByRecursion}
use Rattle.std.proofs.lemmas.List.{take_at, drop_at, get_or-append_right, take-append-drop}
use Rattle.fc_path.specs.declared.oper.Select.{Select}
use Rattle.fc_msg.specs.Messages.{IsProper}
use Rattle.fc_msg.specs.declared.message.Message.{Message}
use Rattle.fc_text.specs.FirstMisfit.{RestAt, TextsAt, FitsMessages, FitsSelects, IsColumn, IsWithin, TooLongAt}
use Rattle.fc_lines.specs.LineWords.{LinesLeft, lines_of, lines_left, text_lines, none_left, closed}
use Rattle.fc_text.specs.TextGrammar.{message_lines, SpellsLine, AreEach}
use Rattle.fc_base.specs.Answers.{◌>>=◌}
use Rattle.fc_lines.specs.TextPlaces.{TextPlace, place}
use Rattle.fc_lines.specs.LineReading.{Reader}
use Rattle.fc_text.specs.TextReading.{some_at, select_at, whole_at, text_in, body_in}
use Rattle.fc_text.proofs.Completeness.{spelled_body_is_read}
use Rattle.fc_text.proofs.CompletedMessages.{whole_reads}
use Rattle.fc_text.proofs.LongMessages.{all_whole, whole_or_long}
use Rattle.fc_text.proofs.PlainWords.{lines_are}
use Rattle.fc_text.proofs.ReadFront.{none_looks, wholes_front, some_selects_front}
use Rattle.fc_text.proofs.ReadItems.{many_reads}
use Rattle.fc_text.proofs.ReadMessages.{message_begins}
use Rattle.fc_text.proofs.ReaderRefusals.{wholes_fails, some_selects_fails}
use Rattle.fc_text.proofs.Refusals.{Fails, first_line, bind_err, fails_as_at, fails_bind, fails_choice, fails_pure, fails_here}
use Rattle.fc_text.proofs.SplitLines.{lines_back}
use Rattle.fc_text.proofs.WholeLines.{messages_whole}

-- the end of the text
abbrev closed_with : {X : Type 0} → X → Reader X
closed_with x left = closed left >>= λ u. Ok (x, left)

abbrev closed_by : {X : Type 0} → X → Reader X
closed_by x left = cond (none_left left.lines) (Ok (x, left)) (Err (place (left.taken + 1) 1))

closed_is : {X : Type 0} (x : X) (left : LinesLeft) → closed_with x left ≡ closed_by x left
unfolding closed
closed_is {X = X} x left = by (none_left left.lines)
  where
    by : (t : Bool) → ◌>>=◌ {A = Unit {0}} {B = X × LinesLeft} (cond t (Ok tt) (Err (place (left.taken + 1) 1))) (λ u. Ok (x, left)) ≡ cond t (Ok (x, left)) (Err (place (left.taken + 1) 1))
    by true = refl
    by false = refl

closed_fails : {X : Type 0} (x : X) → Fails (closed_with x)
closed_fails x left p e =
    fails_as_at (closed_with x) (closed_by x) left p (closed_is x) (fails_choice none_left none_looks fails_pure fails_here left p (sym (closed_is x left) ∙ e))

-- whole texts
abbrev selects_at : Reader (List Select)
selects_at left = some_at 0 (select_at 3 0) left >>= λ ss. closed ss.1 >>= λ u. Ok (ss.0, ss.1)

messages_fail : Fails all_whole
unfolding all_whole
messages_fail = fails_bind _ wholes_front wholes_fails λ ms. closed_fails ms

selects_fail : Fails selects_at
selects_fail = fails_bind _ (some_selects_front 3 0) (some_selects_fails 3 0) λ ss. closed_fails ss

module _ {X : Type 0} (read : Reader X) (fails : Fails read) (bytes : List ℕ) (p : TextPlace) (refused : read (text_lines bytes) ≡ Err p) where
  -- it is refused wherever a text is the same before the place and at it
  pub refused_too : (other : List ℕ) → TextsAt p (lines_of bytes) (lines_of other) → read (text_lines other) ≡ Err p
  refused_too other same =
      let a = fails (text_lines bytes) p refused in
      let count : length a.front ≡ p.line - 1 = omega (arith, a.line) in
      let front : take (p.line - 1) (lines_of other) ≡ a.front = sym same.earlier ∙ ap (take (p.line - 1)) a.is ∙ take_at a.front a.back (p.line - 1) count in
      let back : drop (p.line - 1) (lines_of bytes) ≡ a.back = ap (drop (p.line - 1)) a.is ∙ drop_at a.front a.back (p.line - 1) count in
      let at : RestAt p.column a.back (drop (p.line - 1) (lines_of other)) = subst (λ l. RestAt p.column l (drop (p.line - 1) (lines_of other))) back same.rest in
      let all : lines_of other ≡ a.front ++ drop (p.line - 1) (lines_of other) = sym (take-append-drop (p.line - 1) (lines_of other)) ∙ ap (λ l. l ++ drop (p.line - 1) (lines_of other)) front in
      ap (λ l. read (lines_left 0 l)) all ∙ a.again (drop (p.line - 1) (lines_of other)) at

  -- the place is within the text
  pub refused_within : IsWithin p bytes
  refused_within =
      let a = fails (text_lines bytes) p refused in
      let none : p.line - 1 - length a.front ≡ 0 = omega (arith, a.line) in
      let line : slice_index_or (lines_of bytes) (p.line - 1) [] ≡ first_line a.back =
      ap (λ l. slice_index_or l (p.line - 1) []) a.is
      ∙ get_or-append_right a.front a.back (length a.front) (p.line - 1) [] refl (omega (arith, a.line))
      ∙ ap (λ i. slice_index_or a.back i []) none
      ∙ first_is a.back in
      record {
        first = omega (arith, a.line);
        last = omega (arith, a.line, ap length a.is, length-append a.front a.back);
        left = a.first;
        right = omega (arith, a.last, ap length line);
        stands = subst (IsColumn p.column) (sym line) a.stands;
      }
    where
      first_is : (lines : List (List ℕ)) → slice_index_or lines 0 [] ≡ first_line lines
      first_is [] = refl
      first_is (l ∷ ls) = refl

-- a text that fits is read
messages_by : (ms : List Message) (texts : List (List ℕ)) (other : List ℕ) → AllByRecursion IsProper ms → AreEach SpellsLine (flat_map message_lines ms) texts → lines_of other ≡ texts
    → (rest : LinesLeft) × (all_whole (text_lines other) ≡ Ok (ms, rest))
unfolding all_whole closed
messages_by ms texts other proper each e =
    let (n, is) = many_reads message_lines IsProper whole_at 0 message_begins whole_reads ms 0 texts [] proper each tt in
    let same : text_lines other ≡ lines_left 0 (texts ++ []) = ap (lines_left 0) (e ∙ sym (append-nil texts)) in
    (lines_left n [], rw (same, is) refl)

messages_read : (other : List ℕ) → FitsMessages other → (ms : List Message) × (rest : LinesLeft) × (all_whole (text_lines other) ≡ Ok (ms, rest))
messages_read other (ms, (texts, each, are), proper) =
    let read = messages_by ms texts other proper each (lines_back texts other (lines_are (flat_map message_lines ms) texts (messages_whole ms proper) each) are) in
    (ms, read.0, read.1)

-- a text of LFBselects is read as its lines are
selects_then : (r : Result (List Select × LinesLeft) TextPlace) → ◌>>=◌ {B = List Select} r (λ s. closed s.1 >>= λ u. Ok s.0) ≡ ◌>>=◌ {B = List Select} (◌>>=◌ {B = List Select × LinesLeft} r (λ s. closed s.1 >>= λ u. Ok (s.0, s.1))) (λ s. Ok s.0)
selects_then (Err p) = refl
selects_then (Ok s) = by (closed s.1)
  where
    by : (c : Result (Unit {0}) TextPlace) → ◌>>=◌ {B = List Select} c (λ u. Ok s.0) ≡ ◌>>=◌ {B = List Select} (◌>>=◌ {B = List Select × LinesLeft} c (λ u. Ok (s.0, s.1))) (λ s. Ok s.0)
    by (Ok u) = refl
    by (Err p) = refl

body_is : (bytes : List ℕ) → body_in bytes ≡ (selects_at (text_lines bytes) >>= λ s. Ok s.0)
unfolding body_in
body_is bytes = selects_then (some_at 0 (select_at 3 0) (text_lines bytes))

body_refused : (bytes : List ℕ) (p : TextPlace) → body_in bytes ≡ Err p → selects_at (text_lines bytes) ≡ Err p
body_refused bytes p e = bind_err (selects_at (text_lines bytes)) (λ s. Ok s.0) p (sym (body_is bytes) ∙ e) (λ is. is) (λ s is more. absurd cc)

-- the laws
pub messages_misfit : (bytes : List ℕ) (p : TextPlace) → all_whole (text_lines bytes) ≡ Err p → (other : List ℕ) → TextsAt p (lines_of bytes) (lines_of other) → FitsMessages other → ⊥
messages_misfit bytes p e other same fits =
    let (ms, rest, read) = messages_read other fits in
    let refused = refused_too all_whole messages_fail bytes p e other same in
    both (ms, rest) (sym read ∙ refused)
  where
    both : (x : List Message × LinesLeft) → ◌≡◌ {A = Result (List Message × LinesLeft) TextPlace} (Ok x) (Err p) → ⊥
    both x e = cc

messages_within : (bytes : List ℕ) (p : TextPlace) → all_whole (text_lines bytes) ≡ Err p → IsWithin p bytes
messages_within bytes p e = refused_within all_whole messages_fail bytes p e

-- the first line of a message that can't be encoded stands in the text
long_within : (bytes : List ℕ) (p : TextPlace) → TooLongAt p bytes → IsWithin p bytes
long_within bytes p t =
    let some : length t.front ≤ length (lines_of bytes) = omega (arith, ap length t.lines, length-append t.front (t.own ++ t.back)) in
    record {
      first = omega (arith, t.line);
      last = omega (arith, t.line, some);
      left = omega (arith, t.column);
      right = omega (arith, t.column);
      stands = inl t.column;
    }

pub text_within : (bytes : List ℕ) (p : TextPlace) → text_in bytes ≡ Err p → IsWithin p bytes
text_within bytes p e = by (whole_or_long bytes p e)
  where
    by : (all_whole (text_lines bytes) ≡ Err p) ⊎ TooLongAt p bytes → IsWithin p bytes
    by (inl is) = messages_within bytes p is
    by (inr t) = long_within bytes p t

pub body_misfit : (bytes : List ℕ) (p : TextPlace) → body_in bytes ≡ Err p → (other : List ℕ) → TextsAt p (lines_of bytes) (lines_of other) → FitsSelects other → ⊥
body_misfit bytes p e other same (ss, spelled) =
    let refused = refused_too selects_at selects_fail bytes p (body_refused bytes p e) other same in
    both (sym (spelled_body_is_read ss other spelled) ∙ body_is other ∙ ap (λ r. r >>= λ s. Ok s.0) refused)
  where
    both : ◌≡◌ {A = Result (List Select) TextPlace} (Ok ss) (Err p) → ⊥
    both e = cc

pub body_within : (bytes : List ℕ) (p : TextPlace) → body_in bytes ≡ Err p → IsWithin p bytes
body_within bytes p e = refused_within selects_at selects_fail bytes p (body_refused bytes p e)
