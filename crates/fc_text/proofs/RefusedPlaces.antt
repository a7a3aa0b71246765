-- A text is refused at its first misfit, if no message before is one that can't be encoded, and else at the first line of that.
use Rattle.std.proofs.Common.{◌≡◌, ◌+◌, ◌*◌, ℕ, true, List, [], ◌∷◌, ◌++◌, length, Result, Ok, Err, ◌⊎◌, inl, inr, append_assoc, length-append, refl, sym, ap, subst, ◌∙◌, arith, eqb-true}
use Rattle.std.specs.List.{flat_map, AllByRecursion}
use Rattle.fc_path.specs.declared.oper.Select.{Select}
use Rattle.fc_msg.specs.declared.message.Message.{Message}
use Rattle.fc_text.specs.FirstMisfit.{FirstMisfit, FitsMessages, FitsSelects, IsWithin, TooLongAt}
use Rattle.fc_lines.specs.LineWords.{lines_left, text_lines, spaces_before, stands_at, closed}
use Rattle.fc_text.specs.TextGrammar.{message_lines, SpellsLine, AreEach}
use Rattle.fc_base.specs.Answers.{◌>>=◌}
use Rattle.fc_lines.specs.TextPlaces.{TextPlace, place}
use Rattle.fc_text.specs.TextReading.{many_at, message_at, text_in, body_in}
use Rattle.fc_text.proofs.CompletedMessages.{whole_reads}
use Rattle.fc_text.proofs.CompletedTexts.{text_begins, body_begins}
use Rattle.fc_text.proofs.LongMessages.{all_whole, long_err, whole_or_long}
use Rattle.fc_text.proofs.Misfits.{messages_misfit, body_misfit, text_within, body_within}
use Rattle.fc_text.proofs.OneMisfit.{texts_same, one_messages, one_selects}
use Rattle.fc_text.proofs.ReadFront.{many_step, message_front, message_shrinks}
use Rattle.fc_text.proofs.ReadItems.{Before, each_split, stands}
use Rattle.fc_text.proofs.ReadMessages.{IsTaken, message_begins, message_reads}
use Rattle.fc_text.proofs.SoundMessages.{read_text_is_spelled, read_body_is_spelled}

-- what stands behind messages that are read, and begins with a line at the first level
before_stands : (lines : List (List ℕ)) → stands_at 0 lines ≡ true → Before 1 lines
before_stands [] e = tt
before_stands (l ∷ ls) e = (0, omega arith, eqb-true (spaces_before l) (2 * 0) e)

before_back : (back : List (List ℕ)) → (stands_at 0 back ≡ true) ⊎ (back ≡ []) → Before 1 back
before_back back (inl there) = before_stands back there
before_back back (inr none) = subst (Before 1) (sym none) tt

module _ (tail : List (List ℕ)) (there : stands_at 0 tail ≡ true) (p : TextPlace) where
  messages_before : (ms : List Message) (texts : List (List ℕ)) → AreEach SpellsLine (flat_map message_lines ms) texts → stands_at 0 (texts ++ tail) ≡ true
  messages_before [] [] each = there
  messages_before [] (t ∷ ts) each = absurd each
  messages_before (m ∷ ms) texts each =
      let s = each_split SpellsLine (message_lines m) (flat_map message_lines ms) texts each in
      let here = stands 0 (message_lines m) s.0 (s.1 ++ tail) (message_begins m) s.3 in
      ap (λ l. stands_at 0 (l ++ tail)) s.2 ∙ ap (stands_at 0) (append_assoc s.0 s.1 tail) ∙ here.there

  long_behind : (ms : List Message) (texts : List (List ℕ)) (taken : ℕ) → AllByRecursion IsTaken ms → AreEach SpellsLine (flat_map message_lines ms) texts
      → ((n : ℕ) → n ≡ taken + length texts → message_at (lines_left n tail) ≡ Err p) → many_at 0 message_at (lines_left taken (texts ++ tail)) ≡ Err p
  long_behind [] [] taken all each refused = many_step 0 message_at message_shrinks (lines_left taken tail) ∙ rw (there, refused taken (omega arith)) refl
  long_behind [] (t ∷ ts) taken all each refused = absurd each
  long_behind (m ∷ ms) texts taken all each refused =
      let s = each_split SpellsLine (message_lines m) (flat_map message_lines ms) texts each in
      let same : texts ++ tail ≡ s.0 ++ (s.1 ++ tail) = ap (λ l. l ++ tail) s.2 ∙ append_assoc s.0 s.1 tail in
      let next : stands_at 0 (s.1 ++ tail) ≡ true = messages_before ms s.1 s.4 in
      let (n, is) = message_reads m s.0 (s.1 ++ tail) taken all.0 s.3 (before_stands (s.1 ++ tail) next) in
      let f = message_front (lines_left taken (s.0 ++ (s.1 ++ tail))) m (lines_left n (s.1 ++ tail)) is in
      let count : n ≡ taken + length s.0 = omega (arith, f.taken, ap length f.is, length-append s.0 (s.1 ++ tail), length-append f.front (s.1 ++ tail)) in
      let size : length texts ≡ length s.0 + length s.1 = ap length s.2 ∙ length-append s.0 s.1 in
      let more = long_behind ms s.1 n all.1 s.4 (λ k e. refused k (omega (arith, e, count, size))) in
      let first : stands_at 0 (s.0 ++ (s.1 ++ tail)) ≡ true = sym (ap (stands_at 0) same) ∙ messages_before (m ∷ ms) texts each in
      ap (λ l. many_at 0 message_at (lines_left taken l)) same ∙ many_step 0 message_at message_shrinks (lines_left taken (s.0 ++ (s.1 ++ tail))) ∙ rw (first, is, more) refl

pub long_refused : (bytes : List ℕ) (p : TextPlace) → TooLongAt p bytes → text_in bytes ≡ Err p
unfolding text_in
long_refused bytes p t =
    let own = stands 0 (message_lines t.long) t.own t.back (message_begins t.long) t.spelled in
    let read = long_behind (t.own ++ t.back) own.there p t.earlier t.front 0 t.fit t.before (λ n e.
    let whole = whole_reads t.long t.own t.back n t.proper t.spelled (before_back t.back t.ended) in
    let at : place (n + 1) 1 ≡ p = ap (λ l. place l 1) (omega (arith, e, t.line)) ∙ ap (place p.line) (sym t.column) in
    long_err (lines_left n (t.own ++ t.back)) t.long (lines_left whole.0 t.back) whole.1 t.too_long ∙ ap Err at) in
    ap (λ l. many_at 0 message_at (lines_left 0 l) >>= λ ms. closed ms.1 >>= λ u. Ok ms.0) t.lines ∙ ap (λ r. r >>= λ ms. closed ms.1 >>= λ u. Ok ms.0) read

-- where it is refused is its first misfit, and so its first misfit is where it is refused
pub text_first : (bytes : List ℕ) (p : TextPlace) → text_in bytes ≡ Err p → FirstMisfit FitsMessages p bytes ⊎ TooLongAt p bytes
text_first bytes p e = by (whole_or_long bytes p e)
  where
    by : (all_whole (text_lines bytes) ≡ Err p) ⊎ TooLongAt p bytes → FirstMisfit FitsMessages p bytes ⊎ TooLongAt p bytes
    by (inl is) = inl (record { begins = text_begins bytes p is; misfit = messages_misfit bytes p is })
    by (inr long) = inr long

pub body_first : (bytes : List ℕ) (p : TextPlace) → body_in bytes ≡ Err p → FirstMisfit FitsSelects p bytes
body_first bytes p e = record { begins = body_begins bytes p e; misfit = body_misfit bytes p e }

pub text_refused : (bytes : List ℕ) (p : TextPlace) → IsWithin p bytes → FirstMisfit FitsMessages p bytes → ((q : TextPlace) → TooLongAt q bytes → ⊥) → text_in bytes ≡ Err p
text_refused bytes p within first none = by (text_in bytes) refl
  where
    found : (q : TextPlace) → text_in bytes ≡ Err q → FirstMisfit FitsMessages q bytes ⊎ TooLongAt q bytes → text_in bytes ≡ Err p
    found q e (inl other) = e ∙ ap Err (one_messages bytes q p (text_within bytes q e) within other first)
    found q e (inr long) = absurd (none q long)

    by : (r : Result (List Message) TextPlace) → text_in bytes ≡ r → text_in bytes ≡ Err p
    by (Ok ms) e = let s = read_text_is_spelled ms bytes e in absurd (first.misfit bytes (texts_same p bytes) (ms, s.lines, s.proper))
    by (Err q) e = found q e (text_first bytes q e)

pub body_refused_at : (bytes : List ℕ) (p : TextPlace) → IsWithin p bytes → FirstMisfit FitsSelects p bytes → body_in bytes ≡ Err p
body_refused_at bytes p within first = by (body_in bytes) refl
  where
    by : (r : Result (List Select) TextPlace) → body_in bytes ≡ r → body_in bytes ≡ Err p
    by (Ok ss) e = absurd (first.misfit bytes (texts_same p bytes) (ss, read_body_is_spelled ss bytes e))
    by (Err q) e = e ∙ ap Err (one_selects bytes q p (body_within bytes q e) within (body_first bytes q e) first)
