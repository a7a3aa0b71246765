-- Reading a text fails where it fails whatever messages can be encoded, or at the first that can't be.
use Rattle.std.proofs.Common.{◌≡◌, ◌+◌, ℕ, zero, suc, Bool, true, false, cond, ◌⊎◌, inl, inr, List, [], ◌∷◌, ◌++◌, length, Result, Ok, Err, append_assoc, length-append, refl, sym, ap, subst, ◌∙◌, arith}
use Rattle.std.specs.List.{flat_map, AllByRecursion}
use Rattle.fc_msg.specs.Messages.{IsProper, message_fits}
use Rattle.fc_msg.specs.declared.message.Message.{Message}
use Rattle.fc_text.specs.FirstMisfit.{TooLongAt}
use Rattle.fc_lines.specs.LineWords.{LinesLeft, stands_at, closed, text_lines}
use Rattle.fc_text.specs.TextGrammar.{message_lines, SpellsLine, AreEach}
use Rattle.fc_base.specs.Answers.{◌>>=◌}
use Rattle.fc_lines.specs.TextPlaces.{TextPlace, place}
use Rattle.fc_lines.specs.LineReading.{Reader, head_at}
use Rattle.fc_lines.specs.LineReading.{shut}
use Rattle.fc_text.specs.TextReading.{and_more, each_at, many_at, content_at, message_of, whole_at, message_at, text_in}
use Rattle.fc_text.proofs.Completions.{same_place}
use Rattle.fc_text.proofs.CompletedLines.{pure_err}
use Rattle.fc_text.proofs.ReadFront.{message_front, whole_message}
use Rattle.fc_text.proofs.SoundMessages.{whole_sound, message_sound, closed_sound}
use Rattle.fc_text.proofs.SoundPaths.{each_join}
use Rattle.fc_text.proofs.SoundWords.{bind_ok, same_pair}

-- the messages of a text, whether they can be encoded or not
unfoldable pub all_whole : Reader (List Message)
all_whole left = many_at 0 whole_at left >>= λ ms. closed ms.1 >>= λ _. Ok (ms.0, ms.1)

-- the same as `TooLongAt`, of lines that are still to come
record TooLongIn (left : LinesLeft) (p : TextPlace) : Type 0 where
  earlier : List Message
  long : Message
  front : List (List ℕ)
  own : List (List ℕ)
  back : List (List ℕ)
  lines : left.lines ≡ front ++ (own ++ back)
  before : AreEach SpellsLine (flat_map message_lines earlier) front
  fit : AllByRecursion (λ m. IsProper m × (message_fits m ≡ true)) earlier
  spelled : AreEach SpellsLine (message_lines long) own
  proper : IsProper long
  too_long : message_fits long ≡ false
  ended : (stands_at 0 back ≡ true) ⊎ (back ≡ [])
  line : p.line ≡ left.taken + length front + 1
  column : p.column ≡ 1

-- behind a message another begins, or the text ends
shut_sound : (left : LinesLeft) (u : Unit {0}) → shut left ≡ Ok u → (stands_at 0 left.lines ≡ true) ⊎ (left.lines ≡ [])
unfolding shut
shut_sound left u e = by (stands_at 0 left.lines) refl e
  where
    by : (t : Bool) → stands_at 0 left.lines ≡ t → cond {A = Result (Unit {0}) TextPlace} t (Ok tt) (closed left) ≡ Ok u → (stands_at 0 left.lines ≡ true) ⊎ (left.lines ≡ [])
    by true is e = inl is
    by false is e = inr (closed_sound left u e)

whole_end : (left : LinesLeft) (m : Message) (rest : LinesLeft) → whole_at left ≡ Ok (m, rest) → (stands_at 0 rest.lines ≡ true) ⊎ (rest.lines ≡ [])
unfolding whole_at
whole_end left m rest e =
    bind_ok (head_at left) _ (m, rest) e λ h is1 e1.
    bind_ok (content_at h.0.kind h.1) _ (m, rest) e1 λ b is2 e2.
    bind_ok (shut b.1) _ (m, rest) e2 λ u is3 e3.
    subst (λ (rest : LinesLeft). (stands_at 0 rest.lines ≡ true) ⊎ (rest.lines ≡ [])) (same_pair (message_of h.0 b.0) m b.1 rest e3).1 (shut_sound b.1 u is3)

-- a message that is whole, and can or can't be encoded
whole_err : (left : LinesLeft) (p : TextPlace) → whole_at left ≡ Err p → message_at left ≡ Err p
unfolding message_at
whole_err left p is = rw is refl

pub long_err : (left : LinesLeft) (m : Message) (rest : LinesLeft) → whole_at left ≡ Ok (m, rest) → message_fits m ≡ false → message_at left ≡ Err (place (left.taken + 1) 1)
unfolding message_at
long_err left m rest is fits = rw (is, fits) refl

long_here : (left : LinesLeft) (m : Message) (rest : LinesLeft) → whole_at left ≡ Ok (m, rest) → message_fits m ≡ false → TooLongIn left (place (left.taken + 1) 1)
long_here left m rest is fits =
    let (found, proper) = whole_sound left m rest is in
    record {
      earlier = [];
      long = m;
      front = [];
      own = found.0;
      back = rest.lines;
      lines = found.1;
      before = tt;
      fit = tt;
      spelled = found.2;
      proper = proper;
      too_long = fits;
      ended = whole_end left m rest is;
      line = omega arith;
      column = refl;
    }

long_later : (left : LinesLeft) (m : Message) (rest : LinesLeft) (p : TextPlace) → message_at left ≡ Ok (m, rest) → TooLongIn rest p → TooLongIn left p
long_later left m rest p is t =
    let (found, taken) = message_sound left m rest is in
    let f = message_front left m rest is in
    let count : rest.taken ≡ left.taken + length found.0 = omega (arith, f.taken, ap length f.is, ap length found.1, length-append f.front rest.lines, length-append found.0 rest.lines) in
    record {
      earlier = m ∷ t.earlier;
      long = t.long;
      front = found.0 ++ t.front;
      own = t.own;
      back = t.back;
      lines = found.1 ∙ ap (λ l. found.0 ++ l) t.lines ∙ sym (append_assoc found.0 t.front (t.own ++ t.back));
      before = each_join SpellsLine (message_lines m) (flat_map message_lines t.earlier) found.0 t.front found.2 t.before;
      fit = (taken, t.fit);
      spelled = t.spelled;
      proper = t.proper;
      too_long = t.too_long;
      ended = t.ended;
      line = omega (arith, t.line, count, length-append found.0 t.front);
      column = t.column;
    }

-- reading messages is reading whole ones, but where one can't be encoded
abbrev AlikeOrLong : ℕ → LinesLeft → Type 0
AlikeOrLong fuel left = (each_at fuel 0 whole_at left ≡ each_at fuel 0 message_at left) ⊎ ((p : TextPlace) × (each_at fuel 0 message_at left ≡ Err p) × TooLongIn left p)

module _ (fuel : ℕ) (left : LinesLeft) (more : (left : LinesLeft) → AlikeOrLong fuel left) (there : stands_at 0 left.lines ≡ true) where
  behind : (m : Message) (rest : LinesLeft) → whole_at left ≡ Ok (m, rest) → message_at left ≡ Ok (m, rest) → AlikeOrLong fuel rest → AlikeOrLong (suc fuel) left
  behind m rest whole read (inl same) = inl (rw (there, whole, read) (ap (and_more m) same))
  behind m rest whole read (inr t) = inr (t.0, rw (there, read, t.1) refl, long_later left m rest t.0 read t.2)

  by_fit : (m : Message) (rest : LinesLeft) → whole_at left ≡ Ok (m, rest) → (fits : Bool) → message_fits m ≡ fits → AlikeOrLong (suc fuel) left
  by_fit m rest whole true fits = behind m rest whole (whole_message left m rest whole fits) (more rest)
  by_fit m rest whole false fits = inr (place (left.taken + 1) 1, rw (there, long_err left m rest whole fits) refl, long_here left m rest whole fits)

  by_first : (r : Result (Message × LinesLeft) TextPlace) → whole_at left ≡ r → AlikeOrLong (suc fuel) left
  by_first (Err p) is = inl (rw (there, is, whole_err left p is) refl)
  by_first (Ok x) is = by_fit x.0 x.1 is (message_fits x.0) refl

alike_or_long : (fuel : ℕ) (left : LinesLeft) → AlikeOrLong fuel left
alike_or_long zero left = inl refl
alike_or_long (suc fuel) left = by (stands_at 0 left.lines) refl (alike_or_long fuel)
  where
    by : (t : Bool) → stands_at 0 left.lines ≡ t → ((left : LinesLeft) → AlikeOrLong fuel left) → AlikeOrLong (suc fuel) left
    by true there more = by_first fuel left more there (whole_at left) refl
    by false there more = inl (rw there refl)

closed_same : (r : Result (List Message × LinesLeft) TextPlace) (p : TextPlace) → ◌>>=◌ {B = List Message} r (λ ms. closed ms.1 >>= λ _. Ok ms.0) ≡ Err p → ◌>>=◌ {B = List Message × LinesLeft} r (λ ms. closed ms.1 >>= λ _. Ok (ms.0, ms.1)) ≡ Err p
closed_same (Ok ms) p e = ap (λ r. r >>= λ _. Ok (ms.0, ms.1)) (pure_err {B = List Message} (closed ms.1) (λ u. ms.0) p e)
closed_same (Err q) p e = ap Err (same_place q p e)

long_text : (bytes : List ℕ) (p : TextPlace) → TooLongIn (text_lines bytes) p → TooLongAt p bytes
long_text bytes p t = record {
  earlier = t.earlier;
  long = t.long;
  front = t.front;
  own = t.own;
  back = t.back;
  lines = t.lines;
  before = t.before;
  fit = t.fit;
  spelled = t.spelled;
  proper = t.proper;
  too_long = t.too_long;
  ended = t.ended;
  line = omega (arith, t.line);
  column = t.column;
}

-- a refused text is refused whatever messages can be encoded, or is one with a message that can't be
pub whole_or_long : (bytes : List ℕ) (p : TextPlace) → text_in bytes ≡ Err p → (all_whole (text_lines bytes) ≡ Err p) ⊎ TooLongAt p bytes
unfolding text_in many_at all_whole
whole_or_long bytes p e = by (alike_or_long (length left.lines) left)
  where
    left : LinesLeft
    left = text_lines bytes

    by : AlikeOrLong (length left.lines) left → (all_whole left ≡ Err p) ⊎ TooLongAt p bytes
    by (inl same) = inl (ap (λ r. r >>= λ ms. closed ms.1 >>= λ _. Ok (ms.0, ms.1)) same ∙ closed_same (each_at (length left.lines) 0 message_at left) p e)
    by (inr t) =
        let at : t.0 ≡ p = same_place {A = List Message} t.0 p (ap (λ r. r >>= λ ms. closed ms.1 >>= λ _. Ok ms.0) (sym t.1) ∙ e) in
        inr (long_text bytes p (subst (TooLongIn left) at t.2))
