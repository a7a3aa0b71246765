-- Lines that fail at a place go on with others, which are read to their end.
use Rattle.std.proofs.Common.{◌≡◌, ◌<◌, ◌+◌, ◌*◌, ◌==◌, ℕ, Bool, true, false, cond, ◌⊎◌, inl, inr, List, [], ◌∷◌, ◌++◌, length, drop, Result, Ok, Err, refl, sym, ap, subst, ◌∙◌, arith, eqb-true}
use Rattle.std.specs.List.{AllByRecursion}
use Rattle.fc_text.specs.FirstMisfit.{before, SameBefore, RestBefore}
use Rattle.fc_lines.specs.LineWords.{WordsLeft, LinesLeft, in_front, words_of, words_from, words_left, lines_left, placed, spaces_before, line_at}
use Rattle.fc_text.specs.Text.{indent}
use Rattle.fc_text.specs.TextGrammar.{parted}
use Rattle.fc_base.specs.Answers.{◌>>=◌}
use Rattle.fc_lines.specs.TextPlaces.{TextPlace, place}
use Rattle.fc_lines.specs.LineReading.{Reader}
use Rattle.fc_text.proofs.Completions.{span, same_place, Ready, Goes, GoesOn, Completed}
use Rattle.fc_text.proofs.ReadLines.{Gives, begin_by}
use Rattle.fc_text.proofs.SoundWords.{spaces_sound, parted_words}
use Rattle.fc_text.proofs.SplitLines.{IsWord, words_back, behind_indent, spaces_of}

-- lines are the same as others before a place, where so many were taken in front of them
pub record SameTo (taken : ℕ) (p : TextPlace) (all others : List (List ℕ)) : Type 0 where
  pub front : List (List ℕ)
  pub back : List (List ℕ)
  pub more : List (List ℕ)
  pub is : all ≡ front ++ back
  pub other : others ≡ front ++ more
  pub line : p.line ≡ taken + length front + 1
  pub rest : RestBefore p.column back more

-- lines are read to their end
abbrev pub Ended : {X : Type 0} → X → Result (X × LinesLeft) TextPlace → Type 0
Ended x read = Gives read x []

abbrev pub Behind : LinesLeft → TextPlace → List (List ℕ) → Type 0
Behind left p others = SameTo left.taken p left.lines others

-- a reader of lines, and one behind the words of a line, begin well and are completed
abbrev pub Completes : {X : Type 0} → Reader X → Type 0
Completes {X = X} R = GoesOn {V = X} {R = X × LinesLeft} Ended Behind R

abbrev pub CompletesLine : {X : Type 0} → (WordsLeft → Reader X) → Type 0
CompletesLine {X = X} T = Goes {V = X} {R = X × LinesLeft} Ended Behind T

-- the columns of the words of a line
span_front : (b : ℕ) (ws : List (List ℕ)) → 0 < span ws → span (in_front b ws) ≡ span ws + 1
span_front b [] some = absurd (omega (arith, some))
span_front b (w ∷ ws) some = omega arith

span_by : (t : Bool) (b : ℕ) (bs : List ℕ) (ws : List (List ℕ)) → span ws ≡ length bs + 1 → span (cond t ([] ∷ ws) (in_front b ws)) ≡ length (b ∷ bs) + 1
span_by true b bs ws e = omega (arith, e)
span_by false b bs ws e = omega (arith, e, span_front b ws (omega (arith, e)))

span_words : (bytes : List ℕ) → span (words_of bytes) ≡ length bytes + 1
span_words [] = refl
span_words (b ∷ bs) = span_by (b == 32) b bs (words_of bs) (span_words bs)

-- a line, and what is read of its words and behind it
module _ {X : Type 0} (level : ℕ) (T : WordsLeft × LinesLeft → Result (X × LinesLeft) TextPlace) (asks : (n e : ℕ) (left : LinesLeft) → T (words_left n e [], left) ≡ Err (place n e))
    (goes : CompletesLine {X = X} (λ w left. T (w, left))) where
  abbrev IsReady : List (List ℕ) → List (List ℕ) → X → Type 0
  IsReady us others x = Ready {V = X} {R = X × LinesLeft} Ended Behind (λ w left. T (w, left)) us others x

  nothing_read : (p : TextPlace) (x : X) → Gives {X = X} (Err p) x [] → ⊥
  nothing_read p x (n, e) = cc

  some_words : (us others : List (List ℕ)) (x : X) → IsReady us others x → 0 < length us
  some_words [] others x is = absurd (nothing_read (place 0 0) x (subst (λ r. Gives r x []) (asks 0 0 (lines_left 0 others)) (is 0 0 0 0)))
  some_words (u ∷ us) others x is = omega arith

  abbrev made : List (List ℕ) → List ℕ
  made us = indent level ++ parted us

  is_read : (us others : List (List ℕ)) (x : X) → AllByRecursion IsWord us → IsReady us others x → (taken : ℕ) → Gives (line_at level (lines_left taken (made us ∷ others)) >>= T) x []
  is_read us others x are is taken =
      let r = is (taken + 1) (2 * level + 1 + length (parted us)) (2 * level + 1) (taken + 1) in
      (r.0, ap (λ r. r >>= T) (begin_by level taken us others (made us) (some_words us others x is) are refl) ∙ r.1)

  abbrev Mended : ℕ → TextPlace → List (List ℕ) → Type 0
  Mended taken p lines = (others : List (List ℕ)) × (x : X) × ((taken : ℕ) → Gives (line_at level (lines_left taken others) >>= T) x []) × SameTo taken p lines others

  first_bad : (taken : ℕ) (p : TextPlace) (lines : List (List ℕ)) → place (taken + 1) 1 ≡ p → Mended taken p lines
  first_bad taken p lines at =
      let s = goes.starts in (
        made s.words ∷ s.others,
        s.value,
        is_read s.words s.others s.value s.are s.is,
        record {
          front = [];
          back = lines;
          more = made s.words ∷ s.others;
          is = refl;
          other = refl;
          line = omega (arith, ap (λ (p : TextPlace). p.line) at);
          rest = nothing_before lines (made s.words) s.others p.column (sym (ap (λ (p : TextPlace). p.column) at));
        },
      )
    where
      nothing_before : (lines : List (List ℕ)) (l : List ℕ) (ls : List (List ℕ)) (column : ℕ) → column ≡ 1 → RestBefore column lines (l ∷ ls)
      nothing_before [] l ls column e = tt
      nothing_before (m ∷ ms) l ls column e = λ more. absurd (omega (arith, e, more))

  same_words : (l : List ℕ) (us : List (List ℕ)) (column : ℕ) → 0 < length us → AllByRecursion IsWord us → spaces_before l ≡ 2 * level
      → before column (placed (2 * level + 1) (words_of (drop (2 * level) l))) ≡ before column (placed (2 * level + 1) us) → SameBefore column l (made us)
  same_words l us column some are spaces same =
      let own = spaces_of level us some are in
      record {
        indent = spaces ∙ sym own;
        words = ap (λ k. before column (placed (k + 1) (words_of (drop k l)))) spaces ∙ same
            ∙ ap (λ ws. before column (placed (2 * level + 1) ws)) (sym (ap words_of (behind_indent level (parted us)) ∙ words_back us some are))
            ∙ ap (λ k. before column (placed (k + 1) (words_of (drop k (made us))))) (sym own);
      }

  words_bad : (taken : ℕ) (l : List ℕ) (ls : List (List ℕ)) (p : TextPlace) → spaces_before l ≡ 2 * level
      → (d : Completed {V = X} {R = X × LinesLeft} Ended Behind (λ w left. T (w, left)) (taken + 1) (2 * level + 1) (words_of (drop (2 * level) l)) (lines_left (taken + 1) ls) p) → SameTo taken p (l ∷ ls) (made d.words ∷ d.others)
  words_bad taken l ls p spaces d = by d.kept
    where
      by : ((p.line ≡ taken + 1) × (before p.column (placed (2 * level + 1) (words_of (drop (2 * level) l))) ≡ before p.column (placed (2 * level + 1) d.words)))
          ⊎ ((words_of (drop (2 * level) l) ≡ d.words) × SameTo (taken + 1) p ls d.others) → SameTo taken p (l ∷ ls) (made d.words ∷ d.others)
      by (inl h) = record {
        front = [];
        back = l ∷ ls;
        more = made d.words ∷ d.others;
        is = refl;
        other = refl;
        line = omega (arith, h.0);
        rest = λ more. same_words l d.words p.column (some_words d.words d.others d.value d.is) d.are spaces h.1;
      }
      by (inr h) =
          let s = h.1 in
          let own : made d.words ≡ l = ap (λ ws. indent level ++ parted ws) (sym h.0) ∙ ap (λ x. indent level ++ x) (parted_words (drop (2 * level) l)) ∙ sym (spaces_sound level l spaces) in
          record {
            front = l ∷ s.front;
            back = s.back;
            more = s.more;
            is = ap (λ m. l ∷ m) s.is;
            other = ap (λ x. x ∷ d.others) own ∙ ap (λ m. l ∷ m) s.other;
            line = omega (arith, s.line);
            rest = s.rest;
          }

  line_by : (taken : ℕ) (lines : List (List ℕ)) (p : TextPlace) → (line_at level (lines_left taken lines) >>= T) ≡ Err p → Mended taken p lines
  unfolding line_at
  line_by taken [] p h = first_bad taken p [] (same_place (place (taken + 1) 1) p h)
  line_by taken (l ∷ ls) p h = by (spaces_before l == 2 * level) (eqb-true (spaces_before l) (2 * level)) h
    where
      by : (t : Bool) → (t ≡ true → spaces_before l ≡ 2 * level)
          → (cond {A = Result (WordsLeft × LinesLeft) TextPlace} t (Ok (words_from (taken + 1) (2 * level + 1) true (drop (2 * level) l), lines_left (taken + 1) ls)) (Err (place (taken + 1) 1)) >>= T) ≡ Err p
          → Mended taken p (l ∷ ls)
      by true is h =
          let bytes = drop (2 * level) l in
          let d = goes.completes (taken + 1) (2 * level + 1 + length bytes) (2 * level + 1) (words_of bytes) (lines_left (taken + 1) ls) p (omega (arith, span_words bytes)) h in
          (made d.words ∷ d.others, d.value, is_read d.words d.others d.value d.are d.is, words_bad taken l ls p (is refl) d)
      by false is h = first_bad taken p (l ∷ ls) (same_place (place (taken + 1) 1) p h)

  pub line_goes : Completes {X = X} (λ left. line_at level left >>= λ l. T l)
  line_goes =
      let s = goes.starts in
      record {
        others = made s.words ∷ s.others;
        value = s.value;
        is = is_read s.words s.others s.value s.are s.is;
        completes = λ left p h. line_by left.taken left.lines p h;
      }

-- nothing is read
pub done_goes : {X : Type 0} (x : X) → Completes {X = X} (λ left. Ok (x, left))
done_goes x = record { others = []; value = x; is = λ taken. (taken, refl); completes = λ left p h. cc }

-- what is read is turned into something else
pub pure_err : {A B : Type 0} (r : Result A TextPlace) (f : A → B) (p : TextPlace) → (r >>= λ x. Ok (f x)) ≡ Err p → r ≡ Err p
pure_err (Ok x) f p e = cc
pure_err (Err q) f p e = ap Err (same_place q p e)

pub map_goes : {X Y : Type 0} (R : Reader X) (g : X → Y) → Completes R → Completes {X = Y} (λ left. R left >>= λ x. Ok (g x.0, x.1))
map_goes {X = X} {Y = Y} R g k = record {
  others = k.others;
  value = g k.value;
  is = λ taken. let r = k.is taken in (r.0, ap (λ r. r >>= λ x. Ok (g x.0, x.1)) r.1);
  completes = λ left p h.
      let d = k.completes left p (pure_err {B = Y × LinesLeft} (R left) (λ x. (g x.0, x.1)) p h) in
      (d.0, g d.1, (λ taken. let r = d.2 taken in (r.0, ap (λ r. r >>= λ x. Ok (g x.0, x.1)) r.1)), d.3);
}

-- the same reader, said otherwise
pub same_goes : {X : Type 0} (R S : Reader X) → ((left : LinesLeft) → S left ≡ R left) → Completes R → Completes S
same_goes R S same k = record {
  others = k.others;
  value = k.value;
  is = λ taken. let r = k.is taken in (r.0, same (lines_left taken k.others) ∙ r.1);
  completes = λ left p h.
      let d = k.completes left p (sym (same left) ∙ h) in
      (d.0, d.1, (λ taken. let r = d.2 taken in (r.0, same (lines_left taken d.0) ∙ r.1)), d.3);
}
