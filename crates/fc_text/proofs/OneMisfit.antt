-- A text has one first misfit, and is refused there.
use Rattle.std.proofs.Common.{◌≡◌, ◌<◌, ◌≤◌, ◌+◌, ◌-◌, nat_lt, ℕ, zero, suc, Bool, true, false, slice_index_or, List, [], ◌∷◌, length, take, drop, ◌⊎◌, inl, inr, refl, sym, ap, subst, ◌∙◌, arith}
use Rattle.std.specs.List.{flat_map, AllByRecursion}
use Rattle.std.proofs.lemmas.Bool.{ltb-true, ltb-false}
use Rattle.std.proofs.lemmas.List.{take-take}
use Rattle.fc_text.specs.FirstMisfit.{SameAt, RestBefore, RestAt, TextsBefore, TextsAt, FirstMisfit, FitsMessages, FitsSelects, IsColumn, IsWithin}
use Rattle.fc_lines.specs.LineWords.{lines_of}
use Rattle.fc_text.specs.TextGrammar.{Line, select_lines, message_lines, SpellsWord, SpellsLine, AreEach}
use Rattle.fc_lines.specs.TextPlaces.{TextPlace, place}
use Rattle.fc_text.proofs.PlainWords.{Whole, words_are, same_number, lines_are}
use Rattle.fc_text.proofs.Refusals.{first_line}
use Rattle.fc_text.proofs.SameLines.{IsFull, line_full, same_at}
use Rattle.fc_text.proofs.SplitLines.{lines_back}
use Rattle.fc_text.proofs.WholeLines.{messages_whole, all_selects_whole}

-- each line of a text that fits is full
lines_full : (ls : List Line) (texts : List (List ℕ)) → AllByRecursion Whole ls → AreEach SpellsLine ls texts → AllByRecursion IsFull texts
lines_full [] [] whole each = tt
lines_full [] (t ∷ ts) whole each = absurd each
lines_full (l ∷ ls) [] whole each = absurd each
lines_full (l ∷ ls) (t ∷ ts) whole ((words, are, is), each) = (
  line_full l.level words t (omega (arith, whole.0.some, same_number SpellsWord l.words words are)) (words_are l.words words whole.0.named are) is,
  lines_full ls ts whole.1 each,
)

messages_full : (other : List ℕ) → FitsMessages other → AllByRecursion IsFull (lines_of other)
messages_full other (ms, (texts, each, are), proper) =
    let whole = messages_whole ms proper in
    subst (AllByRecursion IsFull) (sym (lines_back texts other (lines_are (flat_map message_lines ms) texts whole each) are)) (lines_full (flat_map message_lines ms) texts whole each)

selects_full : (other : List ℕ) → FitsSelects other → AllByRecursion IsFull (lines_of other)
selects_full other (ss, s) =
    let (texts, each, are) = s.lines in
    let whole = all_selects_whole 3 0 ss s.proper in
    subst (AllByRecursion IsFull) (sym (lines_back texts other (lines_are (flat_map (select_lines 0) ss) texts whole each) are)) (lines_full (flat_map (select_lines 0) ss) texts whole each)

all_drop : {A : Type 0} (P : A → Type 0) (n : ℕ) (xs : List A) → AllByRecursion P xs → AllByRecursion P (drop n xs)
all_drop P zero xs all = all
all_drop P (suc n) [] all = tt
all_drop P (suc n) (x ∷ xs) all = all_drop P n xs all.1

-- the line at a place
line_there : (n : ℕ) (lines : List (List ℕ)) → slice_index_or lines n [] ≡ first_line (drop n lines)
line_there zero [] = refl
line_there zero (l ∷ ls) = refl
line_there (suc n) [] = refl
line_there (suc n) (l ∷ ls) = line_there n ls

-- what is the same before a place is the same at each place before it
rest_same : (c : ℕ) (lines : List (List ℕ)) → RestAt c lines lines
rest_same c [] = tt
rest_same c (l ∷ ls) = record { front = record { indent = refl; words = refl }; word = refl; ends = refl }

pub texts_same : (p : TextPlace) (bytes : List ℕ) → TextsAt p (lines_of bytes) (lines_of bytes)
texts_same p bytes = record { earlier = refl; rest = rest_same p.column (drop (p.line - 1) (lines_of bytes)) }

same_heads : (l o : List ℕ) (ls os : List (List ℕ)) → l ∷ ls ≡ o ∷ os → l ≡ o
same_heads l o ls os e = cc

same_tails : (l o : List ℕ) (ls os : List (List ℕ)) → l ∷ ls ≡ o ∷ os → ls ≡ os
same_tails l o ls os e = cc

line_same : (c n m : ℕ) (lines others : List (List ℕ)) → n < m → m ≤ length lines → take m lines ≡ take m others → RestAt c (drop n lines) (drop n others)
line_same c n zero lines others h k e = absurd (omega (arith, h))
line_same c n (suc m) [] others h k e = absurd (omega (arith, k))
line_same c n (suc m) (l ∷ ls) [] h k e = absurd cc
line_same c zero (suc m) (l ∷ ls) (o ∷ os) h k e =
    subst (λ x. SameAt c l x) (same_heads l o _ _ e) (record { front = record { indent = refl; words = refl }; word = refl; ends = refl })
line_same c (suc n) (suc m) (l ∷ ls) (o ∷ os) h k e = line_same c n m ls os (omega (arith, h)) (omega (arith, k)) (same_tails l o _ _ e)

column_same : (c d : ℕ) (lines others : List (List ℕ)) → 0 < c → c < d → d ≤ length (first_line lines) + 1 → IsColumn c (first_line lines) → AllByRecursion IsFull others → RestBefore d lines others → RestAt c lines others
column_same c d [] others some h k column full same = absurd (omega (arith, some, h, k))
column_same c d (l ∷ ls) [] some h k column full same = absurd (omega (arith, some, h, same))
column_same c d (l ∷ ls) (o ∷ os) some h k column full same = same_at c d l o h k column full.0 (same (omega (arith, some, h)))

module _ (Fits : List ℕ → Type 0) (full : (other : List ℕ) → Fits other → AllByRecursion IsFull (lines_of other)) (bytes : List ℕ) (p q : TextPlace) (inside : IsWithin p bytes) (within : IsWithin q bytes) where
  above : (other : List ℕ) → p.line < q.line → TextsBefore q (lines_of bytes) (lines_of other) → TextsAt p (lines_of bytes) (lines_of other)
  above other h same =
      let some = inside.first in
      let last = within.last in
      let less : p.line - 1 < q.line - 1 = omega (arith, h, some) in
      record {
        earlier = sym (take-take (p.line - 1) (q.line - 1) (lines_of bytes) (omega (arith, less))) ∙ ap (take (p.line - 1)) same.earlier ∙ take-take (p.line - 1) (q.line - 1) (lines_of other) (omega (arith, less));
        rest = line_same p.column (p.line - 1) (q.line - 1) (lines_of bytes) (lines_of other) less (omega (arith, last, h)) same.earlier;
      }

  left_of : (other : List ℕ) → p.line ≡ q.line → p.column < q.column → AllByRecursion IsFull (lines_of other) → TextsBefore q (lines_of bytes) (lines_of other) → TextsAt p (lines_of bytes) (lines_of other)
  left_of other e h all same =
      let own : slice_index_or (lines_of bytes) (p.line - 1) [] ≡ first_line (drop (p.line - 1) (lines_of bytes)) = line_there (p.line - 1) (lines_of bytes) in
      let right : q.column ≤ length (slice_index_or (lines_of bytes) (p.line - 1) []) + 1 = subst (λ n. q.column ≤ length (slice_index_or (lines_of bytes) (n - 1) []) + 1) (sym e) within.right in
      record {
        earlier = subst (λ n. take (n - 1) (lines_of bytes) ≡ take (n - 1) (lines_of other)) (sym e) same.earlier;
        rest =
            column_same p.column q.column (drop (p.line - 1) (lines_of bytes)) (drop (p.line - 1) (lines_of other)) inside.left h
            (subst (λ (l : List ℕ). q.column ≤ length l + 1) own right) (subst (IsColumn p.column) own inside.stands) (all_drop IsFull (p.line - 1) (lines_of other) all)
            (subst (λ n. RestBefore q.column (drop (n - 1) (lines_of bytes)) (drop (n - 1) (lines_of other))) (sym e) same.rest);
      }

  pub not_before : FirstMisfit Fits p bytes → FirstMisfit Fits q bytes → (p.line < q.line) ⊎ ((p.line ≡ q.line) × (p.column < q.column)) → ⊥
  not_before first second (inl h) = let (other, same, fits) = second.begins in first.misfit other (above other h same) fits
  not_before first second (inr (e, h)) = let (other, same, fits) = second.begins in first.misfit other (left_of other e h (full other fits) same) fits

-- the order of places
abbrev IsBefore : TextPlace → TextPlace → Type 0
IsBefore p q = (p.line < q.line) ⊎ ((p.line ≡ q.line) × (p.column < q.column))

one_of : (p q : TextPlace) → (IsBefore p q → ⊥) → (IsBefore q p → ⊥) → p ≡ q
one_of p q no_less no_more = by (nat_lt p.line q.line) (nat_lt q.line p.line) (nat_lt p.column q.column) (nat_lt q.column p.column) refl refl refl refl
  where
    by : (s t u v : Bool) → nat_lt p.line q.line ≡ s → nat_lt q.line p.line ≡ t → nat_lt p.column q.column ≡ u → nat_lt q.column p.column ≡ v → p ≡ q
    by true t u v a b c d = absurd (no_less (inl (ltb-true p.line q.line a)))
    by false true u v a b c d = absurd (no_more (inl (ltb-true q.line p.line b)))
    by false false true v a b c d = absurd (no_less (inr (omega (arith, ltb-false p.line q.line a, ltb-false q.line p.line b), ltb-true p.column q.column c)))
    by false false false true a b c d = absurd (no_more (inr (omega (arith, ltb-false p.line q.line a, ltb-false q.line p.line b), ltb-true q.column p.column d)))
    by false false false false a b c d =
        let line : p.line ≡ q.line = omega (arith, ltb-false p.line q.line a, ltb-false q.line p.line b) in
        let column : p.column ≡ q.column = omega (arith, ltb-false p.column q.column c, ltb-false q.column p.column d) in
        ap (λ l. place l p.column) line ∙ ap (place q.line) column

one_misfit : (Fits : List ℕ → Type 0) → ((other : List ℕ) → Fits other → AllByRecursion IsFull (lines_of other)) → (bytes : List ℕ) (p q : TextPlace) → IsWithin p bytes → IsWithin q bytes → FirstMisfit Fits p bytes → FirstMisfit Fits q bytes → p ≡ q
one_misfit Fits full bytes p q inside within first second =
    one_of p q (not_before Fits full bytes p q inside within first second) (not_before Fits full bytes q p within inside second first)

pub one_messages : (bytes : List ℕ) (p q : TextPlace) → IsWithin p bytes → IsWithin q bytes → FirstMisfit FitsMessages p bytes → FirstMisfit FitsMessages q bytes → p ≡ q
one_messages = one_misfit FitsMessages messages_full

pub one_selects : (bytes : List ℕ) (p q : TextPlace) → IsWithin p bytes → IsWithin q bytes → FirstMisfit FitsSelects p bytes → FirstMisfit FitsSelects q bytes → p ≡ q
one_selects = one_misfit FitsSelects selects_full
