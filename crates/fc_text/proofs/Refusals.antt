-- Where a reader refuses lines, it refuses all lines that are the same before that place and at it, there too.
use Rattle.std.proofs.Common.{◌≡◌, ◌<◌, ◌≤◌, ◌+◌, ℕ, zero, suc, Bool, true, false, cond, List, [], ◌∷◌, ◌++◌, length, Some, Result, Ok, Err, append_assoc, length-append, refl, sym, ap, subst, ◌∙◌, arith, inl}
use Rattle.fc_text.specs.FirstMisfit.{RestAt, IsColumn}
use Rattle.fc_lines.specs.LineWords.{LinesLeft, lines_left, stands_at}
use Rattle.fc_base.specs.Answers.{◌>>=◌}
use Rattle.fc_lines.specs.TextPlaces.{TextPlace, place}
use Rattle.fc_lines.specs.LineReading.{Reader}
use Rattle.fc_text.specs.TextReading.{and_more, many_at, some_at}
use Rattle.fc_text.proofs.ReadFront.{ReadFront, Front, Shrinks, Looks, next_indent, next_behind, stands_looks, many_step, next_item, items_by, many_front}

-- the first of lines that may have none
abbrev pub first_line : List (List ℕ) → List ℕ
first_line [] = []
first_line (l ∷ ls) = l

-- behind some lines or in the line behind them, and the same of all lines that are the same before that place and at it
pub record LineFails {X : Type 0} (R : Reader X) (left : LinesLeft) (p : TextPlace) : Type 0 where
  pub front : List (List ℕ)
  pub back : List (List ℕ)
  pub is : left.lines ≡ front ++ back
  pub line : p.line ≡ left.taken + length front + 1
  pub first : 0 < p.column
  pub last : p.column ≤ length (first_line back) + 1
  pub stands : IsColumn p.column (first_line back)
  pub again : (others : List (List ℕ)) → RestAt p.column back others → R (lines_left left.taken (front ++ others)) ≡ Err p

abbrev pub Fails : {X : Type 0} → Reader X → Type 0
Fails R = (left : LinesLeft) (p : TextPlace) → R left ≡ Err p → LineFails R left p

-- a step that failed, or what follows it
pub bind_err : {A B : Type 0} {G : Type 0} (r : Result A TextPlace) (f : A → Result B TextPlace) (p : TextPlace) → (r >>= f) ≡ Err p → (r ≡ Err p → G) → ((x : A) → r ≡ Ok x → f x ≡ Err p → G) → G
bind_err (Ok x) f p e h k = k x refl e
bind_err {A = A} {B = B} (Err at) f p e h k = h (same_err at p e)
  where
    same_err : (a b : TextPlace) → ◌≡◌ {A = Result B TextPlace} (Err a) (Err b) → ◌≡◌ {A = Result A TextPlace} (Err a) (Err b)
    same_err a b e = ap Err cc

next_at : (c : ℕ) (back others : List (List ℕ)) → RestAt c back others → next_indent others ≡ next_indent back
next_at c [] [] h = refl
next_at c [] (o ∷ os) h = absurd h
next_at c (l ∷ ls) [] h = absurd h
next_at c (l ∷ ls) (o ∷ os) h = ap Some (sym h.front.indent)

-- one after the other
pub fails_first_at : {X Y : Type 0} {R : Reader X} (F : X × LinesLeft → Result (Y × LinesLeft) TextPlace) (left : LinesLeft) (p : TextPlace) → LineFails R left p → LineFails (λ left. R left >>= F) left p
fails_first_at F left p a = record { front = a.front; back = a.back; is = a.is; line = a.line; first = a.first; last = a.last; stands = a.stands; again = λ others at. ap (λ r. r >>= F) (a.again others at) }

pub fails_then_at : {X Y : Type 0} {R : Reader X} (F : X × LinesLeft → Result (Y × LinesLeft) TextPlace) (left mid : LinesLeft) (x : X) (p : TextPlace)
    → ReadFront R left x mid → LineFails (λ rest. F (x, rest)) mid p → LineFails (λ left. R left >>= F) left p
fails_then_at {R = R} F left mid x p a b = record {
  front = a.front ++ b.front;
  back = b.back;
  is = a.is ∙ ap (λ l. a.front ++ l) b.is ∙ sym (append_assoc a.front b.front b.back);
  line = omega (arith, b.line, a.taken, length-append a.front b.front);
  first = b.first;
  last = b.last;
  stands = b.stands;
  again = λ others at.
      ap (λ l. R (lines_left left.taken l) >>= F) (append_assoc a.front b.front others)
      ∙ ap (λ r. r >>= F) (a.again (b.front ++ others) (next_behind b.front others b.back mid.lines b.is (next_at p.column b.back others at)))
      ∙ b.again others at;
}

pub fails_bind : {X Y : Type 0} {R : Reader X} (F : X × LinesLeft → Result (Y × LinesLeft) TextPlace) → Front R → Fails R → ((x : X) → Fails (λ rest. F (x, rest))) → Fails (λ left. R left >>= F)
fails_bind {R = R} F front h k left p e =
    bind_err (R left) F p e
    (λ is. fails_first_at {R = R} F left p (h left p is))
    (λ m is more. fails_then_at {R = R} F left m.1 m.0 p (front left m.0 m.1 is) (k m.0 m.1 p more))

pub fails_pure : {X : Type 0} {x : X} → Fails (λ left. Ok (x, left))
fails_pure left p e = cc

pub fails_if : {X : Type 0} (t : Bool) {R S : Reader X} → Fails R → Fails S → Fails (λ left. cond t (R left) (S left))
fails_if true h k = h
fails_if false h k = k

-- at the next line
pub fails_here : {X : Type 0} → Fails {X = X} (λ left. Err (place (left.taken + 1) 1))
fails_here {X = X} left p e =
    let is : place (left.taken + 1) 1 ≡ p = same (place (left.taken + 1) 1) p e in
    subst (LineFails {X = X} (λ left. Err (place (left.taken + 1) 1)) left) is
    (record { front = []; back = left.lines; is = refl; line = omega arith; first = omega arith; last = omega arith; stands = inl refl; again = λ others at. refl })
  where
    same : (a b : TextPlace) → ◌≡◌ {A = Result (X × LinesLeft) TextPlace} (Err a) (Err b) → a ≡ b
    same a b e = cc

-- a choice by the indentation of the next line
module _ {X : Type 0} (R S : Reader X) (T : List (List ℕ) → Bool) (looks : Looks T) (left : LinesLeft) (p : TextPlace) where
  same_test : (front back others : List (List ℕ)) → left.lines ≡ front ++ back → RestAt p.column back others → T (front ++ others) ≡ T left.lines
  same_test front back others is at = looks (front ++ others) left.lines (next_behind front others back left.lines is (next_at p.column back others at))

  pub fails_yes_at : T left.lines ≡ true → LineFails R left p → LineFails (λ left. cond (T left.lines) (R left) (S left)) left p
  fails_yes_at is a = record {
    front = a.front;
    back = a.back;
    is = a.is;
    line = a.line;
    first = a.first;
    last = a.last;
    stands = a.stands;
    again = λ others at.
        ap (λ t. cond t (R (lines_left left.taken (a.front ++ others))) (S (lines_left left.taken (a.front ++ others)))) (same_test a.front a.back others a.is at ∙ is)
        ∙ a.again others at;
  }

  pub fails_no_at : T left.lines ≡ false → LineFails S left p → LineFails (λ left. cond (T left.lines) (R left) (S left)) left p
  fails_no_at is a = record {
    front = a.front;
    back = a.back;
    is = a.is;
    line = a.line;
    first = a.first;
    last = a.last;
    stands = a.stands;
    again = λ others at.
        ap (λ t. cond t (R (lines_left left.taken (a.front ++ others))) (S (lines_left left.taken (a.front ++ others)))) (same_test a.front a.back others a.is at ∙ is)
        ∙ a.again others at;
  }

pub fails_choice : {X : Type 0} {R S : Reader X} (T : List (List ℕ) → Bool) → Looks T → Fails R → Fails S → Fails (λ left. cond (T left.lines) (R left) (S left))
fails_choice {R = R} {S = S} T looks h k left p e = by (T left.lines) refl e
  where
    by : (t : Bool) → T left.lines ≡ t → cond t (R left) (S left) ≡ Err p → LineFails (λ left. cond (T left.lines) (R left) (S left)) left p
    by true is e = fails_yes_at R S T looks left p is (h left p e)
    by false is e = fails_no_at R S T looks left p is (k left p e)

-- the same reader in other words
pub fails_as_at : {X : Type 0} (R S : Reader X) (left : LinesLeft) (p : TextPlace) → ((l : LinesLeft) → R l ≡ S l) → LineFails S left p → LineFails R left p
fails_as_at R S left p same a = record { front = a.front; back = a.back; is = a.is; line = a.line; first = a.first; last = a.last; stands = a.stands; again = λ others at. same (lines_left left.taken (a.front ++ others)) ∙ a.again others at }

-- items
pub fails_and_more : {X : Type 0} {R : Reader (List X)} (x : X) → Front R → Fails R → Fails (λ left. and_more x (R left))
fails_and_more x front h = fails_bind _ front h (λ xs. fails_pure)

module _ {X : Type 0} (level : ℕ) (one : Reader X) (shrinks : Shrinks one) (front : Front one) (fails : Fails one) where
  many_by : (n : ℕ) (left : LinesLeft) (p : TextPlace) → length left.lines < n → many_at level one left ≡ Err p → LineFails (many_at level one) left p
  many_by zero left p h e = absurd (omega (arith, h))
  many_by (suc n) left p h e =
      fails_as_at (many_at level one) (items_by level one shrinks) left p (many_step level one shrinks)
      (by (stands_at level left.lines) (λ mid less is. many_by n mid p (omega (arith, h, less)) is) refl (sym (many_step level one shrinks left) ∙ e))
    where
      by : (t : Bool) → ((mid : LinesLeft) → length mid.lines < length left.lines → many_at level one mid ≡ Err p → LineFails (many_at level one) mid p) → stands_at level left.lines ≡ t → cond t (next_item level one shrinks left) (Ok ([], left)) ≡ Err p
          → LineFails (items_by level one shrinks) left p
      by true others is e =
          fails_yes_at (next_item level one shrinks) (λ left. Ok ([], left)) (stands_at level) (stands_looks level) left p is
          (bind_err (one left) (λ x. and_more x.0 (many_at level one x.1)) p e
          (λ is1. fails_first_at {R = one} (λ x. and_more x.0 (many_at level one x.1)) left p (fails left p is1))
          (λ x is1 e1.
          fails_then_at {R = one} (λ x. and_more x.0 (many_at level one x.1)) left x.1 x.0 p (front left x.0 x.1 is1)
          (bind_err (many_at level one x.1) (λ ys. Ok (x.0 ∷ ys.0, ys.1)) p e1
          (λ is2. fails_first_at {R = many_at level one} (λ ys. Ok (x.0 ∷ ys.0, ys.1)) x.1 p (others x.1 (shrinks left x.0 x.1 is1) is2))
          (λ ys is2 e2. absurd cc))))
      by false others is e = absurd cc

  pub many_fails : Fails (many_at level one)
  many_fails left p e = many_by (suc (length left.lines)) left p (omega arith) e

  pub some_fails : Fails (some_at level one)
  unfolding some_at
  some_fails = fails_bind _ front fails (λ x. fails_and_more x (many_front level one shrinks front) many_fails)
