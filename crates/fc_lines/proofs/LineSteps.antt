-- Taking lines and words, one step at a time.
use Rattle.std.proofs.Common.{◌≡◌, ℕ, suc, ◌+◌, ◌*◌, ◌<◌, ◌≤◌, ◌==◌, List, [], ◌∷◌, length, drop, Bool, true, false, cond, Ok, Err, refl, sym, ap, ◌∙◌, arith, ne_eqb}
use Rattle.std.proofs.lemmas.Bool.{eqb-true}
use Rattle.fc_lines.specs.TextPlaces.{place}
use Rattle.fc_lines.specs.LineWords.{in_front, lines_of, words_from, spaces_before, stands_at, line_at, none_left, LinesLeft, lines_left}
use Rattle.fc_lines.proofs.Cutting.{skip, stay}

none_in_front : (b : ℕ) (pieces : List (List ℕ)) → none_left (in_front b pieces) ≡ false
none_in_front b [] = refl
none_in_front b (p ∷ ps) = refl

none_by : (b : ℕ) (bs : List ℕ) (newline : Bool) → none_left (cond newline ([] ∷ lines_of bs) (in_front b (lines_of bs))) ≡ false
none_by b bs true = refl
none_by b bs false = none_in_front b (lines_of bs)

pub none_left_of : (bytes : List ℕ) → none_left (lines_of bytes) ≡ (length bytes == 0)
none_left_of [] = refl
none_left_of (b ∷ bs) = none_by b bs (b == 10) ∙ sym (ne_eqb (length (b ∷ bs)) 0 (omega arith))

-- the first line begins with as many spaces as the text
pub record First (bytes : List ℕ) : Type 0 where
  pub line : List ℕ
  pub lines : List (List ℕ)
  pub is : lines_of bytes ≡ line ∷ lines
  pub spaces : spaces_before line ≡ spaces_before bytes

first_by : (b : ℕ) (bs : List ℕ) (newline : Bool) → (b == 10) ≡ newline → First bs → First (b ∷ bs)
first_by b bs true e rest = record {
  line = [];
  lines = lines_of bs;
  is = stay (b == 10) _ _ e;
  spaces = ap (λ n. cond (n == 32) (suc (spaces_before bs)) 0) (sym (eqb-true b 10 e));
}
first_by b bs false e rest = record {
  line = b ∷ rest.line;
  lines = rest.lines;
  is = skip (b == 10) _ _ e ∙ ap (in_front b) rest.is;
  spaces = ap (λ n. cond (b == 32) (suc n) 0) rest.spaces;
}

last_by : (b : ℕ) (newline : Bool) → (b == 10) ≡ newline → First (b ∷ [])
last_by b true e = record {
  line = [];
  lines = [];
  is = stay (b == 10) _ _ e;
  spaces = ap (λ n. cond (n == 32) (suc 0) 0) (sym (eqb-true b 10 e));
}
last_by b false e = record { line = b ∷ []; lines = []; is = skip (b == 10) _ _ e; spaces = refl }

pub first_of : (b : ℕ) (bs : List ℕ) → First (b ∷ bs)
first_of b [] = last_by b (b == 10) refl
first_of b (c ∷ cs) = first_by b (c ∷ cs) (b == 10) refl (first_of c cs)

pub stands_spaces : (level : ℕ) (bytes : List ℕ) → 0 < length bytes → stands_at level (lines_of bytes) ≡ (spaces_before bytes == 2 * level)
stands_spaces level [] some = absurd (omega arith)
stands_spaces level (b ∷ bs) some =
    let first = first_of b bs in ap (stands_at level) first.is ∙ ap (λ n. n == 2 * level) first.spaces

pub stands_some : (level : ℕ) (bytes : List ℕ) → stands_at level (lines_of bytes) ≡ true → 0 < length bytes
stands_some level [] h = cc
stands_some level (b ∷ bs) h = omega arith

pub not_standing : (level : ℕ) (bytes : List ℕ) → length bytes ≡ 0 → stands_at level (lines_of bytes) ≡ false
not_standing level [] h = refl
not_standing level (b ∷ bs) h = absurd (omega arith)

spaces_fit_by : (space : Bool) (bs : List ℕ) → spaces_before bs ≤ length bs → cond space (suc (spaces_before bs)) 0 ≤ suc (length bs)
spaces_fit_by true bs h = omega arith
spaces_fit_by false bs h = omega arith

pub spaces_fit : (line : List ℕ) → spaces_before line ≤ length line
spaces_fit [] = omega arith
spaces_fit (b ∷ bs) = spaces_fit_by (b == 32) bs (spaces_fit bs)

not_there_by : (level taken : ℕ) (lines : List (List ℕ)) → stands_at level lines ≡ false → line_at level (lines_left taken lines) ≡ Err (place (taken + 1) 1)
unfolding line_at
not_there_by level taken [] h = refl
not_there_by level taken (line ∷ lines) h = skip (spaces_before line == 2 * level) _ _ h

pub not_there : (level : ℕ) (left : LinesLeft) → stands_at level left.lines ≡ false → line_at level left ≡ Err (place (left.taken + 1) 1)
unfolding line_at
not_there level left h = not_there_by level left.taken left.lines h

pub there : (level taken : ℕ) (line : List ℕ) (lines all : List (List ℕ)) → all ≡ line ∷ lines → stands_at level all ≡ true
    → line_at level (lines_left taken all) ≡ Ok (words_from (taken + 1) (2 * level + 1) true (drop (2 * level) line), lines_left (taken + 1) lines)
unfolding line_at
there level taken line lines all e h =
    ap (λ l. line_at level (lines_left taken l)) e
    ∙ stay (spaces_before line == 2 * level) _ _ (sym (ap (stands_at level) e) ∙ h)
