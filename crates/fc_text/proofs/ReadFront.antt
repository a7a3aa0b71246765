-- What a reader reads stands in front of the lines, and it reads the same whatever stands behind, if that is indented alike.
use Rattle.std.proofs.Common.{◌≡◌, ◌<◌, ◌≤◌, ◌+◌, ◌*◌, ◌==◌, ℕ, zero, suc, Bool, true, false, cond, ◌&&◌, not, List, [], ◌∷◌, ◌++◌, length, drop, codes, Option, Some, None, Result, Ok, Err, append_assoc, length-append, refl, sym, ap, subst, ◌∙◌, arith, rules}
use Rattle.fc_path.specs.Kinds.{takes_nothing}
use Rattle.fc_path.specs.declared.kinds.Operation.{Operation}
use Rattle.fc_path.specs.declared.kinds.Operation.TheVariants as operation
use Rattle.fc_path.specs.declared.oper.OperKind.{OperKind}
use Rattle.fc_path.specs.declared.path.Body.{Body}
use Rattle.fc_msg.specs.Messages.{message_fits}
use Rattle.fc_msg.specs.declared.message.Message.{Message}
use Rattle.fc_lines.specs.declared.said.Head.{Head}
use Rattle.fc_lines.specs.LineWords.{WordItem, WordsLeft, LinesLeft, words_from, lines_left, spaces_before, stands_at, line_of, line_at, none_left, closed}
use Rattle.fc_base.specs.Answers.{◌>>=◌}
use Rattle.fc_lines.specs.TextPlaces.{TextPlace, place}
use Rattle.fc_lines.specs.LineReading.{Reader, ilv_at, outcome_at, number_at, head_at}
use Rattle.fc_lines.specs.LineReading.{shut}
use Rattle.fc_text.specs.TextReading.{and_more, many_at, some_at, each_at, leaf_in, path_by, path_line, paths_by, last_body, body_by, body_at, operation_paths_at, operation_at, oper_at, select_at, content_at, message_of, whole_at, message_at}
use Rattle.fc_text.proofs.SoundWords.{bind_ok, same_pair}

-- the indentation of the next line
abbrev pub next_indent : List (List ℕ) → Option ℕ
next_indent [] = None
next_indent (line ∷ lines) = Some (spaces_before line)

-- what was read of lines: those in front, and the same with other lines behind them
pub record ReadFront {X : Type 0} (R : Reader X) (left : LinesLeft) (x : X) (rest : LinesLeft) : Type 0 where
  pub front : List (List ℕ)
  pub is : left.lines ≡ front ++ rest.lines
  pub taken : rest.taken ≡ left.taken + length front
  pub again : (more : List (List ℕ)) → next_indent more ≡ next_indent rest.lines → R (lines_left left.taken (front ++ more)) ≡ Ok (x, lines_left rest.taken more)

abbrev pub Front : {X : Type 0} → Reader X → Type 0
Front {X = X} R = (left : LinesLeft) (x : X) (rest : LinesLeft) → R left ≡ Ok (x, rest) → ReadFront R left x rest

-- it takes a line at least
abbrev pub Shrinks : {X : Type 0} → Reader X → Type 0
Shrinks {X = X} R = (left : LinesLeft) (x : X) (rest : LinesLeft) → R left ≡ Ok (x, rest) → length rest.lines < length left.lines

-- what stands in front keeps the next line
pub next_same : (front more others : List (List ℕ)) → next_indent more ≡ next_indent others → next_indent (front ++ more) ≡ next_indent (front ++ others)
next_same [] more others e = e
next_same (l ∷ ls) more others e = refl

pub next_behind : (front more others all : List (List ℕ)) → all ≡ front ++ others → next_indent more ≡ next_indent others → next_indent (front ++ more) ≡ next_indent all
next_behind front more others all is e = next_same front more others e ∙ ap next_indent (sym is)

pub no_longer : (front rest all : List (List ℕ)) → all ≡ front ++ rest → length rest ≤ length all
no_longer front rest all e = omega (arith, ap length e, length-append front rest)

-- nothing is read
pub front_pure : {X : Type 0} {x : X} → Front (λ left. Ok (x, left))
front_pure {X = X} {x = x} left y rest e =
    let (same, behind) = same_pair x y left rest e in
    subst (λ y. ReadFront {X = X} (λ left. Ok (x, left)) left y rest) same
    (subst (ReadFront {X = X} (λ left. Ok (x, left)) left x) behind (record { front = []; is = refl; taken = omega arith; again = λ more next. refl }))

-- one after the other
pub front_bind_at : {X Y : Type 0} {R : Reader X} (F : X × LinesLeft → Result (Y × LinesLeft) TextPlace) (left mid rest : LinesLeft) (x : X) (y : Y)
    → ReadFront R left x mid → ReadFront (λ rest. F (x, rest)) mid y rest → ReadFront (λ left. R left >>= F) left y rest
front_bind_at {R = R} F left mid rest x y a b = record {
  front = a.front ++ b.front;
  is = a.is ∙ ap (λ l. a.front ++ l) b.is ∙ sym (append_assoc a.front b.front rest.lines);
  taken = omega (arith, a.taken, b.taken, length-append a.front b.front);
  again = λ more next.
      ap (λ l. R (lines_left left.taken l) >>= F) (append_assoc a.front b.front more)
      ∙ ap (λ r. r >>= F) (a.again (b.front ++ more) (next_behind b.front more rest.lines mid.lines b.is next))
      ∙ b.again more next;
}

pub front_bind : {X Y : Type 0} {R : Reader X} (F : X × LinesLeft → Result (Y × LinesLeft) TextPlace) → Front R → ((x : X) → Front (λ rest. F (x, rest))) → Front (λ left. R left >>= F)
front_bind {R = R} F h k left y rest e =
    bind_ok (R left) F (y, rest) e λ m is more.
    front_bind_at F left m.1 rest m.0 y (h left m.0 m.1 is) (k m.0 m.1 y rest more)

pub shrinks_bind : {X Y : Type 0} {R : Reader X} (F : X × LinesLeft → Result (Y × LinesLeft) TextPlace) → Shrinks R → ((x : X) → Front (λ rest. F (x, rest))) → Shrinks (λ left. R left >>= F)
shrinks_bind {R = R} F h k left y rest e =
    bind_ok (R left) F (y, rest) e λ m is more.
    let b = k m.0 m.1 y rest more in
    omega (arith, h left m.0 m.1 is, no_longer b.front rest.lines m.1.lines b.is)

-- behind words
pub front_with : {A X : Type 0} (r : Result A TextPlace) (F : A → Reader X) → ((a : A) → Front (F a)) → Front (λ left. r >>= λ a. F a left)
front_with (Ok a) F h left x rest e = h a left x rest e
front_with (Err at) F h left x rest e = cc

pub front_err : {X : Type 0} {at : LinesLeft → TextPlace} → Front {X = X} (λ left. Err (at left))
front_err left x rest e = cc

-- a choice by a test
pub front_if : {X : Type 0} (t : Bool) {R S : Reader X} → Front R → Front S → Front (λ left. cond t (R left) (S left))
front_if true h k = h
front_if false h k = k

-- a choice by the indentation of the next line
abbrev pub Looks : (List (List ℕ) → Bool) → Type 0
Looks T = (lines others : List (List ℕ)) → next_indent lines ≡ next_indent others → T lines ≡ T others

module _ {X : Type 0} (R S : Reader X) (T : List (List ℕ) → Bool) (looks : Looks T) (left : LinesLeft) (x : X) (rest : LinesLeft) where
  pub front_yes_at : T left.lines ≡ true → ReadFront R left x rest → ReadFront (λ left. cond (T left.lines) (R left) (S left)) left x rest
  front_yes_at is a = record {
    front = a.front;
    is = a.is;
    taken = a.taken;
    again = λ more next.
        ap (λ t. cond t (R (lines_left left.taken (a.front ++ more))) (S (lines_left left.taken (a.front ++ more)))) (looks (a.front ++ more) left.lines (next_behind a.front more rest.lines left.lines a.is next) ∙ is)
        ∙ a.again more next;
  }

  pub front_no_at : T left.lines ≡ false → ReadFront S left x rest → ReadFront (λ left. cond (T left.lines) (R left) (S left)) left x rest
  front_no_at is a = record {
    front = a.front;
    is = a.is;
    taken = a.taken;
    again = λ more next.
        ap (λ t. cond t (R (lines_left left.taken (a.front ++ more))) (S (lines_left left.taken (a.front ++ more)))) (looks (a.front ++ more) left.lines (next_behind a.front more rest.lines left.lines a.is next) ∙ is)
        ∙ a.again more next;
  }

pub front_choice : {X : Type 0} {R S : Reader X} (T : List (List ℕ) → Bool) → Looks T → Front R → Front S → Front (λ left. cond (T left.lines) (R left) (S left))
front_choice {X = X} {R = R} {S = S} T looks h k left x rest e = by (T left.lines) refl e
  where
    by : (t : Bool) → T left.lines ≡ t → cond t (R left) (S left) ≡ Ok (x, rest) → ReadFront (λ left. cond (T left.lines) (R left) (S left)) left x rest
    by true is e = front_yes_at R S T looks left x rest is (h left x rest e)
    by false is e = front_no_at R S T looks left x rest is (k left x rest e)

pub stands_looks : (level : ℕ) → Looks (stands_at level)
stands_looks level [] [] e = refl
stands_looks level [] (m ∷ ms) e = cc
stands_looks level (l ∷ ls) [] e = cc
stands_looks level (l ∷ ls) (m ∷ ms) e = ap (λ n. n == 2 * level) (same_some (spaces_before l) (spaces_before m) e)
  where
    same_some : (a b : ℕ) → Some a ≡ Some b → a ≡ b
    same_some a b e = cc

pub none_looks : Looks none_left
none_looks [] [] e = refl
none_looks [] (m ∷ ms) e = cc
none_looks (l ∷ ls) [] e = cc
none_looks (l ∷ ls) (m ∷ ms) e = refl

-- a line
line_by : (level taken : ℕ) (lines : List (List ℕ)) (v : WordsLeft) (rest : LinesLeft) → line_of level taken lines ≡ Ok (v, rest) → ReadFront (line_at level) (lines_left taken lines) v rest
unfolding line_at
line_by level taken [] v rest e = cc
line_by level taken (l ∷ ls) v rest e = by (spaces_before l == 2 * level) refl e
  where
    words : WordsLeft
    words = words_from (taken + 1) (2 * level + 1) true (drop (2 * level) l)

    by : (t : Bool) → (spaces_before l == 2 * level) ≡ t → cond {A = Result (WordsLeft × LinesLeft) TextPlace} t (Ok (words, lines_left (taken + 1) ls)) (Err (place (taken + 1) 1)) ≡ Ok (v, rest)
        → ReadFront (line_at level) (lines_left taken (l ∷ ls)) v rest
    by true is e =
        let (same, behind) = same_pair words v (lines_left (taken + 1) ls) rest e in
        subst (λ v. ReadFront (line_at level) (lines_left taken (l ∷ ls)) v rest) same
        (subst (ReadFront (line_at level) (lines_left taken (l ∷ ls)) words) behind
        (record { front = l ∷ []; is = refl; taken = omega arith; again = λ more next. rw is refl }))
    by false is e = cc

pub front_line_at : (level : ℕ) → Front (line_at level)
unfolding line_at
front_line_at level left v rest e = line_by level left.taken left.lines v rest e

line_shrinks_by : (level taken : ℕ) (lines : List (List ℕ)) (v : WordsLeft) (rest : LinesLeft) → line_of level taken lines ≡ Ok (v, rest) → length rest.lines < length lines
line_shrinks_by level taken [] v rest e = cc
line_shrinks_by level taken (l ∷ ls) v rest e = by (spaces_before l == 2 * level) e
  where
    by : (t : Bool) → cond {A = Result (WordsLeft × LinesLeft) TextPlace} t (Ok (words_from (taken + 1) (2 * level + 1) true (drop (2 * level) l), lines_left (taken + 1) ls)) (Err (place (taken + 1) 1)) ≡ Ok (v, rest) → length rest.lines < length (l ∷ ls)
    by true e = let (same, behind) = same_pair (words_from (taken + 1) (2 * level + 1) true (drop (2 * level) l)) v (lines_left (taken + 1) ls) rest e in omega (arith, ap (λ (r : LinesLeft). length r.lines) behind)
    by false e = cc

pub shrinks_line_at : (level : ℕ) → Shrinks (line_at level)
unfolding line_at
shrinks_line_at level left v rest e = line_shrinks_by level left.taken left.lines v rest e

pub front_line : {X : Type 0} (level : ℕ) (F : WordsLeft × LinesLeft → Result (X × LinesLeft) TextPlace) → ((v : WordsLeft) → Front (λ rest. F (v, rest))) → Front (λ left. line_at level left >>= F)
front_line level F h = front_bind F (front_line_at level) h

pub shrinks_line : {X : Type 0} (level : ℕ) (F : WordsLeft × LinesLeft → Result (X × LinesLeft) TextPlace) → ((v : WordsLeft) → Front (λ rest. F (v, rest))) → Shrinks (λ left. line_at level left >>= F)
shrinks_line level F h = shrinks_bind F (shrinks_line_at level) h

-- the same reader in other words
pub front_as : {X : Type 0} (R S : Reader X) (left : LinesLeft) (x : X) (rest : LinesLeft) → ((l : LinesLeft) → R l ≡ S l) → ReadFront S left x rest → ReadFront R left x rest
front_as R S left x rest same a = record { front = a.front; is = a.is; taken = a.taken; again = λ more next. same (lines_left left.taken (a.front ++ more)) ∙ a.again more next }

-- items
pub front_and_more : {X : Type 0} {R : Reader (List X)} (x : X) → Front R → Front (λ left. and_more x (R left))
front_and_more x h = front_bind _ h (λ xs. front_pure)

bind_same : {A B : Type 0} (r : Result A TextPlace) (F G : A → Result B TextPlace) → ((x : A) → r ≡ Ok x → F x ≡ G x) → (r >>= F) ≡ (r >>= G)
bind_same (Ok x) F G h = h x refl
bind_same (Err at) F G h = refl

none_stands : (level : ℕ) (lines : List (List ℕ)) → length lines ≤ 0 → stands_at level lines ≡ false
none_stands level [] h = refl
none_stands level (l ∷ ls) h = absurd (omega (arith, h))

module _ {X : Type 0} (level : ℕ) (one : Reader X) (shrinks : Shrinks one) where
  same_fuel : (f g : ℕ) (left : LinesLeft) → length left.lines ≤ f → length left.lines ≤ g → each_at f level one left ≡ each_at g level one left
  same_fuel zero zero left h k = refl
  same_fuel zero (suc g) left h k = rw (none_stands level left.lines h) refl
  same_fuel (suc f) zero left h k = rw (none_stands level left.lines k) refl
  same_fuel (suc f) (suc g) left h k =
      ap (λ r. cond (stands_at level left.lines) r (Ok ([], left)))
      (bind_same (one left) (λ x. and_more x.0 (each_at f level one x.1)) (λ x. and_more x.0 (each_at g level one x.1)) λ x is.
      let less : length x.1.lines < length left.lines = shrinks left x.0 x.1 is in
      ap (and_more x.0) (same_fuel f g x.1 (omega (arith, less, h)) (omega (arith, less, k))))

  -- one step of the items
  abbrev pub next_item : LinesLeft → Result (List X × LinesLeft) TextPlace
  next_item left = one left >>= λ x. and_more x.0 (many_at level one x.1)

  abbrev pub items_by : LinesLeft → Result (List X × LinesLeft) TextPlace
  items_by left = cond (stands_at level left.lines) (next_item left) (Ok ([], left))

  pub many_step : (left : LinesLeft) → many_at level one left ≡ items_by left
  unfolding many_at
  many_step left =
      same_fuel (length left.lines) (suc (length left.lines)) left (omega arith) (omega arith)
      ∙ ap (λ r. cond (stands_at level left.lines) r (Ok ([], left)))
      (bind_same (one left) (λ x. and_more x.0 (each_at (length left.lines) level one x.1)) (λ x. and_more x.0 (each_at (length x.1.lines) level one x.1)) λ x is.
      let less : length x.1.lines < length left.lines = shrinks left x.0 x.1 is in
      ap (and_more x.0) (same_fuel (length left.lines) (length x.1.lines) x.1 (omega (arith, less)) (omega arith)))

  module _ (front : Front one) where
    many_by : (n : ℕ) (left : LinesLeft) (xs : List X) (rest : LinesLeft) → length left.lines < n → many_at level one left ≡ Ok (xs, rest) → ReadFront (many_at level one) left xs rest
    many_by zero left xs rest h e = absurd (omega (arith, h))
    many_by (suc n) left xs rest h e = front_as (many_at level one) items_by left xs rest many_step (by (stands_at level left.lines) (λ mid ys end less is. many_by n mid ys end (omega (arith, h, less)) is) refl (sym (many_step left) ∙ e))
      where
        by : (t : Bool) → ((mid : LinesLeft) (ys : List X) (end : LinesLeft) → length mid.lines < length left.lines → many_at level one mid ≡ Ok (ys, end) → ReadFront (many_at level one) mid ys end) → stands_at level left.lines ≡ t → cond t (next_item left) (Ok ([], left)) ≡ Ok (xs, rest) → ReadFront items_by left xs rest
        by true others is e =
            front_yes_at next_item (λ left. Ok ([], left)) (stands_at level) (stands_looks level) left xs rest is
            (bind_ok (one left) (λ x. and_more x.0 (many_at level one x.1)) (xs, rest) e λ x is1 e1.
            bind_ok (many_at level one x.1) (λ ys. Ok (x.0 ∷ ys.0, ys.1)) (xs, rest) e1 λ ys is2 e2.
            let less : length x.1.lines < length left.lines = shrinks left x.0 x.1 is1 in
            front_bind_at (λ x. and_more x.0 (many_at level one x.1)) left x.1 rest x.0 xs (front left x.0 x.1 is1)
            (front_bind_at {R = many_at level one} (λ ys. Ok (x.0 ∷ ys.0, ys.1)) x.1 ys.1 rest ys.0 xs (others x.1 ys.0 ys.1 less is2)
            (front_pure {x = x.0 ∷ ys.0} ys.1 xs rest e2)))
        by false others is e = front_no_at next_item (λ left. Ok ([], left)) (stands_at level) (stands_looks level) left xs rest is (front_pure {x = []} left xs rest e)

    pub many_front : Front (many_at level one)
    many_front left xs rest e = many_by (suc (length left.lines)) left xs rest (omega arith) e

    pub some_front : Front (some_at level one)
    unfolding some_at
    some_front = front_bind _ front (λ x. front_and_more x many_front)

-- lines that hold no others
pub ilv_front : (level : ℕ) → Front (ilv_at level)
unfolding ilv_at
ilv_front level = front_line level _ λ v. search (rules, front_with, front_pure) depth 12

pub ilv_shrinks : (level : ℕ) → Shrinks (ilv_at level)
unfolding ilv_at
ilv_shrinks level = shrinks_line level _ λ v. search (rules, front_with, front_pure) depth 12

pub ilvs_front : (level : ℕ) → Front (many_at level (ilv_at level))
ilvs_front level = many_front level (ilv_at level) (ilv_shrinks level) (ilv_front level)

pub outcome_front : (level : ℕ) → Front (outcome_at level)
unfolding outcome_at
outcome_front level = front_line level _ λ v. search (rules, front_with, front_pure) depth 12

-- bodies and PATH-DATA
pub leaf_front : (kind : OperKind) (level : ℕ) (word : WordItem) (v : WordsLeft) → Front (leaf_in kind level word v)
unfolding leaf_in
leaf_front kind level word v = search (rules, front_if, front_with, front_bind, front_pure, front_err, ilvs_front) depth 20

module _ (inside : ℕ → Reader Body) (front : (level : ℕ) → Front (inside level)) where
  pub path_by_front : (level : ℕ) (v : WordsLeft) → Front (path_by inside level v)
  unfolding path_by
  path_by_front level v = search (rules, front_with, front_bind, front_pure, front) depth 12

  pub path_line_front : (level : ℕ) → Front (path_line inside level)
  unfolding path_line
  path_line_front level = front_line level _ λ v. search (rules, front_with, path_by_front) depth 12

  pub path_line_shrinks : (level : ℕ) → Shrinks (path_line inside level)
  unfolding path_line
  path_line_shrinks level = shrinks_line level _ λ v. search (rules, front_with, path_by_front) depth 12

  pub paths_front : (level : ℕ) → Front (many_at level (path_line inside level))
  paths_front level = many_front level (path_line inside level) (path_line_shrinks level) (path_line_front level)

  pub paths_by_front : (level : ℕ) (v : WordsLeft) → Front (paths_by inside level v)
  unfolding paths_by
  paths_by_front level v = front_bind _ (path_by_front level v) λ x. front_and_more x (paths_front level)

  pub body_by_front : (kind : OperKind) (level : ℕ) → Front (body_by kind inside level)
  unfolding body_by
  body_by_front kind level =
      front_choice (λ lines. takes_nothing kind && not (stands_at level lines)) (λ lines others e. ap (λ t. takes_nothing kind && not t) (stands_looks level lines others e)) front_pure
      (front_line level _ λ v. search (rules, front_with, front_if, front_bind, front_pure, paths_by_front, leaf_front) depth 20)

pub last_front : (kind : OperKind) (level : ℕ) → Front (last_body kind level)
unfolding last_body
last_front kind level = front_if (takes_nothing kind) front_pure (front_line level _ λ v. search (rules, front_with, leaf_front) depth 12)

pub body_front : (kind : OperKind) (depth level : ℕ) → Front (body_at kind depth level)
body_front kind zero level = last_front kind level
body_front kind (suc depth) level = body_by_front (body_at kind depth) (body_front kind depth) kind level

pub operation_paths_front : (kind : OperKind) (level : ℕ) → Front (operation_paths_at kind level)
unfolding operation_paths_at
operation_paths_front kind level = front_line level _ λ v. front_with _ _ λ w. paths_by_front (body_at kind 15) (body_front kind 15) level w.1

-- operations and LFBselects
pub operation_front : (which : Operation) (level : ℕ) → Front (operation_at which level)
operation_front (operation.Paths kind) level = front_bind _ (operation_paths_front kind level) (λ paths. front_pure)
operation_front operation.Commit level = front_pure
operation_front operation.Trcomp level = front_pure
operation_front operation.CommitResponse level = front_bind _ (outcome_front level) (λ code. front_pure)

pub oper_front : (message level : ℕ) → Front (oper_at message level)
unfolding oper_at
oper_front message level = front_line level _ λ v. search (rules, front_with, operation_front) depth 12

pub oper_shrinks : (message level : ℕ) → Shrinks (oper_at message level)
unfolding oper_at
oper_shrinks message level = shrinks_line level _ λ v. search (rules, front_with, operation_front) depth 12

pub opers_front : (message level : ℕ) → Front (some_at level (oper_at message level))
opers_front message level = some_front level (oper_at message level) (oper_shrinks message level) (oper_front message level)

pub select_front : (message level : ℕ) → Front (select_at message level)
unfolding select_at
select_front message level = front_line level _ λ v. search (rules, front_with, front_bind, front_pure, opers_front) depth 20

pub select_shrinks : (message level : ℕ) → Shrinks (select_at message level)
unfolding select_at
select_shrinks message level = shrinks_line level _ λ v. search (rules, front_with, front_bind, front_pure, opers_front) depth 20

pub selects_front : (message level : ℕ) → Front (many_at level (select_at message level))
selects_front message level = many_front level (select_at message level) (select_shrinks message level) (select_front message level)

pub some_selects_front : (message level : ℕ) → Front (some_at level (select_at message level))
some_selects_front message level = some_front level (select_at message level) (select_shrinks message level) (select_front message level)

-- messages
pub number_front : (name : List ℕ) → Front (number_at name)
unfolding number_at
number_front name = front_line 1 _ λ v. search (rules, front_with, front_pure) depth 12

pub content_front : (kind : ℕ) → Front (content_at kind)
unfolding content_at
content_front kind =
    front_if (kind == 15) front_pure
    (front_if (kind == 17) (front_bind _ (number_front (codes "result")) (λ n. front_pure))
    (front_if (kind == 2) (front_bind _ (number_front (codes "reason")) (λ n. front_pure))
    (front_if (kind == 1) (front_bind _ (selects_front kind 1) (λ s. front_pure)) (front_bind _ (some_selects_front kind 1) (λ s. front_pure)))))

pub head_front : Front head_at
unfolding head_at
head_front = front_line 0 _ λ v. search (rules, front_with, front_pure) depth 20

pub head_shrinks : Shrinks head_at
unfolding head_at
head_shrinks = shrinks_line 0 _ λ v. search (rules, front_with, front_pure) depth 20

-- behind a message
abbrev pub shut_with : {X : Type 0} → X → Reader X
shut_with x left = shut left >>= λ u. Ok (x, left)

abbrev pub shut_by : {X : Type 0} → X → Reader X
shut_by x left = cond (stands_at 0 left.lines) (Ok (x, left)) (cond (none_left left.lines) (Ok (x, left)) (Err (place (left.taken + 1) 1)))

pub shut_is : {X : Type 0} (x : X) (left : LinesLeft) → shut_with x left ≡ shut_by x left
unfolding shut closed
shut_is {X = X} x left = by (stands_at 0 left.lines) (none_left left.lines)
  where
    by : (s t : Bool) → ◌>>=◌ {A = Unit {0}} {B = X × LinesLeft} (cond s (Ok tt) (cond t (Ok tt) (Err (place (left.taken + 1) 1)))) (λ u. Ok (x, left)) ≡ cond s (Ok (x, left)) (cond t (Ok (x, left)) (Err (place (left.taken + 1) 1)))
    by true t = refl
    by false true = refl
    by false false = refl

pub shut_front : {X : Type 0} (x : X) → Front (shut_with x)
shut_front {X = X} x left y rest e =
    front_as (shut_with x) (shut_by x) left y rest (shut_is x)
    (front_choice (stands_at 0) (stands_looks 0) front_pure (front_choice none_left none_looks front_pure front_err) left y rest (sym (shut_is x left) ∙ e))

behind_head : (h : Head) → Front (λ left. content_at h.kind left >>= λ b. shut b.1 >>= λ u. Ok (message_of h b.0, b.1))
behind_head h = front_bind _ (content_front h.kind) λ b. shut_front (message_of h b)

pub whole_front : Front whole_at
unfolding whole_at
whole_front = front_bind _ head_front behind_head

pub whole_shrinks : Shrinks whole_at
unfolding whole_at
whole_shrinks = shrinks_bind _ head_shrinks behind_head

pub wholes_front : Front (many_at 0 whole_at)
wholes_front = many_front 0 whole_at whole_shrinks whole_front

-- a message that can be encoded is read as a message
pub message_whole : (left : LinesLeft) (m : Message) (rest : LinesLeft) → message_at left ≡ Ok (m, rest) → (whole_at left ≡ Ok (m, rest)) × (message_fits m ≡ true)
unfolding message_at
message_whole left m rest e = bind_ok (whole_at left) _ (m, rest) e λ w is e1. by w.0 w.1 (message_fits w.0) refl is e1
  where
    by : (n : Message) (mid : LinesLeft) (t : Bool) → message_fits n ≡ t → whole_at left ≡ Ok (n, mid) → cond {A = Result (Message × LinesLeft) TextPlace} t (Ok (n, mid)) (Err (place (left.taken + 1) 1)) ≡ Ok (m, rest)
        → (whole_at left ≡ Ok (m, rest)) × (message_fits m ≡ true)
    by n mid true fits is e =
        let (same, behind) = same_pair n m mid rest e in
        (is ∙ e, subst (λ m. message_fits m ≡ true) same fits)
    by n mid false fits is e = cc

pub whole_message : (left : LinesLeft) (m : Message) (rest : LinesLeft) → whole_at left ≡ Ok (m, rest) → message_fits m ≡ true → message_at left ≡ Ok (m, rest)
unfolding message_at
whole_message left m rest is fits = rw (is, fits) refl

pub message_front : Front message_at
message_front left m rest e =
    let (is, fits) = message_whole left m rest e in
    let a = whole_front left m rest is in
    record { front = a.front; is = a.is; taken = a.taken; again = λ more next. whole_message (lines_left left.taken (a.front ++ more)) m (lines_left rest.taken more) (a.again more next) fits }

pub message_shrinks : Shrinks message_at
message_shrinks left m rest e = whole_shrinks left m rest (message_whole left m rest e).0
