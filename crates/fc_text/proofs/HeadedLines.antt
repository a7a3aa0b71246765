-- A part is read by its first line, and then by what stands behind it.
use Rattle.std.proofs.Common.{◌≡◌, ◌+◌, ◌&&◌, not, ℕ, List, codes, cond, Bool, true, false, Option, Result, Ok, Err, refl, sym, ap, subst, ◌∙◌}
use Rattle.std.specs.Str.{bytes_eq}
use Rattle.fc_base.specs.Answers.{◌>>=◌}
use Rattle.fc_path.specs.Kinds.{takes_full, takes_nothing, takes_outcome, takes_sparse}
use Rattle.fc_path.specs.declared.oper.OperKind.{OperKind}
use Rattle.fc_path.specs.declared.oper.Select.{Select}
use Rattle.fc_path.specs.declared.path.Body.{Body}
use Rattle.fc_path.specs.declared.path.Body.TheVariants as body
use Rattle.fc_path.specs.declared.path.Key.{Key}
use Rattle.fc_path.specs.declared.path.PathData.{PathData}
use Rattle.fc_lines.specs.LineReading.{BodyHead, LeafHead, Reader, body_head, body_head_at, code_in, leaf, leaf_head, leaf_head_at, lfb_at, name_at, operation_in, path, steps_at, steps_in}
use Rattle.fc_lines.specs.LineWords.{LinesLeft, WordItem, WordsLeft, digits_in, ended, exactly, line_at, octets_in, stands_at, word_in}
use Rattle.fc_lines.specs.TextPlaces.{TextPlace, Fails, Reads}
use Rattle.fc_lines.specs.declared.fault.TextFault.{TextFault}
use Rattle.fc_text.specs.HeadedReading.{body_of, leaf_of, path_of, paths_of}
use Rattle.fc_text.specs.TextReading.{body_at, body_by, last_body, leaf_in, oper_at, operation_at, operation_paths_at, path_by, path_line, paths_by, select_at, some_at}
use Rattle.fc_lines.proofs.Cutting.{skip}
use Rattle.fc_text.proofs.Loops.{fails_bind}

-- one after the other, and then a third
pub in_turn : {A B C F : Type 0} (r : Result A F) (f : A → Result B F) (g : B → Result C F) (h : A → Result C F) → ((a : A) → (f a >>= g) ≡ h a) → ((r >>= f) >>= g) ≡ (r >>= h)
in_turn (Ok a) f g h same = same a
in_turn (Err e) f g h same = refl

pub alike : {A B F : Type 0} (r : Result A F) (f g : A → Result B F) → ((a : A) → f a ≡ g a) → (r >>= f) ≡ (r >>= g)
alike (Ok a) f g same = same a
alike (Err e) f g same = refl

-- the parts by their first lines
abbrev pub LineThen : {X Y : Type 0} → Result (X × LinesLeft) TextPlace → (X → Reader Y) → Result (Y × LinesLeft) TextPlace
LineThen head behind = head >>= λ x. behind x.0 x.1

pub path_line_is : (inside : ℕ → Reader Body) (level : ℕ) (left : LinesLeft) → LineThen (steps_at level left) (path_of inside level) ≡ path_line inside level left
unfolding steps_at path_line path_by path_of
path_line_is inside level left =
    in_turn (line_at level left) _ _ _ (λ l. in_turn (exactly (codes "path") l.0) _ _ _ (λ w. in_turn (steps_in w.1) _ _ _ (λ s. refl)))

first_path : (inside : ℕ → Reader Body) (level : ℕ) (words : WordsLeft) (left : LinesLeft) → (steps_in words >>= λ s. paths_of inside level s left) ≡ paths_by inside level words left
unfolding paths_of paths_by path_by path_of
first_path inside level words left = sym (in_turn (steps_in words) _ _ _ (λ s. refl))

pub operation_paths_are : (kind : OperKind) (level : ℕ) (left : LinesLeft) → LineThen (steps_at level left) (paths_of (body_at kind 15) level) ≡ operation_paths_at kind level left
unfolding steps_at operation_paths_at
operation_paths_are kind level left =
    in_turn (line_at level left) _ _ _ (λ l. in_turn (exactly (codes "path") l.0) _ _ _ (λ w. in_turn (steps_in w.1) _ _ (λ s. paths_of (body_at kind 15) level s l.1) (λ s. refl) ∙ first_path (body_at kind 15) level w.1 l.1))

-- a choice by a test
choice : {A B F : Type 0} (t : Bool) (x y : Result A F) (z w : Result B F) (g : A → Result B F) → (x >>= g) ≡ z → (y >>= g) ≡ w → (cond t x y >>= g) ≡ cond t z w
choice true x y z w g h k = h
choice false x y z w g h k = k

leaf_is : (kind : OperKind) (level : ℕ) (word : WordItem) (words : WordsLeft) (left : LinesLeft) → LineThen (leaf_head kind word words left) (leaf_of level) ≡ leaf_in kind level word words left
unfolding leaf_head leaf_in
leaf_is kind level word words left =
    choice (takes_full kind && bytes_eq word.text (codes "full")) _ _ _ _ _ (in_turn (octets_in words) _ _ _ (λ value. in_turn (ended value.1) _ _ _ (λ _. refl)))
    (choice (takes_sparse kind && bytes_eq word.text (codes "sparse")) _ _ _ _ _ (in_turn (ended words) _ _ _ (λ _. refl))
    (choice (takes_outcome kind && bytes_eq word.text (codes "code")) _ _ _ _ _ (in_turn (code_in words) _ _ _ (λ code. refl)) refl))

pub last_body_is : (kind : OperKind) (level : ℕ) (left : LinesLeft) → takes_nothing kind ≡ false → LineThen (leaf_head_at kind level left) (leaf_of level) ≡ last_body kind level left
unfolding leaf_head_at last_body
last_body_is kind level left some =
    in_turn (line_at level left) _ _ _ (λ l. in_turn (word_in l.0) _ _ _ (λ x. leaf_is kind level x.0 x.1 l.1)) ∙ sym (skip (takes_nothing kind) _ _ some)

-- PATH-DATA in a body
abbrev nested : List PathData × LinesLeft → Result (Body × LinesLeft) TextPlace
nested paths = Ok (body.Nested paths.0, paths.1)

abbrev as_path : LinesLeft → List ℕ × Option Key → Result (BodyHead × LinesLeft) TextPlace
as_path left steps = Ok (path steps, left)

abbrev as_leaf : LeafHead × LinesLeft → Result (BodyHead × LinesLeft) TextPlace
as_leaf head = Ok (leaf head.0, head.1)

module _ (inside : ℕ → Reader Body) (level : ℕ) (words : WordsLeft) (left : LinesLeft) where
  abbrev behind : BodyHead × LinesLeft → Result (Body × LinesLeft) TextPlace
  behind head = body_of inside level head.0 head.1

  abbrev paths_behind : List ℕ × Option Key → Result (List PathData × LinesLeft) TextPlace
  paths_behind steps = paths_of inside level steps left

  nested_is : ((steps_in words >>= as_path left) >>= behind) ≡ (paths_by inside level words left >>= nested)
  nested_is =
      in_turn (steps_in words) (as_path left) behind (λ s. paths_behind s >>= nested) (λ s. refl)
      ∙ sym (in_turn (steps_in words) paths_behind nested (λ s. paths_behind s >>= nested) (λ s. refl))
      ∙ ap (λ r. r >>= nested) (first_path inside level words left)

  leaf_inside : (kind : OperKind) (word : WordItem) → ((leaf_head kind word words left >>= as_leaf) >>= behind) ≡ leaf_in kind level word words left
  leaf_inside kind word = in_turn (leaf_head kind word words left) as_leaf behind (λ h. leaf_of level h.0 h.1) (λ h. refl) ∙ leaf_is kind level word words left

pub body_by_is : (kind : OperKind) (inside : ℕ → Reader Body) (level : ℕ) (left : LinesLeft) → (takes_nothing kind && not (stands_at level left.lines)) ≡ false
    → LineThen (body_head_at kind level left) (body_of inside level) ≡ body_by kind inside level left
unfolding body_head_at body_head body_by
body_by_is kind inside level left some =
    in_turn (line_at level left) _ _ _ (λ l. in_turn (word_in l.0) _ _ _ (λ x.
    choice (bytes_eq x.0.text (codes "path")) _ _ _ _ _ (nested_is inside level x.1 l.1) (leaf_inside inside level x.1 l.1 kind x.0)))
    ∙ sym (skip (takes_nothing kind && not (stands_at level left.lines)) _ _ some)

pub oper_is : (message level : ℕ) (left : LinesLeft) → LineThen (name_at message level left) (λ which. operation_at which (level + 1)) ≡ oper_at message level left
unfolding name_at oper_at
oper_is message level left =
    in_turn (line_at level left) _ _ _ (λ l. in_turn (operation_in message l.0) _ _ _ (λ which. in_turn (ended which.1) _ _ _ (λ _. refl)))

-- an LFBselect of this class and this instance
abbrev pub select_of : ℕ → ℕ → ℕ × ℕ → Reader Select
select_of message level names left =
    some_at (level + 1) (oper_at message (level + 1)) left >>= λ opers. Ok (record { class = names.0; instance = names.1; opers = opers.0 }, opers.1)

pub select_is : (message level : ℕ) (left : LinesLeft) → LineThen (lfb_at level left) (select_of message level) ≡ select_at message level left
unfolding lfb_at select_at
select_is message level left =
    in_turn (line_at level left) _ _ _ (λ l. in_turn (exactly (codes "lfb") l.0) _ _ _ (λ w. in_turn (digits_in 8 w.1) _ _ _ (λ class. in_turn (digits_in 8 class.1) _ _ _ (λ instance. in_turn (ended instance.1) _ _ _ (λ _. refl)))))

-- where the line is refused, and where it is read
pub line_fails : {X Y : Type 0} (head : Result (X × LinesLeft) TextPlace) (behind : X → Reader Y) (whole : Result (Y × LinesLeft) TextPlace) (e : TextFault) → LineThen head behind ≡ whole → Fails e head → Fails e whole
line_fails {Y = Y} head behind whole e is f = subst (λ (w : Result (Y × LinesLeft) TextPlace). Fails e w) is (fails_bind head _ e f)

pub line_reads : {X Y : Type 0} (head : Result (X × LinesLeft) TextPlace) (behind : X → Reader Y) (whole : Result (Y × LinesLeft) TextPlace) (x : X) (mid rest : LinesLeft) (r : Result Y TextFault)
    → LineThen head behind ≡ whole → head ≡ Ok (x, mid) → Reads r (behind x mid) rest → Reads r whole rest
line_reads {Y = Y} head behind whole x mid rest r is e h =
    subst (λ (w : Result (Y × LinesLeft) TextPlace). Reads r w rest) (ap (λ q. q >>= λ x. behind x.0 x.1) (sym e) ∙ is) h
