-- PATH-DATA go on with other lines where they fail.
use Rattle.std.proofs.Common.{◌≡◌, ◌+◌, ℕ, zero, suc, Bool, true, false, cond, ◌&&◌, not, ◌⊎◌, inl, inr, ◌==◌, ◌*◌, List, [], ◌∷◌, ◌++◌, length, codes, Option, Result, Ok, Err, length-append, refl, sym, ap, subst, ◌∙◌, arith}
use Rattle.std.specs.Str.{bytes_eq}
use Rattle.std.proofs.lemmas.Bool.{and_parts}
use Rattle.std.proofs.lemmas.Slice.Eq.{bytes_eq-Decides}
use Rattle.fc_path.specs.Kinds.{takes_nothing, takes_full, takes_sparse, takes_outcome}
use Rattle.fc_path.specs.Proper.{ProperBody, ProperPath}
use Rattle.fc_path.specs.declared.oper.OperKind.{OperKind}
use Rattle.fc_path.specs.declared.oper.OperKind.TheVariants as kinds
use Rattle.fc_path.specs.declared.path.Key.{Key}
use Rattle.fc_path.specs.declared.path.PathData.{PathData}
use Rattle.fc_path.specs.declared.path.Body.{Body, out-Body}
use Rattle.fc_path.specs.declared.path.Body.TheVariants as body
use Rattle.fc_lines.specs.LineWords.{WordsLeft, LinesLeft, words_left, lines_left, placed, spaces_before, stands_at, line_at, word_in, exactly, octets_in, ended as words_ended}
use Rattle.fc_text.specs.TextGrammar.{ilv_line, body_lines, path_lines, SpellsLine, AreEach}
use Rattle.fc_base.specs.Answers.{◌>>=◌}
use Rattle.fc_lines.specs.TextPlaces.{TextPlace, place}
use Rattle.fc_lines.specs.LineReading.{Reader, ilv_at, steps_in, code_in}
use Rattle.fc_text.specs.TextReading.{and_more, many_at, leaf_in, path_data, path_by, path_line, paths_by, last_body, body_by, body_at, operation_paths_at}
use Rattle.fc_text.proofs.Completions.{Refuses, Chosen, choice_goes, ended_goes}
use Rattle.fc_text.proofs.CompletedLines.{Ended, Behind, Completes, CompletesLine, line_goes, done_goes, map_goes, pure_err}
use Rattle.fc_text.proofs.CompletedItems.{Again, ReadsAgain, Counts, again_by, IsItem, then_goes, many_goes, others_go}
use Rattle.fc_text.proofs.CompletedWords.{name_goes, number_goes, octets_goes, final_goes, code_goes, code_words, steps_go, steps_words}
use Rattle.fc_text.proofs.ReadFront.{Front, ilv_front, path_line_front, body_front}
use Rattle.fc_text.proofs.ReadLines.{Gives}
use Rattle.fc_text.proofs.ReadItems.{Before, before_more}
use Rattle.fc_text.proofs.ReadPaths.{item, and_no, ilv_reads, path_line_read, body_read}
use Rattle.fc_text.proofs.SoundPaths.{path_sound, body_sound}
use Rattle.fc_text.proofs.SoundWords.{Found, bind_ok, same_pair, ilv_sound}
use Rattle.fc_text.proofs.SplitLines.{IsWord}

pub counted : {X : Type 0} (R : Reader X) → Front R → Counts R
counted R front left x rest e =
    let f = front left x rest e in
    omega (arith, f.taken, ap length f.is, length-append f.front rest.lines)

-- what begins with a line at a level stands at it
pub line_stands : {Y : Type 0} (level : ℕ) (left : LinesLeft) (T : WordsLeft × LinesLeft → Result Y TextPlace) (y : Y) → (line_at level left >>= T) ≡ Ok y → stands_at level left.lines ≡ true
unfolding line_at
line_stands {Y = Y} level left T y e = by left.taken left.lines e
  where
    by_test : (t : Bool) (r : WordsLeft × LinesLeft) (p : TextPlace) → (cond {A = Result (WordsLeft × LinesLeft) TextPlace} t (Ok r) (Err p) >>= T) ≡ Ok y → t ≡ true
    by_test true r p e = refl
    by_test false r p e = cc

    by : (taken : ℕ) (lines : List (List ℕ)) → (line_at level (lines_left taken lines) >>= T) ≡ Ok y → stands_at level lines ≡ true
    by taken [] e = cc
    by taken (l ∷ ls) e = by_test (spaces_before l == 2 * level) _ _ e

-- a chain of steps may be taken in two
pub in_two : {A B C : Type 0} (r : Result A TextPlace) (f : A → Result B TextPlace) (g : B → Result C TextPlace) → ((r >>= f) >>= g) ≡ (r >>= λ a. f a >>= g)
in_two (Ok a) f g = refl
in_two (Err p) f g = refl

pub same_line : {X : Type 0} (T S : WordsLeft → Reader X) → ((w : WordsLeft) (left : LinesLeft) → S w left ≡ T w left) → CompletesLine T → CompletesLine S
same_line T S same k =
    let s = k.starts in
    record {
      starts = record {
        words = s.words;
        are = s.are;
        others = s.others;
        value = s.value;
        is = λ n e c taken. let r = s.is n e c taken in (r.0, same (words_left n e (placed c s.words)) (lines_left taken s.others) ∙ r.1);
      };
      completes = λ n e c ts left p ends h.
          let d = k.completes n e c ts left p ends (sym (same (words_left n e (placed c ts)) left) ∙ h) in
          record {
            words = d.words;
            are = d.are;
            others = d.others;
            value = d.value;
            is = λ n e c taken. let r = d.is n e c taken in (r.0, same (words_left n e (placed c d.words)) (lines_left taken d.others) ∙ r.1);
            kept = d.kept;
          };
    }

pub map_line : {X Y : Type 0} (T : WordsLeft → Reader X) (g : X → Y) → CompletesLine T → CompletesLine {X = Y} (λ w left. T w left >>= λ x. Ok (g x.0, x.1))
map_line {X = X} {Y = Y} T g k =
    let s = k.starts in
    record {
      starts = record {
        words = s.words;
        are = s.are;
        others = s.others;
        value = g s.value;
        is = λ n e c taken. let r = s.is n e c taken in (r.0, ap (λ r. r >>= λ x. Ok (g x.0, x.1)) r.1);
      };
      completes = λ n e c ts left p ends h.
          let d = k.completes n e c ts left p ends (pure_err {B = Y × LinesLeft} (T (words_left n e (placed c ts)) left) (λ x. (g x.0, x.1)) p h) in
          record {
            words = d.words;
            are = d.are;
            others = d.others;
            value = g d.value;
            is = λ n e c taken. let r = d.is n e c taken in (r.0, ap (λ r. r >>= λ x. Ok (g x.0, x.1)) r.1);
            kept = d.kept;
          };
    }

pub again_map : {X Y : Type 0} (bound : ℕ) (R : Reader X) (g : X → Y) → ReadsAgain bound R → ReadsAgain {X = Y} bound (λ left. R left >>= λ x. Ok (g x.0, x.1))
again_map {X = X} {Y = Y} bound R g again left y rest e =
    bind_ok (R left) _ (y, rest) e λ x is more.
    let (same, behind) = same_pair (g x.0) y x.1 rest more in
    let a = again left x.0 x.1 is in
    subst (λ y. Again {X = Y} bound (λ left. R left >>= λ x. Ok (g x.0, x.1)) left y rest) same
    (subst (Again {X = Y} bound (λ left. R left >>= λ x. Ok (g x.0, x.1)) left (g x.0)) behind (record {
      front = a.front;
      is = a.is;
      taken = a.taken;
      again = λ others taken before.
          let r = a.again others taken before in
          (r.0, ap (λ r. r >>= λ x. Ok (g x.0, x.1)) r.1);
    }))

-- a body that is none where no line stands at its level
guard_by : (a : Bool) (level : ℕ) (lines : List (List ℕ)) → stands_at level lines ≡ true → (a && not (stands_at level lines)) ≡ false
guard_by a level lines e = ap (λ t. a && not t) e ∙ and_no a

pub guard_goes : {X : Type 0} (level : ℕ) (a : Bool) (z : X) (R : Reader X) → Completes R → ((left : LinesLeft) (x : X) (rest : LinesLeft) → R left ≡ Ok (x, rest) → stands_at level left.lines ≡ true)
    → Completes {X = X} (λ left. cond (a && not (stands_at level left.lines)) (Ok (z, left)) (R left))
guard_goes {X = X} level a z R k stands = record {
  others = k.others;
  value = k.value;
  is = λ taken. there k.others k.value taken (k.is taken);
  completes = λ left p h.
      let d = k.completes left p (failed (a && not (stands_at level left.lines)) left p h) in
      (d.0, d.1, (λ taken. there d.0 d.1 taken (d.2 taken)), d.3);
}
  where
    there : (others : List (List ℕ)) (x : X) (taken : ℕ) → Gives (R (lines_left taken others)) x [] → Gives (cond (a && not (stands_at level others)) (Ok (z, lines_left taken others)) (R (lines_left taken others))) x []
    there others x taken r = (r.0, rw (guard_by a level others (stands (lines_left taken others) x (lines_left r.0 []) r.1)) r.1)

    failed : (t : Bool) (left : LinesLeft) (p : TextPlace) → cond {A = Result (X × LinesLeft) TextPlace} t (Ok (z, left)) (R left) ≡ Err p → R left ≡ Err p
    failed true left p h = cc
    failed false left p h = h

-- an ILV
pub ilv_item : (level : ℕ) → IsItem level (ilv_at level)
unfolding ilv_at exactly word_in
ilv_item level = record {
  goes = line_goes level _ (λ n e left. refl) (name_goes Ended Behind (codes "ilv") (record { some = omega arith; plain = refl }) _
      (number_goes Ended Behind _ λ ident. octets_goes Ended Behind _ λ value. ended_goes Ended Behind _ (done_goes (record { ident = ident; value = value }))));
  again = again_by (suc level) (ilv_at level) (λ ilv. ilv_line level ilv ∷ []) (λ x. Unit {0}) (λ left x rest e. (ilv_sound level left x rest e, tt)) (ilv_reads level) (counted (ilv_at level) (ilv_front level));
  stands = λ left x rest e. line_stands level left _ (x, rest) e;
}

-- a body, by what reads the word with which it begins
module _ (kind : OperKind) (level : ℕ) where
  -- what reads the rest of a body that begins with a word
  record Leaf (t : List ℕ) : Type 0 where
    then : WordsLeft → Reader Body
    goes : CompletesLine then
    is : IsWord t
    reads : (c : ℕ) (w : WordsLeft) (left : LinesLeft) → leaf_in kind level (item c t) w left ≡ then w left

  abbrev NoLeaf : List ℕ → Type 0
  NoLeaf t = (c : ℕ) (w : WordsLeft) (left : LinesLeft) → leaf_in kind level (item c t) w left ≡ Err (place w.line c)

  full_goes : CompletesLine {X = Body} (λ w left. octets_in w >>= λ value. words_ended value.1 >>= λ _. Ok (body.Full value.0, left))
  full_goes = octets_goes Ended Behind _ λ value. ended_goes Ended Behind _ (done_goes (body.Full value))

  sparse_goes : CompletesLine {X = Body} (λ w left. words_ended w >>= λ _. many_at (level + 1) (ilv_at (level + 1)) left >>= λ ilvs. Ok (body.Sparse ilvs.0, ilvs.1))
  sparse_goes = ended_goes Ended Behind _ (map_goes (many_at (level + 1) (ilv_at (level + 1))) body.Sparse (many_goes (level + 1) (ilv_at (level + 1)) (ilv_item (level + 1))))

  outcome_goes : CompletesLine {X = Body} (λ w left. code_in w >>= λ code. Ok (body.Outcome code, left))
  outcome_goes = final_goes Ended Behind code_in code_goes code_words _ λ code. done_goes (body.Outcome code)

  word_by : (text t : List ℕ) (a : Bool) → IsWord text → (a && bytes_eq t text) ≡ true → IsWord t
  word_by text t a is e = subst IsWord (sym ((bytes_eq-Decides t text).0 (and_parts a (bytes_eq t text) e).1)) is

  full_leaf : (t : List ℕ) → (takes_full kind && bytes_eq t (codes "full")) ≡ true → Leaf t
  unfolding leaf_in
  full_leaf t e = record {
    then = λ w left. octets_in w >>= λ value. words_ended value.1 >>= λ _. Ok (body.Full value.0, left);
    goes = full_goes;
    is = word_by (codes "full") t (takes_full kind) (record { some = omega arith; plain = refl }) e;
    reads = λ c w left. rw e refl;
  }

  sparse_leaf : (t : List ℕ) → (takes_full kind && bytes_eq t (codes "full")) ≡ false → (takes_sparse kind && bytes_eq t (codes "sparse")) ≡ true → Leaf t
  unfolding leaf_in
  sparse_leaf t d e = record {
    then = λ w left. words_ended w >>= λ _. many_at (level + 1) (ilv_at (level + 1)) left >>= λ ilvs. Ok (body.Sparse ilvs.0, ilvs.1);
    goes = sparse_goes;
    is = word_by (codes "sparse") t (takes_sparse kind) (record { some = omega arith; plain = refl }) e;
    reads = λ c w left. rw (d, e) refl;
  }

  outcome_leaf : (t : List ℕ) → (takes_full kind && bytes_eq t (codes "full")) ≡ false → (takes_sparse kind && bytes_eq t (codes "sparse")) ≡ false → (takes_outcome kind && bytes_eq t (codes "code")) ≡ true → Leaf t
  unfolding leaf_in
  outcome_leaf t d s e = record {
    then = λ w left. code_in w >>= λ code. Ok (body.Outcome code, left);
    goes = outcome_goes;
    is = word_by (codes "code") t (takes_outcome kind) (record { some = omega arith; plain = refl }) e;
    reads = λ c w left. rw (d, s, e) refl;
  }

  leaf_by : (t : List ℕ) (a b c : Bool) → (takes_full kind && bytes_eq t (codes "full")) ≡ a → (takes_sparse kind && bytes_eq t (codes "sparse")) ≡ b → (takes_outcome kind && bytes_eq t (codes "code")) ≡ c → NoLeaf t ⊎ Leaf t
  unfolding leaf_in
  leaf_by t true b c d e f = inr (full_leaf t d)
  leaf_by t false true c d e f = inr (sparse_leaf t d e)
  leaf_by t false false true d e f = inr (outcome_leaf t d e f)
  leaf_by t false false false d e f = inl (λ c w left. rw (d, e, f) refl)

  leaf_or_none : (t : List ℕ) → NoLeaf t ⊎ Leaf t
  leaf_or_none t = leaf_by t (takes_full kind && bytes_eq t (codes "full")) (takes_sparse kind && bytes_eq t (codes "sparse")) (takes_outcome kind && bytes_eq t (codes "code")) refl refl refl

-- each operation whose leaves have a body takes one of three
abbrev TakesOne : OperKind → Type 0
TakesOne kind = (takes_full kind ≡ true) ⊎ ((takes_sparse kind ≡ true) ⊎ (takes_outcome kind ≡ true))

takes_one : (kind : OperKind) → takes_nothing kind ≡ false → TakesOne kind
takes_one kinds.Set e = inl refl
takes_one kinds.SetProp e = inr (inl refl)
takes_one kinds.SetResponse e = inr (inr refl)
takes_one kinds.SetPropResponse e = inr (inr refl)
takes_one kinds.Del e = cc
takes_one kinds.DelResponse e = inr (inr refl)
takes_one kinds.Get e = cc
takes_one kinds.GetProp e = cc
takes_one kinds.GetResponse e = inl refl
takes_one kinds.GetPropResponse e = inl refl
takes_one kinds.Report e = inl refl

-- a body inside of which no PATH-DATA may stand
module _ (kind : OperKind) (level : ℕ) where
  abbrev leaf_reading : WordsLeft → Reader Body
  leaf_reading w left = word_in w >>= λ x. leaf_in kind level x.0 x.1 left

  leaf_chosen : (t : List ℕ) → Leaf kind level t → Chosen {V = Body} {R = Body × LinesLeft} Ended Behind leaf_reading t
  unfolding word_in
  leaf_chosen t k = record { then = k.then; goes = k.goes; is = k.is; takes = λ n e c ts left. k.reads c (words_left n e (placed (c + length t + 1) ts)) left }

  leaf_some : (t : List ℕ) → NoLeaf kind level t ⊎ Leaf kind level t → Refuses {V = Body} {R = Body × LinesLeft} Ended Behind leaf_reading t ⊎ Chosen {V = Body} {R = Body × LinesLeft} Ended Behind leaf_reading t
  unfolding word_in
  leaf_some t (inl wrong) = inl (λ n e c ts left. wrong c (words_left n e (placed (c + length t + 1) ts)) left)
  leaf_some t (inr k) = inr (leaf_chosen t k)

  leaf_goes_by : (t : List ℕ) → Leaf kind level t → CompletesLine {X = Body} leaf_reading
  unfolding word_in
  leaf_goes_by t k = choice_goes Ended Behind leaf_reading t (leaf_chosen t k) (λ n e left. refl) (λ t. leaf_some t (leaf_or_none kind level t))

  leaf_goes : TakesOne kind → CompletesLine {X = Body} leaf_reading
  leaf_goes (inl e) = leaf_goes_by (codes "full") (full_leaf kind level (codes "full") (rw e refl))
  leaf_goes (inr (inl e)) = leaf_goes_by (codes "sparse") (sparse_leaf kind level (codes "sparse") (and_no (takes_full kind)) (rw e refl))
  leaf_goes (inr (inr e)) = leaf_goes_by (codes "code") (outcome_leaf kind level (codes "code") (and_no (takes_full kind)) (and_no (takes_sparse kind)) (rw e refl))

  last_by : (b : Bool) → takes_nothing kind ≡ b → Completes {X = Body} (λ left. cond b (Ok (body.Nothing, left)) (line_at level left >>= λ l. word_in l.0 >>= λ x. leaf_in kind level x.0 x.1 l.1))
  unfolding word_in
  last_by true e = done_goes body.Nothing
  last_by false e = line_goes level (λ l. leaf_reading l.0 l.1) (λ n e left. refl) (leaf_goes (takes_one kind e))

  pub last_goes : Completes (last_body kind level)
  unfolding last_body
  last_goes = last_by (takes_nothing kind) refl

-- PATH-DATA, by what reads their bodies
pub record Inside (inside : ℕ → Reader Body) (Q : Body → Type 0) : Type 0 where
  pub goes : (level : ℕ) → Completes (inside level)
  pub front : (level : ℕ) → Front (inside level)
  pub sound : (level : ℕ) (left : LinesLeft) (b : Body) (rest : LinesLeft) → inside level left ≡ Ok (b, rest) → Found (body_lines b level) left rest × Q b
  pub reads : (level : ℕ) (b : Body) (texts rest : List (List ℕ)) (taken : ℕ) → Q b → AreEach SpellsLine (body_lines b level) texts → Before level rest → Gives (inside level (lines_left taken (texts ++ rest))) b rest

path_word : IsWord (codes "path")
path_word = record { some = omega arith; plain = refl }

module _ (inside : ℕ → Reader Body) (Q : Body → Type 0) (i : Inside inside Q) (level : ℕ) where
  path_goes : CompletesLine (path_by inside level)
  unfolding path_by
  path_goes = final_goes Ended Behind steps_in steps_go steps_words _ λ steps. map_goes (inside (level + 1)) (path_data steps) (i.goes (level + 1))

  path_item : IsItem level (path_line inside level)
  unfolding path_line exactly word_in
  path_item = record {
    goes = line_goes level _ (λ n e left. refl) (name_goes Ended Behind (codes "path") path_word _ path_goes);
    again = again_by (suc level) (path_line inside level) (λ p. path_lines p level) (λ p. Q p.body) (path_sound inside Q i.sound level) (path_line_read inside Q i.reads level) (counted (path_line inside level) (path_line_front inside i.front level));
    stands = λ left x rest e. line_stands level left _ (x, rest) e;
  }

  body_again : ReadsAgain (suc level) (inside (level + 1))
  body_again =
      again_by (suc level) (inside (level + 1)) (λ b. body_lines b (level + 1)) Q (i.sound (level + 1)) (λ b texts rest taken q h before. i.reads (level + 1) b texts rest taken q h (before_more (suc level) (level + 1) rest (omega arith) before))
      (counted (inside (level + 1)) (i.front (level + 1)))

  abbrev behind_steps : List ℕ × Option Key → Reader PathData
  behind_steps steps left = inside (level + 1) left >>= λ b. Ok (path_data steps b.0, b.1)

  paths_go : CompletesLine (paths_by inside level)
  unfolding paths_by path_by
  paths_go =
      same_line (λ w left. steps_in w >>= λ steps. behind_steps steps left >>= λ x. and_more x.0 (many_at level (path_line inside level) x.1)) (paths_by inside level) (λ w left. in_two (steps_in w) _ _)
      (final_goes Ended Behind steps_in steps_go steps_words _ λ steps.
      then_goes (suc level) (behind_steps steps) _ (map_goes (inside (level + 1)) (path_data steps) (i.goes (level + 1))) (again_map (suc level) (inside (level + 1)) (path_data steps) body_again) (others_go level (path_line inside level) path_item))

module _ (kind : OperKind) (inside : ℕ → Reader Body) (Q : Body → Type 0) (i : Inside inside Q) (level : ℕ) where
  abbrev nested_reading : WordsLeft → Reader Body
  nested_reading w left = paths_by inside level w left >>= λ paths. Ok (body.Nested paths.0, paths.1)

  abbrev body_reading : WordsLeft → Reader Body
  body_reading w left = word_in w >>= λ x. cond (bytes_eq x.0.text (codes "path")) (nested_reading x.1 left) (leaf_in kind level x.0 x.1 left)

  abbrev IsChosen : List ℕ → Type 0
  IsChosen t = Chosen {V = Body} {R = Body × LinesLeft} Ended Behind body_reading t

  nested_chosen : (t : List ℕ) → bytes_eq t (codes "path") ≡ true → IsChosen t
  unfolding word_in
  nested_chosen t e = record {
    then = nested_reading;
    goes = map_line (paths_by inside level) body.Nested (paths_go inside Q i level);
    is = subst IsWord (sym ((bytes_eq-Decides t (codes "path")).0 e)) path_word;
    takes = λ n end c ts left. rw e refl;
  }

  body_some : (t : List ℕ) (b : Bool) → bytes_eq t (codes "path") ≡ b → NoLeaf kind level t ⊎ Leaf kind level t → Refuses {V = Body} {R = Body × LinesLeft} Ended Behind body_reading t ⊎ IsChosen t
  unfolding word_in
  body_some t true e k = inr (nested_chosen t e)
  body_some t false e (inl wrong) = inl (λ n end c ts left. rw e (wrong c (words_left n end (placed (c + length t + 1) ts)) left))
  body_some t false e (inr k) = inr (record { then = k.then; goes = k.goes; is = k.is; takes = λ n end c ts left. rw e (k.reads c (words_left n end (placed (c + length t + 1) ts)) left) })

  body_words : CompletesLine {X = Body} body_reading
  unfolding word_in
  body_words = choice_goes Ended Behind body_reading (codes "path") (nested_chosen (codes "path") refl) (λ n e left. refl) (λ t. body_some t (bytes_eq t (codes "path")) refl (leaf_or_none kind level t))

  body_goes_by : Completes (body_by kind inside level)
  unfolding body_by word_in
  body_goes_by =
      guard_goes level (takes_nothing kind) body.Nothing (λ left. line_at level left >>= λ l. body_reading l.0 l.1) (line_goes level (λ l. body_reading l.0 l.1) (λ n e left. refl) body_words) (λ left x rest e. line_stands level left _ (x, rest) e)

-- a body, by how deep PATH-DATA may stand in it
abbrev ProperAt : OperKind → ℕ → Body → Type 0
ProperAt kind depth b = ProperBody kind (ProperPath kind depth) (out-Body b)

body_goes : (kind : OperKind) (depth level : ℕ) → Completes (body_at kind depth level)
body_goes kind zero level = last_goes kind level
body_goes kind (suc depth) level =
    body_goes_by kind (body_at kind depth) (ProperAt kind depth) (record { goes = body_goes kind depth; front = body_front kind depth; sound = body_sound kind depth; reads = body_read kind depth }) level

-- the PATH-DATA of an operation
pub operation_paths_go : (kind : OperKind) (level : ℕ) → Completes (operation_paths_at kind level)
unfolding operation_paths_at exactly word_in
operation_paths_go kind level =
    line_goes level _ (λ n e left. refl)
    (name_goes Ended Behind (codes "path") path_word _
    (paths_go (body_at kind 15) (ProperAt kind 15) (record { goes = body_goes kind 15; front = body_front kind 15; sound = body_sound kind 15; reads = body_read kind 15 }) level))
