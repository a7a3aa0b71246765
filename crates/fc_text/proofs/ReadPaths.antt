-- PATH-DATA whose lines are spelled are read.
use Rattle.std.proofs.Common.{◌≡◌, ◌<◌, ◌+◌, ℕ, zero, suc, Bool, true, false, cond, ◌&&◌, List, [], ◌∷◌, ◌++◌, length, map, codes, Option, Some, None, Result, Ok, append_assoc, refl, sym, ap, subst, ◌∙◌, arith, rules}
use Rattle.std.specs.List.{flat_map, AllByRecursion}
use Rattle.std.specs.Str.{bytes_eq}
use Rattle.fc_wire.specs.declared.ilvs.Ilv.{Ilv}
use Rattle.fc_path.specs.Kinds.{takes_nothing, takes_full, takes_sparse, takes_outcome}
use Rattle.fc_path.specs.Proper.{ProperBody, ProperPath}
use Rattle.fc_path.specs.declared.oper.OperKind.{OperKind}
use Rattle.fc_path.specs.declared.oper.OperKind.TheVariants as kinds
use Rattle.fc_path.specs.declared.path.Key.{Key}
use Rattle.fc_path.specs.declared.path.PathData.{PathData}
use Rattle.fc_path.specs.declared.path.Body.{Body, out-Body, roll-Body, the_lemmas}
use Rattle.fc_path.specs.declared.path.Body.TheOpen.{Body-F}
use Rattle.fc_path.specs.declared.path.Body.TheVariants as v
use Rattle.fc_path.specs.declared.path.Body.TheViews.{roll-out-Body}
use Rattle.fc_lines.specs.LineWords.{WordsLeft, LinesLeft, WordItem, words_left, lines_left, placed, line_at, word_in}
use Rattle.fc_text.specs.TextGrammar.{Word, Line, LinesAt, line, name, digits, octets, step_words, ilv_line, code_line, body_step, path_step, body_lines, path_lines, SpellsWord, SpellsLine, AreEach}
use Rattle.fc_lines.specs.TextPlaces.{TextPlace}
use Rattle.fc_lines.specs.LineReading.{Reader, ilv_at}
use Rattle.fc_text.specs.TextReading.{leaf_in, path_by, path_line, paths_by, last_body, body_by, body_at, operation_paths_at}
use Rattle.fc_text.proofs.PlainWords.{Named, Whole}
use Rattle.fc_text.proofs.ReadLines.{Gives, begin, took_name, took_octets, none_left, steps_read, code_read, ilv_read, alone, ilv_whole}
use Rattle.fc_text.proofs.ReadItems.{Before, Begins, not_there, before_more, each_split, stands, many_reads, follows}
use Rattle.fc_text.proofs.SplitLines.{IsWord}

-- the lines of a layer
abbrev pub layer_lines : Body-F Body PathData → ℕ → List Line
layer_lines Body-F.Nothing level = []
layer_lines (Body-F.Full value) level = line level (name (codes "full") ∷ octets value ∷ []) ∷ []
layer_lines (Body-F.Sparse ilvs) level = line level (name (codes "sparse") ∷ []) ∷ map (ilv_line (level + 1)) ilvs
layer_lines (Body-F.Outcome code) level = code_line level code ∷ []
layer_lines (Body-F.Nested paths) level = flat_map (λ p. path_lines p level) paths

nothing_is : body_lines v.Nothing ≡ body_step Body-F.Nothing
nothing_is = search (rules, the_lemmas)

full_is : (value : List ℕ) → body_lines (v.Full value) ≡ body_step (Body-F.Full value)
full_is value = search (rules, the_lemmas)

sparse_is : (ilvs : List Ilv) → body_lines (v.Sparse ilvs) ≡ body_step (Body-F.Sparse ilvs)
sparse_is ilvs = search (rules, the_lemmas)

outcome_is : (code : ℕ) → body_lines (v.Outcome code) ≡ body_step (Body-F.Outcome code)
outcome_is code = search (rules, the_lemmas)

nested_is : (ps : List PathData) → body_lines (v.Nested ps) ≡ body_step (Body-F.Nested (map path_lines ps))
nested_is ps = search (rules, the_lemmas)

path_is : (p : PathData) → path_lines p ≡ path_step (record { ids = p.ids; key = p.key; body = body_lines p.body })
path_is p = search (rules, the_lemmas)

at_all : (ps : List PathData) (level : ℕ) → flat_map (λ (at : LinesAt). at level) (map path_lines ps) ≡ flat_map (λ p. path_lines p level) ps
at_all [] level = refl
at_all (p ∷ ps) level = ap (λ l. path_lines p level ++ l) (at_all ps level)

pub layer_is : (l : Body-F Body PathData) (level : ℕ) → body_lines (roll-Body l) level ≡ layer_lines l level
layer_is Body-F.Nothing level = ap (λ (at : LinesAt). at level) (ap body_lines v.rolls-Nothing ∙ nothing_is)
layer_is (Body-F.Full value) level = ap (λ (at : LinesAt). at level) (ap body_lines (v.rolls-Full value) ∙ full_is value)
layer_is (Body-F.Sparse ilvs) level = ap (λ (at : LinesAt). at level) (ap body_lines (v.rolls-Sparse ilvs) ∙ sparse_is ilvs)
layer_is (Body-F.Outcome code) level = ap (λ (at : LinesAt). at level) (ap body_lines (v.rolls-Outcome code) ∙ outcome_is code)
layer_is (Body-F.Nested ps) level = ap (λ (at : LinesAt). at level) (ap body_lines (v.rolls-Nested ps) ∙ nested_is ps) ∙ at_all ps level

pub body_is : (b : Body) (level : ℕ) → body_lines b level ≡ layer_lines (out-Body b) level
body_is b level = ap (λ x. body_lines x level) (sym (roll-out-Body b)) ∙ layer_is (out-Body b) level

abbrev pub path_head : PathData → ℕ → Line
path_head p level = line level (name (codes "path") ∷ step_words p.ids p.key)

pub path_lines_are : (p : PathData) (level : ℕ) → path_lines p level ≡ path_head p level ∷ body_lines p.body (level + 1)
path_lines_are p level = ap (λ (at : LinesAt). at level) (path_is p)

-- its first line
pub steps_named : (ids : List ℕ) (key : Option Key) → AllByRecursion Named (step_words ids key)
steps_named [] None = tt
steps_named [] (Some key) = (record { some = omega arith; plain = refl }, (tt, (tt, tt)))
steps_named (id ∷ ids) key = (tt, steps_named ids key)

pub head_whole : (p : PathData) (level : ℕ) → Whole (path_head p level)
head_whole p level = alone (codes "path") (record { some = omega arith; plain = refl }) (step_words p.ids p.key) (steps_named p.ids p.key) level

pub path_begins : (level : ℕ) (p : PathData) → Begins level (path_lines p level)
path_begins level p = record { first = path_head p level; more = body_lines p.body (level + 1); is = path_lines_are p level; level_is = refl; whole = head_whole p level }

-- a PATH-DATA, by what reads its body
module _ (inside : ℕ → Reader Body) (Q : Body → Type 0)
    (reads : (level : ℕ) (b : Body) (texts rest : List (List ℕ)) (taken : ℕ) → Q b → AreEach SpellsLine (body_lines b level) texts → Before level rest → Gives (inside level (lines_left taken (texts ++ rest))) b rest) where
  path_by_read : (level : ℕ) (p : PathData) (n e c : ℕ) (ts texts rest : List (List ℕ)) (taken : ℕ) → Q p.body → AreEach SpellsWord (step_words p.ids p.key) ts
      → AreEach SpellsLine (body_lines p.body (level + 1)) texts → Before (suc level) rest → Gives (path_by inside level (words_left n e (placed c ts)) (lines_left taken (texts ++ rest))) p rest
  unfolding path_by
  path_by_read level p n e c ts texts rest taken q steps h b =
      let s = steps_read p.ids p.key n e c ts steps in
      let i = reads (level + 1) p.body texts rest taken q h (before_more (suc level) (level + 1) rest (omega arith) b) in
      (i.0, rw (s, i.1) refl)

  pub path_line_read : (level : ℕ) (p : PathData) (texts rest : List (List ℕ)) (taken : ℕ) → Q p.body → AreEach SpellsLine (path_lines p level) texts → Before (suc level) rest
      → Gives (path_line inside level (lines_left taken (texts ++ rest))) p rest
  unfolding path_line
  path_line_read level p texts rest taken q h b = by texts (subst (λ l. AreEach SpellsLine l texts) (path_lines_are p level) h)
    where
      by : (texts : List (List ℕ)) → AreEach SpellsLine (path_head p level ∷ body_lines p.body (level + 1)) texts → Gives (path_line inside level (lines_left taken (texts ++ rest))) p rest
      by [] h = absurd h
      by (t ∷ ts) h =
          let l = begin (path_head p level) taken t (ts ++ rest) (head_whole p level) h.0 in
          let w = took_name (codes "path") l.taken l.end l.column (step_words p.ids p.key) l.words l.each in
          let i = path_by_read level p l.taken l.end w.column w.rest ts rest l.taken q w.each h.1 b in
          (i.0, rw (l.is, w.is, i.1) refl)

  -- the first of some, and the others
  paths_by_read : (level : ℕ) (p : PathData) (ps : List PathData) (n e c : ℕ) (ws texts rest : List (List ℕ)) (taken : ℕ) → Q p.body → AllByRecursion (λ p. Q p.body) ps → AreEach SpellsWord (step_words p.ids p.key) ws
      → AreEach SpellsLine (body_lines p.body (level + 1) ++ flat_map (λ p. path_lines p level) ps) texts → Before level rest
      → Gives (paths_by inside level (words_left n e (placed c ws)) (lines_left taken (texts ++ rest))) (p ∷ ps) rest
  unfolding paths_by
  paths_by_read level p ps n e c ws texts rest taken q qs steps h b =
      let s = each_split SpellsLine (body_lines p.body (level + 1)) (flat_map (λ p. path_lines p level) ps) texts h in
      let same : texts ++ rest ≡ s.0 ++ (s.1 ++ rest) = ap (λ l. l ++ rest) s.2 ∙ append_assoc s.0 s.1 rest in
      let behind : Before (suc level) (s.1 ++ rest) = follows (λ p. path_lines p level) (λ p. Q p.body) (path_line inside level) level (path_begins level) ps s.1 rest s.4 b in
      let first = path_by_read level p n e c ws s.0 (s.1 ++ rest) taken q steps s.3 behind in
      let more = many_reads (λ p. path_lines p level) (λ p. Q p.body) (path_line inside level) level (path_begins level) (path_line_read level) ps first.0 s.1 rest qs s.4 b in
      (more.0, ap (λ l. paths_by inside level (words_left n e (placed c ws)) (lines_left taken l)) same ∙ rw (first.1, more.1) refl)

-- a body that holds no PATH-DATA
pub and_no : (a : Bool) → (a && false) ≡ false
and_no true = refl
and_no false = refl

abbrev at_odds : OperKind → Bool
at_odds kind = takes_nothing kind && (cond (takes_full kind) true (cond (takes_sparse kind) true (takes_outcome kind)))

never_both : (kind : OperKind) → at_odds kind ≡ false
never_both kinds.Set = refl
never_both kinds.SetProp = refl
never_both kinds.SetResponse = refl
never_both kinds.SetPropResponse = refl
never_both kinds.Del = refl
never_both kinds.DelResponse = refl
never_both kinds.Get = refl
never_both kinds.GetProp = refl
never_both kinds.GetResponse = refl
never_both kinds.GetPropResponse = refl
never_both kinds.Report = refl

first_of_two : (a b : Bool) → (a && b) ≡ false → b ≡ true → a ≡ false
first_of_two true b e h = absurd (apart b e h)
  where
    apart : (b : Bool) → b ≡ false → b ≡ true → ⊥
    apart true e h = cc
    apart false e h = cc
first_of_two false b e h = refl

with_full : (kind : OperKind) → takes_full kind ≡ true → takes_nothing kind ≡ false
with_full kind h = first_of_two _ _ (never_both kind) (rw h refl)

any_second : (a b c : Bool) → b ≡ true → cond a true (cond b true c) ≡ true
any_second true b c h = refl
any_second false b c h = ap (λ x. cond x true c) h

any_third : (a b c : Bool) → c ≡ true → cond a true (cond b true c) ≡ true
any_third true b c h = refl
any_third false true c h = refl
any_third false false c h = h

with_sparse : (kind : OperKind) → takes_sparse kind ≡ true → takes_nothing kind ≡ false
with_sparse kind h = first_of_two _ _ (never_both kind) (any_second (takes_full kind) (takes_sparse kind) (takes_outcome kind) h)

with_outcome : (kind : OperKind) → takes_outcome kind ≡ true → takes_nothing kind ≡ false
with_outcome kind h = first_of_two _ _ (never_both kind) (any_third (takes_full kind) (takes_sparse kind) (takes_outcome kind) h)

abbrev pub item : ℕ → List ℕ → WordItem
item column text = record { column = column; text = text }

abbrev IsLeaf : Body-F Body PathData → Type 0
IsLeaf Body-F.Nothing = ⊥
IsLeaf (Body-F.Full value) = Unit {0}
IsLeaf (Body-F.Sparse ilvs) = Unit {0}
IsLeaf (Body-F.Outcome code) = Unit {0}
IsLeaf (Body-F.Nested paths) = ⊥

full_leaf : (kind : OperKind) (level : ℕ) (value : List ℕ) (n e c d : ℕ) (ts rest : List (List ℕ)) (taken : ℕ) → takes_full kind ≡ true → AreEach SpellsWord (octets value ∷ []) ts
    → Gives (leaf_in kind level (item d (codes "full")) (words_left n e (placed c ts)) (lines_left taken rest)) (roll-Body (Body-F.Full value)) rest
unfolding leaf_in
full_leaf kind level value n e c d ts rest taken takes h =
    let a = took_octets value n e c [] ts h in
    let z = none_left n e a.column a.rest a.each in
    (taken, rw (takes, a.is, z) (ap (λ b. Ok (b, lines_left taken rest)) (sym (v.rolls-Full value))))

outcome_leaf : (kind : OperKind) (level code n e c d : ℕ) (ts rest : List (List ℕ)) (taken : ℕ) → takes_outcome kind ≡ true → AreEach SpellsWord (digits [] 2 code ∷ []) ts
    → Gives (leaf_in kind level (item d (codes "code")) (words_left n e (placed c ts)) (lines_left taken rest)) (roll-Body (Body-F.Outcome code)) rest
unfolding leaf_in
outcome_leaf kind level code n e c d ts rest taken takes h =
    let a = code_read code n e c ts h in
    (taken, rw (and_no (takes_full kind), and_no (takes_sparse kind), takes, a) (ap (λ b. Ok (b, lines_left taken rest)) (sym (v.rolls-Outcome code))))

ilv_begins : (level : ℕ) (ilv : Ilv) → Begins level (ilv_line level ilv ∷ [])
ilv_begins level ilv = record { first = ilv_line level ilv; more = []; is = refl; level_is = refl; whole = ilv_whole level ilv }

pub ilv_reads : (level : ℕ) (ilv : Ilv) (texts rest : List (List ℕ)) (taken : ℕ) → Unit {0} → AreEach SpellsLine (ilv_line level ilv ∷ []) texts → Before (suc level) rest → Gives (ilv_at level (lines_left taken (texts ++ rest))) ilv rest
ilv_reads level ilv [] rest taken u h b = absurd h
ilv_reads level ilv (t ∷ []) rest taken u h b = ilv_read level ilv t rest taken h.0
ilv_reads level ilv (t ∷ s ∷ ts) rest taken u h b = absurd h.1

pub one_each : (level : ℕ) (ilvs : List Ilv) → map (ilv_line level) ilvs ≡ flat_map (λ ilv. ilv_line level ilv ∷ []) ilvs
one_each level [] = refl
one_each level (x ∷ xs) = ap (λ l. ilv_line level x ∷ l) (one_each level xs)

all_any : {A : Type 0} (xs : List A) → AllByRecursion (λ x. Unit {0}) xs
all_any [] = tt
all_any (x ∷ xs) = (tt, all_any xs)

sparse_leaf : (kind : OperKind) (level : ℕ) (ilvs : List Ilv) (n e c d : ℕ) (ts texts rest : List (List ℕ)) (taken : ℕ) → takes_sparse kind ≡ true → AreEach SpellsWord [] ts
    → AreEach SpellsLine (map (ilv_line (level + 1)) ilvs) texts → Before level rest
    → Gives (leaf_in kind level (item d (codes "sparse")) (words_left n e (placed c ts)) (lines_left taken (texts ++ rest))) (roll-Body (Body-F.Sparse ilvs)) rest
unfolding leaf_in
sparse_leaf kind level ilvs n e c d ts texts rest taken takes h each b =
    let z = none_left n e c ts h in
    let m = many_reads (λ ilv. ilv_line (level + 1) ilv ∷ []) (λ x. Unit {0}) (ilv_at (level + 1)) (level + 1) (ilv_begins (level + 1)) (ilv_reads (level + 1)) ilvs taken texts rest (all_any ilvs)
    (subst (λ l. AreEach SpellsLine l texts) (one_each (level + 1) ilvs) each) (before_more level (level + 1) rest (omega arith) b) in
    (m.0, rw (and_no (takes_full kind), takes, z, m.1) (ap (λ b. Ok (b, lines_left m.0 rest)) (sym (v.rolls-Sparse ilvs))))

-- a line that begins with a name
record Opened (read : Result (WordsLeft × LinesLeft) TextPlace) (text : List ℕ) (ws : List Word) (rest : List (List ℕ)) : Type 0 where
  taken : ℕ
  end : ℕ
  column : ℕ
  words : List (List ℕ)
  is : read ≡ Ok (words_left taken end (placed column (text ∷ words)), lines_left taken rest)
  each : AreEach SpellsWord ws words

open_by : (read : Result (WordsLeft × LinesLeft) TextPlace) (text : List ℕ) (ws : List Word) (n e c : ℕ) (words rest : List (List ℕ)) → read ≡ Ok (words_left n e (placed c words), lines_left n rest)
    → AreEach SpellsWord (name text ∷ ws) words → Opened read text ws rest
open_by read text ws n e c [] rest is h = absurd h
open_by read text ws n e c (t ∷ ts) rest is h = record {
  taken = n;
  end = e;
  column = c;
  words = ts;
  is = is ∙ ap (λ t. Ok (words_left n e (placed c (t ∷ ts)), lines_left n rest)) h.0;
  each = h.1;
}

opened : (level : ℕ) (text : List ℕ) (ws : List Word) (taken : ℕ) (t : List ℕ) (rest : List (List ℕ)) → IsWord text → AllByRecursion Named ws → SpellsLine (line level (name text ∷ ws)) t
    → Opened (line_at level (lines_left taken (t ∷ rest))) text ws rest
opened level text ws taken t rest is named h =
    let l = begin (line level (name text ∷ ws)) taken t rest (alone text is ws named level) h in
    open_by (line_at level (lines_left taken (t ∷ rest))) text ws l.taken l.end l.column l.words rest l.is l.each

-- by a reader that reads such a body where the next word is not that of a PATH-DATA
module _ (kind : OperKind) (read : ℕ → Reader Body)
    (opens : (level n e c : ℕ) (t : List ℕ) (ts : List (List ℕ)) (left behind : LinesLeft) → takes_nothing kind ≡ false → bytes_eq t (codes "path") ≡ false → line_at level left ≡ Ok (words_left n e (placed c (t ∷ ts)), behind)
    → read level left ≡ leaf_in kind level (item c t) (words_left n e (placed (c + length t + 1) ts)) behind) where
  leaf_read : (l : Body-F Body PathData) (P : PathData → Type 0) (level : ℕ) (texts rest : List (List ℕ)) (taken : ℕ) → IsLeaf l → ProperBody kind P l → AreEach SpellsLine (layer_lines l level) texts → Before level rest
      → Gives (read level (lines_left taken (texts ++ rest))) (roll-Body l) rest
  leaf_read Body-F.Nothing P level texts rest taken leaf takes h b = absurd leaf
  leaf_read (Body-F.Nested paths) P level texts rest taken leaf takes h b = absurd leaf
  leaf_read (Body-F.Full value) P level [] rest taken leaf takes h b = absurd h
  leaf_read (Body-F.Full value) P level (t ∷ s ∷ ts) rest taken leaf takes h b = absurd h.1
  leaf_read (Body-F.Full value) P level (t ∷ []) rest taken leaf takes h b =
      let o = opened level (codes "full") (octets value ∷ []) taken t rest (record { some = omega arith; plain = refl }) (tt, tt) h.0 in
      let a = full_leaf kind level value o.taken o.end (o.column + 4 + 1) o.column o.words rest o.taken takes o.each in
      (a.0, opens level o.taken o.end o.column (codes "full") o.words (lines_left taken (t ∷ rest)) (lines_left o.taken rest) (with_full kind takes) refl o.is ∙ a.1)
  leaf_read (Body-F.Outcome code) P level [] rest taken leaf takes h b = absurd h
  leaf_read (Body-F.Outcome code) P level (t ∷ s ∷ ts) rest taken leaf takes h b = absurd h.1
  leaf_read (Body-F.Outcome code) P level (t ∷ []) rest taken leaf takes h b =
      let o = opened level (codes "code") (digits [] 2 code ∷ []) taken t rest (record { some = omega arith; plain = refl }) ((refl, omega arith), tt) h.0 in
      let a = outcome_leaf kind level code o.taken o.end (o.column + 4 + 1) o.column o.words rest o.taken takes o.each in
      (a.0, opens level o.taken o.end o.column (codes "code") o.words (lines_left taken (t ∷ rest)) (lines_left o.taken rest) (with_outcome kind takes) refl o.is ∙ a.1)
  leaf_read (Body-F.Sparse ilvs) P level [] rest taken leaf takes h b = absurd h
  leaf_read (Body-F.Sparse ilvs) P level (t ∷ ts) rest taken leaf takes h b =
      let o = opened level (codes "sparse") [] taken t (ts ++ rest) (record { some = omega arith; plain = refl }) tt h.0 in
      let a = sparse_leaf kind level ilvs o.taken o.end (o.column + 6 + 1) o.column o.words ts rest o.taken takes o.each h.1 b in
      (a.0, opens level o.taken o.end o.column (codes "sparse") o.words (lines_left taken (t ∷ (ts ++ rest))) (lines_left o.taken (ts ++ rest)) (with_sparse kind takes) refl o.is ∙ a.1)

-- a body inside of which no PATH-DATA may stand
last_opens : (kind : OperKind) (level n e c : ℕ) (t : List ℕ) (ts : List (List ℕ)) (left behind : LinesLeft) → takes_nothing kind ≡ false → bytes_eq t (codes "path") ≡ false → line_at level left ≡ Ok (words_left n e (placed c (t ∷ ts)), behind)
    → last_body kind level left ≡ leaf_in kind level (item c t) (words_left n e (placed (c + length t + 1) ts)) behind
unfolding last_body word_in
last_opens kind level n e c t ts left behind takes other is = rw (takes, is) refl

by_opens : (kind : OperKind) (inside : ℕ → Reader Body) (level n e c : ℕ) (t : List ℕ) (ts : List (List ℕ)) (left behind : LinesLeft) → takes_nothing kind ≡ false → bytes_eq t (codes "path") ≡ false → line_at level left ≡ Ok (words_left n e (placed c (t ∷ ts)), behind)
    → body_by kind inside level left ≡ leaf_in kind level (item c t) (words_left n e (placed (c + length t + 1) ts)) behind
unfolding body_by word_in
by_opens kind inside level n e c t ts left behind takes other is = rw (takes, is, other) refl

last_nothing : (kind : OperKind) (level taken : ℕ) (rest : List (List ℕ)) → takes_nothing kind ≡ true → Gives (last_body kind level (lines_left taken rest)) (roll-Body Body-F.Nothing) rest
unfolding last_body
last_nothing kind level taken rest takes = (taken, rw takes (ap (λ b. Ok (b, lines_left taken rest)) (sym v.rolls-Nothing)))

by_nothing : (kind : OperKind) (inside : ℕ → Reader Body) (level taken : ℕ) (rest : List (List ℕ)) → takes_nothing kind ≡ true → Before level rest → Gives (body_by kind inside level (lines_left taken rest)) (roll-Body Body-F.Nothing) rest
unfolding body_by
by_nothing kind inside level taken rest takes b = (taken, rw (takes, not_there level rest b) (ap (λ b. Ok (b, lines_left taken rest)) (sym v.rolls-Nothing)))

no_paths : (kind : OperKind) (ps : List PathData) → 0 < length ps → AllByRecursion (ProperPath kind 0) ps → ⊥
no_paths kind [] some all = omega (arith, some)
no_paths kind (p ∷ ps) some all = absurd all.0

last_layer : (kind : OperKind) (l : Body-F Body PathData) (level : ℕ) (texts rest : List (List ℕ)) (taken : ℕ) → ProperBody kind (ProperPath kind 0) l → AreEach SpellsLine (layer_lines l level) texts → Before level rest
    → Gives (last_body kind level (lines_left taken (texts ++ rest))) (roll-Body l) rest
last_layer kind Body-F.Nothing level [] rest taken proper h b = last_nothing kind level taken rest proper
last_layer kind Body-F.Nothing level (t ∷ ts) rest taken proper h b = absurd h
last_layer kind (Body-F.Full value) level texts rest taken proper h b = leaf_read kind (last_body kind) (last_opens kind) (Body-F.Full value) (ProperPath kind 0) level texts rest taken tt proper h b
last_layer kind (Body-F.Sparse ilvs) level texts rest taken proper h b = leaf_read kind (last_body kind) (last_opens kind) (Body-F.Sparse ilvs) (ProperPath kind 0) level texts rest taken tt proper h b
last_layer kind (Body-F.Outcome code) level texts rest taken proper h b = leaf_read kind (last_body kind) (last_opens kind) (Body-F.Outcome code) (ProperPath kind 0) level texts rest taken tt proper h b
last_layer kind (Body-F.Nested ps) level texts rest taken proper h b = absurd (no_paths kind ps proper.0 proper.1)

module _ (kind : OperKind) (inside : ℕ → Reader Body) (Q : Body → Type 0)
    (reads : (level : ℕ) (b : Body) (texts rest : List (List ℕ)) (taken : ℕ) → Q b → AreEach SpellsLine (body_lines b level) texts → Before level rest → Gives (inside level (lines_left taken (texts ++ rest))) b rest) where
  nested_read : (p : PathData) (ps : List PathData) (level : ℕ) (texts rest : List (List ℕ)) (taken : ℕ) → Q p.body → AllByRecursion (λ p. Q p.body) ps
      → AreEach SpellsLine (path_head p level ∷ (body_lines p.body (level + 1) ++ flat_map (λ p. path_lines p level) ps)) texts → Before level rest
      → Gives (body_by kind inside level (lines_left taken (texts ++ rest))) (roll-Body (Body-F.Nested (p ∷ ps))) rest
  unfolding body_by word_in
  nested_read p ps level [] rest taken q qs h b = absurd h
  nested_read p ps level (t ∷ ts) rest taken q qs h b =
      let first : Begins level (path_head p level ∷ []) = record { first = path_head p level; more = []; is = refl; level_is = refl; whole = head_whole p level } in
      let here = (stands level (path_head p level ∷ []) (t ∷ []) (ts ++ rest) first (h.0, tt)).there in
      let w = (head_whole p level).named in
      let o = opened level (codes "path") (step_words p.ids p.key) taken t (ts ++ rest) w.0 w.1 h.0 in
      let all = paths_by_read inside Q reads level p ps o.taken o.end (o.column + 4 + 1) o.words ts rest o.taken q qs o.each h.1 b in
      (all.0, rw (here, and_no (takes_nothing kind), o.is, all.1) (ap (λ b. Ok (b, lines_left all.0 rest)) (sym (v.rolls-Nested (p ∷ ps)))))

  by_layer : (l : Body-F Body PathData) (level : ℕ) (texts rest : List (List ℕ)) (taken : ℕ) → ProperBody kind (λ p. Q p.body) l → AreEach SpellsLine (layer_lines l level) texts → Before level rest
      → Gives (body_by kind inside level (lines_left taken (texts ++ rest))) (roll-Body l) rest
  by_layer Body-F.Nothing level [] rest taken proper h b = by_nothing kind inside level taken rest proper b
  by_layer Body-F.Nothing level (t ∷ ts) rest taken proper h b = absurd h
  by_layer (Body-F.Full value) level texts rest taken proper h b = leaf_read kind (body_by kind inside) (by_opens kind inside) (Body-F.Full value) (λ p. Q p.body) level texts rest taken tt proper h b
  by_layer (Body-F.Sparse ilvs) level texts rest taken proper h b = leaf_read kind (body_by kind inside) (by_opens kind inside) (Body-F.Sparse ilvs) (λ p. Q p.body) level texts rest taken tt proper h b
  by_layer (Body-F.Outcome code) level texts rest taken proper h b = leaf_read kind (body_by kind inside) (by_opens kind inside) (Body-F.Outcome code) (λ p. Q p.body) level texts rest taken tt proper h b
  by_layer (Body-F.Nested []) level texts rest taken proper h b = absurd (omega (arith, proper.0))
  by_layer (Body-F.Nested (p ∷ ps)) level texts rest taken proper h b =
      let same : path_lines p level ++ flat_map (λ p. path_lines p level) ps ≡ path_head p level ∷ (body_lines p.body (level + 1) ++ flat_map (λ p. path_lines p level) ps) = ap (λ l. l ++ flat_map (λ p. path_lines p level) ps) (path_lines_are p level) in
      nested_read p ps level texts rest taken proper.1.0 proper.1.1 (subst (λ l. AreEach SpellsLine l texts) same h) b

-- a body, by how deep PATH-DATA may stand in it
abbrev ProperAt : OperKind → ℕ → Body → Type 0
ProperAt kind depth b = ProperBody kind (ProperPath kind depth) (out-Body b)

of_layer : (read : Body → Type 0) (b : Body) → read (roll-Body (out-Body b)) → read b
of_layer read b h = subst read (roll-out-Body b) h

pub body_read : (kind : OperKind) (depth level : ℕ) (b : Body) (texts rest : List (List ℕ)) (taken : ℕ) → ProperAt kind depth b → AreEach SpellsLine (body_lines b level) texts → Before level rest
    → Gives (body_at kind depth level (lines_left taken (texts ++ rest))) b rest
body_read kind zero level b texts rest taken proper h before =
    of_layer (λ x. Gives (body_at kind zero level (lines_left taken (texts ++ rest))) x rest) b
    (last_layer kind (out-Body b) level texts rest taken proper (subst (λ l. AreEach SpellsLine l texts) (body_is b level) h) before)
body_read kind (suc depth) level b texts rest taken proper h before =
    of_layer (λ x. Gives (body_at kind (suc depth) level (lines_left taken (texts ++ rest))) x rest) b
    (by_layer kind (body_at kind depth) (ProperAt kind depth) (body_read kind depth) (out-Body b) level texts rest taken proper (subst (λ l. AreEach SpellsLine l texts) (body_is b level) h) before)

-- the PATH-DATA of an operation
pub operation_paths_read : (kind : OperKind) (level : ℕ) (ps : List PathData) (texts rest : List (List ℕ)) (taken : ℕ) → 0 < length ps → AllByRecursion (ProperPath kind 16) ps
    → AreEach SpellsLine (flat_map (λ p. path_lines p level) ps) texts → Before level rest → Gives (operation_paths_at kind level (lines_left taken (texts ++ rest))) ps rest
unfolding operation_paths_at
operation_paths_read kind level [] texts rest taken some proper h b = absurd (omega (arith, some))
operation_paths_read kind level (p ∷ ps) texts rest taken some proper h b =
    let same : path_lines p level ++ flat_map (λ p. path_lines p level) ps ≡ path_head p level ∷ (body_lines p.body (level + 1) ++ flat_map (λ p. path_lines p level) ps) = ap (λ l. l ++ flat_map (λ p. path_lines p level) ps) (path_lines_are p level) in
    by texts (subst (λ l. AreEach SpellsLine l texts) same h)
  where
    by : (texts : List (List ℕ)) → AreEach SpellsLine (path_head p level ∷ (body_lines p.body (level + 1) ++ flat_map (λ p. path_lines p level) ps)) texts → Gives (operation_paths_at kind level (lines_left taken (texts ++ rest))) (p ∷ ps) rest
    by [] h = absurd h
    by (t ∷ ts) h =
        let l = begin (path_head p level) taken t (ts ++ rest) (head_whole p level) h.0 in
        let w = took_name (codes "path") l.taken l.end l.column (step_words p.ids p.key) l.words l.each in
        let all = paths_by_read (body_at kind 15) (ProperAt kind 15) (body_read kind 15) level p ps l.taken l.end w.column w.rest ts rest l.taken proper.0 proper.1 w.each h.1 b in
        (all.0, rw (l.is, w.is, all.1) refl)
