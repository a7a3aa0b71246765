-- What is read of lines as PATH-DATA is spelled by them.
use Rattle.std.proofs.Common.{◌≡◌, ◌<◌, ◌+◌, ℕ, zero, suc, Bool, true, false, cond, ◌&&◌, not, List, [], ◌∷◌, ◌++◌, length, map, codes, Result, Ok, Err, append_assoc, refl, sym, ap, subst, ◌∙◌, arith}
use Rattle.std.specs.List.{flat_map, AllByRecursion}
use Rattle.std.specs.Str.{bytes_eq}
use Rattle.std.proofs.lemmas.Bool.{and_parts}
use Rattle.std.proofs.lemmas.Slice.Eq.{bytes_eq-Decides}
use Rattle.fc_path.specs.Kinds.{takes_nothing, takes_full, takes_sparse, takes_outcome}
use Rattle.fc_path.specs.Proper.{ProperBody, ProperPath}
use Rattle.fc_path.specs.declared.oper.OperKind.{OperKind}
use Rattle.fc_path.specs.declared.path.PathData.{PathData}
use Rattle.fc_path.specs.declared.path.Body.{Body, out-Body, roll-Body}
use Rattle.fc_path.specs.declared.path.Body.TheOpen.{Body-F}
use Rattle.fc_path.specs.declared.path.Body.TheVariants as v
use Rattle.fc_path.specs.declared.path.Body.TheViews.{out-roll-Body}
use Rattle.fc_lines.specs.LineWords.{WordItem, WordsLeft, LinesLeft, words_left, stands_at, line_at, word_of, word_in, ended as words_ended, exactly, octets_in}
use Rattle.fc_text.specs.TextGrammar.{Line, name, octets, digits, step_words, ilv_line, body_lines, path_lines, SpellsWord, SpellsLine, AreEach}
use Rattle.fc_base.specs.Answers.{◌>>=◌}
use Rattle.fc_lines.specs.TextPlaces.{TextPlace, place}
use Rattle.fc_lines.specs.LineReading.{Reader, ilv_at, steps_in, code_in}
use Rattle.fc_text.specs.TextReading.{and_more, each_at, many_at, some_at, leaf_in, path_data, path_by, path_line, paths_by, last_body, body_by, body_at, operation_paths_at}
use Rattle.fc_text.proofs.ReadPaths.{layer_lines, layer_is, path_lines_are, one_each}
use Rattle.fc_text.proofs.SoundWords.{bind_ok, same_pair, item_text, texts, Step, Taken, Found, exactly_sound, bytes_sound, steps_sound, code_sound, ilv_sound, line_sound, no_more, one_more, one_line, and_lines}

-- lines behind lines
pub each_join : {A : Type 0} (Is : A → List ℕ → Type 0) (xs ys : List A) (ts us : List (List ℕ)) → AreEach Is xs ts → AreEach Is ys us → AreEach Is (xs ++ ys) (ts ++ us)
each_join Is [] ys [] us h k = k
each_join Is [] ys (t ∷ ts) us h k = absurd h
each_join Is (x ∷ xs) ys [] us h k = absurd h
each_join Is (x ∷ xs) ys (t ∷ ts) us h k = (h.0, each_join Is xs ys ts us h.1 k)

pub found_join : (ls ms : List Line) (left mid rest : LinesLeft) → Found ls left mid → Found ms mid rest → Found (ls ++ ms) left rest
found_join ls ms left mid rest (front, is, each) (more, next, others) =
    (front ++ more, is ∙ ap (λ l. front ++ l) next ∙ sym (append_assoc front more rest.lines), each_join SpellsLine ls ms front more each others)

pub found_none : (left rest : LinesLeft) → left ≡ rest → Found [] left rest
found_none left rest e = ([], ap (λ (l : LinesLeft). l.lines) e, tt)

-- items
module _ {X : Type 0} (f : X → List Line) (P : X → Type 0) (one : Reader X) (sound : (left : LinesLeft) (x : X) (rest : LinesLeft) → one left ≡ Ok (x, rest) → Found (f x) left rest × P x) where
  abbrev AreItems : List X → LinesLeft → LinesLeft → Type 0
  AreItems xs left rest = Found (flat_map f xs) left rest × AllByRecursion P xs

  none_all : (xs : List X) (left rest : LinesLeft) → ◌≡◌ {A = Result (List X × LinesLeft) TextPlace} (Ok ([], left)) (Ok (xs, rest)) → AreItems xs left rest
  none_all xs left rest e =
      let (none, behind) = same_pair [] xs left rest e in
      subst (λ xs. AreItems xs left rest) none (found_none left rest behind, tt)

  and_all : (read : Result (List X × LinesLeft) TextPlace) (x : X) (xs : List X) (left mid rest : LinesLeft) → Found (f x) left mid × P x → ((ys : List X) (end : LinesLeft) → read ≡ Ok (ys, end) → AreItems ys mid end)
      → and_more x read ≡ Ok (xs, rest) → Found (flat_map f xs) left rest × AllByRecursion P xs × (0 < length xs)
  and_all read x xs left mid rest first others e =
      bind_ok read _ (xs, rest) e λ ys is1 e1.
      let (whole, behind) = same_pair (x ∷ ys.0) xs ys.1 rest e1 in
      let more = others ys.0 ys.1 is1 in
      subst (λ xs. Found (flat_map f xs) left rest × AllByRecursion P xs × (0 < length xs)) whole
      (subst (Found (flat_map f (x ∷ ys.0)) left) behind (found_join (f x) (flat_map f ys.0) left mid ys.1 first.0 more.0), (first.1, more.1), omega arith)

  each_sound : (fuel level : ℕ) (left : LinesLeft) (xs : List X) (rest : LinesLeft) → each_at fuel level one left ≡ Ok (xs, rest) → AreItems xs left rest
  each_sound zero level left xs rest e = none_all xs left rest e
  each_sound (suc fuel) level left xs rest e = by (stands_at level left.lines) (each_sound fuel level) e
    where
      by : (t : Bool) → ((left : LinesLeft) (xs : List X) (rest : LinesLeft) → each_at fuel level one left ≡ Ok (xs, rest) → AreItems xs left rest) → cond {A = Result (List X × LinesLeft) TextPlace} t (one left >>= λ x. and_more x.0 (each_at fuel level one x.1)) (Ok ([], left)) ≡ Ok (xs, rest) → AreItems xs left rest
      by true others e =
          bind_ok (one left) _ (xs, rest) e λ x is1 e1.
          let all = and_all (each_at fuel level one x.1) x.0 xs left x.1 rest (sound left x.0 x.1 is1) (others x.1) e1 in
          (all.0, all.1)
      by false others e = none_all xs left rest e

  pub many_sound : (level : ℕ) (left : LinesLeft) (xs : List X) (rest : LinesLeft) → many_at level one left ≡ Ok (xs, rest) → Found (flat_map f xs) left rest × AllByRecursion P xs
  unfolding many_at
  many_sound level left xs rest e = each_sound (length left.lines) level left xs rest e

  pub some_sound : (level : ℕ) (left : LinesLeft) (xs : List X) (rest : LinesLeft) → some_at level one left ≡ Ok (xs, rest) → Found (flat_map f xs) left rest × AllByRecursion P xs × (0 < length xs)
  unfolding some_at
  some_sound level left xs rest e =
      bind_ok (one left) _ (xs, rest) e λ x is1 e1.
      and_all (many_at level one x.1) x.0 xs left x.1 rest (sound left x.0 x.1 is1) (many_sound level x.1) e1

-- a PATH-DATA, by what reads its body
module _ (inside : ℕ → Reader Body) (Q : Body → Type 0) (sound : (level : ℕ) (left : LinesLeft) (b : Body) (rest : LinesLeft) → inside level left ≡ Ok (b, rest) → Found (body_lines b level) left rest × Q b) where
  by_sound : (level : ℕ) (v : WordsLeft) (left : LinesLeft) (p : PathData) (rest : LinesLeft) → path_by inside level v left ≡ Ok (p, rest)
      → AreEach SpellsWord (step_words p.ids p.key) (texts v) × Found (body_lines p.body (level + 1)) left rest × Q p.body
  unfolding path_by
  by_sound level v left p rest e =
      bind_ok (steps_in v) _ (p, rest) e λ s is1 e1.
      bind_ok (inside (level + 1) left) _ (p, rest) e1 λ b is2 e2.
      let (same, behind) = same_pair (path_data s b.0) p b.1 rest e2 in
      let (lines, proper) = sound (level + 1) left b.0 b.1 is2 in
      subst (λ (p : PathData). AreEach SpellsWord (step_words p.ids p.key) (texts v) × Found (body_lines p.body (level + 1)) left rest × Q p.body) same
      (steps_sound v s is1, subst (Found (body_lines b.0 (level + 1)) left) behind lines, proper)

  whole_path : (level : ℕ) (v w : WordsLeft) (u : Unit {0}) (left mid rest : LinesLeft) (p : PathData) → Taken level v left mid → Step (name (codes "path")) v w
      → AreEach SpellsWord (step_words p.ids p.key) (texts w) × Found (body_lines p.body (level + 1)) mid rest × Q p.body → Found (path_lines p level) left rest × Q p.body
  whole_path level v w u left mid rest p taken step (words, body, q) = (
    subst (λ l. Found l left rest) (sym (path_lines_are p level))
        (and_lines level (name (codes "path") ∷ step_words p.ids p.key) (body_lines p.body (level + 1)) left mid rest v taken (one_more (name (codes "path")) (step_words p.ids p.key) v w step words) body),
    q,
  )

  pub path_sound : (level : ℕ) (left : LinesLeft) (p : PathData) (rest : LinesLeft) → path_line inside level left ≡ Ok (p, rest) → Found (path_lines p level) left rest × Q p.body
  unfolding path_line
  path_sound level left p rest e =
      bind_ok (line_at level left) _ (p, rest) e λ l is1 e1.
      bind_ok (exactly (codes "path") l.0) _ (p, rest) e1 λ w is2 e2.
      whole_path level l.0 w.1 w.0 left l.1 rest p (line_sound level left l.0 l.1 is1) (exactly_sound (codes "path") l.0 w.0 w.1 is2) (by_sound level w.1 l.1 p rest e2)

  -- those behind the word of the first
  paths_sound : (level : ℕ) (v w : WordsLeft) (left mid : LinesLeft) (ps : List PathData) (rest : LinesLeft) → Taken level v left mid → Step (name (codes "path")) v w → paths_by inside level w mid ≡ Ok (ps, rest)
      → Found (flat_map (λ p. path_lines p level) ps) left rest × AllByRecursion (λ p. Q p.body) ps × (0 < length ps)
  unfolding paths_by
  paths_sound level v w left mid ps rest taken step e =
      bind_ok (path_by inside level w mid) _ (ps, rest) e λ x is1 e1.
      let first = whole_path level v w tt left mid x.1 x.0 taken step (by_sound level w mid x.0 x.1 is1) in
      and_all (λ p. path_lines p level) (λ p. Q p.body) (path_line inside level) (path_sound level) (many_at level (path_line inside level) x.1) x.0 ps left x.1 rest first
      (λ ys end is. many_sound (λ p. path_lines p level) (λ p. Q p.body) (path_line inside level) (path_sound level) level x.1 ys end is) e1

-- a word was read, whatever it is
word_by : (n e : ℕ) (items : List WordItem) (x : WordItem) (rest : WordsLeft) → word_of n e items ≡ Ok (x, rest) → map item_text items ≡ x.text ∷ texts rest
word_by n e [] x rest h = cc
word_by n e (y ∷ ys) x rest h =
    let (same, left) = same_pair y x (words_left n e ys) rest h in
    ap (λ (y : WordItem). y.text ∷ map item_text ys) same ∙ ap (λ w. x.text ∷ texts w) left

word_sound : (v : WordsLeft) (x : WordItem) (rest : WordsLeft) → word_in v ≡ Ok (x, rest) → texts v ≡ x.text ∷ texts rest
unfolding word_in
word_sound v x rest h = word_by v.line v.end v.words x rest h

-- what is read behind the word that a body begins with
abbrev full_read : WordsLeft → LinesLeft → Result (Body × LinesLeft) TextPlace
full_read w mid = octets_in w >>= λ value. words_ended value.1 >>= λ _. Ok (v.Full value.0, mid)

abbrev outcome_read : WordsLeft → LinesLeft → Result (Body × LinesLeft) TextPlace
outcome_read w mid = code_in w >>= λ code. Ok (v.Outcome code, mid)

abbrev sparse_read : ℕ → WordsLeft → LinesLeft → Result (Body × LinesLeft) TextPlace
sparse_read level w mid = words_ended w >>= λ _. many_at (level + 1) (ilv_at (level + 1)) mid >>= λ ilvs. Ok (v.Sparse ilvs.0, ilvs.1)

-- bodies
abbrev pub IsBody : OperKind → (PathData → Type 0) → ℕ → Body → LinesLeft → LinesLeft → Type 0
IsBody kind P level b left rest = Found (body_lines b level) left rest × ProperBody kind P (out-Body b)

module _ (kind : OperKind) (P : PathData → Type 0) (level : ℕ) where
  at_layer : (l : Body-F Body PathData) (b : Body) (left rest : LinesLeft) → roll-Body l ≡ b → Found (layer_lines l level) left rest → ProperBody kind P l → IsBody kind P level b left rest
  at_layer l b left rest e found proper =
      subst (λ x. IsBody kind P level x left rest) e
      (subst (λ m. Found m left rest) (sym (layer_is l level)) found, subst (ProperBody kind P) (sym (out-roll-Body l)) proper)

  nothing_sound : (b : Body) (left rest : LinesLeft) → takes_nothing kind ≡ true → ◌≡◌ {A = Result (Body × LinesLeft) TextPlace} (Ok (v.Nothing, left)) (Ok (b, rest)) → IsBody kind P level b left rest
  nothing_sound b left rest takes e =
      let (same, behind) = same_pair v.Nothing b left rest e in
      at_layer Body-F.Nothing b left rest (v.rolls-Nothing ∙ same) (found_none left rest behind) takes

  -- one that begins with a word of its own
  full_sound : (first w : WordsLeft) (left mid : LinesLeft) (b : Body) (rest : LinesLeft) → takes_full kind ≡ true → Taken level first left mid → Step (name (codes "full")) first w
      → full_read w mid ≡ Ok (b, rest) → IsBody kind P level b left rest
  full_sound first w left mid b rest takes taken step e =
      bind_ok (octets_in w) _ (b, rest) e λ value is1 e1.
      bind_ok (words_ended value.1) _ (b, rest) e1 λ u is2 e2.
      let (same, behind) = same_pair (v.Full value.0) b mid rest e2 in
      let words = one_more (name (codes "full")) (octets value.0 ∷ []) first w step (one_more (octets value.0) [] w value.1 (bytes_sound w value.0 value.1 is1) (no_more value.1 u is2)) in
      at_layer (Body-F.Full value.0) b left rest (v.rolls-Full value.0 ∙ same) (subst (Found (layer_lines (Body-F.Full value.0) level) left) behind (one_line level (name (codes "full") ∷ octets value.0 ∷ []) left mid first taken words)) takes

  outcome_sound : (first w : WordsLeft) (left mid : LinesLeft) (b : Body) (rest : LinesLeft) → takes_outcome kind ≡ true → Taken level first left mid → Step (name (codes "code")) first w
      → outcome_read w mid ≡ Ok (b, rest) → IsBody kind P level b left rest
  outcome_sound first w left mid b rest takes taken step e =
      bind_ok (code_in w) _ (b, rest) e λ code is1 e1.
      let (same, behind) = same_pair (v.Outcome code) b mid rest e1 in
      let words = one_more (name (codes "code")) (digits [] 2 code ∷ []) first w step (code_sound w code is1) in
      at_layer (Body-F.Outcome code) b left rest (v.rolls-Outcome code ∙ same) (subst (Found (layer_lines (Body-F.Outcome code) level) left) behind (one_line level (name (codes "code") ∷ digits [] 2 code ∷ []) left mid first taken words)) takes

  sparse_sound : (first w : WordsLeft) (left mid : LinesLeft) (b : Body) (rest : LinesLeft) → takes_sparse kind ≡ true → Taken level first left mid → Step (name (codes "sparse")) first w
      → sparse_read level w mid ≡ Ok (b, rest) → IsBody kind P level b left rest
  sparse_sound first w left mid b rest takes taken step e =
      bind_ok (words_ended w) _ (b, rest) e λ u is1 e1.
      bind_ok (many_at (level + 1) (ilv_at (level + 1)) mid) _ (b, rest) e1 λ ilvs is2 e2.
      let (same, behind) = same_pair (v.Sparse ilvs.0) b ilvs.1 rest e2 in
      let all = many_sound (λ ilv. ilv_line (level + 1) ilv ∷ []) (λ x. Unit {0}) (ilv_at (level + 1)) (λ left x rest is. (ilv_sound (level + 1) left x rest is, tt)) (level + 1) mid ilvs.0 ilvs.1 is2 in
      let words = one_more (name (codes "sparse")) [] first w step (no_more w u is1) in
      let lines = and_lines level (name (codes "sparse") ∷ []) (map (ilv_line (level + 1)) ilvs.0) left mid ilvs.1 first taken words (subst (λ l. Found l mid ilvs.1) (sym (one_each (level + 1) ilvs.0)) all.0) in
      at_layer (Body-F.Sparse ilvs.0) b left rest (v.rolls-Sparse ilvs.0 ∙ same) (subst (Found (layer_lines (Body-F.Sparse ilvs.0) level) left) behind lines) takes

  first_word : (text : List ℕ) (first : WordsLeft) (x : WordItem) (w : WordsLeft) → texts first ≡ x.text ∷ texts w → bytes_eq x.text text ≡ true → Step (name text) first w
  first_word text first x w is e = (x.text, is, (bytes_eq-Decides x.text text).0 e)

  leaf_sound : (first : WordsLeft) (x : WordItem) (w : WordsLeft) (left mid : LinesLeft) (b : Body) (rest : LinesLeft) → Taken level first left mid → texts first ≡ x.text ∷ texts w → leaf_in kind level x w mid ≡ Ok (b, rest) → IsBody kind P level b left rest
  unfolding leaf_in
  leaf_sound first x w left mid b rest taken is e =
      by (takes_full kind && bytes_eq x.text (codes "full")) (takes_sparse kind && bytes_eq x.text (codes "sparse")) (takes_outcome kind && bytes_eq x.text (codes "code"))
      (and_parts (takes_full kind) (bytes_eq x.text (codes "full"))) (and_parts (takes_sparse kind) (bytes_eq x.text (codes "sparse"))) (and_parts (takes_outcome kind) (bytes_eq x.text (codes "code"))) e
    where
      by : (s t u : Bool) → (s ≡ true → (takes_full kind ≡ true) × (bytes_eq x.text (codes "full") ≡ true)) → (t ≡ true → (takes_sparse kind ≡ true) × (bytes_eq x.text (codes "sparse") ≡ true))
          → (u ≡ true → (takes_outcome kind ≡ true) × (bytes_eq x.text (codes "code") ≡ true))
          → cond {A = Result (Body × LinesLeft) TextPlace} s (full_read w mid)
          (cond {A = Result (Body × LinesLeft) TextPlace} t (sparse_read level w mid)
          (cond {A = Result (Body × LinesLeft) TextPlace} u (outcome_read w mid) (Err (place w.line x.column)))) ≡ Ok (b, rest) → IsBody kind P level b left rest
      by true t u p q r e = full_sound first w left mid b rest (p refl).0 taken (first_word (codes "full") first x w is (p refl).1) e
      by false true u p q r e = sparse_sound first w left mid b rest (q refl).0 taken (first_word (codes "sparse") first x w is (q refl).1) e
      by false false true p q r e = outcome_sound first w left mid b rest (r refl).0 taken (first_word (codes "code") first x w is (r refl).1) e
      by false false false p q r e = cc

-- a body, by how deep PATH-DATA may stand in it
abbrev after_word : OperKind → ℕ → LinesLeft → Result (Body × LinesLeft) TextPlace
after_word kind level left = line_at level left >>= λ l. word_in l.0 >>= λ x. leaf_in kind level x.0 x.1 l.1

last_sound : (kind : OperKind) (P : PathData → Type 0) (level : ℕ) (left : LinesLeft) (b : Body) (rest : LinesLeft) → last_body kind level left ≡ Ok (b, rest) → IsBody kind P level b left rest
unfolding last_body
last_sound kind P level left b rest e = by (takes_nothing kind) (λ h. h) e
  where
    by : (t : Bool) → (t ≡ true → takes_nothing kind ≡ true) → cond {A = Result (Body × LinesLeft) TextPlace} t (Ok (v.Nothing, left)) (after_word kind level left) ≡ Ok (b, rest) → IsBody kind P level b left rest
    by true is e = nothing_sound kind P level b left rest (is refl) e
    by false is e =
        bind_ok (line_at level left) _ (b, rest) e λ l is1 e1.
        bind_ok (word_in l.0) _ (b, rest) e1 λ x is2 e2.
        leaf_sound kind P level l.0 x.0 x.1 left l.1 b rest (line_sound level left l.0 l.1 is1) (word_sound l.0 x.0 x.1 is2) e2

module _ (kind : OperKind) (inside : ℕ → Reader Body) (Q : Body → Type 0) (sound : (level : ℕ) (left : LinesLeft) (b : Body) (rest : LinesLeft) → inside level left ≡ Ok (b, rest) → Found (body_lines b level) left rest × Q b) where
  abbrev nested_read : ℕ → WordsLeft → LinesLeft → Result (Body × LinesLeft) TextPlace
  nested_read level w mid = paths_by inside level w mid >>= λ paths. Ok (v.Nested paths.0, paths.1)

  nested_sound : (level : ℕ) (first : WordsLeft) (x : WordItem) (w : WordsLeft) (left mid : LinesLeft) (b : Body) (rest : LinesLeft) → Taken level first left mid → texts first ≡ x.text ∷ texts w
      → cond {A = Result (Body × LinesLeft) TextPlace} (bytes_eq x.text (codes "path")) (nested_read level w mid) (leaf_in kind level x w mid) ≡ Ok (b, rest) → IsBody kind (λ p. Q p.body) level b left rest
  nested_sound level first x w left mid b rest taken is e = by (bytes_eq x.text (codes "path")) (λ h. h) e
    where
      by : (t : Bool) → (t ≡ true → bytes_eq x.text (codes "path") ≡ true) → cond {A = Result (Body × LinesLeft) TextPlace} t (nested_read level w mid) (leaf_in kind level x w mid) ≡ Ok (b, rest)
          → IsBody kind (λ p. Q p.body) level b left rest
      by true same e =
          bind_ok (paths_by inside level w mid) _ (b, rest) e λ ps is1 e1.
          let (whole, behind) = same_pair (v.Nested ps.0) b ps.1 rest e1 in
          let all = paths_sound inside Q sound level first w left mid ps.0 ps.1 taken (first_word kind (λ p. Q p.body) level (codes "path") first x w is (same refl)) is1 in
          at_layer kind (λ p. Q p.body) level (Body-F.Nested ps.0) b left rest (v.rolls-Nested ps.0 ∙ whole) (subst (Found (layer_lines (Body-F.Nested ps.0) level) left) behind all.0) (all.2, all.1)
      by false same e = leaf_sound kind (λ p. Q p.body) level first x w left mid b rest taken is e

  body_sound_by : (level : ℕ) (left : LinesLeft) (b : Body) (rest : LinesLeft) → body_by kind inside level left ≡ Ok (b, rest) → IsBody kind (λ p. Q p.body) level b left rest
  unfolding body_by
  body_sound_by level left b rest e = by (takes_nothing kind && not (stands_at level left.lines)) (λ h. (and_parts (takes_nothing kind) (not (stands_at level left.lines)) h).0) e
    where
      by : (t : Bool) → (t ≡ true → takes_nothing kind ≡ true)
          → cond {A = Result (Body × LinesLeft) TextPlace} t (Ok (v.Nothing, left)) (line_at level left >>= λ l. word_in l.0 >>= λ x. cond (bytes_eq x.0.text (codes "path")) (nested_read level x.1 l.1) (leaf_in kind level x.0 x.1 l.1)) ≡ Ok (b, rest)
          → IsBody kind (λ p. Q p.body) level b left rest
      by true is e = nothing_sound kind (λ p. Q p.body) level b left rest (is refl) e
      by false is e =
          bind_ok (line_at level left) _ (b, rest) e λ l is1 e1.
          bind_ok (word_in l.0) _ (b, rest) e1 λ x is2 e2.
          nested_sound level l.0 x.0 x.1 left l.1 b rest (line_sound level left l.0 l.1 is1) (word_sound l.0 x.0 x.1 is2) e2

abbrev ProperAt : OperKind → ℕ → Body → Type 0
ProperAt kind depth b = ProperBody kind (ProperPath kind depth) (out-Body b)

pub body_sound : (kind : OperKind) (depth level : ℕ) (left : LinesLeft) (b : Body) (rest : LinesLeft) → body_at kind depth level left ≡ Ok (b, rest) → Found (body_lines b level) left rest × ProperAt kind depth b
body_sound kind zero level left b rest e = last_sound kind (ProperPath kind 0) level left b rest e
body_sound kind (suc depth) level left b rest e = body_sound_by kind (body_at kind depth) (ProperAt kind depth) (body_sound kind depth) level left b rest e

-- the PATH-DATA of an operation
pub operation_paths_sound : (kind : OperKind) (level : ℕ) (left : LinesLeft) (ps : List PathData) (rest : LinesLeft) → operation_paths_at kind level left ≡ Ok (ps, rest)
    → Found (flat_map (λ p. path_lines p level) ps) left rest × AllByRecursion (ProperPath kind 16) ps × (0 < length ps)
unfolding operation_paths_at
operation_paths_sound kind level left ps rest e =
    bind_ok (line_at level left) _ (ps, rest) e λ l is1 e1.
    bind_ok (exactly (codes "path") l.0) _ (ps, rest) e1 λ w is2 e2.
    paths_sound (body_at kind 15) (ProperAt kind 15) (body_sound kind 15) level l.0 w.1 left l.1 ps rest (line_sound level left l.0 l.1 is1) (exactly_sound (codes "path") l.0 w.0 w.1 is2) e2
