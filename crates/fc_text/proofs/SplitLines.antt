-- Lines and words are found again where they were put together.
use Rattle.std.proofs.Common.{◌≡◌, ◌<◌, ◌*◌, ℕ, zero, suc, Bool, true, false, cond, ◌==◌, ◌&&◌, not, List, [], ◌∷◌, ◌++◌, length, drop, append-nil, append_assoc, refl, sym, ap, ◌∙◌, arith, length-append, inl, inr}
use Rattle.std.specs.List.{flat_map, list_all, AllByRecursion}
use Rattle.std.proofs.lemmas.Bool.{and_parts}
use Rattle.std.proofs.lemmas.List.{append_cancel_right, drop_at}
use Rattle.std.proofs.lemmas.List.Folds.{list_all-append}
use Rattle.fc_lines.specs.LineWords.{in_front, lines_of, words_of, spaces_before}
use Rattle.fc_text.specs.Text.{indent}
use Rattle.fc_text.specs.TextGrammar.{behind_space, parted, ended, AreLines}

-- neither a space nor a line feed
abbrev pub is_plain : ℕ → Bool
is_plain b = not (b == 32) && not (b == 10)

abbrev pub is_not_feed : ℕ → Bool
is_not_feed b = not (b == 10)

-- bytes that may be a word, and those that may be a line
pub record IsWord (bytes : List ℕ) : Type 0 where
  pub some : 0 < length bytes
  pub plain : list_all is_plain bytes ≡ true

pub record IsLine (bytes : List ℕ) : Type 0 where
  pub some : 0 < length bytes
  pub plain : list_all is_not_feed bytes ≡ true

not_true : (b : Bool) → not b ≡ true → b ≡ false
not_true true e = cc
not_true false e = refl

no_space : (b : ℕ) → is_plain b ≡ true → (b == 32) ≡ false
no_space b h = not_true (b == 32) (and_parts (not (b == 32)) (not (b == 10)) h).0

-- the words of a line
words_end : (w : List ℕ) → list_all is_plain w ≡ true → words_of w ≡ w ∷ []
words_end [] h = refl
words_end (b ∷ bs) h =
    let (first, more) = and_parts (is_plain b) (list_all is_plain bs) h in
    ap (λ t. cond t ([] ∷ words_of bs) (in_front b (words_of bs))) (no_space b first) ∙ ap (in_front b) (words_end bs more)

words_next : (w rest : List ℕ) → list_all is_plain w ≡ true → words_of (w ++ 32 ∷ rest) ≡ w ∷ words_of rest
words_next [] rest h = refl
words_next (b ∷ bs) rest h =
    let (first, more) = and_parts (is_plain b) (list_all is_plain bs) h in
    ap (λ t. cond t ([] ∷ words_of (bs ++ 32 ∷ rest)) (in_front b (words_of (bs ++ 32 ∷ rest)))) (no_space b first) ∙ ap (in_front b) (words_next bs rest more)

words_more : (w : List ℕ) (ws : List (List ℕ)) → AllByRecursion IsWord (w ∷ ws) → words_of (w ++ flat_map behind_space ws) ≡ w ∷ ws
words_more w [] all = ap words_of (append-nil w) ∙ words_end w all.0.plain
words_more w (x ∷ xs) all = words_next w (x ++ flat_map behind_space xs) all.0.plain ∙ ap (λ l. w ∷ l) (words_more x xs all.1)

pub words_back : (ws : List (List ℕ)) → 0 < length ws → AllByRecursion IsWord ws → words_of (parted ws) ≡ ws
words_back [] some all = absurd (omega (arith, some))
words_back (w ∷ ws) some all = words_more w ws all

-- the level of a line
length-indent : (level : ℕ) → length (indent level) ≡ 2 * level
length-indent zero = refl
length-indent (suc level) = omega (arith, length-indent level)

pub behind_indent : (level : ℕ) (rest : List ℕ) → drop (2 * level) (indent level ++ rest) ≡ rest
behind_indent level rest = drop_at (indent level) rest (2 * level) (length-indent level)

spaces_none : (w rest : List ℕ) → IsWord w → spaces_before (w ++ rest) ≡ 0
spaces_none [] rest is = absurd (omega (arith, is.some))
spaces_none (b ∷ bs) rest is =
    ap (λ t. cond t (suc (spaces_before (bs ++ rest))) 0) (no_space b (and_parts (is_plain b) (list_all is_plain bs) is.plain).0)

spaces_by : (level : ℕ) (rest : List ℕ) → spaces_before rest ≡ 0 → spaces_before (indent level ++ rest) ≡ 2 * level
spaces_by zero rest e = e
spaces_by (suc level) rest e = omega (arith, spaces_by level rest e)

pub spaces_of : (level : ℕ) (ws : List (List ℕ)) → 0 < length ws → AllByRecursion IsWord ws → spaces_before (indent level ++ parted ws) ≡ 2 * level
spaces_of level [] some all = absurd (omega (arith, some))
spaces_of level (w ∷ ws) some all = spaces_by level (w ++ flat_map behind_space ws) (spaces_none w (flat_map behind_space ws) all.0)

-- words make a line
plain_no_feed : (w : List ℕ) → list_all is_plain w ≡ true → list_all is_not_feed w ≡ true
plain_no_feed [] h = refl
plain_no_feed (b ∷ bs) h =
    let (first, more) = and_parts (is_plain b) (list_all is_plain bs) h in
    rw ((and_parts (not (b == 32)) (not (b == 10)) first).1, plain_no_feed bs more) refl

spaces_no_feed : (ws : List (List ℕ)) → AllByRecursion IsWord ws → list_all is_not_feed (flat_map behind_space ws) ≡ true
spaces_no_feed [] all = refl
spaces_no_feed (w ∷ ws) all = list_all-append is_not_feed w (flat_map behind_space ws) ∙ rw (plain_no_feed w all.0.plain, spaces_no_feed ws all.1) refl

indent_no_feed : (level : ℕ) → list_all is_not_feed (indent level) ≡ true
indent_no_feed zero = refl
indent_no_feed (suc level) = indent_no_feed level

pub line_is : (level : ℕ) (ws : List (List ℕ)) → 0 < length ws → AllByRecursion IsWord ws → IsLine (indent level ++ parted ws)
line_is level [] some all = absurd (omega (arith, some))
line_is level (w ∷ ws) some all = record {
  some = omega (arith, length-append (indent level) (w ++ flat_map behind_space ws), length-append w (flat_map behind_space ws), all.0.some);
  plain = list_all-append is_not_feed (indent level) (w ++ flat_map behind_space ws)
      ∙ rw (indent_no_feed level, list_all-append is_not_feed w (flat_map behind_space ws), plain_no_feed w all.0.plain, spaces_no_feed ws all.1) refl;
}

-- the lines of a text
lines_end : (l : List ℕ) → IsLine l → lines_of l ≡ l ∷ []
lines_end [] is = absurd (omega (arith, is.some))
lines_end (b ∷ []) is =
    let (first, more) = and_parts (is_not_feed b) true is.plain in
    ap (λ t. cond t ([] ∷ []) (in_front b [])) (not_true (b == 10) first)
lines_end (b ∷ c ∷ bs) is =
    let (first, more) = and_parts (is_not_feed b) (list_all is_not_feed (c ∷ bs)) is.plain in
    ap (λ t. cond t ([] ∷ lines_of (c ∷ bs)) (in_front b (lines_of (c ∷ bs)))) (not_true (b == 10) first)
    ∙ ap (in_front b) (lines_end (c ∷ bs) (record { some = omega arith; plain = more }))

lines_next : (l rest : List ℕ) → list_all is_not_feed l ≡ true → lines_of (l ++ 10 ∷ rest) ≡ l ∷ lines_of rest
lines_next [] rest h = refl
lines_next (b ∷ bs) rest h =
    let (first, more) = and_parts (is_not_feed b) (list_all is_not_feed bs) h in
    ap (λ t. cond t ([] ∷ lines_of (bs ++ 10 ∷ rest)) (in_front b (lines_of (bs ++ 10 ∷ rest)))) (not_true (b == 10) first) ∙ ap (in_front b) (lines_next bs rest more)

lines_ended : (ls : List (List ℕ)) → AllByRecursion IsLine ls → lines_of (flat_map ended ls) ≡ ls
lines_ended [] all = refl
lines_ended (l ∷ ls) all = ap lines_of (append_assoc l (10 ∷ []) (flat_map ended ls)) ∙ lines_next l (flat_map ended ls) all.0.plain ∙ ap (λ m. l ∷ m) (lines_ended ls all.1)

-- the same without the last line feed
abbrev unended : List ℕ → List (List ℕ) → List ℕ
unended l [] = l
unended l (m ∷ ls) = l ++ 10 ∷ unended m ls

unended_is : (l : List ℕ) (ls : List (List ℕ)) → flat_map ended (l ∷ ls) ≡ unended l ls ++ 10 ∷ []
unended_is l [] = append-nil (l ++ 10 ∷ [])
unended_is l (m ∷ ls) = ap (λ x. (l ++ 10 ∷ []) ++ x) (unended_is m ls) ∙ append_assoc l (10 ∷ []) (unended m ls ++ 10 ∷ []) ∙ sym (append_assoc l (10 ∷ unended m ls) (10 ∷ []))

lines_unended : (l : List ℕ) (ls : List (List ℕ)) → AllByRecursion IsLine (l ∷ ls) → lines_of (unended l ls) ≡ l ∷ ls
lines_unended l [] all = lines_end l all.0
lines_unended l (m ∷ ls) all = lines_next l (unended m ls) all.0.plain ∙ ap (λ x. l ∷ x) (lines_unended m ls all.1)

lacking : (ls : List (List ℕ)) (bytes : List ℕ) → AllByRecursion IsLine ls → ended bytes ≡ flat_map ended ls → lines_of bytes ≡ ls
lacking [] bytes all e = absurd (omega (arith, ap length e, length-append bytes (10 ∷ [])))
lacking (l ∷ ls) bytes all e =
    ap lines_of (append_cancel_right bytes (unended l ls) (10 ∷ []) (e ∙ unended_is l ls)) ∙ lines_unended l ls all

pub lines_back : (ls : List (List ℕ)) (bytes : List ℕ) → AllByRecursion IsLine ls → AreLines ls bytes → lines_of bytes ≡ ls
lines_back ls bytes all (inl e) = ap lines_of e ∙ lines_ended ls all
lines_back ls bytes all (inr e) = lacking ls bytes all e
