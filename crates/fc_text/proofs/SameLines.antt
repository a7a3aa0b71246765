-- Lines that are the same before a column and at it.
use Rattle.std.proofs.Common.{◌≡◌, ◌==◌, ◌<◌, ◌≤◌, ◌+◌, ◌*◌, nat_lt, ℕ, Bool, true, false, List, [], ◌∷◌, ◌++◌, length, drop, Some, None, length-append, length-drop, refl, sym, ap, subst, ◌∙◌, arith, eq-eqb, ne_eqb, eqb-true, cond, inl, inr}
use Rattle.std.specs.List.{flat_map, AllByRecursion}
use Rattle.std.proofs.lemmas.Bool.{lt-ltb, ltb-true, le-ltb, ltb-false}
use Rattle.fc_text.specs.FirstMisfit.{words_on, before, word_at, SameBefore, SameAt, IsColumn}
use Rattle.fc_lines.specs.LineWords.{WordItem, words_of, placed, spaces_before}
use Rattle.fc_text.specs.Text.{indent}
use Rattle.fc_text.specs.TextGrammar.{behind_space, parted}
use Rattle.fc_lines.proofs.LineSteps.{spaces_fit}
use Rattle.fc_text.proofs.SoundWords.{parted_words, words_some, spaces_sound}
use Rattle.fc_text.proofs.SplitLines.{IsWord, words_back, behind_indent, spaces_of}

-- words with their columns
abbrev item : ℕ → List ℕ → WordItem
item column text = record { column = column; text = text }

same_head : (x y : WordItem) (xs ys : List WordItem) → x ∷ xs ≡ y ∷ ys → x ≡ y
same_head x y xs ys e = cc

same_tail : (x y : WordItem) (xs ys : List WordItem) → x ∷ xs ≡ y ∷ ys → xs ≡ ys
same_tail x y xs ys e = cc

same_text : (t u : List ℕ) → Some t ≡ Some u → t ≡ u
same_text t u e = cc

before_first : (c col : ℕ) (t : List ℕ) (ts : List (List ℕ)) → col < c → before c (placed col (t ∷ ts)) ≡ item col t ∷ before c (placed (col + length t + 1) ts)
before_first c col t ts h = rw (lt-ltb col c h) refl

at_here : (c col : ℕ) (t : List ℕ) (ts : List (List ℕ)) → col ≡ c → word_at c (placed col (t ∷ ts)) ≡ Some t
at_here c col t ts e = rw (eq-eqb col c e) refl

at_later : (c col : ℕ) (t : List ℕ) (ts : List (List ℕ)) → col < c → word_at c (placed col (t ∷ ts)) ≡ word_at c (placed (col + length t + 1) ts)
at_later c col t ts h = rw (ne_eqb col c (λ e. omega (arith, h, e))) refl

-- the words end before a column or at it
abbrev Fit : ℕ → ℕ → List (List ℕ) → Type 0
Fit c col [] = Unit {0}
Fit c col (t ∷ ts) = (col + length t ≤ c) × Fit c (col + length t + 1) ts

behind_fit : (c col : ℕ) (ts : List (List ℕ)) → col + length (flat_map behind_space ts) ≤ c + 1 → Fit c col ts
behind_fit c col [] h = tt
behind_fit c col (t ∷ ts) h =
    let size : length (t ++ flat_map behind_space ts) ≡ length t + length (flat_map behind_space ts) = length-append t (flat_map behind_space ts) in
    (omega (arith, h, size), behind_fit c (col + length t + 1) ts (omega (arith, h, size)))

parted_fit : (c col : ℕ) (ts : List (List ℕ)) → col + length (parted ts) ≤ c → Fit c col ts
parted_fit c col [] h = tt
parted_fit c col (t ∷ ts) h =
    let size : length (t ++ flat_map behind_space ts) ≡ length t + length (flat_map behind_space ts) = length-append t (flat_map behind_space ts) in
    (omega (arith, h, size), behind_fit c (col + length t + 1) ts (omega (arith, h, size)))

-- a word stands between the first column and the last
item_behind : (col : ℕ) (ts : List (List ℕ)) (front : List WordItem) (w : WordItem) (back : List WordItem) → placed col ts ≡ front ++ w ∷ back → col ≤ w.column
item_behind col [] [] w back e = absurd cc
item_behind col [] (y ∷ ys) w back e = absurd cc
item_behind col (t ∷ ts) [] w back e = let is = ap (λ (x : WordItem). x.column) (same_head (item col t) w _ back e) in omega (arith, is)
item_behind col (t ∷ ts) (y ∷ ys) w back e =
    let more = item_behind (col + length t + 1) ts ys w back (same_tail (item col t) y _ (ys ++ w ∷ back) e) in omega (arith, more)

pub item_within : (c col : ℕ) (ts : List (List ℕ)) (front : List WordItem) (w : WordItem) (back : List WordItem) → Fit c col ts → placed col ts ≡ front ++ w ∷ back → w.column ≤ c
item_within c col [] [] w back fit e = absurd cc
item_within c col [] (y ∷ ys) w back fit e = absurd cc
item_within c col (t ∷ ts) [] w back fit e = let is = ap (λ (x : WordItem). x.column) (same_head (item col t) w _ back e) in omega (arith, is, fit.0)
item_within c col (t ∷ ts) (y ∷ ys) w back fit e = item_within c (col + length t + 1) ts ys w back fit.1 (same_tail (item col t) y _ (ys ++ w ∷ back) e)

-- a word is found at its column
word_found : (col : ℕ) (ts : List (List ℕ)) (front : List WordItem) (w : WordItem) (back : List WordItem) → placed col ts ≡ front ++ w ∷ back → word_at w.column (placed col ts) ≡ Some w.text
word_found col [] [] w back e = absurd cc
word_found col [] (y ∷ ys) w back e = absurd cc
word_found col (t ∷ ts) [] w back e =
    let first = same_head (item col t) w _ back e in
    at_here w.column col t ts (ap (λ (x : WordItem). x.column) first) ∙ ap (λ (x : WordItem). Some x.text) first
word_found col (t ∷ ts) (y ∷ ys) w back e =
    let rest = same_tail (item col t) y _ (ys ++ w ∷ back) e in
    let behind = item_behind (col + length t + 1) ts ys w back rest in
    at_later w.column col t ts (omega (arith, behind)) ∙ word_found (col + length t + 1) ts ys w back rest

-- words that are the same before a column and at it, and end there
abbrev SameWords : ℕ → List WordItem → List WordItem → Type 0
SameWords c xs ys = (before c xs ≡ before c ys) × (word_at c xs ≡ word_at c ys)

-- behind a word that stands before the column
same_later : (c col : ℕ) (t u : List ℕ) (ts us : List (List ℕ)) → col < c → SameWords c (placed col (t ∷ ts)) (placed col (u ∷ us))
    → (t ≡ u) × SameWords c (placed (col + length t + 1) ts) (placed (col + length u + 1) us)
same_later c col t u ts us h (front, at) =
    let both : item col t ∷ before c (placed (col + length t + 1) ts) ≡ item col u ∷ before c (placed (col + length u + 1) us) = sym (before_first c col t ts h) ∙ front ∙ before_first c col u us h in
    (ap (λ (x : WordItem). x.text) (same_head _ _ _ _ both), (same_tail _ _ _ _ both, sym (at_later c col t ts h) ∙ at ∙ at_later c col u us h))

more_words : (c col : ℕ) (t u : List ℕ) (ts us : List (List ℕ)) (P : List ℕ → List (List ℕ) → Type 0) → t ≡ u → SameWords c (placed (col + length t + 1) ts) (placed (col + length u + 1) us) → Fit c (col + length u + 1) us
    → (SameWords c (placed (col + length t + 1) ts) (placed (col + length t + 1) us) → Fit c (col + length t + 1) us → P t us) → P u us
more_words c col t u ts us P e same fit k =
    subst (λ w. SameWords c (placed (col + length t + 1) ts) (placed (col + length w + 1) us) → Fit c (col + length w + 1) us → P w us) e k same fit

none_there : (c col : ℕ) (t : List ℕ) (ts : List (List ℕ)) → col + length t ≤ c → [] ≡ before c (placed col (t ∷ ts)) → None ≡ word_at c (placed col (t ∷ ts)) → ⊥
none_there c col t ts h front at = by (nat_lt col c) refl
  where
    by : (b : Bool) → nat_lt col c ≡ b → ⊥
    by true less = let is = front ∙ before_first c col t ts (ltb-true col c less) in cc
    by false less = let is = at ∙ at_here c col t ts (omega (arith, h, ltb-false col c less)) in cc

same_words : (c col : ℕ) (ts us : List (List ℕ)) → Fit c col ts → Fit c col us → SameWords c (placed col ts) (placed col us) → ts ≡ us
same_words c col [] [] f g same = refl
same_words c col [] (u ∷ us) f g same = absurd (none_there c col u us g.0 same.0 same.1)
same_words c col (t ∷ ts) [] f g same = absurd (none_there c col t ts f.0 (sym same.0) (sym same.1))
same_words c col (t ∷ ts) (u ∷ us) f g same = by (nat_lt col c) refl (same_words c (col + length t + 1) ts us f.1)
  where
    ends : (w : List ℕ) (ws : List (List ℕ)) → c ≤ col → Fit c (col + length w + 1) ws → ws ≡ []
    ends w [] h fit = refl
    ends w (x ∷ xs) h fit = let first = fit.0 in absurd (omega (arith, h, first))

    by : (b : Bool) → nat_lt col c ≡ b → (Fit c (col + length t + 1) us → SameWords c (placed (col + length t + 1) ts) (placed (col + length t + 1) us) → ts ≡ us) → t ∷ ts ≡ u ∷ us
    by true less others =
        let (word, more) = same_later c col t u ts us (ltb-true col c less) same in
        more_words c col t u ts us (λ w ws. t ∷ ts ≡ w ∷ ws) word more g.1 (λ all fit. ap (λ l. t ∷ l) (others fit all))
    by false less others =
        let h : c ≤ col = ltb-false col c less in
        let here : col ≡ c = omega (arith, h, f.0) in
        let word : t ≡ u = same_text t u (sym (at_here c col t ts here) ∙ same.1 ∙ at_here c col u us here) in
        ap (λ w. w ∷ ts) word ∙ ap (λ l. u ∷ l) (ends t ts h f.1 ∙ sym (ends u us h g.1))

-- words that are the same before the column of a word and at it
pub same_until : (c col : ℕ) (ts us : List (List ℕ)) (front : List WordItem) (w : WordItem) (back : List WordItem) → placed col ts ≡ front ++ w ∷ back → w.column ≡ c → SameWords c (placed col ts) (placed col us)
    → (more : List WordItem) × (placed col us ≡ front ++ w ∷ more)
same_until c col [] us [] w back e is same = absurd cc
same_until c col [] us (y ∷ ys) w back e is same = absurd cc
same_until c col (t ∷ ts) [] [] w back e is same =
    let here : col ≡ c = ap (λ (x : WordItem). x.column) (same_head (item col t) w _ back e) ∙ is in
    let some = sym (at_here c col t ts here) ∙ same.1 in absurd cc
same_until c col (t ∷ ts) (u ∷ us) [] w back e is same =
    let first : item col t ≡ w = same_head (item col t) w _ back e in
    let here : col ≡ c = ap (λ (x : WordItem). x.column) first ∙ is in
    let word : u ≡ t = sym (same_text t u (sym (at_here c col t ts here) ∙ same.1 ∙ at_here c col u us here)) in
    (placed (col + length u + 1) us, ap (λ x. item col x ∷ placed (col + length u + 1) us) word ∙ ap (λ x. x ∷ placed (col + length u + 1) us) first)
same_until c col (t ∷ ts) [] (y ∷ ys) w back e is same =
    let behind = item_behind (col + length t + 1) ts ys w back (same_tail (item col t) y _ (ys ++ w ∷ back) e) in
    let some = sym (before_first c col t ts (omega (arith, behind, is))) ∙ same.0 in absurd cc
same_until c col (t ∷ ts) (u ∷ us) (y ∷ ys) w back e is same =
    let rest = same_tail (item col t) y _ (ys ++ w ∷ back) e in
    let behind = item_behind (col + length t + 1) ts ys w back rest in
    let (word, more) = same_later c col t u ts us (omega (arith, behind, is)) same in
    let all : SameWords c (placed (col + length t + 1) ts) (placed (col + length t + 1) us) = subst (λ x. SameWords c (placed (col + length t + 1) ts) (placed (col + length x + 1) us)) (sym word) more in
    let found = same_until c (col + length t + 1) ts us ys w back rest is all in (
      found.0,
      ap (λ x. item col x ∷ placed (col + length x + 1) us) (sym word) ∙ ap (λ l. item col t ∷ l) found.1 ∙ ap (λ x. x ∷ (ys ++ w ∷ found.0)) (same_head (item col t) y _ (ys ++ w ∷ back) e),
    )

-- lines at a level
pub words_are : (level : ℕ) (line : List ℕ) → spaces_before line ≡ 2 * level → words_on line ≡ placed (2 * level + 1) (words_of (drop (2 * level) line))
words_are level line e = ap (λ n. placed (n + 1) (words_of (drop n line))) e

pub size_is : (level : ℕ) (line : List ℕ) → spaces_before line ≡ 2 * level → 2 * level + length (drop (2 * level) line) ≡ length line
size_is level line e = omega (arith, e, spaces_fit line, length-drop (2 * level) line)

line_fit : (c level : ℕ) (line : List ℕ) → spaces_before line ≡ 2 * level → length line < c → Fit c (2 * level + 1) (words_of (drop (2 * level) line))
line_fit c level line e h = parted_fit c (2 * level + 1) _ (omega (arith, ap length (parted_words (drop (2 * level) line)), size_is level line e, h))

pub column_within : (level : ℕ) (line : List ℕ) (front : List WordItem) (w : WordItem) (back : List WordItem) → spaces_before line ≡ 2 * level → placed (2 * level + 1) (words_of (drop (2 * level) line)) ≡ front ++ w ∷ back
    → (0 < w.column) × (w.column ≤ length line + 1)
column_within level line front w back e is =
    let first = item_behind (2 * level + 1) (words_of (drop (2 * level) line)) front w back is in
    (omega (arith, first), item_within (length line + 1) (2 * level + 1) (words_of (drop (2 * level) line)) front w back (line_fit (length line + 1) level line e (omega arith)) is)

pub line_word : (level : ℕ) (line : List ℕ) (front : List WordItem) (w : WordItem) (back : List WordItem) → spaces_before line ≡ 2 * level → placed (2 * level + 1) (words_of (drop (2 * level) line)) ≡ front ++ w ∷ back
    → word_at w.column (words_on line) ≡ Some w.text
line_word level line front w back e is = ap (word_at w.column) (words_are level line e) ∙ word_found (2 * level + 1) (words_of (drop (2 * level) line)) front w back is

pub same_placed : (c level : ℕ) (line other : List ℕ) → spaces_before line ≡ 2 * level → spaces_before other ≡ 2 * level → SameAt c line other
    → SameWords c (placed (2 * level + 1) (words_of (drop (2 * level) line))) (placed (2 * level + 1) (words_of (drop (2 * level) other)))
same_placed c level line other e f same = (
  sym (ap (before c) (words_are level line e)) ∙ same.front.words ∙ ap (before c) (words_are level other f),
  sym (ap (word_at c) (words_are level line e)) ∙ same.word ∙ ap (word_at c) (words_are level other f),
)

-- lines that are the same up to behind the end of one of them are the same
pub same_line : (level : ℕ) (line other : List ℕ) → spaces_before line ≡ 2 * level → SameAt (length line + 1) line other → line ≡ other
same_line level line other e same =
    let f : spaces_before other ≡ 2 * level = sym same.front.indent ∙ e in
    let ends : length other < length line + 1 = ltb-true (length other) (length line + 1) (sym same.ends ∙ lt-ltb (length line) (length line + 1) (omega arith)) in
    let words = same_words (length line + 1) (2 * level + 1) _ _ (line_fit (length line + 1) level line e (omega arith)) (line_fit (length line + 1) level other f ends) (same_placed (length line + 1) level line other e f same) in
    let own : drop (2 * level) line ≡ drop (2 * level) other = sym (parted_words (drop (2 * level) line)) ∙ ap parted words ∙ parted_words (drop (2 * level) other) in
    spaces_sound level line e ∙ ap (λ l. indent level ++ l) own ∙ sym (spaces_sound level other f)

-- words before a column are those before a column behind it, so far
none_at : (c col : ℕ) (ts : List (List ℕ)) → c < col → word_at c (placed col ts) ≡ None
none_at c col [] h = refl
none_at c col (t ∷ ts) h = rw (ne_eqb col c (λ e. omega (arith, h, e))) (none_at c (col + length t + 1) ts (omega (arith, h)))

words_before : (c d col : ℕ) (ts : List (List ℕ)) → c < d → before c (before d (placed col ts)) ≡ before c (placed col ts)
words_before c d col [] h = refl
words_before c d col (t ∷ ts) h = by (nat_lt col d) refl (words_before c d (col + length t + 1) ts h)
  where
    by : (b : Bool) → nat_lt col d ≡ b → before c (before d (placed (col + length t + 1) ts)) ≡ before c (placed (col + length t + 1) ts) → before c (before d (placed col (t ∷ ts))) ≡ before c (placed col (t ∷ ts))
    by true less more = rw less (ap (λ l. cond (nat_lt col c) (item col t ∷ l) []) more)
    by false less more = let none : nat_lt col c ≡ false = le-ltb col c (omega (arith, h, ltb-false col d less)) in rw (less, none) refl

word_before : (c d col : ℕ) (ts : List (List ℕ)) → c < d → word_at c (before d (placed col ts)) ≡ word_at c (placed col ts)
word_before c d col [] h = refl
word_before c d col (t ∷ ts) h = by (nat_lt col d) refl (word_before c d (col + length t + 1) ts h)
  where
    by : (b : Bool) → nat_lt col d ≡ b → word_at c (before d (placed (col + length t + 1) ts)) ≡ word_at c (placed (col + length t + 1) ts) → word_at c (before d (placed col (t ∷ ts))) ≡ word_at c (placed col (t ∷ ts))
    by true less more = rw less (ap (λ o. cond (col == c) (Some t) o) more)
    by false less more = rw less (sym (none_at c col (t ∷ ts) (omega (arith, h, ltb-false col d less))))

pub same_before : (c d : ℕ) (line other : List ℕ) → c < d → SameBefore d line other → SameBefore c line other × (word_at c (words_on line) ≡ word_at c (words_on other))
same_before c d line other h same =
    let first : before c (before d (words_on line)) ≡ before c (words_on line) = words_before c d (spaces_before line + 1) (words_of (drop (spaces_before line) line)) h in
    let second : before c (before d (words_on other)) ≡ before c (words_on other) = words_before c d (spaces_before other + 1) (words_of (drop (spaces_before other) other)) h in
    let own : word_at c (before d (words_on line)) ≡ word_at c (words_on line) = word_before c d (spaces_before line + 1) (words_of (drop (spaces_before line) line)) h in
    let others : word_at c (before d (words_on other)) ≡ word_at c (words_on other) = word_before c d (spaces_before other + 1) (words_of (drop (spaces_before other) other)) h in
    (record { indent = same.indent; words = sym first ∙ ap (before c) same.words ∙ second }, sym own ∙ ap (word_at c) same.words ∙ others)

-- each word of a line has some bytes
abbrev pub IsFull : List ℕ → Type 0
IsFull line = (c : ℕ) (t : List ℕ) → word_at c (words_on line) ≡ Some t → c ≤ length line

some_word : (c e col : ℕ) (ts : List (List ℕ)) (t : List ℕ) → AllByRecursion IsWord ts → Fit e col ts → word_at c (placed col ts) ≡ Some t → c < e
some_word c e col [] t all fit is = absurd cc
some_word c e col (u ∷ us) t all fit is = by (col == c) refl (some_word c e (col + length u + 1) us t all.1 fit.1) is
  where
    by : (b : Bool) → (col == c) ≡ b → (word_at c (placed (col + length u + 1) us) ≡ Some t → c < e) → cond b (Some u) (word_at c (placed (col + length u + 1) us)) ≡ Some t → c < e
    by true here more is = omega (arith, eqb-true col c here, all.0.some, fit.0)
    by false here more is = more is

pub line_full : (level : ℕ) (ws : List (List ℕ)) (line : List ℕ) → 0 < length ws → AllByRecursion IsWord ws → line ≡ indent level ++ parted ws → IsFull line
line_full level ws line some all e c t is =
    let spaces : spaces_before line ≡ 2 * level = ap spaces_before e ∙ spaces_of level ws some all in
    let words : words_of (drop (2 * level) line) ≡ ws = ap (λ l. words_of (drop (2 * level) l)) e ∙ ap words_of (behind_indent level (parted ws)) ∙ words_back ws some all in
    let found : word_at c (placed (2 * level + 1) ws) ≡ Some t = ap (λ l. word_at c (placed (2 * level + 1) l)) (sym words) ∙ ap (word_at c) (sym (words_are level line spaces)) ∙ is in
    let fit : Fit (length line + 1) (2 * level + 1) ws = subst (Fit (length line + 1) (2 * level + 1)) words (line_fit (length line + 1) level line spaces (omega arith)) in
    let less = some_word c (length line + 1) (2 * level + 1) ws t all fit found in
    omega (arith, less)

-- the first word of a line stands behind its indentation
first_there : (col : ℕ) (ws : List (List ℕ)) → 0 < length ws → (t : List ℕ) × (word_at col (placed col ws) ≡ Some t)
first_there col [] some = absurd (omega (arith, some))
first_there col (w ∷ ws) some = (w, at_here col col w ws refl)

full_some : (line : List ℕ) → IsFull line → 0 < length line
full_some line full =
    let (t, is) = first_there (spaces_before line + 1) (words_of (drop (spaces_before line) line)) (words_some (drop (spaces_before line) line)) in
    let last = full (spaces_before line + 1) t is in
    omega (arith, last)

-- lines that are the same before a column are the same at each place before it
pub same_at : (c d : ℕ) (line other : List ℕ) → c < d → d ≤ length line + 1 → IsColumn c line → IsFull other → SameBefore d line other → SameAt c line other
same_at c d line other h k column full same =
    let (front, word) = same_before c d line other h same in
    record {
      front = front;
      word = word;
      ends = le-ltb (length line) c (omega (arith, h, k)) ∙ sym (le-ltb (length other) c (there column word));
    }
  where
    there : IsColumn c line → word_at c (words_on line) ≡ word_at c (words_on other) → c ≤ length other
    there (inl first) word = omega (arith, first, full_some other full)
    there (inr (inl last)) word = absurd (omega (arith, h, k, last))
    there (inr (inr (t, is))) word = full c t (sym word ∙ is)
