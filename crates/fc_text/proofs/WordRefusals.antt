-- Where a reader of words refuses a line, it refuses all lines that are the same before that place and at it, there too.
use Rattle.std.proofs.Common.{◌≡◌, ◌<◌, ◌≤◌, ◌+◌, ◌*◌, ◌==◌, ◌⊎◌, ℕ, Bool, true, false, cond, List, [], ◌∷◌, ◌++◌, length, drop, Option, Some, None, Result, Ok, Err, inl, inr, refl, sym, ap, subst, ◌∙◌, arith, eqb-true, eq-eqb}
use Rattle.fc_text.specs.FirstMisfit.{RestAt, SameAt, IsColumn, word_at, words_on}
use Rattle.fc_lines.specs.LineWords.{WordItem, WordsLeft, LinesLeft, words_of, words_left, words_from, lines_left, spaces_before, line_at, word_of, word_in, ended_of, ended, fits_as, meaning, exactly, this_word, decimal_in, digits_in, octets_in, labelled_in, labelled_digits}
use Rattle.fc_base.specs.Answers.{◌>>=◌}
use Rattle.fc_lines.specs.TextPlaces.{TextPlace, place}
use Rattle.fc_lines.specs.LineReading.{Reader, operation_in, operation_named, type_in, message_named}
use Rattle.fc_lines.specs.WordValues.{decimal_of, digits_of, octets_of}
use Rattle.fc_text.proofs.ReadFront.{Front, front_line_at}
use Rattle.fc_text.proofs.SameLines.{same_until, same_line, same_placed, column_within, line_word, size_is}
use Rattle.fc_text.proofs.Refusals.{LineFails, Fails, bind_err, fails_first_at, fails_then_at, fails_as_at}

-- a refusal at a word of a line, whatever stands behind it
pub record AtWord (F : WordsLeft → Type 0) (v : WordsLeft) (p : TextPlace) : Type 0 where
  pub front : List WordItem
  pub word : WordItem
  pub back : List WordItem
  pub is : v.words ≡ front ++ word ∷ back
  pub column : word.column ≡ p.column
  pub again : (end : ℕ) (more : List WordItem) → F (words_left v.line end (front ++ word ∷ more))

-- a refusal in a line: at its end, where a word is missing, or at a word
pub record WordFails (F : WordsLeft → Type 0) (v : WordsLeft) (p : TextPlace) : Type 0 where
  pub line : p.line ≡ v.line
  pub same : F v
  pub column : (p.column ≡ v.end) ⊎ AtWord F v p

-- it fails at the place, whatever lines stand behind
abbrev pub Always : {X : Type 0} → (WordsLeft → Reader X) → TextPlace → WordsLeft → Type 0
Always C p v = (any : LinesLeft) → C v any ≡ Err p

-- what reads words and then lines fails in its words or behind them
abbrev pub FailsIn : {X : Type 0} → (WordsLeft → Reader X) → Type 0
FailsIn C = (v : WordsLeft) (left : LinesLeft) (p : TextPlace) → C v left ≡ Err p → WordFails (Always C p) v p ⊎ LineFails (C v) left p

-- what reads words alone
abbrev pub FailsPure : {A : Type 0} → (WordsLeft → Result A TextPlace) → Type 0
FailsPure P = (v : WordsLeft) (p : TextPlace) → P v ≡ Err p → WordFails (λ w. P w ≡ Err p) v p

-- the same refusal in other words
at_maps : (F G : WordsLeft → Type 0) (v : WordsLeft) (p : TextPlace) → ((w : WordsLeft) → F w → G w) → AtWord F v p → AtWord G v p
at_maps F G v p f a = record { front = a.front; word = a.word; back = a.back; is = a.is; column = a.column; again = λ end more. f (words_left v.line end (a.front ++ a.word ∷ more)) (a.again end more) }

column_maps : (F G : WordsLeft → Type 0) (v : WordsLeft) (p : TextPlace) → ((w : WordsLeft) → F w → G w) → (p.column ≡ v.end) ⊎ AtWord F v p → (p.column ≡ v.end) ⊎ AtWord G v p
column_maps F G v p f (inl e) = inl e
column_maps F G v p f (inr a) = inr (at_maps F G v p f a)

pub word_maps : (F G : WordsLeft → Type 0) (v : WordsLeft) (p : TextPlace) → ((w : WordsLeft) → F w → G w) → WordFails F v p → WordFails G v p
word_maps F G v p f a = record { line = a.line; same = f v a.same; column = column_maps F G v p f a.column }

-- behind a word
column_behind : (F G : WordsLeft → Type 0) (n e : ℕ) (x : WordItem) (xs : List WordItem) (p : TextPlace) → ((end : ℕ) (more : List WordItem) → F (words_left n end more) → G (words_left n end (x ∷ more)))
    → (p.column ≡ e) ⊎ AtWord F (words_left n e xs) p → (p.column ≡ e) ⊎ AtWord G (words_left n e (x ∷ xs)) p
column_behind F G n e x xs p f (inl is) = inl is
column_behind F G n e x xs p f (inr a) =
    inr (record { front = x ∷ a.front; word = a.word; back = a.back; is = ap (λ l. x ∷ l) a.is; column = a.column; again = λ end more. f end (a.front ++ a.word ∷ more) (a.again end more) })

pub word_behind : (F G : WordsLeft → Type 0) (n e : ℕ) (x : WordItem) (xs : List WordItem) (p : TextPlace) → ((end : ℕ) (more : List WordItem) → F (words_left n end more) → G (words_left n end (x ∷ more)))
    → WordFails F (words_left n e xs) p → WordFails G (words_left n e (x ∷ xs)) p
word_behind F G n e x xs p f a = record { line = a.line; same = f e xs a.same; column = column_behind F G n e x xs p f a.column }

-- at the first word, and where none is left
pub word_first : (F : WordsLeft → Type 0) (n e : ℕ) (x : WordItem) (xs : List WordItem) (p : TextPlace) → place n x.column ≡ p → ((end : ℕ) (more : List WordItem) → F (words_left n end (x ∷ more))) → WordFails F (words_left n e (x ∷ xs)) p
word_first F n e x xs p is f = record {
  line = sym (ap (λ (q : TextPlace). q.line) is);
  same = f e xs;
  column = inr (record { front = []; word = x; back = xs; is = refl; column = ap (λ (q : TextPlace). q.column) is; again = f });
}

pub word_missing : (F : WordsLeft → Type 0) (n e : ℕ) (p : TextPlace) → place n e ≡ p → F (words_left n e []) → WordFails F (words_left n e []) p
word_missing F n e p is f = record { line = sym (ap (λ (q : TextPlace). q.line) is); same = f; column = inl (sym (ap (λ (q : TextPlace). q.column) is)) }

pub err_is : {X : Type 0} (a b : TextPlace) → ◌≡◌ {A = Result X TextPlace} (Err a) (Err b) → a ≡ b
err_is a b e = cc

-- a word by its meaning
pub record Means {A : Type 0} (r : WordsLeft → Result (A × WordsLeft) TextPlace) : Type 0 where
  pub means : List ℕ → Option A
  pub is : (v : WordsLeft) → r v ≡ meaning means v

module _ {A B : Type 0} (means : List ℕ → Option A) (f : A × WordsLeft → Result B TextPlace) (n e : ℕ) where
  -- the next word fits, or does not
  pub word_fits : (x : WordItem) (xs : List WordItem) (a : A) → means x.text ≡ Some a → (meaning means (words_left n e (x ∷ xs)) >>= f) ≡ f (a, words_left n e xs)
  unfolding word_in
  word_fits x xs a h = ap (λ o. fits_as o (place n x.column) >>= (λ a. Ok (a, words_left n e xs)) >>= f) h

  pub word_unfit : (x : WordItem) (xs : List WordItem) → means x.text ≡ None → (meaning means (words_left n e (x ∷ xs)) >>= f) ≡ Err (place n x.column)
  unfolding word_in
  word_unfit x xs h = ap (λ o. fits_as o (place n x.column) >>= (λ a. Ok (a, words_left n e xs)) >>= f) h

  pub word_none : (meaning means (words_left n e []) >>= f) ≡ Err (place n e)
  unfolding word_in
  word_none = refl

module _ {A X : Type 0} (r : WordsLeft → Result (A × WordsLeft) TextPlace) (F : A × WordsLeft → Reader X) where
  abbrev then_lines : WordsLeft → Reader X
  then_lines v left = r v >>= λ a. F a left

  module _ (m : Means r) (h : (a : A) → FailsIn (λ v. F (a, v))) (left : LinesLeft) (p : TextPlace) where
    fits_is : (any : LinesLeft) (n e : ℕ) (x : WordItem) (xs : List WordItem) (a : A) → m.means x.text ≡ Some a → then_lines (words_left n e (x ∷ xs)) any ≡ F (a, words_left n e xs) any
    fits_is any n e x xs a some = ap (λ q. q >>= λ a. F a any) (m.is (words_left n e (x ∷ xs))) ∙ word_fits m.means (λ a. F a any) n e x xs a some

    unfit_is : (any : LinesLeft) (n e : ℕ) (x : WordItem) (xs : List WordItem) → m.means x.text ≡ None → then_lines (words_left n e (x ∷ xs)) any ≡ Err (place n x.column)
    unfit_is any n e x xs none = ap (λ q. q >>= λ a. F a any) (m.is (words_left n e (x ∷ xs))) ∙ word_unfit m.means (λ a. F a any) n e x xs none

    none_is : (any : LinesLeft) (n e : ℕ) → then_lines (words_left n e []) any ≡ Err (place n e)
    none_is any n e = ap (λ q. q >>= λ a. F a any) (m.is (words_left n e [])) ∙ word_none m.means (λ a. F a any) n e

    in_word_by : (n e : ℕ) (items : List WordItem) → then_lines (words_left n e items) left ≡ Err p → WordFails (Always then_lines p) (words_left n e items) p ⊎ LineFails (then_lines (words_left n e items)) left p
    in_word_by n e [] is =
        let at : place n e ≡ p = err_is {X = X × LinesLeft} (place n e) p (sym (none_is left n e) ∙ is) in
        inl (word_missing (Always then_lines p) n e p at (λ any. none_is any n e ∙ ap Err at))
    in_word_by n e (x ∷ xs) is = by (m.means x.text) refl
      where
        after : (a : A) → m.means x.text ≡ Some a → WordFails (Always (λ v. F (a, v)) p) (words_left n e xs) p ⊎ LineFails (F (a, words_left n e xs)) left p
            → WordFails (Always then_lines p) (words_left n e (x ∷ xs)) p ⊎ LineFails (then_lines (words_left n e (x ∷ xs))) left p
        after a some (inl w) = inl (word_behind (Always (λ v. F (a, v)) p) (Always then_lines p) n e x xs p (λ end more all any. fits_is any n end x more a some ∙ all any) w)
        after a some (inr l) = inr (fails_as_at (then_lines (words_left n e (x ∷ xs))) (F (a, words_left n e xs)) left p (λ any. fits_is any n e x xs a some) l)

        by : (o : Option A) → m.means x.text ≡ o → WordFails (Always then_lines p) (words_left n e (x ∷ xs)) p ⊎ LineFails (then_lines (words_left n e (x ∷ xs))) left p
        by None none =
            let at : place n x.column ≡ p = err_is {X = X × LinesLeft} (place n x.column) p (sym (unfit_is left n e x xs none) ∙ is) in
            inl (word_first (Always then_lines p) n e x xs p at (λ end more any. unfit_is any n end x more none ∙ ap Err at))
        by (Some a) some = after a some (h a (words_left n e xs) left p (sym (fits_is left n e x xs a some) ∙ is))

pub in_word : {A X : Type 0} (r : WordsLeft → Result (A × WordsLeft) TextPlace) (F : A × WordsLeft → Reader X) → Means r → ((a : A) → FailsIn (λ v. F (a, v))) → FailsIn (λ v left. r v >>= λ a. F a left)
in_word r F m h v left p e = in_word_by r F m h left p v.line v.end v.words e

pub exactly_means : (text : List ℕ) → Means (exactly text)
unfolding exactly
exactly_means text = record { means = this_word text; is = λ v. refl }

pub decimal_means : Means decimal_in
unfolding decimal_in
decimal_means = record { means = decimal_of; is = λ v. refl }

pub digits_means : (count : ℕ) → Means (digits_in count)
unfolding digits_in
digits_means count = record { means = digits_of count; is = λ v. refl }

pub octets_means : Means octets_in
unfolding octets_in
octets_means = record { means = octets_of; is = λ v. refl }

pub labelled_means : (label : List ℕ) (count : ℕ) → Means (labelled_in label count)
unfolding labelled_in
labelled_means label count = record { means = labelled_digits label count; is = λ v. refl }

pub operation_means : (message : ℕ) → Means (operation_in message)
unfolding operation_in
operation_means message = record { means = operation_named message; is = λ v. refl }

pub type_means : Means type_in
unfolding type_in
type_means = record { means = message_named; is = λ v. refl }

-- the end of the words
in_ended_by : {X : Type 0} (F : Unit {0} → Reader X) → ((u : Unit {0}) → Fails (F u)) → (n e : ℕ) (items : List WordItem) (left : LinesLeft) (p : TextPlace) → (ended_of n items >>= λ u. F u left) ≡ Err p
    → WordFails (λ v. (any : LinesLeft) → (ended_of v.line v.words >>= λ u. F u any) ≡ Err p) (words_left n e items) p ⊎ LineFails (λ left. ended_of n items >>= λ u. F u left) left p
in_ended_by F h n e [] left p is = inr (h tt left p is)
in_ended_by {X = X} F h n e (x ∷ xs) left p is = inl (word_first _ n e x xs p (err_is {X = X × LinesLeft} (place n x.column) p is) (λ end more any. is))

pub in_ended : {X : Type 0} (F : Unit {0} → Reader X) → ((u : Unit {0}) → Fails (F u)) → FailsIn (λ v left. ended v >>= λ u. F u left)
unfolding ended
in_ended F h v left p e = in_ended_by F h v.line v.end v.words left p e

-- a choice
pub in_if : {X : Type 0} (t : Bool) {C D : WordsLeft → Reader X} → FailsIn C → FailsIn D → FailsIn (λ v left. cond t (C v left) (D v left))
in_if true h k = h
in_if false h k = k

-- words alone, and then lines
pub in_pure : {A X : Type 0} (P : WordsLeft → Result A TextPlace) (F : A → Reader X) → FailsPure P → ((a : A) → Fails (F a)) → FailsIn (λ v left. P v >>= λ a. F a left)
in_pure {X = X} P F h k v left p e =
    bind_err (P v) (λ a. F a left) p e
    (λ is. inl (word_maps (λ w. P w ≡ Err p) (Always (λ v left. P v >>= λ a. F a left) p) v p (λ w s any. ap (λ q. q >>= λ a. F a any) s) (h v p is)))
    (λ a is more. inr (fails_as_at (λ left. P v >>= λ a. F a left) (F a) left p (λ any. ap (λ q. q >>= λ a. F a any) is) (k a left p more)))

-- words and lines, and then lines
pub in_bind : {X Y : Type 0} (C : WordsLeft → Reader X) (F : X × LinesLeft → Result (Y × LinesLeft) TextPlace) → ((v : WordsLeft) → Front (C v)) → FailsIn C → ((x : X) → Fails (λ rest. F (x, rest))) → FailsIn (λ v left. C v left >>= F)
in_bind C F front h k v left p e =
    bind_err (C v left) F p e (λ is. first (h v left p is)) (λ m is more. inr (fails_then_at F left m.1 m.0 p (front v left m.0 m.1 is) (k m.0 m.1 p more)))
  where
    first : WordFails (Always C p) v p ⊎ LineFails (C v) left p → WordFails (Always (λ v left. C v left >>= F) p) v p ⊎ LineFails (λ left. C v left >>= F) left p
    first (inl w) = inl (word_maps (Always C p) (Always (λ v left. C v left >>= F) p) v p (λ w all any. ap (λ q. q >>= F) (all any)) w)
    first (inr l) = inr (fails_first_at F left p l)

-- a word that is looked at by what follows
abbrev pub FailsItem : {X : Type 0} → WordItem → (WordsLeft → Reader X) → Type 0
FailsItem x C = (v : WordsLeft) (left : LinesLeft) (p : TextPlace) → C v left ≡ Err p
    → ((place v.line x.column ≡ p) × ((end : ℕ) (more : List WordItem) → Always C p (words_left v.line end more))) ⊎ (WordFails (Always C p) v p ⊎ LineFails (C v) left p)

pub item_in : {X : Type 0} (x : WordItem) (C : WordsLeft → Reader X) → FailsIn C → FailsItem x C
item_in x C h v left p e = inr (h v left p e)

pub item_if : {X : Type 0} (t : Bool) (x : WordItem) (C D : WordsLeft → Reader X) → FailsItem x C → FailsItem x D → FailsItem x (λ v left. cond t (C v left) (D v left))
item_if true x C D h k = h
item_if false x C D h k = k

pub item_err : {X : Type 0} (x : WordItem) → FailsItem {X = X} x (λ v left. Err (place v.line x.column))
item_err {X = X} x v left p e = inl (err_is {X = X × LinesLeft} (place v.line x.column) p e, λ end more any. e)

in_item_by : {X : Type 0} (F : WordItem × WordsLeft → Reader X) → ((x : WordItem) → FailsItem x (λ v. F (x, v))) → (n e : ℕ) (items : List WordItem) (left : LinesLeft) (p : TextPlace) → (word_of n e items >>= λ x. F x left) ≡ Err p
    → WordFails (λ v. (any : LinesLeft) → (word_of v.line v.end v.words >>= λ x. F x any) ≡ Err p) (words_left n e items) p ⊎ LineFails (λ left. word_of n e items >>= λ x. F x left) left p
in_item_by {X = X} F h n e [] left p is = inl (word_missing _ n e p (err_is {X = X × LinesLeft} (place n e) p is) (λ any. is))
in_item_by F h n e (x ∷ xs) left p is = by (h x (words_left n e xs) left p is)
  where
    whole : WordsLeft → Type 0
    whole v = (any : LinesLeft) → (word_of v.line v.end v.words >>= λ x. F x any) ≡ Err p

    by : ((place n x.column ≡ p) × ((end : ℕ) (more : List WordItem) → Always (λ v. F (x, v)) p (words_left n end more))) ⊎ (WordFails (Always (λ v. F (x, v)) p) (words_left n e xs) p ⊎ LineFails (F (x, words_left n e xs)) left p)
        → WordFails (λ v. (any : LinesLeft) → (word_of v.line v.end v.words >>= λ x. F x any) ≡ Err p) (words_left n e (x ∷ xs)) p ⊎ LineFails (F (x, words_left n e xs)) left p
    by (inl (at, all)) = inl (word_first _ n e x xs p at all)
    by (inr (inl w)) = inl (word_behind (Always (λ v. F (x, v)) p) (λ v. (any : LinesLeft) → (word_of v.line v.end v.words >>= λ x. F x any) ≡ Err p) n e x xs p (λ end more all. all) w)
    by (inr (inr l)) = inr l

pub in_item : {X : Type 0} (F : WordItem × WordsLeft → Reader X) → ((x : WordItem) → FailsItem x (λ v. F (x, v))) → FailsIn (λ v left. word_in v >>= λ x. F x left)
unfolding word_in
in_item F h v left p e = in_item_by F h v.line v.end v.words left p e

-- a line, and what follows it
line_is : (level taken : ℕ) (line : List ℕ) (lines : List (List ℕ)) → spaces_before line ≡ 2 * level → line_at level (lines_left taken (line ∷ lines)) ≡ Ok (words_from (taken + 1) (2 * level + 1) true (drop (2 * level) line), lines_left (taken + 1) lines)
unfolding line_at
line_is level taken line lines e = rw (eq-eqb (spaces_before line) (2 * level) e) refl

line_is_not : (level taken : ℕ) (line : List ℕ) (lines : List (List ℕ)) → (spaces_before line == 2 * level) ≡ false → line_at level (lines_left taken (line ∷ lines)) ≡ Err (place (taken + 1) 1)
unfolding line_at
line_is_not level taken line lines e = rw e refl

no_line : (level taken : ℕ) → line_at level (lines_left taken []) ≡ Err (place (taken + 1) 1)
unfolding line_at
no_line level taken = refl

module _ {X : Type 0} (level : ℕ) (F : WordsLeft × LinesLeft → Result (X × LinesLeft) TextPlace) (h : FailsIn (λ v rest. F (v, rest))) (taken : ℕ) (p : TextPlace) where
  abbrev behind_line : Reader X
  behind_line left = line_at level left >>= F

  abbrev words_at : List ℕ → WordsLeft
  words_at line = words_from (taken + 1) (2 * level + 1) true (drop (2 * level) line)

  line_then : (line : List ℕ) (lines : List (List ℕ)) → spaces_before line ≡ 2 * level → behind_line (lines_left taken (line ∷ lines)) ≡ F (words_at line, lines_left (taken + 1) lines)
  line_then line lines e = ap (λ q. q >>= F) (line_is level taken line lines e)

  -- the column of a refusal in a line, and the same in another
  word_column : (line : List ℕ) → spaces_before line ≡ 2 * level → (p.column ≡ (words_at line).end) ⊎ AtWord (Always (λ v rest. F (v, rest)) p) (words_at line) p → (0 < p.column) × (p.column ≤ length line + 1) × IsColumn p.column line
  word_column line e (inl at) = let size = size_is level line e in (omega (arith, at), omega (arith, at, size), inr (inl (omega (arith, at, size))))
  word_column line e (inr a) =
      let (first, last) = column_within level line a.front a.word a.back e a.is in
      let found : word_at p.column (words_on line) ≡ Some a.word.text = ap (λ c. word_at c (words_on line)) (sym a.column) ∙ line_word level line a.front a.word a.back e a.is in
      (omega (arith, a.column, first), omega (arith, a.column, last), inr (inr (a.word.text, found)))

  in_other : (line other : List ℕ) (rest : LinesLeft) → spaces_before line ≡ 2 * level → SameAt p.column line other → WordFails (Always (λ v rest. F (v, rest)) p) (words_at line) p → F (words_at other, rest) ≡ Err p
  in_other line other rest e same w = by w.column
    where
      by : (p.column ≡ (words_at line).end) ⊎ AtWord (Always (λ v rest. F (v, rest)) p) (words_at line) p → F (words_at other, rest) ≡ Err p
      by (inl at) =
          let size = size_is level line e in
          let behind : p.column ≡ length line + 1 = omega (arith, at, size) in
          ap (λ l. F (words_at l, rest)) (sym (same_line level line other e (subst (λ c. SameAt c line other) behind same))) ∙ w.same rest
      by (inr a) =
          let f : spaces_before other ≡ 2 * level = sym same.front.indent ∙ e in
          let (more, is) = same_until p.column (2 * level + 1) (words_of (drop (2 * level) line)) (words_of (drop (2 * level) other)) a.front a.word a.back a.is a.column (same_placed p.column level line other e f same) in
          ap (λ ws. F (words_left (taken + 1) (words_at other).end ws, rest)) is ∙ a.again (words_at other).end more rest

  own_line : (line : List ℕ) (lines : List (List ℕ)) → spaces_before line ≡ 2 * level → WordFails (Always (λ v rest. F (v, rest)) p) (words_at line) p → LineFails behind_line (lines_left taken (line ∷ lines)) p
  own_line line lines e w =
      let (first, last, stands) = word_column line e w.column in
      record {
        front = [];
        back = line ∷ lines;
        is = refl;
        line = omega (arith, w.line);
        first = first;
        last = last;
        stands = stands;
        again = λ others at. others_too others at;
      }
    where
      others_too : (others : List (List ℕ)) → RestAt p.column (line ∷ lines) others → behind_line (lines_left taken others) ≡ Err p
      others_too [] at = absurd at
      others_too (o ∷ os) at = line_then o os (sym at.front.indent ∙ e) ∙ in_other line o (lines_left (taken + 1) os) e at w

  not_there : (lines : List (List ℕ)) → place (taken + 1) 1 ≡ p → ((others : List (List ℕ)) → RestAt p.column lines others → line_at level (lines_left taken others) ≡ Err (place (taken + 1) 1)) → LineFails behind_line (lines_left taken lines) p
  not_there lines is f = record {
    front = [];
    back = lines;
    is = refl;
    line = omega (arith, ap (λ (q : TextPlace). q.line) is);
    first = omega (arith, ap (λ (q : TextPlace). q.column) is);
    last = omega (arith, ap (λ (q : TextPlace). q.column) is);
    stands = inl (sym (ap (λ (q : TextPlace). q.column) is));
    again = λ others at. ap (λ q. q >>= F) (f others at) ∙ ap Err is;
  }

  line_by : (lines : List (List ℕ)) → behind_line (lines_left taken lines) ≡ Err p → LineFails behind_line (lines_left taken lines) p
  line_by [] e = not_there [] (err_is {X = X × LinesLeft} (place (taken + 1) 1) p (sym (ap (λ q. q >>= F) (no_line level taken)) ∙ e)) none
    where
      none : (others : List (List ℕ)) → RestAt p.column [] others → line_at level (lines_left taken others) ≡ Err (place (taken + 1) 1)
      none [] at = no_line level taken
      none (o ∷ os) at = absurd at
  line_by (line ∷ lines) e = by (spaces_before line == 2 * level) refl
    where
      after : spaces_before line ≡ 2 * level → WordFails (Always (λ v rest. F (v, rest)) p) (words_at line) p ⊎ LineFails (λ rest. F (words_at line, rest)) (lines_left (taken + 1) lines) p → LineFails behind_line (lines_left taken (line ∷ lines)) p
      after is (inl w) = own_line line lines is w
      after is (inr l) =
          fails_then_at F (lines_left taken (line ∷ lines)) (lines_left (taken + 1) lines) (words_at line) p
          (front_line_at level (lines_left taken (line ∷ lines)) (words_at line) (lines_left (taken + 1) lines) (line_is level taken line lines is)) l

      other_too : (spaces_before line == 2 * level) ≡ false → (others : List (List ℕ)) → RestAt p.column (line ∷ lines) others → line_at level (lines_left taken others) ≡ Err (place (taken + 1) 1)
      other_too off [] at = absurd at
      other_too off (o ∷ os) at = line_is_not level taken o os (ap (λ n. n == 2 * level) (sym at.front.indent) ∙ off)

      by : (t : Bool) → (spaces_before line == 2 * level) ≡ t → LineFails behind_line (lines_left taken (line ∷ lines)) p
      by true on =
          let is : spaces_before line ≡ 2 * level = eqb-true (spaces_before line) (2 * level) on in
          after is (h (words_at line) (lines_left (taken + 1) lines) p (sym (line_then line lines is) ∙ e))
      by false off = not_there (line ∷ lines) (err_is {X = X × LinesLeft} (place (taken + 1) 1) p (sym (ap (λ q. q >>= F) (line_is_not level taken line lines off)) ∙ e)) (other_too off)

pub fails_line : {X : Type 0} (level : ℕ) (F : WordsLeft × LinesLeft → Result (X × LinesLeft) TextPlace) → FailsIn (λ v rest. F (v, rest)) → Fails (λ left. line_at level left >>= F)
fails_line level F h left p e = line_by level F h left.taken p left.lines e
