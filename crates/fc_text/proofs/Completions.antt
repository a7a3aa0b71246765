-- What stands before the place at which reading fails can go on with other words and lines, which are read to their end.
use Rattle.std.proofs.Common.{◌≡◌, ◌≤◌, ◌+◌, ℕ, Bool, true, false, cond, nat_lt, ◌⊎◌, inl, inr, List, [], ◌∷◌, length, Option, Some, None, Result, Ok, Err, refl, sym, ap, subst, ◌∙◌, arith}
use Rattle.std.specs.List.{AllByRecursion}
use Rattle.fc_text.specs.FirstMisfit.{before}
use Rattle.fc_lines.specs.LineWords.{WordsLeft, LinesLeft, words_left, lines_left, placed, word_in, meaning, fits_as, ended as words_ended}
use Rattle.fc_base.specs.Answers.{◌>>=◌}
use Rattle.fc_lines.specs.TextPlaces.{TextPlace, place}
use Rattle.fc_text.proofs.ReadLines.{next_word}
use Rattle.fc_text.proofs.SplitLines.{IsWord}

-- how many columns some words take, each with what parts it from the next
abbrev pub span : List (List ℕ) → ℕ
span [] = 0
span (t ∷ ts) = length t + 1 + span ts

-- no word begins before the column of the first
pub none_before : (column c : ℕ) (ts : List (List ℕ)) → column ≤ c → before column (placed c ts) ≡ []
none_before column c [] h = refl
none_before column c (t ∷ ts) h = by (nat_lt c column) refl
  where
    by : (b : Bool) → nat_lt c column ≡ b → cond b (record { column = c; text = t } ∷ before column (placed (c + length t + 1) ts)) [] ≡ []
    by true e = absurd (grind arith)
    by false e = refl

-- the same word in front
pub one_before : (column c : ℕ) (t : List ℕ) (ts us : List (List ℕ)) → before column (placed (c + length t + 1) ts) ≡ before column (placed (c + length t + 1) us)
    → before column (placed c (t ∷ ts)) ≡ before column (placed c (t ∷ us))
one_before column c t ts us e = ap (λ l. cond (nat_lt c column) (record { column = c; text = t } ∷ l) []) e

pub same_place : {A : Type 0} (at p : TextPlace) → ◌≡◌ {A = Result A TextPlace} (Err at) (Err p) → at ≡ p
same_place at p e = cc

-- what reads words and then lines, where a good end of reading is told by `Ends`, and a place behind the words by `Behind`
module _ {V R : Type 0} (Ends : V → Result R TextPlace → Type 0) (Behind : LinesLeft → TextPlace → List (List ℕ) → Type 0) where
  abbrev pub InLine : Type 0
  InLine = WordsLeft → LinesLeft → Result R TextPlace

  abbrev pub Ready : InLine → List (List ℕ) → List (List ℕ) → V → Type 0
  Ready K us others value = (n e c taken : ℕ) → Ends value (K (words_left n e (placed c us)) (lines_left taken others))

  -- some words and lines with which reading ends well
  pub record Begun (K : InLine) : Type 0 where
    pub words : List (List ℕ)
    pub are : AllByRecursion IsWord words
    pub others : List (List ℕ)
    pub value : V
    pub is : Ready K words others value

  -- the same, with what stands before a place as it was
  abbrev pub Kept : ℕ → ℕ → List (List ℕ) → List (List ℕ) → LinesLeft → TextPlace → List (List ℕ) → Type 0
  Kept n c ts us left p others = ((p.line ≡ n) × (before p.column (placed c ts) ≡ before p.column (placed c us))) ⊎ ((ts ≡ us) × Behind left p others)

  pub record Completed (K : InLine) (n c : ℕ) (ts : List (List ℕ)) (left : LinesLeft) (p : TextPlace) : Type 0 where
    pub words : List (List ℕ)
    pub are : AllByRecursion IsWord words
    pub others : List (List ℕ)
    pub value : V
    pub is : Ready K words others value
    pub kept : Kept n c ts words left p others

  pub record Goes (K : InLine) : Type 0 where
    pub starts : Begun K
    pub completes : (n e c : ℕ) (ts : List (List ℕ)) (left : LinesLeft) (p : TextPlace) → e + 1 ≡ c + span ts → K (words_left n e (placed c ts)) left ≡ Err p → Completed K n c ts left p

  -- the words go on with others from where they fail
  pub at_fault : (K : InLine) (n c : ℕ) (ts : List (List ℕ)) (left : LinesLeft) (p : TextPlace) (s : Begun K) → p.line ≡ n → p.column ≤ c → Completed K n c ts left p
  at_fault K n c ts left p s line column = record {
    words = s.words;
    are = s.are;
    others = s.others;
    value = s.value;
    is = s.is;
    kept = inl (line, none_before p.column c ts column ∙ sym (none_before p.column c s.words column));
  }

  -- a word by which the reader of what follows it is chosen
  abbrev pub Takes : InLine → List ℕ → InLine → Type 0
  Takes T t K = (n e c : ℕ) (ts : List (List ℕ)) (left : LinesLeft) → T (words_left n e (placed c (t ∷ ts))) left ≡ K (words_left n e (placed (c + length t + 1) ts)) left

  abbrev pub Refuses : InLine → List ℕ → Type 0
  Refuses T t = (n e c : ℕ) (ts : List (List ℕ)) (left : LinesLeft) → T (words_left n e (placed c (t ∷ ts))) left ≡ Err (place n c)

  pub record Chosen (T : InLine) (t : List ℕ) : Type 0 where
    pub then : InLine
    pub goes : Goes then
    pub is : IsWord t
    pub takes : Takes T t then

  front_word : (T : InLine) (t : List ℕ) (k : Chosen T t) (us others : List (List ℕ)) (value : V) → Ready k.then us others value → Ready T (t ∷ us) others value
  front_word T t k us others value is n e c taken = subst (Ends value) (sym (k.takes n e c us (lines_left taken others))) (is n e (c + length t + 1) taken)

  pub one_kept : (n c : ℕ) (t : List ℕ) (ts us : List (List ℕ)) (left : LinesLeft) (p : TextPlace) (others : List (List ℕ)) → Kept n (c + length t + 1) ts us left p others → Kept n c (t ∷ ts) (t ∷ us) left p others
  one_kept n c t ts us left p others (inl h) = inl (h.0, one_before p.column c t ts us h.1)
  one_kept n c t ts us left p others (inr h) = inr (ap (λ l. t ∷ l) h.0, h.1)

  pub choice_goes : (T : InLine) (t : List ℕ) → Chosen T t → ((n e : ℕ) (left : LinesLeft) → T (words_left n e []) left ≡ Err (place n e)) → ((t : List ℕ) → Refuses T t ⊎ Chosen T t) → Goes T
  choice_goes T t k none some = record { starts = begun; completes = by }
    where
      begun : Begun T
      begun =
          let s = k.goes.starts in
          record { words = t ∷ s.words; are = (k.is, s.are); others = s.others; value = s.value; is = front_word T t k s.words s.others s.value s.is }

      with_word : (n e c : ℕ) (t : List ℕ) (ts : List (List ℕ)) (left : LinesLeft) (p : TextPlace) → e + 1 ≡ c + span (t ∷ ts) → T (words_left n e (placed c (t ∷ ts))) left ≡ Err p → Refuses T t ⊎ Chosen T t → Completed T n c (t ∷ ts) left p
      with_word n e c t ts left p ends h (inl refuses) =
          let at = same_place (place n c) p (sym (refuses n e c ts left) ∙ h) in
          at_fault T n c (t ∷ ts) left p begun (sym (ap (λ (p : TextPlace). p.line) at)) (omega (arith, ap (λ (p : TextPlace). p.column) at))
      with_word n e c t ts left p ends h (inr k) =
          let d = k.goes.completes n e (c + length t + 1) ts left p (omega (arith, ends)) (sym (k.takes n e c ts left) ∙ h) in
          record {
            words = t ∷ d.words;
            are = (k.is, d.are);
            others = d.others;
            value = d.value;
            is = front_word T t k d.words d.others d.value d.is;
            kept = one_kept n c t ts d.words left p d.others d.kept;
          }

      by : (n e c : ℕ) (ts : List (List ℕ)) (left : LinesLeft) (p : TextPlace) → e + 1 ≡ c + span ts → T (words_left n e (placed c ts)) left ≡ Err p → Completed T n c ts left p
      by n e c [] left p ends h =
          let at = same_place (place n e) p (sym (none n e left) ∙ h) in
          at_fault T n c [] left p begun (sym (ap (λ (p : TextPlace). p.line) at)) (omega (arith, ap (λ (p : TextPlace). p.column) at, ends))
      by n e c (t ∷ ts) left p ends h = with_word n e c t ts left p ends h (some t)

  -- a word by what it has to mean
  module _ {A : Type 0} (means : List ℕ → Option A) (K : A × WordsLeft → LinesLeft → Result R TextPlace) (plain : (t : List ℕ) (a : A) → means t ≡ Some a → IsWord t)
      (goes : (t : List ℕ) (a : A) → means t ≡ Some a → Goes (λ w left. K (a, w) left)) where
    abbrev reading : InLine
    reading w left = meaning means w >>= λ x. K x left

    meant : (t : List ℕ) (a : A) → means t ≡ Some a → Chosen reading t
    meant t a e = record {
      then = λ w left. K (a, w) left;
      goes = goes t a e;
      is = plain t a e;
      takes = λ n end c ts left. ap (λ r. r >>= λ x. K x left) (next_word means n end c t ts a e);
    }

    either : (t : List ℕ) (o : Option A) → means t ≡ o → Refuses reading t ⊎ Chosen reading t
    unfolding word_in
    either t None e = inl (λ n end c ts left. ap (λ o. (fits_as o (place n c) >>= λ a. Ok (a, words_left n end (placed (c + length t + 1) ts))) >>= λ x. K x left) e)
    either t (Some a) e = inr (meant t a e)

    pub word_goes : (t : List ℕ) (a : A) → means t ≡ Some a → Goes (λ w left. meaning means w >>= λ x. K x left)
    unfolding word_in
    word_goes t a e = choice_goes reading t (meant t a e) (λ n end left. refl) (λ t. either t (means t) refl)

  -- what reads lines
  pub record GoesOn (K : LinesLeft → Result R TextPlace) : Type 0 where
    pub others : List (List ℕ)
    pub value : V
    pub is : (taken : ℕ) → Ends value (K (lines_left taken others))
    pub completes : (left : LinesLeft) (p : TextPlace) → K left ≡ Err p → (others : List (List ℕ)) × (value : V) × ((taken : ℕ) → Ends value (K (lines_left taken others))) × Behind left p others

  -- the end of a line
  pub ended_goes : (K : Unit {0} → LinesLeft → Result R TextPlace) → GoesOn (K tt) → Goes (λ w left. words_ended w >>= λ u. K u left)
  unfolding words_ended
  ended_goes K k = record { starts = begun; completes = by }
    where
      begun : Begun (λ w left. words_ended w >>= λ u. K u left)
      begun = record { words = []; are = tt; others = k.others; value = k.value; is = λ n e c taken. k.is taken }

      by : (n e c : ℕ) (ts : List (List ℕ)) (left : LinesLeft) (p : TextPlace) → e + 1 ≡ c + span ts → (words_ended (words_left n e (placed c ts)) >>= λ u. K u left) ≡ Err p → Completed (λ w left. words_ended w >>= λ u. K u left) n c ts left p
      by n e c [] left p ends h =
          let d = k.completes left p h in
          record { words = []; are = tt; others = d.0; value = d.1; is = λ n e c taken. d.2 taken; kept = inr (refl, d.3) }
      by n e c (t ∷ ts) left p ends h =
          let at = same_place (place n c) p h in
          at_fault (λ w left. words_ended w >>= λ u. K u left) n c (t ∷ ts) left p begun (sym (ap (λ (p : TextPlace). p.line) at)) (omega (arith, ap (λ (p : TextPlace). p.column) at))
