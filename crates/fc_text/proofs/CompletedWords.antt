-- The words of lines, and the least of each kind with which a line goes on.
use Rattle.std.proofs.Common.{◌≡◌, ◌<◌, ◌+◌, ℕ, Bool, true, false, cond, inl, inr, List, [], ◌∷◌, length, codes, Option, Some, None, Result, Ok, Err, refl, sym, ap, subst, ◌∙◌, arith}
use Rattle.std.specs.List.{list_all, AllByRecursion}
use Rattle.std.specs.Str.{bytes_eq}
use Rattle.std.proofs.lemmas.Slice.Eq.{bytes_eq-Decides}
use Rattle.fc_path.specs.declared.path.Key.{Key}
use Rattle.fc_lines.specs.LineWords.{WordsLeft, LinesLeft, words_left, lines_left, placed, fits_as, exactly, this_word, decimal_in, digits_in, octets_in, labelled_in, labelled_digits}
use Rattle.fc_text.specs.TextGrammar.{number, digits, octets, step_words, SpellsWord, AreEach}
use Rattle.fc_base.specs.Answers.{◌>>=◌}
use Rattle.fc_lines.specs.TextPlaces.{TextPlace, place}
use Rattle.fc_lines.specs.LineReading.{key_in, steps_of, steps_in, code_in}
use Rattle.fc_lines.specs.WordValues.{decimal_of, digits_of, octets_of}
use Rattle.fc_text.proofs.Completions.{span, same_place, Goes, GoesOn, Completed, Kept, at_fault, one_kept, word_goes, ended_goes}
use Rattle.fc_text.proofs.CompletedLines.{pure_err}
use Rattle.fc_text.proofs.PlainWords.{word_is, words_are}
use Rattle.fc_text.proofs.ReadLines.{steps_read, code_read}
use Rattle.fc_text.proofs.ReadPaths.{steps_named}
use Rattle.fc_text.proofs.SoundValues.{name_sound, plain_sound, labelled_sound, octets_sound, decimal_sound}
use Rattle.fc_text.proofs.SoundWords.{placed_texts, steps_sound, code_sound}
use Rattle.fc_text.proofs.SplitLines.{IsWord, is_plain}

module _ {V R : Type 0} (Ends : V → Result R TextPlace → Type 0) (Behind : LinesLeft → TextPlace → List (List ℕ) → Type 0) where
  pub name_goes : (text : List ℕ) → IsWord text → (K : Unit {0} × WordsLeft → LinesLeft → Result R TextPlace) → Goes Ends Behind (λ w left. K (tt, w) left) → Goes Ends Behind (λ w left. exactly text w >>= λ x. K x left)
  unfolding exactly
  name_goes text is K goes =
      word_goes Ends Behind (this_word text) K (λ t u e. subst IsWord (sym (name_sound text t u e)) is) (λ t u e. goes) text tt
      (ap (λ b. cond b (Some tt) None) ((bytes_eq-Decides text text).1 refl))

  pub number_goes : (K : ℕ × WordsLeft → LinesLeft → Result R TextPlace) → ((n : ℕ) → Goes Ends Behind (λ w left. K (n, w) left)) → Goes Ends Behind (λ w left. decimal_in w >>= λ x. K x left)
  unfolding decimal_in decimal_of
  number_goes K goes = word_goes Ends Behind decimal_of K (λ t n e. word_is (number n) t tt (decimal_sound n t e)) (λ t n e. goes n) (codes "0") 0 refl

  pub digits_goes : (count : ℕ) (least : List ℕ) → 0 < count → digits_of count least ≡ Some 0 → (K : ℕ × WordsLeft → LinesLeft → Result R TextPlace) → ((n : ℕ) → Goes Ends Behind (λ w left. K (n, w) left))
      → Goes Ends Behind (λ w left. digits_in count w >>= λ x. K x left)
  unfolding digits_in
  digits_goes count least some zeros K goes = word_goes Ends Behind (digits_of count) K (λ t n e. word_is (digits [] count n) t (refl, some) (plain_sound count n t e)) (λ t n e. goes n) least 0 zeros

  pub octets_goes : (K : List ℕ × WordsLeft → LinesLeft → Result R TextPlace) → ((value : List ℕ) → Goes Ends Behind (λ w left. K (value, w) left)) → Goes Ends Behind (λ w left. octets_in w >>= λ x. K x left)
  unfolding octets_in octets_of
  octets_goes K goes = word_goes Ends Behind octets_of K (λ t value e. word_is (octets value) t tt (octets_sound t value e)) (λ t value e. goes value) (codes "-") [] refl

  pub labelled_goes : (label : List ℕ) (count : ℕ) (least : List ℕ) → list_all is_plain label ≡ true → 0 < count → labelled_digits label count least ≡ Some 0 → (K : ℕ × WordsLeft → LinesLeft → Result R TextPlace)
      → ((n : ℕ) → Goes Ends Behind (λ w left. K (n, w) left)) → Goes Ends Behind (λ w left. labelled_in label count w >>= λ x. K x left)
  unfolding labelled_in
  labelled_goes label count least plain some zeros K goes =
      word_goes Ends Behind (labelled_digits label count) K (λ t n e. word_is (digits label count n) t (plain, some) (labelled_sound label count n t e)) (λ t n e. goes n) least 0 zeros

-- what reads the words of a line to their end
abbrev pub Gave : {A : Type 0} → A → Result A TextPlace → Type 0
Gave a read = read ≡ Ok a

abbrev pub Nowhere : LinesLeft → TextPlace → List (List ℕ) → Type 0
Nowhere left p others = ⊥

abbrev pub Finishes : {A : Type 0} → (WordsLeft → Result A TextPlace) → Type 0
Finishes {A = A} F = Goes {V = A} {R = A} Gave Nowhere (λ w left. F w)

-- the words that were read are words, and are read the same in any line
abbrev pub ReadsWords : {A : Type 0} → (WordsLeft → Result A TextPlace) → Type 0
ReadsWords {A = A} F = (n e c : ℕ) (ts : List (List ℕ)) (a : A) → F (words_left n e (placed c ts)) ≡ Ok a → AllByRecursion IsWord ts × ((n e c : ℕ) → F (words_left n e (placed c ts)) ≡ Ok a)

pub value_goes : {A : Type 0} (a : A) → GoesOn {V = A} {R = A} Gave Nowhere (λ left. Ok a)
value_goes a = record { others = []; value = a; is = λ taken. refl; completes = λ left p h. cc }

module _ {V R : Type 0} (Ends : V → Result R TextPlace → Type 0) (Behind : LinesLeft → TextPlace → List (List ℕ) → Type 0) {A : Type 0} (F : WordsLeft → Result A TextPlace) (first : Finishes F) (again : ReadsWords F)
    (K : A → LinesLeft → Result R TextPlace) (goes : (a : A) → GoesOn Ends Behind (K a)) where
  abbrev reading : WordsLeft → LinesLeft → Result R TextPlace
  reading w left = F w >>= λ a. K a left

  with_start : (us : List (List ℕ)) (a : A) → ((n e c taken : ℕ) → F (words_left n e (placed c us)) ≡ Ok a) → (n e c taken : ℕ) → Ends ((goes a).value) (reading (words_left n e (placed c us)) (lines_left taken ((goes a).others)))
  with_start us a is n e c taken = subst (Ends ((goes a).value)) (ap (λ r. r >>= λ b. K b (lines_left taken ((goes a).others))) (sym (is n e c taken))) ((goes a).is taken)

  mend : (n e c : ℕ) (ts : List (List ℕ)) (left : LinesLeft) (p : TextPlace) → e + 1 ≡ c + span ts → (r : Result A TextPlace) → F (words_left n e (placed c ts)) ≡ r → (r >>= λ a. K a left) ≡ Err p → Completed Ends Behind reading n c ts left p
  mend n e c ts left p ends (Err q) is h =
      let d = first.completes n e c ts left p ends (is ∙ ap Err (same_place q p h)) in
      record {
        words = d.words;
        are = d.are;
        others = (goes d.value).others;
        value = (goes d.value).value;
        is = with_start d.words d.value d.is;
        kept = by d.words ((goes d.value).others) d.others d.kept;
      }
    where
      by : (us others ignored : List (List ℕ)) → Kept {V = A} {R = A} Gave Nowhere n c ts us left p ignored → Kept Ends Behind n c ts us left p others
      by us others ignored (inl k) = inl k
      by us others ignored (inr k) = absurd k.1
  mend n e c ts left p ends (Ok a) is h =
      let words = again n e c ts a is in
      let d = (goes a).completes left p h in
      record {
        words = ts;
        are = words.0;
        others = d.0;
        value = d.1;
        is = λ n e c taken. subst (Ends d.1) (ap (λ r. r >>= λ a. K a (lines_left taken d.0)) (sym (words.1 n e c))) (d.2 taken);
        kept = inr (refl, d.3);
      }

  pub final_goes : Goes Ends Behind (λ w left. F w >>= λ a. K a left)
  final_goes =
      let s = first.starts in
      record {
        starts = record { words = s.words; are = s.are; others = (goes s.value).others; value = (goes s.value).value; is = with_start s.words s.value s.is };
        completes = λ n e c ts left p ends h. mend n e c ts left p ends (F (words_left n e (placed c ts))) refl h;
      }

-- a code
pub code_goes : Finishes code_in
unfolding code_in digits_of
code_goes =
    digits_goes {V = ℕ} {R = ℕ} Gave Nowhere 2 (codes "00") (omega arith) refl (λ x left. _) λ n.
    ended_goes {V = ℕ} {R = ℕ} Gave Nowhere (λ u left. Ok n) (value_goes n)

pub code_words : ReadsWords code_in
code_words n e c ts a h =
    let s = subst (AreEach SpellsWord (digits [] 2 a ∷ [])) (placed_texts c ts) (code_sound (words_left n e (placed c ts)) a h) in
    (words_are (digits [] 2 a ∷ []) ts ((refl, omega arith), tt) s, λ n e c. code_read a n e c ts s)

-- a key, and IDs before it
key_goes : Finishes key_in
unfolding key_in
key_goes =
    number_goes {V = Key} {R = Key} Gave Nowhere (λ x left. _) λ ident.
    octets_goes {V = Key} {R = Key} Gave Nowhere (λ x left. _) λ value.
    ended_goes {V = Key} {R = Key} Gave Nowhere (λ u left. Ok (record { ident = ident; value = value })) (value_goes (record { ident = ident; value = value }))

abbrev Steps : Type 0
Steps = List ℕ × Option Key

abbrev StepsMended : ℕ → ℕ → List (List ℕ) → LinesLeft → TextPlace → Type 0
StepsMended n c ts left p = Completed {V = Steps} {R = Steps} Gave Nowhere (λ w left. steps_of w.line w.end w.words) n c ts left p

no_steps : (n c : ℕ) (ts : List (List ℕ)) (left : LinesLeft) (p : TextPlace) → place n c ≡ p → StepsMended n c ts left p
no_steps n c ts left p at =
    at_fault {V = Steps} {R = Steps} Gave Nowhere (λ w left. steps_of w.line w.end w.words) n c ts left p (record { words = []; are = tt; others = []; value = ([], None); is = λ n e c taken. refl })
    (sym (ap (λ (p : TextPlace). p.line) at)) (omega (arith, ap (λ (p : TextPlace). p.column) at))

behind_step : (n c : ℕ) (t : List ℕ) (ts us : List (List ℕ)) (left : LinesLeft) (p : TextPlace) (others : List (List ℕ)) → Kept {V = Key} {R = Key} Gave Nowhere n (c + length t + 1) ts us left p others
    → Kept {V = Steps} {R = Steps} Gave Nowhere n c (t ∷ ts) (t ∷ us) left p others
behind_step n c t ts us left p others k = one_kept {V = Steps} {R = Steps} Gave Nowhere n c t ts us left p others k

step_mended : (n e c : ℕ) (t : List ℕ) (ts : List (List ℕ)) (left : LinesLeft) (p : TextPlace) → e + 1 ≡ c + span (t ∷ ts)
    → (steps_of n e (placed (c + length t + 1) ts) ≡ Err p → StepsMended n (c + length t + 1) ts left p)
    → (key : Bool) → bytes_eq t (codes "key") ≡ key → (id : Option ℕ) → decimal_of t ≡ id
    → cond {A = Result Steps TextPlace} key (key_in (words_left n e (placed (c + length t + 1) ts)) >>= λ key. Ok ([], Some key))
    (fits_as id (place n c) >>= λ id. steps_of n e (placed (c + length t + 1) ts) >>= λ more. Ok (id ∷ more.0, more.1)) ≡ Err p
    → StepsMended n c (t ∷ ts) left p
step_mended n e c t ts left p ends more true is id value h =
    let d = key_goes.completes n e (c + length t + 1) ts left p (omega (arith, ends)) (pure_err {B = Steps} (key_in (words_left n e (placed (c + length t + 1) ts))) (λ key. ([], Some key)) p h) in
    let same : t ≡ codes "key" = (bytes_eq-Decides t (codes "key")).0 is in
    record {
      words = t ∷ d.words;
      are = (subst IsWord (sym same) (record { some = omega arith; plain = refl }), d.are);
      others = d.others;
      value = ([], Some d.value);
      is = λ n e c taken. rw (is, d.is n e (c + length t + 1) taken) refl;
      kept = behind_step n c t ts d.words left p d.others d.kept;
    }
step_mended n e c t ts left p ends more false is None value h = no_steps n c (t ∷ ts) left p (same_place (place n c) p h)
step_mended n e c t ts left p ends more false is (Some id) value h =
    let d = more (pure_err {B = Steps} (steps_of n e (placed (c + length t + 1) ts)) (λ more. (id ∷ more.0, more.1)) p h) in
    record {
      words = t ∷ d.words;
      are = (word_is (number id) t tt (decimal_sound id t value), d.are);
      others = d.others;
      value = (id ∷ d.value.0, d.value.1);
      is = λ n e c taken. rw (is, value, d.is n e (c + length t + 1) taken) refl;
      kept = one_kept {V = Steps} {R = Steps} Gave Nowhere n c t ts d.words left p d.others d.kept;
    }

steps_mended : (n e c : ℕ) (ts : List (List ℕ)) (left : LinesLeft) (p : TextPlace) → e + 1 ≡ c + span ts → steps_of n e (placed c ts) ≡ Err p → StepsMended n c ts left p
steps_mended n e c [] left p ends h = cc
steps_mended n e c (t ∷ ts) left p ends h =
    step_mended n e c t ts left p ends (steps_mended n e (c + length t + 1) ts left p (omega (arith, ends))) (bytes_eq t (codes "key")) refl (decimal_of t) refl h

pub steps_go : Finishes steps_in
unfolding steps_in
steps_go = record {
  starts = record { words = []; are = tt; others = []; value = ([], None); is = λ n e c taken. refl };
  completes = steps_mended;
}

pub steps_words : ReadsWords steps_in
steps_words n e c ts s h =
    let each = subst (AreEach SpellsWord (step_words s.0 s.1)) (placed_texts c ts) (steps_sound (words_left n e (placed c ts)) s h) in
    (words_are (step_words s.0 s.1) ts (steps_named s.0 s.1) each, λ n e c. steps_read s.0 s.1 n e c ts each)
