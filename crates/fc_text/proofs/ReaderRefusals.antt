-- Each reader of texts refuses all lines that are the same before a place and at it, where it refuses one of them there.
use Rattle.std.proofs.Common.{◌≡◌, ◌+◌, ◌==◌, ℕ, zero, suc, Bool, true, false, ◌&&◌, not, List, [], ◌∷◌, codes, Option, Some, None, Result, Ok, Err, refl, sym, ap, ◌∙◌, rules}
use Rattle.std.specs.Str.{bytes_eq}
use Rattle.fc_path.specs.Kinds.{takes_nothing, takes_full, takes_sparse, takes_outcome}
use Rattle.fc_path.specs.declared.kinds.Operation.{Operation}
use Rattle.fc_path.specs.declared.kinds.Operation.TheVariants as operation
use Rattle.fc_path.specs.declared.oper.OperKind.{OperKind}
use Rattle.fc_path.specs.declared.path.Key.{Key}
use Rattle.fc_path.specs.declared.path.Body.{Body}
use Rattle.fc_lines.specs.LineWords.{WordItem, WordsLeft, words_left, stands_at, none_left, ended, ended_of}
use Rattle.fc_base.specs.Answers.{◌>>=◌}
use Rattle.fc_lines.specs.TextPlaces.{TextPlace, place}
use Rattle.fc_lines.specs.LineReading.{Reader, key_in, steps_of, steps_in, code_in, ilv_at, outcome_at, number_at, head_at}
use Rattle.fc_text.specs.TextReading.{many_at, some_at, leaf_in, path_by, path_line, paths_by, last_body, body_by, body_at, operation_paths_at, operation_at, oper_at, select_at, content_at, message_of, whole_at}
use Rattle.fc_lines.specs.WordValues.{decimal_of}
use Rattle.fc_text.proofs.ReadFront.{Front, stands_looks, none_looks, ilv_front, ilv_shrinks, ilvs_front, outcome_front, path_by_front, path_line_front, path_line_shrinks, paths_front, paths_by_front, body_front, operation_paths_front, oper_front, oper_shrinks, opers_front, select_front, select_shrinks, selects_front, some_selects_front, number_front, content_front, head_front, shut_with, shut_by, shut_is, whole_front, whole_shrinks}
use Rattle.fc_text.proofs.Refusals.{Fails, fails_as_at, fails_here, fails_and_more, many_fails, some_fails, bind_err, fails_pure, fails_bind, fails_if, fails_choice}
use Rattle.fc_text.proofs.WordRefusals.{FailsIn, word_fits, word_unfit, word_none, word_first, word_missing, word_behind, FailsPure, FailsItem, WordFails, Means, err_is, fails_line, in_word, in_ended, in_pure, in_bind, in_item, item_in, item_if, item_err, exactly_means, decimal_means, digits_means, octets_means, labelled_means, operation_means, type_means}

-- words alone
pub pure_word : {A B : Type 0} (r : WordsLeft → Result (A × WordsLeft) TextPlace) (f : A × WordsLeft → Result B TextPlace) → Means r → ((a : A) → FailsPure (λ v. f (a, v))) → FailsPure (λ v. r v >>= f)
pure_word {A = A} {B = B} r f m h v p e = by_items v.line v.end v.words e
  where
    fits_is : (n e : ℕ) (x : WordItem) (xs : List WordItem) (a : A) → m.means x.text ≡ Some a → (r (words_left n e (x ∷ xs)) >>= f) ≡ f (a, words_left n e xs)
    fits_is n e x xs a some = ap (λ q. q >>= f) (m.is (words_left n e (x ∷ xs))) ∙ word_fits m.means f n e x xs a some

    unfit_is : (n e : ℕ) (x : WordItem) (xs : List WordItem) → m.means x.text ≡ None → (r (words_left n e (x ∷ xs)) >>= f) ≡ Err (place n x.column)
    unfit_is n e x xs none = ap (λ q. q >>= f) (m.is (words_left n e (x ∷ xs))) ∙ word_unfit m.means f n e x xs none

    by_word : (n e : ℕ) (x : WordItem) (xs : List WordItem) (o : Option A) → m.means x.text ≡ o → (r (words_left n e (x ∷ xs)) >>= f) ≡ Err p → WordFails (λ w. (r w >>= f) ≡ Err p) (words_left n e (x ∷ xs)) p
    by_word n e x xs None none is =
        let at : place n x.column ≡ p = err_is {X = B} (place n x.column) p (sym (unfit_is n e x xs none) ∙ is) in
        word_first (λ w. (r w >>= f) ≡ Err p) n e x xs p at (λ end more. unfit_is n end x more none ∙ ap Err at)
    by_word n e x xs (Some a) some is =
        word_behind (λ v. f (a, v) ≡ Err p) (λ w. (r w >>= f) ≡ Err p) n e x xs p (λ end more k. fits_is n end x more a some ∙ k)
        (h a (words_left n e xs) p (sym (fits_is n e x xs a some) ∙ is))

    by_items : (n e : ℕ) (items : List WordItem) → (r (words_left n e items) >>= f) ≡ Err p → WordFails (λ w. (r w >>= f) ≡ Err p) (words_left n e items) p
    by_items n e [] is =
        let none : (r (words_left n e []) >>= f) ≡ Err (place n e) = ap (λ q. q >>= f) (m.is (words_left n e [])) ∙ word_none m.means f n e in
        let at : place n e ≡ p = err_is {X = B} (place n e) p (sym none ∙ is) in
        word_missing (λ w. (r w >>= f) ≡ Err p) n e p at (none ∙ ap Err at)
    by_items n e (x ∷ xs) is = by_word n e x xs (m.means x.text) refl is

pure_ended_by : {B : Type 0} (b : B) (n e : ℕ) (items : List WordItem) (p : TextPlace) → (ended_of n items >>= λ u. Ok b) ≡ Err p → WordFails (λ w. (ended_of w.line w.words >>= λ u. Ok b) ≡ Err p) (words_left n e items) p
pure_ended_by b n e [] p is = cc
pure_ended_by {B = B} b n e (x ∷ xs) p is = word_first _ n e x xs p (err_is {X = B} (place n x.column) p is) (λ end more. is)

pub pure_ended : {B : Type 0} (b : B) → FailsPure (λ v. ended v >>= λ u. Ok b)
unfolding ended
pure_ended b v p e = pure_ended_by b v.line v.end v.words p e

pub key_fails : FailsPure key_in
unfolding key_in
key_fails = search (rules, pure_word, pure_ended, decimal_means, octets_means) depth 12

pub code_fails : FailsPure code_in
unfolding code_in
code_fails = search (rules, pure_word, pure_ended, digits_means) depth 12

-- the IDs and the key of a PATH-DATA
abbrev id_and : ℕ → Result (List ℕ × Option Key) TextPlace → Result (List ℕ × Option Key) TextPlace
id_and id read = read >>= λ more. Ok (id ∷ more.0, more.1)

abbrev key_alone : Result Key TextPlace → Result (List ℕ × Option Key) TextPlace
key_alone read = read >>= λ key. Ok ([], Some key)

abbrev steps_by : WordsLeft → Result (List ℕ × Option Key) TextPlace
steps_by w = steps_of w.line w.end w.words

key_step : (n e : ℕ) (x : WordItem) (xs : List WordItem) → bytes_eq x.text (codes "key") ≡ true → steps_of n e (x ∷ xs) ≡ key_alone (key_in (words_left n e xs))
key_step n e x xs is = rw is refl

id_step : (n e : ℕ) (x : WordItem) (xs : List WordItem) (id : ℕ) → bytes_eq x.text (codes "key") ≡ false → decimal_of x.text ≡ Some id → steps_of n e (x ∷ xs) ≡ id_and id (steps_of n e xs)
id_step n e x xs id is some = rw (is, some) refl

no_step : (n e : ℕ) (x : WordItem) (xs : List WordItem) → bytes_eq x.text (codes "key") ≡ false → decimal_of x.text ≡ None → steps_of n e (x ∷ xs) ≡ Err (place n x.column)
no_step n e x xs is none = rw (is, none) refl

steps_fail : (n e : ℕ) (items : List WordItem) (p : TextPlace) → steps_of n e items ≡ Err p → WordFails (λ w. steps_by w ≡ Err p) (words_left n e items) p
steps_fail n e [] p h = cc
steps_fail n e (x ∷ xs) p h = by (bytes_eq x.text (codes "key")) (decimal_of x.text) refl refl (steps_fail n e xs p)
  where
    by : (t : Bool) (o : Option ℕ) → bytes_eq x.text (codes "key") ≡ t → decimal_of x.text ≡ o → (steps_of n e xs ≡ Err p → WordFails (λ w. steps_by w ≡ Err p) (words_left n e xs) p)
        → WordFails (λ w. steps_by w ≡ Err p) (words_left n e (x ∷ xs)) p
    by true o is means others =
        bind_err (key_in (words_left n e xs)) (λ key. Ok ([], Some key)) p (sym (key_step n e x xs is) ∙ h)
        (λ fails. word_behind (λ v. key_in v ≡ Err p) (λ w. steps_by w ≡ Err p) n e x xs p (λ end more k. key_step n end x more is ∙ ap key_alone k) (key_fails (words_left n e xs) p fails))
        (λ key found e. absurd cc)
    by false None is none others =
        let at : place n x.column ≡ p = err_is {X = List ℕ × Option Key} (place n x.column) p (sym (no_step n e x xs is none) ∙ h) in
        word_first (λ w. steps_by w ≡ Err p) n e x xs p at (λ end more. no_step n end x more is none ∙ ap Err at)
    by false (Some id) is some others =
        bind_err (steps_of n e xs) (λ more. Ok (id ∷ more.0, more.1)) p (sym (id_step n e x xs id is some) ∙ h)
        (λ fails. word_behind (λ w. steps_by w ≡ Err p) (λ w. steps_by w ≡ Err p) n e x xs p (λ end more k. id_step n end x more id is some ∙ ap (id_and id) k) (others fails))
        (λ more found e. absurd cc)

pub steps_fails : FailsPure steps_in
unfolding steps_in
steps_fails v p e = steps_fail v.line v.end v.words p e

-- lines that hold no others
pub ilv_fails : (level : ℕ) → Fails (ilv_at level)
unfolding ilv_at
ilv_fails level = fails_line level _ (search (rules, in_word, in_ended, fails_pure, exactly_means, decimal_means, octets_means) depth 20)

pub ilvs_fails : (level : ℕ) → Fails (many_at level (ilv_at level))
ilvs_fails level = many_fails level (ilv_at level) (ilv_shrinks level) (ilv_front level) (ilv_fails level)

pub outcome_fails : (level : ℕ) → Fails (outcome_at level)
unfolding outcome_at
outcome_fails level = fails_line level _ (search (rules, in_word, in_pure, fails_pure, exactly_means, code_fails) depth 20)

-- bodies and PATH-DATA
pub leaf_fails : (kind : OperKind) (level : ℕ) (word : WordItem) → FailsItem word (leaf_in kind level word)
unfolding leaf_in
leaf_fails kind level word =
    item_if (takes_full kind && bytes_eq word.text (codes "full")) word _ _ (item_in word _ (search (rules, in_word, in_ended, fails_pure, octets_means) depth 12))
    (item_if (takes_sparse kind && bytes_eq word.text (codes "sparse")) word _ _ (item_in word _ (search (rules, in_ended, fails_bind, fails_pure, ilvs_front, ilvs_fails) depth 12))
    (item_if (takes_outcome kind && bytes_eq word.text (codes "code")) word _ _ (item_in word _ (search (rules, in_pure, code_fails, fails_pure) depth 12)) (item_err word)))

module _ (inside : ℕ → Reader Body) (front : (level : ℕ) → Front (inside level)) (fails : (level : ℕ) → Fails (inside level)) where
  pub path_by_fails : (level : ℕ) → FailsIn (path_by inside level)
  unfolding path_by
  path_by_fails level = in_pure _ _ steps_fails λ s. fails_bind _ (front (level + 1)) (fails (level + 1)) λ b. fails_pure

  pub path_line_fails : (level : ℕ) → Fails (path_line inside level)
  unfolding path_line
  path_line_fails level = fails_line level _ (search (rules, in_word, exactly_means, path_by_fails) depth 12)

  paths_fails : (level : ℕ) → Fails (many_at level (path_line inside level))
  paths_fails level = many_fails level (path_line inside level) (path_line_shrinks inside front level) (path_line_front inside front level) (path_line_fails level)

  pub paths_by_fails : (level : ℕ) → FailsIn (paths_by inside level)
  unfolding paths_by
  paths_by_fails level = in_bind _ _ (path_by_front inside front level) (path_by_fails level) λ x. fails_and_more x (paths_front inside front level) (paths_fails level)

  pub body_by_fails : (kind : OperKind) (level : ℕ) → Fails (body_by kind inside level)
  unfolding body_by
  body_by_fails kind level =
      fails_choice (λ lines. takes_nothing kind && not (stands_at level lines)) (λ lines others e. ap (λ t. takes_nothing kind && not t) (stands_looks level lines others e)) fails_pure
      (fails_line level _ (in_item _ λ x.
      item_if (bytes_eq x.text (codes "path")) x _ _ (item_in x _ (in_bind _ _ (paths_by_front inside front level) (paths_by_fails level) λ paths. fails_pure)) (leaf_fails kind level x)))

pub last_fails : (kind : OperKind) (level : ℕ) → Fails (last_body kind level)
unfolding last_body
last_fails kind level = fails_if (takes_nothing kind) fails_pure (fails_line level _ (in_item _ (leaf_fails kind level)))

pub body_fails : (kind : OperKind) (depth level : ℕ) → Fails (body_at kind depth level)
body_fails kind zero level = last_fails kind level
body_fails kind (suc depth) level = body_by_fails (body_at kind depth) (body_front kind depth) (body_fails kind depth) kind level

pub operation_paths_fails : (kind : OperKind) (level : ℕ) → Fails (operation_paths_at kind level)
unfolding operation_paths_at
operation_paths_fails kind level = fails_line level _ (in_word _ _ (exactly_means (codes "path")) λ u. paths_by_fails (body_at kind 15) (body_front kind 15) (body_fails kind 15) level)

-- operations and LFBselects
pub operation_fails : (which : Operation) (level : ℕ) → Fails (operation_at which level)
operation_fails (operation.Paths kind) level = fails_bind _ (operation_paths_front kind level) (operation_paths_fails kind level) (λ paths. fails_pure)
operation_fails operation.Commit level = fails_pure
operation_fails operation.Trcomp level = fails_pure
operation_fails operation.CommitResponse level = fails_bind _ (outcome_front level) (outcome_fails level) (λ code. fails_pure)

pub oper_fails : (message level : ℕ) → Fails (oper_at message level)
unfolding oper_at
oper_fails message level = fails_line level _ (in_word _ _ (operation_means message) λ which. in_ended _ λ u. operation_fails which (level + 1))

pub opers_fails : (message level : ℕ) → Fails (some_at level (oper_at message level))
opers_fails message level = some_fails level (oper_at message level) (oper_shrinks message level) (oper_front message level) (oper_fails message level)

pub select_fails : (message level : ℕ) → Fails (select_at message level)
unfolding select_at
select_fails message level = fails_line level _ (search (rules, in_word, in_ended, fails_bind, fails_pure, exactly_means, digits_means, opers_front, opers_fails) depth 20)

pub selects_fails : (message level : ℕ) → Fails (many_at level (select_at message level))
selects_fails message level = many_fails level (select_at message level) (select_shrinks message level) (select_front message level) (select_fails message level)

pub some_selects_fails : (message level : ℕ) → Fails (some_at level (select_at message level))
some_selects_fails message level = some_fails level (select_at message level) (select_shrinks message level) (select_front message level) (select_fails message level)

-- messages
pub number_fails : (name : List ℕ) → Fails (number_at name)
unfolding number_at
number_fails name = fails_line 1 _ (search (rules, in_word, in_ended, fails_pure, exactly_means, decimal_means) depth 20)

pub content_fails : (kind : ℕ) → Fails (content_at kind)
unfolding content_at
content_fails kind =
    fails_if (kind == 15) fails_pure
    (fails_if (kind == 17) (fails_bind _ (number_front (codes "result")) (number_fails (codes "result")) (λ n. fails_pure))
    (fails_if (kind == 2) (fails_bind _ (number_front (codes "reason")) (number_fails (codes "reason")) (λ n. fails_pure))
    (fails_if (kind == 1) (fails_bind _ (selects_front kind 1) (selects_fails kind 1) (λ s. fails_pure)) (fails_bind _ (some_selects_front kind 1) (some_selects_fails kind 1) (λ s. fails_pure)))))

pub head_fails : Fails head_at
unfolding head_at
head_fails = fails_line 0 _ (search (rules, in_word, in_ended, fails_pure, type_means, labelled_means) depth 30)

shut_fails : {X : Type 0} (x : X) → Fails (shut_with x)
shut_fails {X = X} x left p e =
    fails_as_at (shut_with x) (shut_by x) left p (shut_is x)
    (fails_choice (stands_at 0) (stands_looks 0) fails_pure (fails_choice none_left none_looks fails_pure fails_here) left p (sym (shut_is x left) ∙ e))

pub whole_fails : Fails whole_at
unfolding whole_at
whole_fails = fails_bind _ head_front head_fails λ h. fails_bind _ (content_front h.kind) (content_fails h.kind) λ b. shut_fails (message_of h b)

pub wholes_fails : Fails (many_at 0 whole_at)
wholes_fails = many_fails 0 whole_at whole_shrinks whole_front whole_fails
