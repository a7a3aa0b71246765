-- What is read of words and lines is spelled by them.
use Rattle.std.proofs.Common.{◌≡◌, ◌<◌, ◌+◌, ◌*◌, ℕ, zero, suc, Bool, true, false, cond, ◌==◌, List, [], ◌∷◌, ◌++◌, length, drop, map, codes, Option, Some, None, Result, Ok, Err, refl, sym, ap, subst, ◌∙◌, arith, inl, inr, eqb-true, length-append}
use Rattle.std.specs.Str.{bytes_eq}
use Rattle.std.proofs.lemmas.Slice.Eq.{bytes_eq-Decides}
use Rattle.fc_path.specs.declared.path.Key.{Key}
use Rattle.fc_wire.specs.declared.ilvs.Ilv.{Ilv}
use Rattle.fc_lines.specs.LineWords.{WordItem, WordsLeft, LinesLeft, in_front, lines_of, words_of, words_left, lines_left, words_from, placed, spaces_before, line_of, line_at, word_in, meaning, fits_as, ended_of, ended as words_ended, exactly, this_word, decimal_in, digits_in, octets_in, labelled_in, labelled_digits}
use Rattle.fc_text.specs.Text.{indent}
use Rattle.fc_text.specs.TextGrammar.{Word, Line, line, name, number, digits, octets, parted, step_words, ilv_line, code_line, SpellsWord, SpellsLine, AreEach, AreLines}
use Rattle.fc_base.specs.Answers.{◌>>=◌}
use Rattle.fc_lines.specs.TextPlaces.{TextPlace, place}
use Rattle.fc_lines.specs.LineReading.{key_in, steps_of, steps_in, code_in, ilv_at, outcome_at}
use Rattle.fc_lines.specs.WordValues.{decimal_of, digits_of, octets_of}
use Rattle.fc_text.proofs.SoundValues.{name_sound, plain_sound, labelled_sound, octets_sound, decimal_sound}

-- a step that succeeded, and what follows
pub bind_ok : {A B : Type 0} {G : Type 0} (r : Result A TextPlace) (f : A → Result B TextPlace) (y : B) → (r >>= f) ≡ Ok y → ((x : A) → r ≡ Ok x → f x ≡ Ok y → G) → G
bind_ok (Ok x) f y e k = k x refl e
bind_ok (Err at) f y e k = cc

pub same_ok : {A : Type 0} (x y : A) → ◌≡◌ {A = Result A TextPlace} (Ok x) (Ok y) → x ≡ y
same_ok x y e = cc

pub same_pair : {A B : Type 0} (a b : A) (c d : B) → ◌≡◌ {A = Result (A × B) TextPlace} (Ok (a, c)) (Ok (b, d)) → (a ≡ b) × (c ≡ d)
same_pair {A = A} {B = B} a b c d e = let same = same_ok {A = A × B} (a, c) (b, d) e in (ap (λ (p : A × B). p.0) same, ap (λ (p : A × B). p.1) same)

-- the words that are left, as bytes
abbrev pub item_text : WordItem → List ℕ
item_text x = x.text

abbrev pub texts : WordsLeft → List (List ℕ)
texts w = map item_text w.words

-- a word was taken
abbrev pub Step : Word → WordsLeft → WordsLeft → Type 0
Step w v rest = (t : List ℕ) × (texts v ≡ t ∷ texts rest) × SpellsWord w t

pub fits_some : {A : Type 0} (o : Option A) (at : TextPlace) (a : A) → fits_as o at ≡ Ok a → o ≡ Some a
fits_some None at a e = cc
fits_some (Some b) at a e = ap Some (same_ok b a e)

meaning_by : {A : Type 0} (means : List ℕ → Option A) (n e : ℕ) (items : List WordItem) (a : A) (rest : WordsLeft) → meaning means (words_left n e items) ≡ Ok (a, rest)
    → (t : List ℕ) × (map item_text items ≡ t ∷ texts rest) × (means t ≡ Some a)
unfolding word_in
meaning_by means n e [] a rest h = cc
meaning_by means n e (x ∷ xs) a rest h =
    bind_ok (fits_as (means x.text) (place n x.column)) _ (a, rest) h λ b is more.
    let (same, left) = same_pair b a (words_left n e xs) rest more in
    (x.text, ap (λ w. x.text ∷ texts w) left, fits_some (means x.text) (place n x.column) b is ∙ ap Some same)

pub meaning_sound : {A : Type 0} (means : List ℕ → Option A) (v : WordsLeft) (a : A) (rest : WordsLeft) → meaning means v ≡ Ok (a, rest) → (t : List ℕ) × (texts v ≡ t ∷ texts rest) × (means t ≡ Some a)
meaning_sound means v a rest h = meaning_by means v.line v.end v.words a rest h

pub exactly_sound : (text : List ℕ) (v : WordsLeft) (u : Unit {0}) (rest : WordsLeft) → exactly text v ≡ Ok (u, rest) → Step (name text) v rest
unfolding exactly
exactly_sound text v u rest h = let (t, is, means) = meaning_sound (this_word text) v u rest h in (t, is, name_sound text t u means)

pub number_sound : (v : WordsLeft) (n : ℕ) (rest : WordsLeft) → decimal_in v ≡ Ok (n, rest) → Step (number n) v rest
unfolding decimal_in
number_sound v n rest h = let (t, is, means) = meaning_sound decimal_of v n rest h in (t, is, decimal_sound n t means)

pub digits_sound : (count : ℕ) (v : WordsLeft) (n : ℕ) (rest : WordsLeft) → digits_in count v ≡ Ok (n, rest) → Step (digits [] count n) v rest
unfolding digits_in
digits_sound count v n rest h = let (t, is, means) = meaning_sound (digits_of count) v n rest h in (t, is, plain_sound count n t means)

pub bytes_sound : (v : WordsLeft) (value : List ℕ) (rest : WordsLeft) → octets_in v ≡ Ok (value, rest) → Step (octets value) v rest
unfolding octets_in
bytes_sound v value rest h = let (t, is, means) = meaning_sound octets_of v value rest h in (t, is, octets_sound t value means)

pub label_sound : (label : List ℕ) (count : ℕ) (v : WordsLeft) (n : ℕ) (rest : WordsLeft) → labelled_in label count v ≡ Ok (n, rest) → Step (digits label count n) v rest
unfolding labelled_in
label_sound label count v n rest h = let (t, is, means) = meaning_sound (labelled_digits label count) v n rest h in (t, is, labelled_sound label count n t means)

ended_by : (n : ℕ) (items : List WordItem) (u : Unit {0}) → ended_of n items ≡ Ok u → map item_text items ≡ []
ended_by n [] u h = refl
ended_by n (x ∷ xs) u h = cc

pub no_more : (v : WordsLeft) (u : Unit {0}) → words_ended v ≡ Ok u → AreEach SpellsWord [] (texts v)
unfolding words_ended
no_more v u h = subst (AreEach SpellsWord []) (sym (ended_by v.line v.words u h)) tt

pub one_more : (w : Word) (ws : List Word) (v rest : WordsLeft) → Step w v rest → AreEach SpellsWord ws (texts rest) → AreEach SpellsWord (w ∷ ws) (texts v)
one_more w ws v rest (t, is, s) h = subst (AreEach SpellsWord (w ∷ ws)) (sym is) (s, h)

-- a line is its level and its words
parted_front : (b : ℕ) (ws : List (List ℕ)) → 0 < length ws → parted (in_front b ws) ≡ b ∷ parted ws
parted_front b [] some = absurd (omega (arith, some))
parted_front b (w ∷ ws) some = refl

front_some : (b : ℕ) (ws : List (List ℕ)) → 0 < length (in_front b ws)
front_some b [] = omega arith
front_some b (w ∷ ws) = omega arith

abbrev words_choice : Bool → ℕ → List (List ℕ) → List (List ℕ)
words_choice t b ws = cond t ([] ∷ ws) (in_front b ws)

choice_some : (t : Bool) (b : ℕ) (ws : List (List ℕ)) → 0 < length (words_choice t b ws)
choice_some true b ws = omega arith
choice_some false b ws = front_some b ws

pub words_some : (bytes : List ℕ) → 0 < length (words_of bytes)
words_some [] = omega arith
words_some (b ∷ bs) = choice_some (b == 32) b (words_of bs)

parted_space : (ws : List (List ℕ)) → 0 < length ws → parted ([] ∷ ws) ≡ 32 ∷ parted ws
parted_space [] some = absurd (omega (arith, some))
parted_space (w ∷ ws) some = refl

parted_choice : (t : Bool) (b : ℕ) (ws : List (List ℕ)) → 0 < length ws → (t ≡ true → b ≡ 32) → parted (words_choice t b ws) ≡ b ∷ parted ws
parted_choice true b ws some is = parted_space ws some ∙ ap (λ c. c ∷ parted ws) (sym (is refl))
parted_choice false b ws some is = parted_front b ws some

pub parted_words : (bytes : List ℕ) → parted (words_of bytes) ≡ bytes
parted_words [] = refl
parted_words (b ∷ bs) = parted_choice (b == 32) b (words_of bs) (words_some bs) (eqb-true b 32) ∙ ap (λ l. b ∷ l) (parted_words bs)

pub placed_texts : (column : ℕ) (ws : List (List ℕ)) → map item_text (placed column ws) ≡ ws
placed_texts column [] = refl
placed_texts column (w ∷ ws) = ap (λ l. w ∷ l) (placed_texts (column + length w + 1) ws)

twice : (level : ℕ) → 2 * suc level ≡ suc (suc (2 * level))
twice level = omega arith

-- the two first bytes of a line at a level that is not the first are spaces
pub spaces_sound : (level : ℕ) (bytes : List ℕ) → spaces_before bytes ≡ 2 * level → bytes ≡ indent level ++ drop (2 * level) bytes
spaces_sound zero bytes h = refl
spaces_sound (suc level) [] h = absurd (omega (arith, h))
spaces_sound (suc level) (b ∷ []) h = absurd (few (b == 32) level h)
  where
    few : (t : Bool) (level : ℕ) → cond t 1 0 ≡ 2 * suc level → ⊥
    few true level h = omega (arith, h)
    few false level h = omega (arith, h)
spaces_sound (suc level) (b ∷ c ∷ bs) h = by (b == 32) (c == 32) (eqb-true b 32) (eqb-true c 32) (spaces_sound level bs) h
  where
    by : (s t : Bool) → (s ≡ true → b ≡ 32) → (t ≡ true → c ≡ 32) → (spaces_before bs ≡ 2 * level → bs ≡ indent level ++ drop (2 * level) bs) → cond s (suc (cond t (suc (spaces_before bs)) 0)) 0 ≡ 2 * suc level
        → b ∷ c ∷ bs ≡ indent (suc level) ++ drop (2 * suc level) (b ∷ c ∷ bs)
    by true true p q more h =
        let rest : bs ≡ indent level ++ drop (2 * level) bs = more (omega (arith, h)) in
        ap (λ x. x ∷ c ∷ bs) (p refl) ∙ ap (λ x. 32 ∷ x ∷ bs) (q refl) ∙ ap (λ l. 32 ∷ 32 ∷ l) rest ∙ ap (λ k. 32 ∷ 32 ∷ (indent level ++ drop k (b ∷ c ∷ bs))) (sym (twice level))
    by true false p q more h = absurd (omega (arith, h))
    by false t p q more h = absurd (omega (arith, h))

-- a line was taken
abbrev pub Taken : ℕ → WordsLeft → LinesLeft → LinesLeft → Type 0
Taken level v left rest = (bytes : List ℕ) × (left.lines ≡ bytes ∷ rest.lines) × (bytes ≡ indent level ++ parted (texts v))

line_by : (level taken : ℕ) (lines : List (List ℕ)) (v : WordsLeft) (rest : LinesLeft) → line_of level taken lines ≡ Ok (v, rest) → (bytes : List ℕ) × (lines ≡ bytes ∷ rest.lines) × (bytes ≡ indent level ++ parted (texts v))
line_by level taken [] v rest h = cc
line_by level taken (l ∷ ls) v rest h = by (spaces_before l == 2 * level) (eqb-true (spaces_before l) (2 * level)) h
  where
    by : (t : Bool) → (t ≡ true → spaces_before l ≡ 2 * level)
        → cond {A = Result (WordsLeft × LinesLeft) TextPlace} t (Ok (words_from (taken + 1) (2 * level + 1) true (drop (2 * level) l), lines_left (taken + 1) ls)) (Err (place (taken + 1) 1)) ≡ Ok (v, rest)
        → (bytes : List ℕ) × (l ∷ ls ≡ bytes ∷ rest.lines) × (bytes ≡ indent level ++ parted (texts v))
    by true is h =
        let (words, lines) = same_pair (words_from (taken + 1) (2 * level + 1) true (drop (2 * level) l)) v (lines_left (taken + 1) ls) rest h in
        let same : texts (words_from (taken + 1) (2 * level + 1) true (drop (2 * level) l)) ≡ words_of (drop (2 * level) l) = placed_texts (2 * level + 1) (words_of (drop (2 * level) l)) in
        let own : parted (texts v) ≡ drop (2 * level) l = ap (λ w. parted (texts w)) (sym words) ∙ ap parted same ∙ parted_words (drop (2 * level) l) in
        (l, ap (λ (x : LinesLeft). l ∷ x.lines) lines, spaces_sound level l (is refl) ∙ ap (λ x. indent level ++ x) (sym own))
    by false is h = cc

pub line_sound : (level : ℕ) (left : LinesLeft) (v : WordsLeft) (rest : LinesLeft) → line_at level left ≡ Ok (v, rest) → Taken level v left rest
unfolding line_at
line_sound level left v rest h = line_by level left.taken left.lines v rest h

-- lines that were read, and are those of something
abbrev pub Found : List Line → LinesLeft → LinesLeft → Type 0
Found ls left rest = (front : List (List ℕ)) × (left.lines ≡ front ++ rest.lines) × AreEach SpellsLine ls front

pub one_line : (level : ℕ) (ws : List Word) (left rest : LinesLeft) (v : WordsLeft) → Taken level v left rest → AreEach SpellsWord ws (texts v) → Found (line level ws ∷ []) left rest
one_line level ws left rest v (bytes, is, e) h = (bytes ∷ [], is, ((texts v, h, e), tt))

pub and_lines : (level : ℕ) (ws : List Word) (ls : List Line) (left mid rest : LinesLeft) (v : WordsLeft) → Taken level v left mid → AreEach SpellsWord ws (texts v) → Found ls mid rest → Found (line level ws ∷ ls) left rest
and_lines level ws ls left mid rest v (bytes, is, e) h (front, more, each) = (bytes ∷ front, is ∙ ap (λ l. bytes ∷ l) more, ((texts v, h, e), each))

pub same_rest : (ls : List Line) (left rest other : LinesLeft) → rest ≡ other → Found ls left rest → Found ls left other
same_rest ls left rest other e h = subst (Found ls left) e h

-- a key, and the IDs before it
pub key_sound : (v : WordsLeft) (key : Key) → key_in v ≡ Ok key → AreEach SpellsWord (number key.ident ∷ octets key.value ∷ []) (texts v)
unfolding key_in
key_sound v key e =
    bind_ok (decimal_in v) _ key e λ ident is1 e1.
    bind_ok (octets_in ident.1) _ key e1 λ value is2 e2.
    bind_ok (words_ended value.1) _ key e2 λ u is3 e3.
    subst (λ (k : Key). AreEach SpellsWord (number k.ident ∷ octets k.value ∷ []) (texts v)) (same_ok (record { ident = ident.0; value = value.0 }) key e3)
    (one_more (number ident.0) (octets value.0 ∷ []) v ident.1 (number_sound v ident.0 ident.1 is1) (one_more (octets value.0) [] ident.1 value.1 (bytes_sound ident.1 value.0 value.1 is2) (no_more value.1 u is3)))

steps_by : (n e : ℕ) (items : List WordItem) (s : List ℕ × Option Key) → steps_of n e items ≡ Ok s → AreEach SpellsWord (step_words s.0 s.1) (map item_text items)
steps_by n e [] s h = subst (λ (s : List ℕ × Option Key). AreEach SpellsWord (step_words s.0 s.1) []) (same_ok {A = List ℕ × Option Key} ([], None) s h) tt
steps_by n e (x ∷ xs) s h = by (bytes_eq x.text (codes "key")) (bytes_eq-Decides x.text (codes "key")).0 (steps_by n e xs) h
  where
    by : (t : Bool) → (t ≡ true → x.text ≡ codes "key") → ((s : List ℕ × Option Key) → steps_of n e xs ≡ Ok s → AreEach SpellsWord (step_words s.0 s.1) (map item_text xs))
        → cond t (key_in (words_left n e xs) >>= λ key. Ok ([], Some key)) (fits_as (decimal_of x.text) (place n x.column) >>= λ id. steps_of n e xs >>= λ more. Ok (id ∷ more.0, more.1)) ≡ Ok s
        → AreEach SpellsWord (step_words s.0 s.1) (x.text ∷ map item_text xs)
    by true is more h =
        bind_ok (key_in (words_left n e xs)) _ s h λ key is1 e1.
        subst (λ (s : List ℕ × Option Key). AreEach SpellsWord (step_words s.0 s.1) (x.text ∷ map item_text xs)) (same_ok {A = List ℕ × Option Key} ([], Some key) s e1) (is refl, key_sound (words_left n e xs) key is1)
    by false is more h =
        bind_ok (fits_as (decimal_of x.text) (place n x.column)) _ s h λ id is1 e1.
        bind_ok (steps_of n e xs) _ s e1 λ others is2 e2.
        subst (λ (s : List ℕ × Option Key). AreEach SpellsWord (step_words s.0 s.1) (x.text ∷ map item_text xs)) (same_ok {A = List ℕ × Option Key} (id ∷ others.0, others.1) s e2)
        (decimal_sound id x.text (fits_some (decimal_of x.text) (place n x.column) id is1), more others is2)

pub steps_sound : (v : WordsLeft) (s : List ℕ × Option Key) → steps_in v ≡ Ok s → AreEach SpellsWord (step_words s.0 s.1) (texts v)
unfolding steps_in
steps_sound v s h = steps_by v.line v.end v.words s h

-- lines that hold no others
pub ilv_sound : (level : ℕ) (left : LinesLeft) (ilv : Ilv) (rest : LinesLeft) → ilv_at level left ≡ Ok (ilv, rest) → Found (ilv_line level ilv ∷ []) left rest
unfolding ilv_at
ilv_sound level left ilv rest e =
    bind_ok (line_at level left) _ (ilv, rest) e λ l is1 e1.
    bind_ok (exactly (codes "ilv") l.0) _ (ilv, rest) e1 λ w is2 e2.
    bind_ok (decimal_in w.1) _ (ilv, rest) e2 λ ident is3 e3.
    bind_ok (octets_in ident.1) _ (ilv, rest) e3 λ value is4 e4.
    bind_ok (words_ended value.1) _ (ilv, rest) e4 λ u is5 e5.
    let (same, behind) = same_pair (record { ident = ident.0; value = value.0 }) ilv l.1 rest e5 in
    let third = one_more (octets value.0) [] ident.1 value.1 (bytes_sound ident.1 value.0 value.1 is4) (no_more value.1 u is5) in
    let second = one_more (number ident.0) (octets value.0 ∷ []) w.1 ident.1 (number_sound w.1 ident.0 ident.1 is3) third in
    let words = one_more (name (codes "ilv")) (number ident.0 ∷ octets value.0 ∷ []) l.0 w.1 (exactly_sound (codes "ilv") l.0 w.0 w.1 is2) second in
    subst (λ (x : Ilv). Found (ilv_line level x ∷ []) left rest) same
    (same_rest (line level (name (codes "ilv") ∷ number ident.0 ∷ octets value.0 ∷ []) ∷ []) left l.1 rest behind (one_line level (name (codes "ilv") ∷ number ident.0 ∷ octets value.0 ∷ []) left l.1 l.0 (line_sound level left l.0 l.1 is1) words))

pub code_sound : (v : WordsLeft) (code : ℕ) → code_in v ≡ Ok code → AreEach SpellsWord (digits [] 2 code ∷ []) (texts v)
unfolding code_in
code_sound v code e =
    bind_ok (digits_in 2 v) _ code e λ c is1 e1.
    bind_ok (words_ended c.1) _ code e1 λ u is2 e2.
    subst (λ n. AreEach SpellsWord (digits [] 2 n ∷ []) (texts v)) (same_ok c.0 code e2) (one_more (digits [] 2 c.0) [] v c.1 (digits_sound 2 v c.0 c.1 is1) (no_more c.1 u is2))

pub outcome_sound : (level : ℕ) (left : LinesLeft) (code : ℕ) (rest : LinesLeft) → outcome_at level left ≡ Ok (code, rest) → Found (code_line level code ∷ []) left rest
unfolding outcome_at
outcome_sound level left code rest e =
    bind_ok (line_at level left) _ (code, rest) e λ l is1 e1.
    bind_ok (exactly (codes "code") l.0) _ (code, rest) e1 λ w is2 e2.
    bind_ok (code_in w.1) _ (code, rest) e2 λ c is3 e3.
    let (same, behind) = same_pair c code l.1 rest e3 in
    let words = one_more (name (codes "code")) (digits [] 2 c ∷ []) l.0 w.1 (exactly_sound (codes "code") l.0 w.0 w.1 is2) (code_sound w.1 c is3) in
    subst (λ n. Found (code_line level n ∷ []) left rest) same
    (same_rest (line level (name (codes "code") ∷ digits [] 2 c ∷ []) ∷ []) left l.1 rest behind (one_line level (name (codes "code") ∷ digits [] 2 c ∷ []) left l.1 l.0 (line_sound level left l.0 l.1 is1) words))

-- the lines of a text
abbrev lines_choice : Bool → ℕ → List (List ℕ) → List (List ℕ)
lines_choice t b ls = cond t ([] ∷ ls) (in_front b ls)

front_lines : (b : ℕ) (ls : List (List ℕ)) (bytes : List ℕ) → AreLines ls bytes → AreLines (in_front b ls) (b ∷ bytes)
front_lines b [] bytes (inl e) = inr (ap (λ l. b ∷ (l ++ codes "\n")) e)
front_lines b [] bytes (inr e) = absurd (omega (arith, ap length e, length-append bytes (codes "\n")))
front_lines b (l ∷ ls) bytes (inl e) = inl (ap (λ x. b ∷ x) e)
front_lines b (l ∷ ls) bytes (inr e) = inr (ap (λ x. b ∷ x) e)

choice_lines : (t : Bool) (b : ℕ) (ls : List (List ℕ)) (bytes : List ℕ) → (t ≡ true → b ≡ 10) → AreLines ls bytes → AreLines (lines_choice t b ls) (b ∷ bytes)
choice_lines true b ls bytes is (inl e) = inl (ap (λ x. x ∷ bytes) (is refl) ∙ ap (λ x. 10 ∷ x) e)
choice_lines true b ls bytes is (inr e) = inr (ap (λ x. x ∷ (bytes ++ codes "\n")) (is refl) ∙ ap (λ x. 10 ∷ x) e)
choice_lines false b ls bytes is h = front_lines b ls bytes h

pub lines_sound : (bytes : List ℕ) → AreLines (lines_of bytes) bytes
lines_sound [] = inl refl
lines_sound (b ∷ bs) = choice_lines (b == 10) b (lines_of bs) bs (eqb-true b 10) (lines_sound bs)
