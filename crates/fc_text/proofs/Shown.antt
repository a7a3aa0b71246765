-- The text that is printed of messages spells them.
use Rattle.std.proofs.Common.{◌≡◌, ◌<◌, ◌≤◌, ◌+◌, ◌*◌, ◌/◌, ◌%◌, ◌^◌, ◌==◌, ℕ, zero, suc, Bool, true, false, if◌then◌else◌, List, [], ◌∷◌, ◌++◌, map, codes, decimal, Option, Some, None, append-nil, append_assoc, eq-eqb, refl, sym, ap, ◌∙◌, arith, rules, inl}
use Rattle.std.specs.Char.{to_ascii_uppercase}
use Rattle.std.specs.List.{flat_map, AllByRecursion}
use Rattle.std.specs.Str.{str_to_ascii_uppercase}
use Rattle.std.proofs.lemmas.Bool.{ne_eqb}
use Rattle.std.proofs.lemmas.Bool.Decides.{leb_tells}
use Rattle.std.proofs.lemmas.Grind.{flat_map-append}
use Rattle.std.proofs.lemmas.List.{map-append}
use Rattle.fc_base.specs.Hex.{hex, hex_digit, hex_text}
use Rattle.fc_wire.specs.Flags.{FlagValues, FlagsFit}
use Rattle.fc_wire.specs.Header.{word_of}
use Rattle.fc_wire.specs.declared.ilvs.Ilv.{Ilv}
use Rattle.fc_path.specs.Proper.{ProperBody, ProperPath, ProperOper, ProperSelect}
use Rattle.fc_path.specs.declared.oper.OperKind.{OperKind}
use Rattle.fc_path.specs.declared.oper.Oper.{Oper}
use Rattle.fc_path.specs.declared.oper.Oper.TheVariants as oper
use Rattle.fc_path.specs.declared.oper.Select.{Select}
use Rattle.fc_path.specs.declared.path.Key.{Key}
use Rattle.fc_path.specs.declared.path.PathData.{PathData}
use Rattle.fc_path.specs.declared.path.Body.{Body, out-Body, roll-Body, the_lemmas}
use Rattle.fc_path.specs.declared.path.Body.TheOpen.{Body-F}
use Rattle.fc_path.specs.declared.path.Body.TheVariants as v
use Rattle.fc_path.specs.declared.path.Body.TheViews.{roll-out-Body}
use Rattle.fc_msg.specs.Messages.{IsProper, ProperMsgBody}
use Rattle.fc_msg.specs.Reading.{flags_in}
use Rattle.fc_msg.specs.declared.message.Message.{Message}
use Rattle.fc_msg.specs.declared.message.MsgBody.{MsgBody}
use Rattle.fc_msg.specs.declared.message.MsgBody.TheVariants.{Setup, SetupResponse, Teardown, Config, ConfigResponse, Query, QueryResponse, Event, Heartbeat}
use Rattle.fc_text.specs.Text.{AtLevel, body_at, path_line, path_text, body_text, id_text, key_text, full_text, ilv_text, sparse_text, code_text, oper_line, oper_text, select_line, select_text, selects_text, number_text, content_text, fields_text, head_text, message_text, bytes_text, body_name, kind_name, indent}
use Rattle.fc_text.specs.TextGrammar.{Word, Line, line, name, number, digits, octets, flags, key_words, step_words, ilv_line, code_line, name_line, number_line, head_line, path_lines, body_lines, oper_lines, select_lines, content_lines, message_lines, WordFits, LineFits, LinesFit, SpellsDigits, SpellsWord, SpellsLine, SpellsLines, AreEach, behind_space, parted, ended}
use Rattle.fc_text.proofs.Flattening.{nested_text}
use Rattle.fc_text.proofs.ReadPaths.{layer_lines, body_is, path_lines_are, path_head}
use Rattle.fc_text.proofs.SpelledWords.{hex_suc, hex_zero}

-- digits in upper case stay
digit_stays : (d : ℕ) → d < 16 → to_ascii_uppercase (hex_digit d) ≡ hex_digit d
digit_stays d small = grind (arith, leb_tells)

upper_append : (xs ys : List ℕ) → str_to_ascii_uppercase (xs ++ ys) ≡ str_to_ascii_uppercase xs ++ str_to_ascii_uppercase ys
upper_append xs ys = map-append to_ascii_uppercase xs ys

hex_stays : (k n : ℕ) → str_to_ascii_uppercase (hex k n) ≡ hex k n
hex_stays zero n = ap str_to_ascii_uppercase (hex_zero n) ∙ sym (hex_zero n)
hex_stays (suc k) n =
    ap str_to_ascii_uppercase (hex_suc k n) ∙ upper_append (hex k (n / 16)) (hex_digit (n % 16) ∷ [])
    ∙ rw (hex_stays k (n / 16), digit_stays (n % 16) (omega arith)) (sym (hex_suc k n))

text_stays : (bytes : List ℕ) → str_to_ascii_uppercase (hex_text bytes) ≡ hex_text bytes
text_stays [] = refl
text_stays (b ∷ bs) = upper_append (hex 2 b) (hex_text bs) ∙ rw (hex_stays 2 b, text_stays bs) refl

bytes_stay : (bytes : List ℕ) → str_to_ascii_uppercase (bytes_text bytes) ≡ bytes_text bytes
bytes_stay [] = refl
bytes_stay (b ∷ bs) = text_stays (b ∷ bs)

-- what is printed of a word, and of a line
abbrev shown : Word → List ℕ
shown (name text) = text
shown (number n) = decimal n
shown (digits label count n) = label ++ hex count n
shown (octets value) = bytes_text value
shown (flags values) = codes "flags=" ++ hex 8 (word_of values)

-- the flags in their own word
abbrev bit : Bool → ℕ
bit b = if b then 2 ^ 21 else 0

abbrev word : ℕ → ℕ → ℕ → ℕ → ℕ → ℕ
word ack pri em at tp = 2 ^ 30 * ack + 2 ^ 27 * pri + 2 ^ 22 * em + at + 2 ^ 19 * tp

module _ (ack pri em at tp : ℕ) (p : pri < 8) (e : em < 4) (a : at ≤ 2 ^ 21) (t : tp < 4) where
  ack_back : word ack pri em at tp / 2 ^ 30 ≡ ack
  ack_back = omega arith

  pri_back : word ack pri em at tp / 2 ^ 27 % 8 ≡ pri
  pri_back = omega arith

  em_back : word ack pri em at tp / 2 ^ 22 % 4 ≡ em
  em_back = omega arith

  small : ack < 4 → word ack pri em at tp < 16 ^ 8
  small k = omega arith

tp_back : (ack pri em at tp : ℕ) → tp < 4 → at % 2 ^ 21 ≡ 0 → word ack pri em at tp / 2 ^ 19 % 4 ≡ tp
tp_back ack pri em at tp t a = omega arith

at_back : (ack pri em tp : ℕ) (at : Bool) → tp < 4 → (word ack pri em (bit at) tp / 2 ^ 21 % 2 == 1) ≡ at
at_back ack pri em tp true t = eq-eqb _ _ (omega arith)
at_back ack pri em tp false t = ne_eqb _ _ (λ h. omega (arith, h))

bit_small : (at : Bool) → bit at ≤ 2 ^ 21
bit_small true = omega arith
bit_small false = omega arith

bit_whole : (at : Bool) → bit at % 2 ^ 21 ≡ 0
bit_whole true = refl
bit_whole false = refl

abbrev values : ℕ → ℕ → ℕ → Bool → ℕ → FlagValues
values ack pri em at tp = record { ack = ack; pri = pri; em = em; at = at; tp = tp }

same_values : (a b c d a' b' c' d' : ℕ) (x y : Bool) → a ≡ a' → b ≡ b' → c ≡ c' → x ≡ y → d ≡ d' → values a b c x d ≡ values a' b' c' y d'
same_values a b c d a' b' c' d' x y ea eb ec ex ed = cc

flags_same : (f : FlagValues) → FlagsFit f → f ≡ flags_in (word_of f)
flags_same f (a, p, e, t) =
    same_values _ _ _ _ _ _ _ _ _ _ (sym (ack_back f.ack f.pri f.em (bit f.at) f.tp p e (bit_small f.at) t)) (sym (pri_back f.ack f.pri f.em (bit f.at) f.tp p e (bit_small f.at) t))
    (sym (em_back f.ack f.pri f.em (bit f.at) f.tp p e (bit_small f.at) t)) (sym (at_back f.ack f.pri f.em f.tp f.at t)) (sym (tp_back f.ack f.pri f.em (bit f.at) f.tp t (bit_whole f.at)))

-- what is printed of a word spells it
shown_digits : (label : List ℕ) (count n : ℕ) → n < 16 ^ count → SpellsDigits label count n (label ++ hex count n)
shown_digits label count n small = (small, hex count n, refl, hex_stays count n)

word_shown : (w : Word) → WordFits w → SpellsWord w (shown w)
word_shown (name text) fits = refl
word_shown (number n) fits = (fits, refl)
word_shown (digits label count n) fits = shown_digits label count n fits
word_shown (octets value) fits = (fits, bytes_stay value)
word_shown (flags f) fits =
    (word_of f, flags_same f fits, shown_digits (codes "flags=") 8 (word_of f) (small f.ack f.pri f.em (bit f.at) f.tp fits.1 fits.2 (bit_small f.at) fits.3 fits.0))

pub each_shown : {A : Type 0} (Is : A → List ℕ → Type 0) (P : A → Type 0) (f : A → List ℕ) (one : (x : A) → P x → Is x (f x)) (xs : List A) → AllByRecursion P xs → AreEach Is xs (map f xs)
each_shown Is P f one [] h = tt
each_shown Is P f one (x ∷ xs) h = (one x h.0, each_shown Is P f one xs h.1)

abbrev line_text : Line → List ℕ
line_text l = indent l.level ++ parted (map shown l.words)

line_shown : (l : Line) → LineFits l → SpellsLine l (line_text l)
line_shown l fits = (map shown l.words, each_shown SpellsWord WordFits shown word_shown l.words fits, refl)

-- what is printed of some lines
abbrev whole_line : Line → List ℕ
whole_line l = ended (line_text l)

abbrev pub lines_text : List Line → List ℕ
lines_text ls = flat_map whole_line ls

ended_all : (ls : List Line) → lines_text ls ≡ flat_map ended (map line_text ls)
ended_all [] = refl
ended_all (l ∷ ls) = ap (λ x. whole_line l ++ x) (ended_all ls)

pub lines_shown : (ls : List Line) (bytes : List ℕ) → LinesFit ls → bytes ≡ lines_text ls → SpellsLines ls bytes
lines_shown ls bytes fits e = (map line_text ls, each_shown SpellsLine LineFits line_text line_shown ls fits, inl (e ∙ ended_all ls))

texts_of : {X : Type 0} (f : X → List Line) (text : X → List ℕ) (P : X → Type 0) (one : (x : X) → P x → text x ≡ lines_text (f x)) (xs : List X) → AllByRecursion P xs → flat_map text xs ≡ lines_text (flat_map f xs)
texts_of f text P one [] h = refl
texts_of f text P one (x ∷ xs) h =
    ap (λ l. l ++ flat_map text xs) (one x h.0) ∙ ap (λ l. lines_text (f x) ++ l) (texts_of f text P one xs h.1) ∙ sym (flat_map-append whole_line (f x) (flat_map f xs))

-- a line feed behind a line stands behind its last part
push : (x y z : List ℕ) {w : List ℕ} → y ++ z ≡ w → (x ++ y) ++ z ≡ x ++ w
push x y z e = append_assoc x y z ∙ ap (λ l. x ++ l) e

abbrev feed : List ℕ
feed = codes "\n"

-- lines without PATH-DATA
full_same : (level : ℕ) (value : List ℕ) → full_text level value ≡ lines_text (line level (name (codes "full") ∷ octets value ∷ []) ∷ [])
unfolding full_text
full_same level value = simp (append_assoc, append-nil) refl

ilv_by : (i d v : List ℕ) → i ++ (codes "ilv " ++ (d ++ (32 ∷ (v ++ codes "\n")))) ≡ (i ++ (codes "ilv" ++ ((32 ∷ d) ++ ((32 ∷ v) ++ [])))) ++ codes "\n"
ilv_by i d v =
    sym (push i (codes "ilv" ++ ((32 ∷ d) ++ ((32 ∷ v) ++ []))) feed (push (codes "ilv") ((32 ∷ d) ++ ((32 ∷ v) ++ [])) feed (push (32 ∷ d) ((32 ∷ v) ++ []) feed (push (32 ∷ v) [] feed refl))))

ilv_same : (level : ℕ) (ilv : Ilv) → ilv_text level ilv ≡ whole_line (ilv_line level ilv)
unfolding ilv_text
ilv_same level ilv = ilv_by (indent level) (decimal ilv.ident) (bytes_text ilv.value)

code_same : (level code : ℕ) → code_text level code ≡ lines_text (code_line level code ∷ [])
unfolding code_text
code_same level code = simp (append_assoc, append-nil) refl

ilvs_same : (level : ℕ) (ilvs : List Ilv) → flat_map (ilv_text level) ilvs ≡ lines_text (map (ilv_line level) ilvs)
ilvs_same level [] = refl
ilvs_same level (x ∷ xs) = ap (λ l. l ++ flat_map (ilv_text level) xs) (ilv_same level x) ∙ ap (λ l. whole_line (ilv_line level x) ++ l) (ilvs_same level xs)

sparse_by : (i m n : List ℕ) → m ≡ n → i ++ (codes "sparse\n" ++ m) ≡ ((i ++ (codes "sparse" ++ [])) ++ codes "\n") ++ n
sparse_by i m n e = ap (λ m. i ++ (codes "sparse\n" ++ m)) e ∙ simp (append_assoc, append-nil) refl

sparse_same : (level : ℕ) (ilvs : List Ilv) → sparse_text level ilvs ≡ lines_text (line level (name (codes "sparse") ∷ []) ∷ map (ilv_line (level + 1)) ilvs)
unfolding sparse_text
sparse_same level ilvs = sparse_by (indent level) _ _ (ilvs_same (level + 1) ilvs)

-- bodies and PATH-DATA
body_nothing : body_text v.Nothing ≡ body_at Body-F.Nothing
body_nothing = search (rules, the_lemmas)

body_full : (value : List ℕ) → body_text (v.Full value) ≡ body_at (Body-F.Full value)
body_full value = search (rules, the_lemmas)

body_sparse : (ilvs : List Ilv) → body_text (v.Sparse ilvs) ≡ body_at (Body-F.Sparse ilvs)
body_sparse ilvs = search (rules, the_lemmas)

body_outcome : (code : ℕ) → body_text (v.Outcome code) ≡ body_at (Body-F.Outcome code)
body_outcome code = search (rules, the_lemmas)

path_at_is : (p : PathData) (level : ℕ) → path_text p level ≡ path_line level p.ids p.key ++ body_text p.body (level + 1)
path_at_is p level = search (rules, the_lemmas)

module _ (kind : OperKind) (P : PathData → Type 0) (one : (level : ℕ) (p : PathData) → P p → path_text p level ≡ lines_text (path_lines p level)) where
  layer_same : (level : ℕ) (l : Body-F Body PathData) → ProperBody kind P l → body_text (roll-Body l) level ≡ lines_text (layer_lines l level)
  layer_same level Body-F.Nothing h = ap (λ (at : AtLevel). at level) (ap body_text v.rolls-Nothing ∙ body_nothing)
  layer_same level (Body-F.Full value) h = ap (λ (at : AtLevel). at level) (ap body_text (v.rolls-Full value) ∙ body_full value) ∙ full_same level value
  layer_same level (Body-F.Sparse ilvs) h = ap (λ (at : AtLevel). at level) (ap body_text (v.rolls-Sparse ilvs) ∙ body_sparse ilvs) ∙ sparse_same level ilvs
  layer_same level (Body-F.Outcome code) h = ap (λ (at : AtLevel). at level) (ap body_text (v.rolls-Outcome code) ∙ body_outcome code) ∙ code_same level code
  layer_same level (Body-F.Nested ps) h =
      ap (λ (at : AtLevel). at level) (ap body_text (v.rolls-Nested ps)) ∙ nested_text ps level ∙ texts_of (λ p. path_lines p level) (λ p. path_text p level) P (one level) ps h.1

key_same : (key : Option Key) → key_text key ≡ flat_map behind_space (map shown (key_words key))
key_same None = refl
key_same (Some key) = by (decimal key.ident) (bytes_text key.value)
  where
    by : (d v : List ℕ) → codes " key " ++ (d ++ (32 ∷ v)) ≡ (32 ∷ codes "key") ++ ((32 ∷ d) ++ ((32 ∷ v) ++ []))
    by d v = simp append-nil refl

steps_same : (ids : List ℕ) (key : Option Key) → flat_map id_text ids ++ key_text key ≡ flat_map behind_space (map shown (step_words ids key))
steps_same [] key = key_same key
steps_same (id ∷ ids) key = append_assoc (id_text id) (flat_map id_text ids) (key_text key) ∙ ap (λ l. id_text id ++ l) (steps_same ids key)

path_by : (i s k m : List ℕ) → s ++ k ≡ m → i ++ (codes "path" ++ (s ++ (k ++ codes "\n"))) ≡ (i ++ (codes "path" ++ m)) ++ codes "\n"
path_by i s k m e = simp append_assoc refl ∙ ap (λ m. (i ++ (codes "path" ++ m)) ++ codes "\n") e

path_line_same : (level : ℕ) (p : PathData) → path_line level p.ids p.key ≡ whole_line (path_head p level)
unfolding path_line
path_line_same level p = path_by (indent level) (flat_map id_text p.ids) (key_text p.key) _ (steps_same p.ids p.key)

path_same : (kind : OperKind) (depth level : ℕ) (p : PathData) → ProperPath kind depth p → path_text p level ≡ lines_text (path_lines p level)
path_same kind zero level p h = absurd h
path_same kind (suc depth) level p h =
    let body : body_text p.body (level + 1) ≡ lines_text (body_lines p.body (level + 1)) =
    ap (λ b. body_text b (level + 1)) (sym (roll-out-Body p.body)) ∙ layer_same kind (ProperPath kind depth) (path_same kind depth) (level + 1) (out-Body p.body) h ∙ ap lines_text (sym (body_is p.body (level + 1))) in
    path_at_is p level ∙ ap (λ l. l ++ body_text p.body (level + 1)) (path_line_same level p) ∙ ap (λ l. whole_line (path_head p level) ++ l) body
    ∙ ap lines_text (sym (path_lines_are p level))

-- operations and LFBselects, which stand at the levels 2 and 1
oper_line_same : (text : List ℕ) → oper_line text ≡ whole_line (name_line 2 text)
unfolding oper_line
oper_line_same text = by text
  where
    by : (t : List ℕ) → codes "    " ++ (t ++ codes "\n") ≡ (codes "    " ++ (t ++ [])) ++ codes "\n"
    by t = simp append-nil refl

oper_same : (message : ℕ) (o : Oper) → ProperOper message o → oper_text o ≡ lines_text (oper_lines 2 o)
oper_same message (oper.Paths kind paths) p =
    ap (λ l. l ++ flat_map (λ q. path_text q 3) paths) (oper_line_same (kind_name kind)) ∙ ap (λ l. whole_line (name_line 2 (kind_name kind)) ++ l) (texts_of (λ q. path_lines q 3) (λ q. path_text q 3) (ProperPath kind 16) (path_same kind 16 3) paths p.2)
oper_same message oper.Commit p = oper_line_same (codes "COMMIT") ∙ sym (append-nil (whole_line (name_line 2 (codes "COMMIT"))))
oper_same message oper.Trcomp p = oper_line_same (codes "TRCOMP") ∙ sym (append-nil (whole_line (name_line 2 (codes "TRCOMP"))))
oper_same message (oper.CommitResponse code) p =
    ap (λ l. l ++ code_text 3 code) (oper_line_same (codes "COMMIT-RESPONSE")) ∙ ap (λ l. whole_line (name_line 2 (codes "COMMIT-RESPONSE")) ++ l) (code_same 3 code)

select_line_same : (class instance : ℕ) → select_line class instance ≡ whole_line (line 1 (name (codes "lfb") ∷ digits [] 8 class ∷ digits [] 8 instance ∷ []))
unfolding select_line
select_line_same class instance = by (hex 8 class) (hex 8 instance)
  where
    by : (c i : List ℕ) → codes "  lfb " ++ (c ++ (codes " " ++ (i ++ codes "\n"))) ≡ (codes "  " ++ (codes "lfb" ++ ((32 ∷ c) ++ ((32 ∷ i) ++ [])))) ++ codes "\n"
    by c i = sym (push (codes "  lfb") ((32 ∷ c) ++ ((32 ∷ i) ++ [])) feed (push (32 ∷ c) ((32 ∷ i) ++ []) feed (push (32 ∷ i) [] feed refl)))

select_same : (message : ℕ) (s : Select) → ProperSelect message s → select_text s ≡ lines_text (select_lines 1 s)
select_same message s p =
    ap (λ l. l ++ flat_map oper_text s.opers) (select_line_same s.class s.instance)
    ∙ ap (λ l. whole_line (line 1 (name (codes "lfb") ∷ digits [] 8 s.class ∷ digits [] 8 s.instance ∷ [])) ++ l) (texts_of (oper_lines 2) oper_text (ProperOper message) (oper_same message) s.opers p.2)

-- messages
selects_same : (message : ℕ) (ss : List Select) → AllByRecursion (ProperSelect message) ss → selects_text ss ≡ lines_text (flat_map (select_lines 1) ss)
selects_same message ss p = texts_of (select_lines 1) select_text (ProperSelect message) (select_same message) ss p

result_same : (n : ℕ) → number_text (codes "  result ") n ≡ lines_text (number_line (codes "result") n ∷ [])
result_same n = by (decimal n)
  where
    by : (d : List ℕ) → codes "  result " ++ (d ++ codes "\n") ≡ ((codes "  " ++ (codes "result" ++ ((32 ∷ d) ++ []))) ++ codes "\n") ++ []
    by d = sym (append-nil _ ∙ push (codes "  result") ((32 ∷ d) ++ []) feed (push (32 ∷ d) [] feed refl))

reason_same : (n : ℕ) → number_text (codes "  reason ") n ≡ lines_text (number_line (codes "reason") n ∷ [])
reason_same n = by (decimal n)
  where
    by : (d : List ℕ) → codes "  reason " ++ (d ++ codes "\n") ≡ ((codes "  " ++ (codes "reason" ++ ((32 ∷ d) ++ []))) ++ codes "\n") ++ []
    by d = sym (append-nil _ ∙ push (codes "  reason") ((32 ∷ d) ++ []) feed (push (32 ∷ d) [] feed refl))

content_same : (b : MsgBody) → ProperMsgBody b → content_text b ≡ lines_text (content_lines b)
content_same (Setup ss) p = selects_same 1 ss p
content_same (SetupResponse n) p = result_same n
content_same (Teardown n) p = reason_same n
content_same (Config ss) p = selects_same 3 ss p.1
content_same (ConfigResponse ss) p = selects_same 19 ss p.1
content_same (Query ss) p = selects_same 4 ss p.1
content_same (QueryResponse ss) p = selects_same 20 ss p.1
content_same (Event ss) p = selects_same 5 ss p.1
content_same Heartbeat p = refl

head_by : (b s d c f : List ℕ) → b ++ (codes " from=" ++ (s ++ (codes " to=" ++ (d ++ (codes " corr=" ++ (c ++ (codes " flags=" ++ (f ++ codes "\n"))))))))
    ≡ ([] ++ (b ++ ((32 ∷ (codes "from=" ++ s)) ++ ((32 ∷ (codes "to=" ++ d)) ++ ((32 ∷ (codes "corr=" ++ c)) ++ ((32 ∷ (codes "flags=" ++ f)) ++ [])))))) ++ codes "\n"
head_by b s d c f =
    let f1 = (32 ∷ (codes "flags=" ++ f)) ++ [] in
    let c1 = (32 ∷ (codes "corr=" ++ c)) ++ f1 in
    let d1 = (32 ∷ (codes "to=" ++ d)) ++ c1 in
    let s1 = (32 ∷ (codes "from=" ++ s)) ++ d1 in
    let end : f1 ++ feed ≡ codes " flags=" ++ (f ++ feed) = ap (λ l. l ++ feed) (append-nil (codes " flags=" ++ f)) ∙ append_assoc (codes " flags=") f feed in
    let corr : c1 ++ feed ≡ codes " corr=" ++ (c ++ (codes " flags=" ++ (f ++ feed))) = push (codes " corr=" ++ c) f1 feed end ∙ append_assoc (codes " corr=") c (codes " flags=" ++ (f ++ feed)) in
    let dest : d1 ++ feed ≡ codes " to=" ++ (d ++ (codes " corr=" ++ (c ++ (codes " flags=" ++ (f ++ feed))))) = push (codes " to=" ++ d) c1 feed corr ∙ append_assoc (codes " to=") d _ in
    let source : s1 ++ feed ≡ codes " from=" ++ (s ++ (codes " to=" ++ (d ++ (codes " corr=" ++ (c ++ (codes " flags=" ++ (f ++ feed))))))) = push (codes " from=" ++ s) d1 feed dest ∙ append_assoc (codes " from=") s _ in
    sym (push b s1 feed source)

head_same : (m : Message) → head_text m ≡ whole_line (head_line m)
unfolding head_text fields_text
head_same m = head_by (body_name m.body) (hex 8 m.source) (hex 8 m.dest) (hex 16 m.corr) (hex 8 (word_of m.flags))

pub message_same : (m : Message) → IsProper m → message_text m ≡ lines_text (message_lines m)
unfolding message_text
message_same m p = ap (λ l. l ++ content_text m.body) (head_same m) ∙ ap (λ l. whole_line (head_line m) ++ l) (content_same m.body p.body)

pub messages_same : (ms : List Message) → AllByRecursion IsProper ms → flat_map message_text ms ≡ lines_text (flat_map message_lines ms)
messages_same ms p = texts_of message_lines message_text IsProper message_same ms p
