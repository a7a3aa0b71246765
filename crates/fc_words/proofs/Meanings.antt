-- What words mean, both ways.
use Rattle.std.proofs.Common.{length, map, string_bytes, String, Global, Result, take, drop, ◌≡◌, ◌≢◌, ◌<◌, ◌↔◌, ℕ, Bool, true, false, List, [], ◌∷◌, codes, decimal, Option, Some, None, if◌then◌else◌, refl, sym, ap, subst, ◌∙◌, arith}
use Rattle.std.specs.Str.{bytes_eq, str_to_ascii_uppercase}
use Rattle.std.proofs.lemmas.List.{drop-map, take-map}
use Rattle.std.proofs.lemmas.Option.{same_Some}
use Rattle.std.proofs.lemmas.Slice.Eq.{bytes_eq-Decides}
use Rattle.fc_words.specs.Commands.{◌>>=◌, Gives, IsControl, IsElement, IsGen, alone, are_plain, are_texts, command_of, control, control_of, element, element_of, gen, gen_of, is_dashed, named_first, nonempty}
use Rattle.fc_words.specs.Numbers.{ce_of, decimal_up_to}
use Rattle.fc_words.specs.declared.commands.Command.{Command}
use Rattle.fc_words.specs.declared.commands.WordFault.{WordFault}
use Rattle.fc_words.specs.declared.commands.Command.TheVariants.{Control, Element, Gen, Make, Show, World}
use Rattle.fc_words.proofs.Decimals.{decimal_sound, decimal_complete, plain_decimal}
use Rattle.fc_words.proofs.Hexadecimals.{ce_sound, ce_complete, ce_digits, not_dashed}
use Rattle.fc_words.proofs.Straight.{plain_word}

-- `>>=` gives a value where both steps do
bound : {A B P : Type 0} (o : Option A) (next : A → Option B) (y : B) → (o >>= next) ≡ Some y → ((x : A) → o ≡ Some x → next x ≡ Some y → P) → P
bound None next y e use_it = cc
bound (Some x) next y e use_it = use_it x refl e

nonempty_is : (text x : List ℕ) → nonempty text ≡ Some x → (text ≡ x) × (text ≢ [])
nonempty_is [] x e = cc
nonempty_is (b ∷ bs) x e = (same_Some _ _ e, λ none. cc)

nonempty_complete : (text : List ℕ) → text ≢ [] → nonempty text ≡ Some text
nonempty_complete [] some = absurd (some refl)
nonempty_complete (b ∷ bs) some = refl

-- the values that five words have
record Values (fe ce address connections turns : List ℕ) (x : Command) : Type 0 where
  pub f : ℕ
  pub c : ℕ
  pub n : ℕ
  pub t : ℕ
  pub is : x ≡ Element f c address n t
  pub fe_spelled : decimal_up_to 1073741823 fe ≡ Some f
  pub ce_spelled : ce_of ce ≡ Some c
  pub address_some : address ≢ []
  pub connections_spelled : decimal_up_to 4294967295 connections ≡ Some n
  pub turns_spelled : decimal_up_to 4294967295 turns ≡ Some t

values_of : (fe ce address connections turns : List ℕ) (x : Command) → element_of fe ce address connections turns ≡ Some x → Values fe ce address connections turns x
values_of fe ce address connections turns x e =
    bound (decimal_up_to 1073741823 fe) _ x e λ f is_f e₁.
    bound (ce_of ce) _ x e₁ λ c is_c e₂.
    bound (nonempty address) _ x e₂ λ a is_a e₃.
    bound (decimal_up_to 4294967295 connections) _ x e₃ λ n is_n e₄.
    bound (decimal_up_to 4294967295 turns) _ x e₄ λ t is_t e₅.
    let (same, some) = nonempty_is address a is_a in
    record {
      f = f;
      c = c;
      n = n;
      t = t;
      is = sym (same_Some _ _ e₅) ∙ ap (λ text. Element f c text n t) (sym same);
      fe_spelled = is_f;
      ce_spelled = is_c;
      address_some = some;
      connections_spelled = is_n;
      turns_spelled = is_t;
    }

-- the words after the name
record Five (rest : List (List ℕ)) (x : Command) : Type 0 where
  pub fe : List ℕ
  pub ce : List ℕ
  pub address : List ℕ
  pub connections : List ℕ
  pub turns : List ℕ
  pub all : rest ≡ fe ∷ ce ∷ address ∷ connections ∷ turns ∷ []
  pub values : Values fe ce address connections turns x

five_of : (rest : List (List ℕ)) (x : Command) → element rest ≡ Some x → Five rest x
five_of (fe ∷ ce ∷ address ∷ connections ∷ turns ∷ []) x e =
    record { fe = fe; ce = ce; address = address; connections = connections; turns = turns; all = refl; values = values_of fe ce address connections turns x e }
five_of [] x e = cc
five_of (a ∷ []) x e = cc
five_of (a ∷ b ∷ []) x e = cc
five_of (a ∷ b ∷ c ∷ []) x e = cc
five_of (a ∷ b ∷ c ∷ d ∷ []) x e = cc
five_of (a ∷ b ∷ c ∷ d ∷ f ∷ y ∷ ys) x e = cc

-- words other than five are none
pub no_element : (rest : List (List ℕ)) → (length rest ≡ 5 → ⊥) → element rest ≡ None
no_element (fe ∷ ce ∷ address ∷ connections ∷ turns ∷ []) other = absurd (other refl)
no_element [] other = refl
no_element (a ∷ []) other = refl
no_element (a ∷ b ∷ []) other = refl
no_element (a ∷ b ∷ c ∷ []) other = refl
no_element (a ∷ b ∷ c ∷ d ∷ []) other = refl
no_element (a ∷ b ∷ c ∷ d ∷ f ∷ y ∷ ys) other = refl

alone_is : (rest : List (List ℕ)) (command x : Command) → alone command rest ≡ Some x → (rest ≡ []) × (x ≡ command)
alone_is [] command x e = (refl, sym (same_Some _ _ e))
alone_is (w ∷ ws) command x e = cc

-- ---- the values of `control`

texts_are : (b : Bool) (c : ℕ) (r : List ℕ) (n t : ℕ) (ls : List (List ℕ)) (x : Command) → (if b then Some (Control c r n t ls) else None) ≡ Some x → (b ≡ true) × (x ≡ Control c r n t ls)
texts_are true c r n t ls x e = (refl, sym (same_Some _ _ e))
texts_are false c r n t ls x e = cc

record Controls (ce rounds connections turns : List ℕ) (addresses : List (List ℕ)) (x : Command) : Type 0 where
  pub c : ℕ
  pub n : ℕ
  pub t : ℕ
  pub is : x ≡ Control c rounds n t addresses
  pub ce_spelled : ce_of ce ≡ Some c
  pub rounds_some : rounds ≢ []
  pub connections_spelled : decimal_up_to 4294967295 connections ≡ Some n
  pub turns_spelled : decimal_up_to 4294967295 turns ≡ Some t
  pub texts : are_texts addresses ≡ true

controls_of : (ce rounds connections turns : List ℕ) (addresses : List (List ℕ)) (x : Command) → control_of ce rounds connections turns addresses ≡ Some x → Controls ce rounds connections turns addresses x
controls_of ce rounds connections turns addresses x e =
    bound (ce_of ce) _ x e λ c is_c e₁.
    bound (nonempty rounds) _ x e₁ λ r is_r e₂.
    bound (decimal_up_to 4294967295 connections) _ x e₂ λ n is_n e₃.
    bound (decimal_up_to 4294967295 turns) _ x e₃ λ t is_t e₄.
    let (same, some) = nonempty_is rounds r is_r in
    let (texts, is) = texts_are (are_texts addresses) c r n t addresses x e₄ in
    record {
      c = c;
      n = n;
      t = t;
      is = is ∙ ap (λ text. Control c text n t addresses) (sym same);
      ce_spelled = is_c;
      rounds_some = some;
      connections_spelled = is_n;
      turns_spelled = is_t;
      texts = texts;
    }

-- the words after the name
record Many (rest : List (List ℕ)) (x : Command) : Type 0 where
  pub ce : List ℕ
  pub rounds : List ℕ
  pub connections : List ℕ
  pub turns : List ℕ
  pub address : List ℕ
  pub more : List (List ℕ)
  pub all : rest ≡ ce ∷ rounds ∷ connections ∷ turns ∷ address ∷ more
  pub values : Controls ce rounds connections turns (address ∷ more) x

many_of : (rest : List (List ℕ)) (x : Command) → control rest ≡ Some x → Many rest x
many_of (ce ∷ rounds ∷ connections ∷ turns ∷ address ∷ more) x e =
    record { ce = ce; rounds = rounds; connections = connections; turns = turns; address = address; more = more; all = refl; values = controls_of ce rounds connections turns (address ∷ more) x e }
many_of [] x e = cc
many_of (a ∷ []) x e = cc
many_of (a ∷ b ∷ []) x e = cc
many_of (a ∷ b ∷ c ∷ []) x e = cc
many_of (a ∷ b ∷ c ∷ d ∷ []) x e = cc

-- fewer than five words are none
pub no_control : (rest : List (List ℕ)) → length rest < 5 → control rest ≡ None
no_control (ce ∷ rounds ∷ connections ∷ turns ∷ address ∷ more) few = absurd (omega (arith, few))
no_control [] few = refl
no_control (a ∷ []) few = refl
no_control (a ∷ b ∷ []) few = refl
no_control (a ∷ b ∷ c ∷ []) few = refl
no_control (a ∷ b ∷ c ∷ d ∷ []) few = refl

-- at least five words are these five and more
pub five_and_more : (a b c d e : List ℕ) (words : List (List ℕ)) → take 5 words ≡ a ∷ b ∷ c ∷ d ∷ e ∷ [] → control words ≡ control_of a b c d (e ∷ drop 5 words)
five_and_more a b c d e (v ∷ w ∷ x ∷ y ∷ z ∷ more) is =
    let one : v ≡ a = cc in
    let two : w ≡ b = cc in
    let three : x ≡ c = cc in
    let four : y ≡ d = cc in
    let five : z ≡ e = cc in
    rw (one, two, three, four, five) refl
five_and_more a b c d e [] is = absurd (cc is)
five_and_more a b c d e (v ∷ []) is = absurd (cc is)
five_and_more a b c d e (v ∷ w ∷ []) is = absurd (cc is)
five_and_more a b c d e (v ∷ w ∷ x ∷ []) is = absurd (cc is)
five_and_more a b c d e (v ∷ w ∷ x ∷ y ∷ []) is = absurd (cc is)

-- the same of strings, by what five of them and more were read as
pub control_words : (result : Result Command WordFault) (words more : List (String Global)) (a b c d e : List ℕ) → more ≡ drop 5 words → map string_bytes (take 5 words) ≡ a ∷ b ∷ c ∷ d ∷ e ∷ []
    → Gives result (control_of a b c d (e ∷ map string_bytes more)) → Gives result (control (map string_bytes words))
control_words result words more a b c d e rest is given =
    let five = take-map string_bytes 5 words ∙ is in
    let left = ap (λ l. control_of a b c d (e ∷ l)) (drop-map string_bytes 5 words ∙ ap (map string_bytes) (sym rest)) in
    subst (Gives result) (sym (five_and_more a b c d e (map string_bytes words) five ∙ left)) given

-- ---- the value of `gen`
record Counted (rest : List (List ℕ)) (x : Command) : Type 0 where
  pub word : List ℕ
  pub n : ℕ
  pub all : rest ≡ word ∷ []
  pub is : x ≡ Gen n
  pub spelled : decimal_up_to 1000 word ≡ Some n

counted_of : (rest : List (List ℕ)) (x : Command) → gen rest ≡ Some x → Counted rest x
counted_of (word ∷ []) x e =
    bound (decimal_up_to 1000 word) _ x e λ n is_n e₁.
    record { word = word; n = n; all = refl; is = sym (same_Some _ _ e₁); spelled = is_n }
counted_of [] x e = cc
counted_of (a ∷ b ∷ more) x e = cc

-- the command that a name has
by_name : {P : Type 0} (s m w g e k : Bool) (rest : List (List ℕ)) (x : Command)
    → (if s then alone Show rest else if m then alone Make rest else if w then alone World rest else if g then gen rest else if e then element rest else if k then control rest else None) ≡ Some x
    → (s ≡ true → alone Show rest ≡ Some x → P) → (m ≡ true → alone Make rest ≡ Some x → P) → (w ≡ true → alone World rest ≡ Some x → P)
    → (g ≡ true → gen rest ≡ Some x → P) → (e ≡ true → element rest ≡ Some x → P) → (k ≡ true → control rest ≡ Some x → P) → P
by_name true m w g e k rest x h shows makes worlds gens elements controls = shows refl h
by_name false true w g e k rest x h shows makes worlds gens elements controls = makes refl h
by_name false false true g e k rest x h shows makes worlds gens elements controls = worlds refl h
by_name false false false true e k rest x h shows makes worlds gens elements controls = gens refl h
by_name false false false false true k rest x h shows makes worlds gens elements controls = elements refl h
by_name false false false false false true rest x h shows makes worlds gens elements controls = controls refl h
by_name false false false false false false rest x h shows makes worlds gens elements controls = cc

-- the commands that stand alone are told apart
shown_is_made : Show ≡ Make → ⊥
shown_is_made h = cc

made_is_shown : Make ≡ Show → ⊥
made_is_shown h = cc

shown_is_world : Show ≡ World → ⊥
shown_is_world h = cc

made_is_world : Make ≡ World → ⊥
made_is_world h = cc

shown_is_gen : {n : ℕ} → Show ≡ Gen n → ⊥
shown_is_gen h = cc

made_is_gen : {n : ℕ} → Make ≡ Gen n → ⊥
made_is_gen h = cc

world_is_gen : {n : ℕ} → World ≡ Gen n → ⊥
world_is_gen h = cc

gen_is_element : {m f c n t : ℕ} {a : List ℕ} → Gen m ≡ Element f c a n t → ⊥
gen_is_element h = cc

gen_is_control : {m c n t : ℕ} {r : List ℕ} {ls : List (List ℕ)} → Gen m ≡ Control c r n t ls → ⊥
gen_is_control h = cc

shown_is_element : {f c n t : ℕ} {a : List ℕ} → Show ≡ Element f c a n t → ⊥
shown_is_element h = cc

world_is_element : {f c n t : ℕ} {a : List ℕ} → World ≡ Element f c a n t → ⊥
world_is_element h = cc

made_is_element : {f c n t : ℕ} {a : List ℕ} → Make ≡ Element f c a n t → ⊥
made_is_element h = cc

shown_is_control : {c n t : ℕ} {r : List ℕ} {ls : List (List ℕ)} → Show ≡ Control c r n t ls → ⊥
shown_is_control h = cc

world_is_control : {c n t : ℕ} {r : List ℕ} {ls : List (List ℕ)} → World ≡ Control c r n t ls → ⊥
world_is_control h = cc

made_is_control : {c n t : ℕ} {r : List ℕ} {ls : List (List ℕ)} → Make ≡ Control c r n t ls → ⊥
made_is_control h = cc

element_is_control : {f c n t d m k : ℕ} {a r : List ℕ} {ls : List (List ℕ)} → Element f c a n t ≡ Control d r m k ls → ⊥
element_is_control h = cc

meant : (words : List (List ℕ)) (x : Command) → command_of words ≡ Some x → (are_plain words ≡ true) × (named_first words ≡ Some x)
meant words x e = by_plain (are_plain words) e
  where
    by_plain : (b : Bool) → (if b then named_first words else None) ≡ Some x → (b ≡ true) × (named_first words ≡ Some x)
    by_plain true h = (refl, h)
    by_plain false h = cc

show_sound : (words : List (List ℕ)) → named_first words ≡ Some Show → words ≡ codes "show" ∷ []
show_sound [] e = cc
show_sound (name ∷ rest) e =
    by_name (bytes_eq name (codes "show")) (bytes_eq name (codes "make")) (bytes_eq name (codes "world")) (bytes_eq name (codes "gen")) (bytes_eq name (codes "element")) (bytes_eq name (codes "control")) rest Show e
    (λ test h. let (none, _) = alone_is rest Show Show h in rw ((bytes_eq-Decides name (codes "show")).0 test, none) refl)
    (λ test h. absurd (shown_is_made (alone_is rest Make Show h).1))
    (λ test h. absurd (shown_is_world (alone_is rest World Show h).1))
    (λ test h. absurd (shown_is_gen (counted_of rest Show h).is))
    (λ test h. absurd (shown_is_element (five_of rest Show h).values.is))
    (λ test h. absurd (shown_is_control (many_of rest Show h).values.is))

make_sound : (words : List (List ℕ)) → named_first words ≡ Some Make → words ≡ codes "make" ∷ []
make_sound [] e = cc
make_sound (name ∷ rest) e =
    by_name (bytes_eq name (codes "show")) (bytes_eq name (codes "make")) (bytes_eq name (codes "world")) (bytes_eq name (codes "gen")) (bytes_eq name (codes "element")) (bytes_eq name (codes "control")) rest Make e
    (λ test h. absurd (made_is_shown (alone_is rest Show Make h).1))
    (λ test h. let (none, _) = alone_is rest Make Make h in rw ((bytes_eq-Decides name (codes "make")).0 test, none) refl)
    (λ test h. absurd (made_is_world (alone_is rest World Make h).1))
    (λ test h. absurd (made_is_gen (counted_of rest Make h).is))
    (λ test h. absurd (made_is_element (five_of rest Make h).values.is))
    (λ test h. absurd (made_is_control (many_of rest Make h).values.is))

world_sound : (words : List (List ℕ)) → named_first words ≡ Some World → words ≡ codes "world" ∷ []
world_sound [] e = cc
world_sound (name ∷ rest) e =
    by_name (bytes_eq name (codes "show")) (bytes_eq name (codes "make")) (bytes_eq name (codes "world")) (bytes_eq name (codes "gen")) (bytes_eq name (codes "element")) (bytes_eq name (codes "control")) rest World e
    (λ test h. absurd (shown_is_world (sym (alone_is rest Show World h).1)))
    (λ test h. absurd (made_is_world (sym (alone_is rest Make World h).1)))
    (λ test h. let (none, _) = alone_is rest World World h in rw ((bytes_eq-Decides name (codes "world")).0 test, none) refl)
    (λ test h. absurd (world_is_gen (counted_of rest World h).is))
    (λ test h. absurd (world_is_element (five_of rest World h).values.is))
    (λ test h. absurd (world_is_control (many_of rest World h).values.is))

pub words_of_show : (words : List (List ℕ)) → command_of words ≡ Some Show ↔ words ≡ codes "show" ∷ []
words_of_show words = (λ e. show_sound words (meant words Show e).1, λ e. ap command_of e)

pub words_of_make : (words : List (List ℕ)) → command_of words ≡ Some Make ↔ words ≡ codes "make" ∷ []
words_of_make words = (λ e. make_sound words (meant words Make e).1, λ e. ap command_of e)

gen_sound : (words : List (List ℕ)) (n : ℕ) → named_first words ≡ Some (Gen n) → IsGen words n
gen_sound [] n e = cc
gen_sound (name ∷ rest) n e =
    by_name (bytes_eq name (codes "show")) (bytes_eq name (codes "make")) (bytes_eq name (codes "world")) (bytes_eq name (codes "gen")) (bytes_eq name (codes "element")) (bytes_eq name (codes "control")) rest (Gen n) e
    (λ test h. absurd (shown_is_gen (sym (alone_is rest Show _ h).1)))
    (λ test h. absurd (made_is_gen (sym (alone_is rest Make _ h).1)))
    (λ test h. absurd (world_is_gen (sym (alone_is rest World _ h).1)))
    (λ test h. from_count ((bytes_eq-Decides name (codes "gen")).0 test) (counted_of rest _ h))
    (λ test h. absurd (gen_is_element (five_of rest _ h).values.is))
    (λ test h. absurd (gen_is_control (many_of rest _ h).values.is))
  where
    from_count : name ≡ codes "gen" → Counted rest (Gen n) → IsGen (name ∷ rest) n
    from_count is_name counted =
        let same : counted.n ≡ n = cc in
        let d = decimal_sound 1000 n counted.word (counted.spelled ∙ ap Some same) in
        record { all = rw (is_name, counted.all, d.0) refl; range = (omega (arith, d.1.0), omega (arith, d.1.1)) }

gen_complete : (words : List (List ℕ)) (n : ℕ) → IsGen words n → command_of words ≡ Some (Gen n)
gen_complete words n w =
    let d = decimal_complete 1000 n (decimal n) (omega arith) (refl, (omega (arith, w.range.0), omega (arith, w.range.1))) in
    let plain_count = plain_decimal n (decimal n) w.range.0 (omega (arith, w.range.1)) refl in
    let given : List (List ℕ) = codes "gen" ∷ decimal n ∷ [] in
    let plain : are_plain given ≡ true = rw plain_count refl in
    let value : gen_of (decimal n) ≡ Some (Gen n) = rw d refl in
    ap command_of w.all ∙ ap (λ (b : Bool). if b then named_first given else None) plain ∙ value

pub words_of_gen : (words : List (List ℕ)) (n : ℕ) → command_of words ≡ Some (Gen n) ↔ IsGen words n
words_of_gen words n = (λ e. gen_sound words n (meant words _ e).1, gen_complete words n)

pub words_of_world : (words : List (List ℕ)) → command_of words ≡ Some World ↔ words ≡ codes "world" ∷ []
words_of_world words = (λ e. world_sound words (meant words World e).1, λ e. ap command_of e)

element_sound : (words : List (List ℕ)) (fe ce : ℕ) (address : List ℕ) (connections turns : ℕ) → are_plain words ≡ true → named_first words ≡ Some (Element fe ce address connections turns) → IsElement words fe ce address connections turns
element_sound [] fe ce address connections turns plain e = cc
element_sound (name ∷ rest) fe ce address connections turns plain e =
    by_name (bytes_eq name (codes "show")) (bytes_eq name (codes "make")) (bytes_eq name (codes "world")) (bytes_eq name (codes "gen")) (bytes_eq name (codes "element")) (bytes_eq name (codes "control")) rest (Element fe ce address connections turns) e
    (λ test h. absurd (shown_is_element (sym (alone_is rest Show _ h).1)))
    (λ test h. absurd (made_is_element (sym (alone_is rest Make _ h).1)))
    (λ test h. absurd (world_is_element (sym (alone_is rest World _ h).1)))
    (λ test h. absurd (gen_is_element (sym (counted_of rest _ h).is)))
    (λ test h. from_five ((bytes_eq-Decides name (codes "element")).0 test) (five_of rest _ h))
    (λ test h. absurd (element_is_control (many_of rest _ h).values.is))
  where
    from_five : name ≡ codes "element" → Five rest (Element fe ce address connections turns) → IsElement (name ∷ rest) fe ce address connections turns
    from_five is_name five =
        let v = five.values in
        let same_fe : v.f ≡ fe = cc in
        let same_ce : v.c ≡ ce = cc in
        let same_address : five.address ≡ address = cc in
        let same_connections : v.n ≡ connections = cc in
        let same_turns : v.t ≡ turns = cc in
        let f = decimal_sound 1073741823 fe five.fe (v.fe_spelled ∙ ap Some same_fe) in
        let c = ce_sound ce five.ce (v.ce_spelled ∙ ap Some same_ce) in
        let n = decimal_sound 4294967295 connections five.connections (v.connections_spelled ∙ ap Some same_connections) in
        let t = decimal_sound 4294967295 turns five.turns (v.turns_spelled ∙ ap Some same_turns) in
        let (_, after_name) = plain_word name rest plain in
        let (_, after_fe) = plain_word five.fe (five.ce ∷ five.address ∷ five.connections ∷ five.turns ∷ []) (subst (λ ws. are_plain ws ≡ true) five.all after_name) in
        let (_, after_ce) = plain_word five.ce (five.address ∷ five.connections ∷ five.turns ∷ []) after_fe in
        let (plain_address, _) = plain_word five.address (five.connections ∷ five.turns ∷ []) after_ce in
        record {
          ce_word = five.ce;
          all = rw (is_name, five.all, f.0, same_address, n.0, t.0) refl;
          ce_digits = c.1;
          fe_range = (omega (arith, f.1.0), omega (arith, f.1.1));
          ce_range = c.0;
          address_some = subst (λ text. text ≢ []) same_address v.address_some;
          address_plain = subst (λ text. is_dashed text ≡ false) same_address plain_address;
          connections_range = (omega (arith, n.1.0), omega (arith, n.1.1));
          turns_range = (omega (arith, t.1.0), omega (arith, t.1.1));
        }

element_complete : (words : List (List ℕ)) (fe ce : ℕ) (address : List ℕ) (connections turns : ℕ) → IsElement words fe ce address connections turns → command_of words ≡ Some (Element fe ce address connections turns)
element_complete words fe ce address connections turns w =
    let f = decimal_complete 1073741823 fe (decimal fe) (omega arith) (refl, (omega (arith, w.fe_range.0), omega (arith, w.fe_range.1))) in
    let n = decimal_complete 4294967295 connections (decimal connections) (omega arith) (refl, (omega (arith, w.connections_range.0), omega (arith, w.connections_range.1))) in
    let t = decimal_complete 4294967295 turns (decimal turns) (omega arith) (refl, (omega (arith, w.turns_range.0), omega (arith, w.turns_range.1))) in
    let c = ce_complete ce w.ce_word w.ce_range w.ce_digits in
    let plain_fe = plain_decimal fe (decimal fe) w.fe_range.0 (omega (arith, w.fe_range.1)) refl in
    let plain_ce = not_dashed w.ce_word (ce_digits ce w.ce_word w.ce_digits) in
    let plain_connections = plain_decimal connections (decimal connections) w.connections_range.0 (omega (arith, w.connections_range.1)) refl in
    let plain_turns = plain_decimal turns (decimal turns) w.turns_range.0 (omega (arith, w.turns_range.1)) refl in
    let given : List (List ℕ) = codes "element" ∷ decimal fe ∷ w.ce_word ∷ address ∷ decimal connections ∷ decimal turns ∷ [] in
    let plain : are_plain given ≡ true = rw (plain_fe, plain_ce, w.address_plain, plain_connections, plain_turns) refl in
    let values : element_of (decimal fe) w.ce_word address (decimal connections) (decimal turns) ≡ Some (Element fe ce address connections turns) = rw (f, c, nonempty_complete address w.address_some, n, t) refl in
    ap command_of w.all ∙ ap (λ (b : Bool). if b then named_first given else None) plain ∙ values

pub words_of_element : (words : List (List ℕ)) (fe ce : ℕ) (address : List ℕ) (connections turns : ℕ) → command_of words ≡ Some (Element fe ce address connections turns) ↔ IsElement words fe ce address connections turns
words_of_element words fe ce address connections turns =
    (λ e. let (plain, first) = meant words _ e in element_sound words fe ce address connections turns plain first, element_complete words fe ce address connections turns)

control_sound : (words : List (List ℕ)) (ce : ℕ) (rounds : List ℕ) (connections turns : ℕ) (addresses : List (List ℕ)) → are_plain words ≡ true
    → named_first words ≡ Some (Control ce rounds connections turns addresses) → IsControl words ce rounds connections turns addresses
control_sound [] ce rounds connections turns addresses plain e = cc
control_sound (name ∷ rest) ce rounds connections turns addresses plain e =
    by_name (bytes_eq name (codes "show")) (bytes_eq name (codes "make")) (bytes_eq name (codes "world")) (bytes_eq name (codes "gen")) (bytes_eq name (codes "element")) (bytes_eq name (codes "control")) rest (Control ce rounds connections turns addresses) e
    (λ test h. absurd (shown_is_control (sym (alone_is rest Show _ h).1)))
    (λ test h. absurd (made_is_control (sym (alone_is rest Make _ h).1)))
    (λ test h. absurd (world_is_control (sym (alone_is rest World _ h).1)))
    (λ test h. absurd (gen_is_control (sym (counted_of rest _ h).is)))
    (λ test h. absurd (element_is_control (sym (five_of rest _ h).values.is)))
    (λ test h. from_many ((bytes_eq-Decides name (codes "control")).0 test) (many_of rest _ h))
  where
    from_many : name ≡ codes "control" → Many rest (Control ce rounds connections turns addresses) → IsControl (name ∷ rest) ce rounds connections turns addresses
    from_many is_name many =
        let v = many.values in
        let same_ce : v.c ≡ ce = cc in
        let same_rounds : many.rounds ≡ rounds = cc in
        let same_connections : v.n ≡ connections = cc in
        let same_turns : v.t ≡ turns = cc in
        let same_addresses : many.address ∷ many.more ≡ addresses = cc in
        let c = ce_sound ce many.ce (v.ce_spelled ∙ ap Some same_ce) in
        let n = decimal_sound 4294967295 connections many.connections (v.connections_spelled ∙ ap Some same_connections) in
        let t = decimal_sound 4294967295 turns many.turns (v.turns_spelled ∙ ap Some same_turns) in
        let (_, after_name) = plain_word name rest plain in
        let (_, after_ce) = plain_word many.ce (many.rounds ∷ many.connections ∷ many.turns ∷ many.address ∷ many.more) (subst (λ ws. are_plain ws ≡ true) many.all after_name) in
        let (plain_rounds, after_rounds) = plain_word many.rounds (many.connections ∷ many.turns ∷ many.address ∷ many.more) after_ce in
        let (_, after_connections) = plain_word many.connections (many.turns ∷ many.address ∷ many.more) after_rounds in
        let (_, after_turns) = plain_word many.turns (many.address ∷ many.more) after_connections in
        record {
          ce_word = many.ce;
          all = rw (is_name, many.all, same_rounds, n.0, t.0, same_addresses) refl;
          ce_digits = c.1;
          ce_range = c.0;
          rounds_some = subst (λ text. text ≢ []) same_rounds v.rounds_some;
          rounds_plain = subst (λ text. is_dashed text ≡ false) same_rounds plain_rounds;
          connections_range = (omega (arith, n.1.0), omega (arith, n.1.1));
          turns_range = (omega (arith, t.1.0), omega (arith, t.1.1));
          addresses_some = subst (λ ls. ls ≢ []) same_addresses (λ none. cc none);
          addresses_texts = subst (λ ls. are_texts ls ≡ true) same_addresses v.texts;
          addresses_plain = subst (λ ls. are_plain ls ≡ true) same_addresses after_turns;
        }

-- there is an address at least
some_words : (ce rounds connections turns : List ℕ) (addresses : List (List ℕ)) → addresses ≢ []
    → control (ce ∷ rounds ∷ connections ∷ turns ∷ addresses) ≡ control_of ce rounds connections turns addresses
some_words ce rounds connections turns [] some = absurd (some refl)
some_words ce rounds connections turns (address ∷ more) some = refl

control_complete : (words : List (List ℕ)) (ce : ℕ) (rounds : List ℕ) (connections turns : ℕ) (addresses : List (List ℕ)) → IsControl words ce rounds connections turns addresses
    → command_of words ≡ Some (Control ce rounds connections turns addresses)
control_complete words ce rounds connections turns addresses w =
    let n = decimal_complete 4294967295 connections (decimal connections) (omega arith) (refl, (omega (arith, w.connections_range.0), omega (arith, w.connections_range.1))) in
    let t = decimal_complete 4294967295 turns (decimal turns) (omega arith) (refl, (omega (arith, w.turns_range.0), omega (arith, w.turns_range.1))) in
    let c = ce_complete ce w.ce_word w.ce_range w.ce_digits in
    let plain_ce = not_dashed w.ce_word (ce_digits ce w.ce_word w.ce_digits) in
    let plain_connections = plain_decimal connections (decimal connections) w.connections_range.0 (omega (arith, w.connections_range.1)) refl in
    let plain_turns = plain_decimal turns (decimal turns) w.turns_range.0 (omega (arith, w.turns_range.1)) refl in
    let given : List (List ℕ) = codes "control" ∷ w.ce_word ∷ rounds ∷ decimal connections ∷ decimal turns ∷ addresses in
    let plain : are_plain given ≡ true = rw (plain_ce, w.rounds_plain, plain_connections, plain_turns, w.addresses_plain) refl in
    let values : control_of w.ce_word rounds (decimal connections) (decimal turns) addresses ≡ Some (Control ce rounds connections turns addresses) =
    rw (c, nonempty_complete rounds w.rounds_some, n, t, w.addresses_texts) refl in
    ap command_of w.all ∙ ap (λ (b : Bool). if b then named_first given else None) plain ∙ some_words w.ce_word rounds (decimal connections) (decimal turns) addresses w.addresses_some ∙ values

pub words_of_control : (words : List (List ℕ)) (ce : ℕ) (rounds : List ℕ) (connections turns : ℕ) (addresses : List (List ℕ)) → command_of words ≡ Some (Control ce rounds connections turns addresses) ↔ IsControl words ce rounds connections turns addresses
words_of_control words ce rounds connections turns addresses =
    (λ e. let (plain, first) = meant words _ e in control_sound words ce rounds connections turns addresses plain first, control_complete words ce rounds connections turns addresses)

-- words that differ in their case alone
ce_same : (word other : List ℕ) (a b : Option ℕ) → str_to_ascii_uppercase word ≡ str_to_ascii_uppercase other → ce_of word ≡ a → ce_of other ≡ b → a ≡ b
ce_same word other (Some n) b same e h =
    let (ce, digits) = ce_sound n word e in
    sym (ce_complete n other ce (sym same ∙ digits)) ∙ h
ce_same word other None (Some n) same e h =
    let (ce, digits) = ce_sound n other h in
    sym e ∙ ce_complete n word ce (same ∙ digits)
ce_same word other None None same e h = refl

pub either_case : (word other : List ℕ) → str_to_ascii_uppercase word ≡ str_to_ascii_uppercase other → ce_of word ≡ ce_of other
either_case word other same = ce_same word other (ce_of word) (ce_of other) same refl refl
