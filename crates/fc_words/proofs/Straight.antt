-- Words of which none begins with a dash go to the positionals one after the other.
use Rattle.std.proofs.Common.{◌≡◌, length, map, string_bytes, String, Global, IsSome, if◌then◌else◌, ℕ, ◌&&◌, not, Bool, true, false, List, [], ◌∷◌, Option, Some, None, codes, fold, refl, ap, ◌∙◌, arith}
use Rattle.std.proofs.lemmas.Bool.{and_parts}
use Rattle.clap.specs.Walk.{Held, Rule, Text, Waiting, Walk, idle, option, positional, value, arg_by_index, finished, first_of, nothing_held, is_multiple, to_positional, walk_from, walked, word_met}
use Rattle.clap.specs.Simple.{Shape, built, matches_of}
use Rattle.clap.specs.Takes.{takes, step_passes, turn_passes, walk_passes, word_passes}
use Rattle.clap.proofs.OnLiterals.{clap_on_literals}
use Rattle.std.proofs.lemmas.List.{length-map}
use Rattle.std.proofs.lemmas.Option.{same_Some}
use Rattle.clap.specs.Words.{first_value, rows_of}
use Rattle.clap.specs.declared.parser.matches.Found.{Found}
use Rattle.clap.proofs.WalkLemmas.{first_value-rows}
use Rattle.fc_words.specs.Commands.{is_dashed, are_plain}
use Rattle.fc_words.specs.Positionals.{five_app}

-- no option waits for a value
abbrev pub waits_for_none : Waiting → Bool
waits_for_none (option id) = false
waits_for_none _ = true

word_is_value : (args : List Rule) (trailing : Bool) (waiting : Waiting) (position : ℕ) (word : Text) (h : Held) → is_dashed word ≡ false → waits_for_none waiting ≡ true
    → word_met args [] trailing waiting position word h ≡ (h, value)
word_is_value args true waiting position word h plain w = refl
word_is_value args false idle position [] h plain w = refl
word_is_value args false positional position [] h plain w = refl
word_is_value args false (option id) position word h plain w = cc
word_is_value args false idle position (b ∷ bs) h plain w = simp plain
word_is_value args false positional position (b ∷ bs) h plain w = simp plain

not_true : (b : Bool) → not b ≡ true → b ≡ false
not_true true h = cc
not_true false h = refl

waits_after : (b : Bool) → waits_for_none (if b then positional else idle) ≡ true
waits_after true = refl
waits_after false = refl

-- the walk in which each word goes to a positional
abbrev pub straight : List Rule → Walk → List Text → Walk
straight args w [] = w
straight args w (word ∷ rest) = straight args (to_positional args (arg_by_index args w.position) word w w.held) rest

-- a walk between two words, in which no option and no subcommand was met
pub record IsStraight (w : Walk) : Type 0 where
  pub waits : waits_for_none w.waiting ≡ true
  pub going : w.stopped ≡ None

pub plain_word : (word : Text) (rest : List Text) → are_plain (word ∷ rest) ≡ true → (is_dashed word ≡ false) × (are_plain rest ≡ true)
plain_word word rest h =
    let (first, more) = and_parts (not (is_dashed word)) (are_plain rest) h in
    (not_true (is_dashed word) first, more)

step_is : (args : List Rule) (w : Walk) (word : Text) → IsStraight w → is_dashed word ≡ false → walked args [] w word ≡ to_positional args (arg_by_index args w.position) word w w.held
unfolding walked
step_is args w word s plain =
    rw (s.going, word_is_value args w.is_trailing w.waiting w.position word w.held plain s.waits)

stays : (args : List Rule) (a : Option Rule) (word : Text) (w : Walk) → IsStraight w → IsStraight (to_positional args a word w w.held)
stays args None word w s = record { waits = s.waits; going = s.going }
stays args (Some a) word w s = record { waits = waits_after (is_multiple a); going = refl }

pub straight_walk : (args : List Rule) (words : List Text) (w : Walk) → IsStraight w → are_plain words ≡ true → fold (walked args []) w words ≡ straight args w words
straight_walk args [] w s h = refl
straight_walk args (word ∷ rest) w s h =
    let (plain, more) = plain_word word rest h in
    rw (step_is args w word s plain) (straight_walk args rest _ (stays args (arg_by_index args w.position) word w s) more)

-- each word has a positional, and what it ends passes
abbrev pub straight_passes : Shape → Walk → List Text → Bool
straight_passes s w [] = true
straight_passes s w (word ∷ rest) = step_passes s w.position w.held value && straight_passes s (to_positional s.rules (arg_by_index s.rules w.position) word w w.held) rest

word_is_fine : (s : Shape) (trailing : Bool) (waiting : Waiting) (word : Text) (h : Held) → is_dashed word ≡ false → waits_for_none waiting ≡ true
    → word_passes s [] trailing waiting word h ≡ true
word_is_fine s true waiting word h plain w = refl
word_is_fine s false idle [] h plain w = refl
word_is_fine s false positional [] h plain w = refl
word_is_fine s false (option id) word h plain w = cc
word_is_fine s false idle (b ∷ bs) h plain w = simp plain
word_is_fine s false positional (b ∷ bs) h plain w = simp plain

turn_is : (s : Shape) (w : Walk) (word : Text) → IsStraight w → is_dashed word ≡ false → turn_passes s [] w word ≡ step_passes s w.position w.held value
turn_is s w word t plain =
    rw (t.going, word_is_fine s w.is_trailing w.waiting word w.held plain t.waits, word_is_value s.rules w.is_trailing w.waiting w.position word w.held plain t.waits)

pub walk_is : (s : Shape) (words : List Text) (w : Walk) → IsStraight w → are_plain words ≡ true → walk_passes s [] w words ≡ straight_passes s w words
unfolding walk_passes
walk_is s [] w t h = refl
walk_is s (word ∷ rest) w t h =
    let (plain, more) = plain_word word rest h in
    rw (turn_is s w word t plain, step_is s.rules w word t plain)
    (ap (λ b. step_passes s w.position w.held value && b) (walk_is s rest _ (stays s.rules (arg_by_index s.rules w.position) word w t) more))

abbrev five_shape : Shape
five_shape = (built five_app).top

abbrev five_walk : List Text → Walk
five_walk = straight five_shape.rules (walk_from nothing_held)

pub start_is : IsStraight (walk_from nothing_held)
start_is = record { waits = refl; going = refl }

pub five_matches : (words : List Text) → are_plain words ≡ true → matches_of five_app words ≡ finished five_shape.rules (five_walk words).held
five_matches words h = ap (λ (w : Walk). finished five_shape.rules w.held) (straight_walk five_shape.rules words (walk_from nothing_held) start_is h)

pub five_taken : (a b c d e : Text) → are_plain (a ∷ b ∷ c ∷ d ∷ e ∷ []) ≡ true
    → takes five_app (a ∷ b ∷ c ∷ d ∷ e ∷ []) ≡ true
unfolding clap_on_literals
five_taken a b c d e h =
    let words : List Text = a ∷ b ∷ c ∷ d ∷ e ∷ [] in
    let walked_so = straight_walk five_shape.rules words (walk_from nothing_held) start_is h in
    let passes_so = walk_is five_shape words (walk_from nothing_held) start_is h in
    rw (passes_so, walked_so)

-- the words by the names of the positionals
pub record Named (f : Found) (words : List Text) : Type 0 where
  pub a : Text
  pub b : Text
  pub c : Text
  pub d : Text
  pub e : Text
  pub all : words ≡ a ∷ b ∷ c ∷ d ∷ e ∷ []
  pub first : first_value f (codes "first") ≡ Some a
  pub second : first_value f (codes "second") ≡ Some b
  pub third : first_value f (codes "third") ≡ Some c
  pub fourth : first_value f (codes "fourth") ≡ Some d
  pub fifth : first_value f (codes "fifth") ≡ Some e

pub named : (f : Found) (words : List Text) → length words ≡ 5 → are_plain words ≡ true → rows_of f ≡ matches_of five_app words → Named f words
named f (a ∷ b ∷ c ∷ d ∷ e ∷ []) five plain rows =
    let words : List Text = a ∷ b ∷ c ∷ d ∷ e ∷ [] in
    let found : (id : Text) → first_value f id ≡ first_of id (finished five_shape.rules (five_walk words).held) = λ id.
    first_value-rows f id ∙ ap (first_of id) (rows ∙ five_matches words plain) in
    record {
      a = a;
      b = b;
      c = c;
      d = d;
      e = e;
      all = refl;
      first = found (codes "first");
      second = found (codes "second");
      third = found (codes "third");
      fourth = found (codes "fourth");
      fifth = found (codes "fifth");
    }
named f [] five plain rows = absurd (omega (arith, five))
named f (a ∷ []) five plain rows = absurd (omega (arith, five))
named f (a ∷ b ∷ []) five plain rows = absurd (omega (arith, five))
named f (a ∷ b ∷ c ∷ []) five plain rows = absurd (omega (arith, five))
named f (a ∷ b ∷ c ∷ d ∷ []) five plain rows = absurd (omega (arith, five))
named f (a ∷ b ∷ c ∷ d ∷ e ∷ x ∷ xs) five plain rows = absurd (omega (arith, five))

pub words_taken : (words : List Text) → length words ≡ 5 → are_plain words ≡ true → takes five_app words ≡ true
words_taken (a ∷ b ∷ c ∷ d ∷ e ∷ []) five plain = five_taken a b c d e plain
words_taken [] five plain = absurd (omega (arith, five))
words_taken (a ∷ []) five plain = absurd (omega (arith, five))
words_taken (a ∷ b ∷ []) five plain = absurd (omega (arith, five))
words_taken (a ∷ b ∷ c ∷ []) five plain = absurd (omega (arith, five))
words_taken (a ∷ b ∷ c ∷ d ∷ []) five plain = absurd (omega (arith, five))
words_taken (a ∷ b ∷ c ∷ d ∷ e ∷ x ∷ xs) five plain = absurd (omega (arith, five))

pub there : {A : Type 0} (o : Option A) (x : A) → o ≡ Some x → IsSome o
there o x e = rw e

pub read_back : (f : Found) (words : List Text) → Named f words → (a b c d e : Text) → Some a ≡ first_value f (codes "first") → Some b ≡ first_value f (codes "second")
    → Some c ≡ first_value f (codes "third") → Some d ≡ first_value f (codes "fourth") → Some e ≡ first_value f (codes "fifth") → words ≡ a ∷ b ∷ c ∷ d ∷ e ∷ []
read_back f words n a b c d e fa fb fc fd fe =
    rw (n.all, same_Some _ _ (fa ∙ n.first), same_Some _ _ (fb ∙ n.second), same_Some _ _ (fc ∙ n.third), same_Some _ _ (fd ∙ n.fourth), same_Some _ _ (fe ∙ n.fifth))

-- the same of strings
pub names : (f : Found) (words : List (String Global)) → length words ≡ 5 → are_plain (map string_bytes words) ≡ true → rows_of f ≡ matches_of five_app (map string_bytes words) → Named f (map string_bytes words)
names f words five plain rows = named f (map string_bytes words) (rw length-map five) plain rows
