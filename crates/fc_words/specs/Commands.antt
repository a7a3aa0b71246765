-- What the words of a command line mean (this profile's own).
use Rattle.std.specs.Prelude.{◌≡◌, ◌≢◌, ◌<◌, ◌≤◌, ◌^◌, ℕ, ◌==◌, not, Bool, true, false, List, [], ◌∷◌, codes, decimal, Option, Some, None, Result, Ok, Err, if◌then◌else◌}
use Rattle.std.specs.List.{list_all}
use Rattle.std.specs.Str.{bytes_eq, str_to_ascii_uppercase}
use Rattle.fc_base.specs.Hex.{hex}
use Rattle.fc_base.specs.Ids.{IsFe, IsCe}
use Rattle.fc_words.specs.Numbers.{decimal_up_to, ce_of}
use Rattle.fc_words.specs.declared.commands.Command.{Command}
use Rattle.fc_words.specs.declared.commands.Command.TheVariants.{Control, Element, Gen, Make, Show, World}
use Rattle.fc_words.specs.declared.commands.WordFault.{WordFault}
use Rattle.fc_words.specs.declared.commands.WordFault.TheVariants.{NoCommand, Memory}

-- The answer is what the words mean, and that they mean nothing where they are said to be no command; it says nothing where
-- there was no memory.
abbrev pub Gives : Result Command WordFault → Option Command → Type 0
Gives (Ok command) meant = meant ≡ Some command
Gives (Err NoCommand) meant = meant ≡ None
Gives (Err Memory) meant = Unit {0}

-- whether a word begins with '-'
abbrev pub is_dashed : List ℕ → Bool
is_dashed [] = false
is_dashed (b ∷ bs) = b == 45

-- whether no word begins with '-'
abbrev pub are_plain : List (List ℕ) → Bool
are_plain = list_all (λ word. not (is_dashed word))

abbrev pub ArePlain : List (List ℕ) → Type 0
ArePlain words = are_plain words ≡ true

-- the value of an option goes into the next step
infixl 10 ◌>>=◌
abbrev pub ◌>>=◌ : {A B : Type 0} → Option A → (A → Option B) → Option B
Some x >>= next = next x
None >>= next = None

abbrev pub nonempty : List ℕ → Option (List ℕ)
nonempty [] = None
nonempty (b ∷ bs) = Some (b ∷ bs)

-- a command that stands alone
abbrev pub alone : Command → List (List ℕ) → Option Command
alone command [] = Some command
alone command _ = None

-- The value of `gen`: how many transactions there are, from 1 to 1,000 in decimal.
abbrev pub gen_of : List ℕ → Option Command
gen_of count = decimal_up_to 1000 count >>= λ n. Some (Gen n)

-- `gen` has one word after it
abbrev pub gen : List (List ℕ) → Option Command
gen (count ∷ []) = gen_of count
gen _ = None

-- The values of `element`: FE is a forwarding element's ID in decimal, CE a control element's ID in hexadecimal, ADDRESS any
-- text but the empty one, CONNECTIONS and TURNS are counts from 1 in decimal.
abbrev pub element_of : List ℕ → List ℕ → List ℕ → List ℕ → List ℕ → Option Command
element_of fe ce address connections turns =
    decimal_up_to 1073741823 fe >>= λ f.
    ce_of ce >>= λ c.
    nonempty address >>= λ a.
    decimal_up_to 4294967295 connections >>= λ n.
    decimal_up_to 4294967295 turns >>= λ t.
    Some (Element f c a n t)

-- `element` has five words after it
abbrev pub element : List (List ℕ) → Option Command
element (fe ∷ ce ∷ address ∷ connections ∷ turns ∷ []) = element_of fe ce address connections turns
element _ = None

-- whether a word is not empty
abbrev pub is_text : List ℕ → Bool
is_text [] = false
is_text (b ∷ bs) = true

abbrev pub are_texts : List (List ℕ) → Bool
are_texts = list_all is_text

-- The values of `control`: CE is a control element's ID in hexadecimal, ROUNDSFILE and the addresses any texts but the empty one,
-- CONNECTIONS and TURNS counts from 1 in decimal.
abbrev pub control_of : List ℕ → List ℕ → List ℕ → List ℕ → List (List ℕ) → Option Command
control_of ce rounds connections turns addresses =
    ce_of ce >>= λ c.
    nonempty rounds >>= λ r.
    decimal_up_to 4294967295 connections >>= λ n.
    decimal_up_to 4294967295 turns >>= λ t.
    if are_texts addresses then Some (Control c r n t addresses) else None

-- `control` has four words after it, and then an address at least
abbrev pub control : List (List ℕ) → Option Command
control (ce ∷ rounds ∷ connections ∷ turns ∷ address ∷ more) = control_of ce rounds connections turns (address ∷ more)
control _ = None

-- the command of a name, with the words after it
abbrev pub named : List ℕ → List (List ℕ) → Option Command
named name words =
    if bytes_eq name (codes "show") then alone Show words
    else if bytes_eq name (codes "make") then alone Make words
    else if bytes_eq name (codes "world") then alone World words
    else if bytes_eq name (codes "gen") then gen words
    else if bytes_eq name (codes "element") then element words
    else if bytes_eq name (codes "control") then control words
    else None

abbrev pub named_first : List (List ℕ) → Option Command
named_first [] = None
named_first (name ∷ words) = named name words

-- The command that words mean: the first names it, and none begins with '-'.
abbrev pub command_of : List (List ℕ) → Option Command
command_of words = if are_plain words then named_first words else None

-- Words that mean `gen` with this number, which is written as it stands.
pub record IsGen (words : List (List ℕ)) (n : ℕ) : Type 0 where
  pub all : words ≡ codes "gen" ∷ decimal n ∷ []
  pub range : (0 < n) × (n ≤ 1000)

-- Words that mean `element` with these values: the numbers are written as they stand, the ID of the control element in digits
-- of either case.
pub record IsElement (words : List (List ℕ)) (fe ce : ℕ) (address : List ℕ) (connections turns : ℕ) : Type 0 where
  pub ce_word : List ℕ
  pub all : words ≡ codes "element" ∷ decimal fe ∷ ce_word ∷ address ∷ decimal connections ∷ decimal turns ∷ []
  pub ce_digits : str_to_ascii_uppercase ce_word ≡ hex 8 ce
  pub fe_range : IsFe fe
  pub ce_range : IsCe ce
  pub address_some : address ≢ []
  pub address_plain : is_dashed address ≡ false
  pub connections_range : (0 < connections) × (connections < 2 ^ 32)
  pub turns_range : (0 < turns) × (turns < 2 ^ 32)

-- Words that mean `control` with these values: the numbers are written as they stand, the ID of the control element in digits of
-- either case.
pub record IsControl (words : List (List ℕ)) (ce : ℕ) (rounds : List ℕ) (connections turns : ℕ) (addresses : List (List ℕ)) : Type 0 where
  pub ce_word : List ℕ
  pub all : words ≡ codes "control" ∷ ce_word ∷ rounds ∷ decimal connections ∷ decimal turns ∷ addresses
  pub ce_digits : str_to_ascii_uppercase ce_word ≡ hex 8 ce
  pub ce_range : IsCe ce
  pub rounds_some : rounds ≢ []
  pub rounds_plain : is_dashed rounds ≡ false
  pub connections_range : (0 < connections) × (connections < 2 ^ 32)
  pub turns_range : (0 < turns) × (turns < 2 ^ 32)
  pub addresses_some : addresses ≢ []
  pub addresses_texts : are_texts addresses ≡ true
  pub addresses_plain : are_plain addresses ≡ true
