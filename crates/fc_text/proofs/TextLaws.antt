-- Laws of texts of messages.
use Rattle.std.proofs.Common.{◌≡◌, ◌<◌, ◌^◌, ℕ, true, List, [], ◌∷◌, Ok, append-nil, sym, subst, arith}
use Rattle.std.specs.List.{flat_map, AllByRecursion}
use Rattle.fc_wire.specs.Flags.{FlagValues, FlagsFit}
use Rattle.fc_msg.specs.Messages.{IsProper, message_fits}
use Rattle.fc_msg.specs.Reading.{flags_in}
use Rattle.fc_msg.specs.declared.message.Message.{Message}
use Rattle.fc_text.specs.Text.{message_text}
use Rattle.fc_text.specs.TextGrammar.{Word, Line, name, number, digits, octets, flags, message_lines, WordFits, LineFits, LinesFit, SpellsWord, SpellsLine, SpellsText, HasText, AreEach}
use Rattle.fc_text.specs.TextReading.{text_in}
use Rattle.fc_text.proofs.Completeness.{spelled_text_is_read}
use Rattle.fc_text.proofs.ReadItems.{each_split}
use Rattle.fc_text.proofs.Shown.{lines_shown, messages_same}
use Rattle.fc_text.proofs.WholeLines.{all_flat}

all_proper : (ms : List Message) → AllByRecursion HasText ms → AllByRecursion IsProper ms
all_proper [] h = tt
all_proper (m ∷ ms) h = (h.0.proper, all_proper ms h.1)

all_fit : (ms : List Message) → AllByRecursion HasText ms → AllByRecursion (λ m. message_fits m ≡ true) ms
all_fit [] h = tt
all_fit (m ∷ ms) h = (h.0.fits, all_fit ms h.1)

pub shown_spelled : (ms : List Message) → AllByRecursion HasText ms → SpellsText ms (flat_map message_text ms)
shown_spelled ms h = record {
  lines = lines_shown (flat_map message_lines ms) (flat_map message_text ms) (all_flat LineFits HasText message_lines (λ m t. t.ranges) ms h) (messages_same ms (all_proper ms h));
  proper = all_proper ms h;
  fit = all_fit ms h;
}

pub shown_read : (ms : List Message) → AllByRecursion HasText ms → text_in (flat_map message_text ms) ≡ Ok ms
shown_read ms h = spelled_text_is_read ms (flat_map message_text ms) (shown_spelled ms h)

pub one_spelled : (m : Message) → HasText m → SpellsText (m ∷ []) (message_text m)
one_spelled m h = subst (SpellsText (m ∷ [])) (append-nil (message_text m)) (shown_spelled (m ∷ []) (h, tt))

pub one_read : (m : Message) → HasText m → text_in (message_text m) ≡ Ok (m ∷ [])
one_read m h = spelled_text_is_read (m ∷ []) (message_text m) (one_spelled m h)

-- what is spelled is within its range
pub flags_fit : (values : FlagValues) (n : ℕ) → n < 16 ^ 8 → values ≡ flags_in n → FlagsFit values
flags_fit values n small e = subst FlagsFit (sym e) (omega arith, omega arith, omega arith, omega arith)

word_fits : (w : Word) (bytes : List ℕ) → SpellsWord w bytes → WordFits w
word_fits (name text) bytes s = tt
word_fits (number n) bytes s = s.0
word_fits (digits label count n) bytes s = s.0
word_fits (octets value) bytes s = s.0
word_fits (flags values) bytes s = flags_fit values s.0 s.2.0 s.1

each_fits : {A : Type 0} (Is : A → List ℕ → Type 0) (P : A → Type 0) (one : (x : A) (bytes : List ℕ) → Is x bytes → P x) (xs : List A) (texts : List (List ℕ)) → AreEach Is xs texts → AllByRecursion P xs
each_fits Is P one [] texts h = tt
each_fits Is P one (x ∷ xs) [] h = absurd h
each_fits Is P one (x ∷ xs) (t ∷ ts) h = (one x t h.0, each_fits Is P one xs ts h.1)

pub lines_fit : (ls : List Line) (texts : List (List ℕ)) → AreEach SpellsLine ls texts → LinesFit ls
lines_fit ls texts h = each_fits SpellsLine LineFits (λ l t s. each_fits SpellsWord WordFits word_fits l.words s.0 s.1) ls texts h

have_text : (ms : List Message) (texts : List (List ℕ)) → AreEach SpellsLine (flat_map message_lines ms) texts → AllByRecursion IsProper ms → AllByRecursion (λ m. message_fits m ≡ true) ms → AllByRecursion HasText ms
have_text [] texts h p f = tt
have_text (m ∷ ms) texts h p f =
    let s = each_split SpellsLine (message_lines m) (flat_map message_lines ms) texts h in
    (record { proper = p.0; fits = f.0; ranges = lines_fit (message_lines m) s.0 s.3 }, have_text ms s.1 s.4 p.1 f.1)

pub spelled_has_text : (ms : List Message) (bytes : List ℕ) → SpellsText ms bytes → AllByRecursion HasText ms
spelled_has_text ms bytes s = have_text ms s.lines.0 s.lines.1 s.proper s.fit
