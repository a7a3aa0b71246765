-- Appending the bytes of messages, one message after the other.
use Rattle.std.proofs.Common.{◌≡◌, ◌<◌, ℕ, List, [], ◌∷◌, ◌++◌, length, true, false, Result, Ok, refl, sym, ap, ◌∙◌, append_assoc, append-nil}
use Rattle.std.specs.List.{flat_map}
use Rattle.std.proofs.lemmas.Grind.{flat_map-append}
use Rattle.fc_msg.specs.Messages.{canonical}
use Rattle.fc_msg.specs.declared.message.Message.{Message}
use Rattle.fc_lines.specs.LineWords.{LinesLeft, stands_at}
use Rattle.fc_lines.specs.TextPlaces.{TextPlace, Fails}
use Rattle.fc_text.specs.TextReading.{many_at, message_at}
use Rattle.fc_lines.specs.declared.fault.TextFault.{TextFault}
use Rattle.fc_text.proofs.Loops.{Going, begins, goes, fails, ends}

-- the bytes of messages
abbrev pub bytes_of : List Message → List ℕ
bytes_of ms = flat_map canonical ms

-- messages in front are read, and their bytes are appended
pub record Made (left : LinesLeft) (old now : List ℕ) (all : Result (List Message × LinesLeft) TextPlace) : Type 0 where
  pub front : List Message
  pub going : Going 0 message_at front left all
  pub bytes : now ≡ old ++ bytes_of front

pub none_made : (left : LinesLeft) (old : List ℕ) → Made left old old (many_at 0 message_at left)
none_made left old = record { front = []; going = begins 0 message_at [] left refl; bytes = sym (append-nil old) }

pub one_more : (left rest : LinesLeft) (old now next : List ℕ) (all : Result (List Message × LinesLeft) TextPlace) (m : Message) → Made left old now all → stands_at 0 left.lines ≡ true
    → message_at left ≡ Ok (m, rest) → length rest.lines < length left.lines → next ≡ now ++ canonical m → Made rest old next all
one_more left rest old now next all m made st is less e = record {
  front = made.front ++ m ∷ [];
  going = goes 0 message_at made.front left all (made.front ++ m ∷ []) rest m made.going st is less refl;
  bytes = e ∙ ap (λ l. l ++ canonical m) made.bytes ∙ append_assoc old (bytes_of made.front) (canonical m)
      ∙ ap (λ l. old ++ (bytes_of made.front ++ l)) (sym (append-nil (canonical m))) ∙ ap (λ l. old ++ l) (sym (flat_map-append canonical made.front (m ∷ [])));
}

pub one_fails : (left : LinesLeft) (old now : List ℕ) (all : Result (List Message × LinesLeft) TextPlace) (e : TextFault) → Made left old now all → stands_at 0 left.lines ≡ true
    → Fails e (message_at left) → Fails e all
one_fails left old now all e made st f = fails 0 message_at made.front left all e made.going st f

pub all_made : (left : LinesLeft) (old now : List ℕ) (all : Result (List Message × LinesLeft) TextPlace) → Made left old now all → stands_at 0 left.lines ≡ false
    → (ms : List Message) × (all ≡ Ok (ms, left)) × (now ≡ old ++ bytes_of ms)
all_made left old now all made st = (made.front, ends 0 message_at made.front left all made.going st, made.bytes)
