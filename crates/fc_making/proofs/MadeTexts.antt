-- What an answer of making bytes is to what the text spells, and to the place at which it fails.
use Rattle.std.proofs.Common.{◌≡◌, ℕ, List, ◌++◌, OnOk, Result, Ok, Err, subst}
use Rattle.std.specs.List.{flat_map}
use Rattle.fc_msg.specs.Messages.{canonical}
use Rattle.fc_msg.specs.declared.message.Message.{Message}
use Rattle.fc_lines.specs.TextPlaces.{TextPlace, place, RefusedAt}
use Rattle.fc_lines.specs.declared.fault.TextFault.{TextFault}
use Rattle.fc_lines.specs.declared.fault.TextFault.TheVariants.{At, Memory}
use Rattle.fc_text.specs.TextGrammar.{SpellsText}
use Rattle.fc_text.specs.TextReading.{text_in}
use Rattle.fc_text.proofs.Completeness.{spelled_text_is_read}
use Rattle.fc_text.proofs.SoundMessages.{read_text_is_spelled}
use Rattle.fc_making.specs.Making.{Makes}

-- the bytes that are made of a text are those of the messages that it spells
pub made_spelled : (bytes old new : List ℕ) (r : Result (Unit {0}) TextFault) → Makes r (text_in bytes) old new
    → OnOk r ((ms : List Message) × (text_in bytes ≡ Ok ms) × SpellsText ms bytes × (new ≡ old ++ flat_map canonical ms))
made_spelled bytes old new (Ok done) (ms, is, e) = (ms, is, read_text_is_spelled ms bytes is, e)
made_spelled bytes old new (Err fault) made = tt

pub made_only : (bytes old new : List ℕ) (r : Result (Unit {0}) TextFault) (ms : List Message) → Makes r (text_in bytes) old new → SpellsText ms bytes → Makes r (Ok ms) old new
made_only bytes old new r ms made s = subst (λ read. Makes r read old new) (spelled_text_is_read ms bytes s) made

pub made_at : (Is : TextPlace → Type 0) (read : Result (List Message) TextPlace) (old new : List ℕ) (r : Result (Unit {0}) TextFault) → ((p : TextPlace) → read ≡ Err p → Is p) → Makes r read old new → RefusedAt Is r
made_at Is read old new (Ok done) each made = tt
made_at Is read old new (Err (At line column)) each made = each (place line column) made.0
made_at Is read old new (Err Memory) each made = tt
