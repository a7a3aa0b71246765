-- What an answer of reading a text is to what the text spells, and to the place at which it fails.
use Rattle.std.proofs.Common.{◌≡◌, ℕ, true, List, IfOk, Result, Ok, Err, subst}
use Rattle.std.specs.List.{AllByRecursion}
use Rattle.fc_path.specs.declared.oper.Select.{Select}
use Rattle.fc_msg.specs.Messages.{IsProper, message_fits}
use Rattle.fc_msg.specs.declared.message.Message.{Message}
use Rattle.fc_text.specs.TextGrammar.{SpellsSelects, SpellsText}
use Rattle.fc_lines.specs.TextPlaces.{TextPlace, place, Gives, RefusedAt}
use Rattle.fc_text.specs.TextReading.{text_in, body_in}
use Rattle.fc_lines.specs.declared.fault.TextFault.{TextFault}
use Rattle.fc_lines.specs.declared.fault.TextFault.TheVariants.{At, Memory}
use Rattle.fc_text.proofs.Completeness.{spelled_body_is_read, spelled_text_is_read}
use Rattle.fc_text.proofs.SoundMessages.{read_body_is_spelled, read_text_is_spelled}

pub is_spelled : (bytes : List ℕ) (r : Result (List Message) TextFault) → Gives r (text_in bytes) → IfOk r (λ ms. SpellsText ms bytes)
is_spelled bytes (Ok ms) told = read_text_is_spelled ms bytes told
is_spelled bytes (Err fault) told = tt

pub are_proper : (bytes : List ℕ) (r : Result (List Message) TextFault) → Gives r (text_in bytes) → IfOk r (λ ms. AllByRecursion IsProper ms)
are_proper bytes (Ok ms) told = (read_text_is_spelled ms bytes told).proper
are_proper bytes (Err fault) told = tt

pub are_fit : (bytes : List ℕ) (r : Result (List Message) TextFault) → Gives r (text_in bytes) → IfOk r (λ ms. AllByRecursion (λ m. message_fits m ≡ true) ms)
are_fit bytes (Ok ms) told = (read_text_is_spelled ms bytes told).fit
are_fit bytes (Err fault) told = tt

pub only_those : (bytes : List ℕ) (r : Result (List Message) TextFault) (ms : List Message) → Gives r (text_in bytes) → SpellsText ms bytes → Gives r (Ok ms)
only_those bytes r ms told s = subst (λ (read : Result (List Message) TextPlace). Gives r read) (spelled_text_is_read ms bytes s) told

-- what holds of each place at which reading fails holds of the place that is told
pub told_at : {X : Type 0} (Is : TextPlace → Type 0) (read : Result X TextPlace) (r : Result X TextFault) → ((p : TextPlace) → read ≡ Err p → Is p) → Gives r read → RefusedAt Is r
told_at Is read (Ok x) each told = tt
told_at Is read (Err (At line column)) each told = each (place line column) told
told_at Is read (Err Memory) each told = tt

-- the LFBselects of a Config that are read are those that the bytes spell
pub selects_spelled : (bytes : List ℕ) (r : Result (List Select) TextFault) → Gives r (body_in bytes) → IfOk r (λ ss. SpellsSelects ss bytes)
selects_spelled bytes (Ok ss) told = read_body_is_spelled ss bytes told
selects_spelled bytes (Err fault) told = tt

pub only_selects : (bytes : List ℕ) (r : Result (List Select) TextFault) (ss : List Select) → Gives r (body_in bytes) → SpellsSelects ss bytes → Gives r (Ok ss)
only_selects bytes r ss told s = subst (λ (read : Result (List Select) TextPlace). Gives r read) (spelled_body_is_read ss bytes s) told
