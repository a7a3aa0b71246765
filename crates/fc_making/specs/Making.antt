-- What is appended of a text: the canonical bytes of its messages. This profile's own.
use Rattle.std.specs.Prelude.{◌≡◌, ℕ, List, ◌++◌, Result, Ok, Err}
use Rattle.std.specs.List.{flat_map}
use Rattle.fc_msg.specs.Messages.{canonical}
use Rattle.fc_msg.specs.declared.message.Message.{Message}
use Rattle.fc_lines.specs.TextPlaces.{TextPlace, Fails}
use Rattle.fc_lines.specs.declared.fault.TextFault.{TextFault}

-- a call that makes the bytes of what it reads has appended those of all messages, or it answers why there are none and has
-- appended nothing
abbrev pub Makes : Result (Unit {0}) TextFault → Result (List Message) TextPlace → List ℕ → List ℕ → Type 0
Makes (Ok done) read old new = (ms : List Message) × (read ≡ Ok ms) × (new ≡ old ++ flat_map canonical ms)
Makes (Err fault) read old new = Fails fault read × (new ≡ old)
