-- What `make` writes of the text that it read, by how it ends. This profile's own.
use Rattle.std.specs.Prelude.{◌≡◌, ◌⊎◌, ◌≤◌, ℕ, Bool, true, false, List, [], ◌++◌, length, codes, decimal, Option, Result, Ok, Err, ⊤}
use Rattle.std.specs.List.{flat_map}
use Rattle.std.specs.Io.KnownBytes.{Consumes}
use Rattle.fc_msg.specs.Messages.{canonical}
use Rattle.fc_msg.specs.declared.message.Message.{Message}
use Rattle.fc_text.specs.FirstMisfit.{FirstMisfit, FitsMessages, IsWithin, TooLongAt}
use Rattle.fc_text.specs.TextGrammar.{SpellsText}
use Rattle.fc_lines.specs.TextPlaces.{TextPlace}
use Rattle.fc_text.specs.TextReading.{text_in}
use Rattle.fc_endings.specs.declared.input.Look.{Look}
use Rattle.fc_endings.specs.declared.input.Look.TheVariants as look
use Rattle.fc_tool.specs.declared.make.Made.{Made}
use Rattle.fc_tool.specs.declared.make.Made.TheVariants.{Done, ReadFault, Refused, TooLong}
use Rattle.fc_endings.specs.declared.stops.Stop.{Stop}
use Rattle.fc_endings.specs.Looks.{LookEnds}
use Rattle.fc_endings.specs.Endings.{CommandEnds}
use Rattle.fc_endings.specs.Stops.{stop_status}

-- the canonical bytes of the messages
abbrev pub bytes_of : List Message → List ℕ
bytes_of ms = flat_map canonical ms

-- the line of a text that is refused at a place
unfoldable pub text_refusal : TextPlace → List ℕ
text_refusal at = codes "refused text " ++ (decimal at.line ++ (codes " " ++ (decimal at.column ++ codes "\n")))

-- what was seen of the input where `make` ends so
abbrev pub look_of : Made → Look
look_of Done = look.Whole
look_of ReadFault = look.ReadFault
look_of Refused = look.Whole
look_of TooLong = look.TooLong

-- the bytes are a text of these messages by its grammar, and whatever messages they are a text of, it is the bytes of those that are
-- written
abbrev pub IsTextOf : List Message → List ℕ → List ℕ → Type 0
IsTextOf ms bytes written = SpellsText ms bytes × ((ns : List Message) → SpellsText ns bytes → written ≡ bytes_of ns)

-- the bytes are a text of no messages by its grammar; nothing fits first at the place, or a message that can't be encoded begins there;
-- and the place is within the text, or right after a line or the text
abbrev pub IsRefusedAt : TextPlace → List ℕ → Type 0
IsRefusedAt at bytes =
    ((ms : List Message) → SpellsText ms bytes → ⊥) × (FirstMisfit FitsMessages at bytes ⊎ TooLongAt at bytes) × IsWithin at bytes

-- where `make` ends so, this is written of the bytes that were read
abbrev pub Makes : Made → List ℕ → List ℕ → Type 0
-- the bytes are the text of messages, whose canonical bytes are written
Makes Done bytes written = (ms : List Message) × (text_in bytes ≡ Ok ms) × (written ≡ bytes_of ms) × IsTextOf ms bytes written
-- they are the text of none, and the place is written at which they fail first
Makes Refused bytes written = (at : TextPlace) × (text_in bytes ≡ Err at) × (written ≡ text_refusal at) × IsRefusedAt at bytes
-- the input can't be read, or is too long
Makes ReadFault bytes written = written ≡ []
Makes TooLong bytes written = written ≡ []

-- `make` came to an end over an input of which so many bytes are looked at, and this is to be written
abbrev pub MakeWent : ℕ → Option (List ℕ) → Option (List ℕ) → Made → List ℕ → Type 0
MakeWent limit before left end written = (bytes : List ℕ) × LookEnds limit (Ok (look_of end)) bytes before left × Makes end bytes written

-- out of memory before it came to one
abbrev pub MakeLacked : ℕ → Option (List ℕ) → Option (List ℕ) → Type 0
MakeLacked limit before left = (bytes : List ℕ) × Consumes before left bytes × (length bytes ≤ limit)

-- How `make` ends: what was read of an input of which so many bytes are looked at, and what was written.
abbrev pub MakeEnds : ℕ → Result Made Stop → Option (List ℕ) → Option (List ℕ) → Option (List ℕ) → Option (List ℕ) → Type 0
MakeEnds limit how before left old new = CommandEnds Made (MakeWent limit before left) (MakeLacked limit before left) how old new

-- the same of what was written alone, once the input was read whole
abbrev pub TextWent : List ℕ → Made → List ℕ → Type 0
TextWent bytes end written = (look_of end ≡ look.Whole) × Makes end bytes written

abbrev pub TextEnds : List ℕ → Result Made Stop → Option (List ℕ) → Option (List ℕ) → Type 0
TextEnds bytes how old new = CommandEnds Made (TextWent bytes) ⊤ how old new

-- the ends that tell that the input can't be read
abbrev pub is_unread : Made → Bool
is_unread ReadFault = true
is_unread Done = false
is_unread Refused = false
is_unread TooLong = false

-- the endings that tell what the input is
abbrev pub IsTold : Made → Type 0
IsTold Done = ⊤
IsTold Refused = ⊤
IsTold TooLong = ⊤
IsTold ReadFault = ⊥

-- the status of each ending
abbrev pub make_status : Result Made Stop → ℕ
make_status (Ok Done) = 0
make_status (Ok ReadFault) = 2
make_status (Ok Refused) = 5
make_status (Ok TooLong) = 12
make_status (Err stop) = stop_status stop
