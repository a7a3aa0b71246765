-- What a call that writes what it reads has done. This profile's own.
use Rattle.std.specs.Prelude.{◌≡◌, ℕ, ◌+◌, ◌&&◌, Bool, false, nat_lt, List, ◌++◌, length, map, Option, IfOk, Result, Ok, Err}
use Rattle.std.specs.List.{flat_map}
use Rattle.fc_base.specs.Answers.{◌>>=◌}
use Rattle.fc_base.specs.declared.faults.WriteFault.{WriteFault}
use Rattle.fc_base.specs.declared.faults.WriteFault.TheVariants as faults
use Rattle.fc_wire.specs.Bytes.{u16_bytes, u32_bytes}
use Rattle.fc_wire.specs.Writing.{Writing}
use Rattle.fc_wire.specs.declared.header.Header.{Header}
use Rattle.fc_path.specs.Canon.{Pushed, Written, joined, key_flags, key_written, path_written, wrapped}
use Rattle.fc_path.specs.Kinds.{number_of}
use Rattle.fc_path.specs.declared.oper.OperKind.{OperKind}
use Rattle.fc_path.specs.declared.path.PathData.{PathData}
use Rattle.fc_path.specs.declared.path.Key.{Key}
use Rattle.fc_msg.specs.Reading.{flags_in}
use Rattle.fc_msg.specs.declared.message.Message.{Message}
use Rattle.fc_lines.specs.declared.said.Head.{Head}
use Rattle.fc_lines.specs.LineReading.{Reader}
use Rattle.fc_lines.specs.TextPlaces.{TextPlace, Fails, place}
use Rattle.fc_lines.specs.declared.fault.TextFault.TheVariants as text_faults
use Rattle.fc_text.specs.TextReading.{whole_at}
use Rattle.fc_making.specs.declared.unwritten.Unwritten.{Unwritten}
use Rattle.fc_making.specs.declared.unwritten.Unwritten.TheVariants as unwritten

-- why what is read is not written: reading fails at the place that is told, or memory was wanting; or a length passes its
-- field, so that what is read, if anything is, does not fit
abbrev pub Refuses : {X S : Type 0} → Unwritten → Result (X × S) TextPlace → (X → Bool) → Type 0
Refuses (unwritten.Fault fault) read fits = Fails fault read
Refuses unwritten.TooLong read fits = IfOk read (λ x. fits x.0 ≡ false)

-- a fault of writing
abbrev pub unwritten_by : WriteFault → Unwritten
unwritten_by faults.TooLong = unwritten.TooLong
unwritten_by faults.Memory = unwritten.Fault text_faults.Memory

-- something is read, and its spelling appended; or it is not, and why
abbrev pub Writes : {X S : Type 0} → Result (Unit {0}) Unwritten → Result (X × S) TextPlace → S → (X → Written) → Writing → Writing → Type 0
Writes {X = X} (Ok done) read rest spelling old new = (x : X) × (read ≡ Ok (x, rest)) × Pushed (Ok tt) old new (spelling x)
Writes (Err error) read rest spelling old new = Refuses error read (λ x. (spelling x).fits)

-- what stands in a PATH-DATA in front of its body
abbrev pub steps_written : List ℕ × Option Key → Written
steps_written steps = record {
  text = u16_bytes (key_flags steps.1) ++ u16_bytes (length steps.0) ++ flat_map u32_bytes steps.0 ++ (key_written steps.1).text;
  fits = nat_lt (length steps.0) 65536 && (key_written steps.1).fits;
}

-- an operation that holds these PATH-DATA
abbrev pub operation_written : OperKind → List PathData → Written
operation_written kind paths = wrapped (number_of kind) (joined (map path_written paths))

-- the header of a message whose line says this, with the length of one alone
abbrev pub header_for : Head → Header
header_for head = record { kind = head.kind; words = 6; source = head.source; dest = head.dest; corr = head.corr; flags = flags_in head.flags }

-- a message that can't be encoded is refused at the first fault of its lines, or else at its first line
abbrev pub long_at : Reader Message
long_at left = whole_at left >>= λ m. Err (place (left.taken + 1) 1)
