-- What was seen of an input that is read whole. This profile's own.
use Rattle.std.specs.Prelude.{◌≡◌, ◌≤◌, ◌+◌, ℕ, List, length, Option, Result, Ok, Err}
use Rattle.std.specs.Io.KnownBytes.{Consumes, IsAtEnd}
use Rattle.fc_base.specs.Causes.{Rose}
use Rattle.fc_base.specs.declared.faults.Memory.{Memory}
use Rattle.fc_endings.specs.declared.input.Look.{Look}
use Rattle.fc_endings.specs.declared.input.Look.TheVariants as look

-- What was seen of an input of which so many bytes are looked at, and which of its bytes were read: it was read whole, it is
-- longer, it can't be read.
abbrev pub LookEnds : ℕ → Result Look Memory → List ℕ → Option (List ℕ) → Option (List ℕ) → Type 0
LookEnds limit (Ok look.Whole) bytes before left = Consumes before left bytes × IsAtEnd left × (length bytes ≤ limit)
LookEnds limit (Ok look.TooLong) bytes before left = Consumes before left bytes × (length bytes ≡ limit + 1)
LookEnds limit (Ok look.ReadFault) bytes before left = Consumes before left bytes × (length bytes ≤ limit)
LookEnds limit (Err e) bytes before left = Consumes before left bytes × (length bytes ≤ limit)

abbrev pub LookCount : Result Look Memory → ℕ → ℕ → Type 0
LookCount (Ok look.ReadFault) before now = Rose before now
LookCount (Ok look.Whole) before now = now ≡ before
LookCount (Ok look.TooLong) before now = now ≡ before
LookCount (Err e) before now = now ≡ before
