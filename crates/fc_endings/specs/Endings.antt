-- How a command ends that knows how it ends before it writes, and what its counts tell. This profile's own.
use Rattle.std.specs.Prelude.{◌≡◌, ◌⊎◌, ℕ, Bool, true, false, List, [], Option, Result, Ok, Err}
use Rattle.std.specs.Io.KnownBytes.{Appends}
use Rattle.fc_base.specs.Causes.{Rose}
use Rattle.fc_base.specs.Content.{AppendsFront}
use Rattle.fc_endings.specs.declared.stops.Stop.{Stop}
use Rattle.fc_endings.specs.declared.stops.Stop.TheVariants.{WriteFault, NoMemory}

-- it came to some end, and of what is to be written then a front was
abbrev pub CutShort : (E : Type 0) → (E → List ℕ → Type 0) → Option (List ℕ) → Option (List ℕ) → Type 0
CutShort E Went old new = (end : E) × (written : List ℕ) × Went end written × AppendsFront old new written

-- How a command ends, where `Went end written` says all that holds of an end but what was written, and `Lacked` what holds where
-- it was out of memory before it came to one.
abbrev pub CommandEnds : (E : Type 0) → (E → List ℕ → Type 0) → Type 0 → Result E Stop → Option (List ℕ) → Option (List ℕ) → Type 0
-- all was written
CommandEnds E Went Lacked (Ok end) old new = (written : List ℕ) × Went end written × Appends old new written
-- the sink failed
CommandEnds E Went Lacked (Err WriteFault) old new = CutShort E Went old new
-- out of memory for what was to be written, or before anything was
CommandEnds E Went Lacked (Err NoMemory) old new = CutShort E Went old new ⊎ (Lacked × Appends old new [])

-- a count that rose exactly where this is so
abbrev pub RoseIf : Bool → ℕ → ℕ → Type 0
RoseIf true before now = Rose before now
RoseIf false before now = now ≡ before

-- the count of a source or a hub, by whether an end tells that it failed; the writing may stop after it did
abbrev pub EndCount : {E : Type 0} → (E → Bool) → Result E Stop → ℕ → ℕ → Type 0
EndCount failed (Ok end) before now = RoseIf (failed end) before now
EndCount failed (Err stop) before now = (now ≡ before) ⊎ Rose before now
