-- What a Config asks of an element: a claim, a floor, a phase of a transaction, or anything else. Phases and flags are those of RFC 5810, sections 4.3.1.2 and 6.1; claims, floors and subjects are this profile's own.
use Rattle.std.specs.Prelude.{ℕ, ◌==◌, Bool, true, false, List, [], ◌∷◌, length, Option, Some, None, if◌then◌else◌}
use Rattle.std.specs.Option.{option_and_then}
use Rattle.fc_base.specs.Ids.{Txn}
use Rattle.fc_types.specs.declared.ty.Ty.{Ty}
use Rattle.fc_wire.specs.Bytes.{u32_at}
use Rattle.fc_path.specs.declared.oper.Oper.{Oper}
use Rattle.fc_path.specs.declared.oper.Oper.TheVariants as oper
use Rattle.fc_path.specs.declared.oper.Select.{Select}
use Rattle.fc_protocol.specs.Messages as protocol
use Rattle.fc_phases.specs.Shapes.{only_full, first_full, behind, single}
use Rattle.fc_phases.specs.Values.{subject, subject_in, opening_in}
use Rattle.fc_phases.specs.declared.asked.Asked.{Asked}
use Rattle.fc_phases.specs.declared.asked.Asked.TheVariants.{Claim, Floor, Plain, Start, Change, Commit, Complete, Abort, Malformed}
use Rattle.fc_phases.specs.declared.values.Subject.{Subject}
use Rattle.fc_phases.specs.declared.values.Opening.{Opening}

-- the word of a claim: four bytes for component 1, and nothing else
abbrev pub word_bytes : List ℕ → Option ℕ
word_bytes bytes = if length bytes == 4 then Some (u32_at bytes 0) else None

abbrev pub claim_word : List Select → Option ℕ
claim_word selects = option_and_then word_bytes (only_full 1 selects)

-- the floor: eight bytes for component 6, and nothing else
abbrev pub floor_bytes : List ℕ → Option Subject
floor_bytes bytes = if length bytes == 8 then Some (subject (u32_at bytes 0) (u32_at bytes 4)) else None

abbrev pub floor_in : List Select → Option Subject
floor_in selects = option_and_then floor_bytes (only_full 6 selects)

-- without the flag of a transaction
abbrev pub floor_or_plain : Option Subject → Asked
floor_or_plain None = Plain
floor_or_plain (Some floor) = Floor floor

abbrev pub claim_or : Option ℕ → List Select → Asked
claim_or None selects = floor_or_plain (floor_in selects)
claim_or (Some word) selects = Claim word

abbrev pub plain_asked : List Select → Asked
plain_asked selects = claim_or (claim_word selects) selects

-- a start of transaction
abbrev pub started : Option Opening → Asked
started None = Malformed
started (Some opening) = Start opening

-- an end of transaction by what stands behind the subject: COMMIT or TRCOMP alone
abbrev pub ended_by : Subject → Oper → Asked
ended_by x (oper.Paths kind paths) = Malformed
ended_by x oper.Commit = Commit x
ended_by x oper.Trcomp = Complete x
ended_by x (oper.CommitResponse code) = Malformed

abbrev pub ended : Subject → Option (List Oper) → Asked
ended x None = Malformed
ended x (Some []) = Malformed
ended x (Some (o ∷ [])) = ended_by x o
ended x (Some (o ∷ p ∷ more)) = Malformed

-- an abort: nothing stands behind the subject
abbrev pub aborted : Subject → Option (List Oper) → Asked
aborted x None = Malformed
aborted x (Some []) = Abort x
aborted x (Some (o ∷ more)) = Malformed

-- a phase with a subject
abbrev pub with_subject : ℕ → Option Subject → List Select → Asked
with_subject tp None selects = Malformed
with_subject tp (Some x) selects = if tp == 1 then Change x else (if tp == 2 then ended x (behind selects) else aborted x (behind selects))

-- what the first operation gives, where it has the shape
abbrev pub opening_at : Ty → Option (List ℕ) → Option Opening
opening_at ty bytes = option_and_then (opening_in ty) bytes

abbrev pub subject_at : Ty → Option (List ℕ) → Option Subject
subject_at ty bytes = option_and_then (subject_in ty) bytes

-- with the flag of a transaction: its phase is 0 start, 1 middle, 2 end or 3 abort
abbrev pub phase_asked : Ty → Ty → ℕ → List Select → Asked
phase_asked openings subjects tp selects =
    if tp == 0 then started (opening_at openings (first_full 4 selects))
    else with_subject tp (subject_at subjects (first_full 5 selects)) selects

-- by the types of Opening and Subject, the execution mode, and the flags of a transaction
abbrev pub asked : Ty → Ty → ℕ → Bool → ℕ → List Select → Asked
asked openings subjects em false tp selects = plain_asked selects
asked openings subjects em true tp selects = if em == 1 then phase_asked openings subjects tp selects else Malformed

-- the transaction that a subject names
abbrev pub txn_of : Subject → Txn
txn_of x = record { epoch = x.epoch; number = x.number }

-- a claim is one only where the count of its correlator is 0
abbrev pub claim_at : ℕ → ℕ → protocol.Body
claim_at count word = if count == 0 then protocol.Claim word else protocol.Plain

-- what the protocol sees of a Config with this count
abbrev pub body_of : ℕ → Asked → protocol.Body
body_of count (Claim word) = claim_at count word
body_of count (Floor floor) = protocol.Floor (txn_of floor)
body_of count Plain = protocol.Plain
body_of count (Start opening) = protocol.Sot (record { epoch = opening.epoch; number = opening.number }) opening.participants opening.instances
body_of count (Change x) = protocol.Mot (txn_of x) 0
body_of count (Commit x) = protocol.Eot (txn_of x)
body_of count (Complete x) = protocol.Trcomp (txn_of x)
body_of count (Abort x) = protocol.Abt (txn_of x)
body_of count Malformed = protocol.Malformed
