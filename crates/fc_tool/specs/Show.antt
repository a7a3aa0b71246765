-- What `show` writes of the bytes that it read, by how it ends. This profile's own.
use Rattle.std.specs.Prelude.{◌≡◌, ◌≢◌, ◌⊎◌, ◌≤◌, ◌+◌, ◌-◌, ℕ, Bool, true, false, List, [], ◌∷◌, ◌++◌, length, take, Option, Some, None, Result, Ok, Err, ⊤}
use Rattle.std.specs.List.{flat_map}
use Rattle.std.specs.Io.KnownBytes.{Appends, Consumes, IsAtEnd}
use Rattle.fc_base.specs.Content.{AppendsFront}
use Rattle.fc_wire.specs.Frames.{joined, IsPartial, frame_len}
use Rattle.fc_msg.specs.Faults.{fault_of}
use Rattle.fc_msg.specs.Messages.{Spells}
use Rattle.fc_msg.specs.declared.fault.Refusal.{Refusal}
use Rattle.fc_msg.specs.declared.message.Message.{Message}
use Rattle.fc_text.specs.Text.{message_text}
use Rattle.fc_tool.specs.declared.show.Shown.{Shown}
use Rattle.fc_tool.specs.declared.show.Shown.TheVariants.{Done, ReadFault, Refused, TooLong}
use Rattle.fc_endings.specs.declared.stops.Stop.{Stop}
use Rattle.fc_endings.specs.Stops.{stop_status}
use Rattle.fc_tool.specs.Text.{refusal_text}

-- each frame spells the message
abbrev pub AreMessages : List Message → List (List ℕ) → Type 0
AreMessages [] [] = ⊤
AreMessages (m ∷ ms) (frame ∷ frames) = Spells m frame × AreMessages ms frames
AreMessages [] (frame ∷ frames) = ⊥
AreMessages (m ∷ ms) [] = ⊥

-- the bytes spell these messages, and then comes the rest
pub record Reaches (bytes : List ℕ) (ms : List Message) (rest : List ℕ) : Type 0 where
  pub frames : List (List ℕ)
  pub whole : bytes ≡ joined frames ++ rest
  pub each : AreMessages ms frames

-- the texts of the messages
abbrev pub text_of : List Message → List ℕ
text_of ms = flat_map message_text ms

-- what is written of a frame, or of a rest, that stands at a place of the input
abbrev pub IsTextOf : ℕ → List ℕ → List ℕ → Type 0
IsTextOf place frame text =
    ((m : Message) × Spells m frame × (text ≡ message_text m))
    ⊎ ((fault : Refusal) × (fault_of frame ≡ Some fault) × (text ≡ refusal_text place fault))

-- the next bytes that are looked at: a whole frame, or at the end of the input all that is left
abbrev pub IsNext : Type 0 → List ℕ → List ℕ → Type 0
IsNext at_end rest frame =
    ((frame_len rest ≤ length rest) × (frame ≡ take (frame_len rest) rest))
    ⊎ (at_end × IsPartial rest × (rest ≢ []) × (frame ≡ rest))

-- nothing, or what is written of the next bytes
abbrev pub IsNextText : Type 0 → ℕ → List ℕ → List ℕ → Type 0
IsNextText at_end place rest text =
    (text ≡ []) ⊎ ((frame : List ℕ) × IsNext at_end rest frame × IsTextOf place frame text)

-- The writing stopped: texts of the messages at the front of the bytes, which end at a place of the input, and a front
-- of what comes next.
abbrev pub StoppedAt : Type 0 → ℕ → List ℕ → Option (List ℕ) → Option (List ℕ) → Type 0
StoppedAt at_end fed bytes old new =
    (ms : List Message) × (rest : List ℕ) × (text : List ℕ) × Reaches bytes ms rest
    × IsNextText at_end (fed - length rest) rest text × AppendsFront old new (text_of ms ++ text)

-- The whole frames at the front of the bytes, which end at a place of the input, were shown up to the first that is
-- refused; so many bytes are left where none is.
abbrev pub PieceEnds : ℕ → List ℕ → List ℕ → Result (Option Refusal) Stop → Option (List ℕ) → Option (List ℕ) → Type 0
PieceEnds fed bytes left (Ok None) old new =
    (ms : List Message) × Reaches bytes ms left × IsPartial left × Appends old new (text_of ms)
PieceEnds fed bytes left (Ok (Some fault)) old new =
    (ms : List Message) × (rest : List ℕ) × Reaches bytes ms rest × (frame_len rest ≤ length rest)
    × (fault_of (take (frame_len rest) rest) ≡ Some fault) × Appends old new (text_of ms ++ refusal_text (fed - length rest) fault)
PieceEnds fed bytes left (Err stop) old new = StoppedAt ⊥ fed bytes old new

-- What was left at the end of the input, at a place of it, was refused where it was something.
abbrev pub RestEnds : ℕ → List ℕ → Result Shown Stop → Option (List ℕ) → Option (List ℕ) → Type 0
RestEnds place rest (Ok Done) old new = (rest ≡ []) × Appends old new []
RestEnds place rest (Ok Refused) old new =
    (rest ≢ []) × (fault : Refusal) × (fault_of rest ≡ Some fault) × Appends old new (refusal_text place fault)
RestEnds place rest (Ok ReadFault) old new = ⊥
RestEnds place rest (Ok TooLong) old new = ⊥
RestEnds place rest (Err stop) old new =
    (rest ≢ []) × (Appends old new [] ⊎ ((fault : Refusal) × (fault_of rest ≡ Some fault) × AppendsFront old new (refusal_text place fault)))

-- Where `show` ends so, these bytes were read, of which at most so many are looked at, and that was written.
-- `left` is what the source has left.
abbrev pub Ends : ℕ → Shown → List ℕ → Option (List ℕ) → Option (List ℕ) → Option (List ℕ) → Type 0
-- the input is messages, and no more
Ends limit Done bytes left old new =
    IsAtEnd left × (length bytes ≤ limit) × (ms : List Message) × Reaches bytes ms [] × Appends old new (text_of ms)
-- what was read is messages and less than a frame
Ends limit ReadFault bytes left old new =
    (length bytes ≤ limit) × (ms : List Message) × (rest : List ℕ) × Reaches bytes ms rest × IsPartial rest × Appends old new (text_of ms)
-- the first bytes that spell no message
Ends limit Refused bytes left old new =
    (length bytes ≤ limit) × (ms : List Message) × (rest : List ℕ) × (frame : List ℕ) × (fault : Refusal) × Reaches (take limit bytes) ms rest
    × IsNext (IsAtEnd left × (length bytes ≤ limit)) rest frame × (fault_of frame ≡ Some fault)
    × Appends old new (text_of ms ++ refusal_text (length (take limit bytes) - length rest) fault)
-- one byte more came than is looked at, and what is looked at is messages and less than a frame
Ends limit TooLong bytes left old new =
    (length bytes ≡ limit + 1) × (ms : List Message) × (rest : List ℕ) × Reaches (take limit bytes) ms rest × IsPartial rest × Appends old new (text_of ms)

-- the same, where the writing may have stopped
abbrev pub EndsSo : ℕ → Result Shown Stop → List ℕ → Option (List ℕ) → Option (List ℕ) → Option (List ℕ) → Type 0
EndsSo limit (Ok shown) bytes left old new = Ends limit shown bytes left old new
EndsSo limit (Err stop) bytes left old new =
    (length bytes ≤ limit + 1) × StoppedAt (IsAtEnd left × (length bytes ≤ limit)) (length (take limit bytes)) (take limit bytes) old new

-- the same with the bytes that the source lost
abbrev pub ShowEnds : ℕ → Result Shown Stop → Option (List ℕ) → Option (List ℕ) → Option (List ℕ) → Option (List ℕ) → Type 0
ShowEnds limit how before left old new = (bytes : List ℕ) × Consumes before left bytes × EndsSo limit how bytes left old new

-- the ends that tell that the input can't be read
abbrev pub is_unread : Shown → Bool
is_unread ReadFault = true
is_unread Done = false
is_unread Refused = false
is_unread TooLong = false

-- the endings that tell what the input is
abbrev pub IsVerdict : Shown → Type 0
IsVerdict Done = ⊤
IsVerdict Refused = ⊤
IsVerdict TooLong = ⊤
IsVerdict ReadFault = ⊥

-- the status of each ending
abbrev pub status_of : Result Shown Stop → ℕ
status_of (Ok Done) = 0
status_of (Ok ReadFault) = 2
status_of (Ok Refused) = 6
status_of (Ok TooLong) = 12
status_of (Err stop) = stop_status stop
