-- What is appended to a text while bytes are read, so that what they mean is never held whole. This profile's own.
use Rattle.std.specs.Prelude.{◌≡◌, ◌≤◌, ◌<◌, ◌==◌, ℕ, length, slice_index, if◌then◌else◌, List, [], ◌++◌, codes, Some, Result, Ok, Err}
use Rattle.fc_wire.specs.declared.header.Header.{Header}
use Rattle.fc_base.specs.Answers.{◌>>=◌}
use Rattle.fc_path.specs.Stray.{Fails}
use Rattle.fc_path.specs.declared.fault.PathFault.{PathFault}
use Rattle.fc_msg.specs.Bodies.{holding}
use Rattle.fc_msg.specs.Decoding.{Refuses}
use Rattle.fc_msg.specs.Faults.{fault_of}
use Rattle.fc_msg.specs.MessageTypes as types
use Rattle.fc_msg.specs.declared.fault.MsgFault.{MsgFault}
use Rattle.fc_msg.specs.declared.message.Message.{Message}
use Rattle.fc_msg.specs.declared.message.MsgBody.TheVariants.{Heartbeat}
use Rattle.fc_msg.specs.Reading.{message_in}
use Rattle.fc_text.specs.Text.{body_name, message_text}

-- what stood there stays in front, whatever was appended
abbrev pub Keeps : List ℕ → List ℕ → Type 0
Keeps old new = (length old ≤ length new) × ((k : ℕ) → k < length old → slice_index new k ≡ slice_index old k)

-- the text that stands after what was read is appended, or why it can't be read
abbrev pub shown : {X : Type 0} → Result X PathFault → (X → List ℕ) → List ℕ → Result (List ℕ) PathFault
shown read text old = read >>= λ x. Ok (old ++ text x)

-- a call that appends the text of what it reads answers why it can't be read, and else has appended all of it
abbrev pub Shows : {X : Type 0} → Result (Unit {0}) PathFault → Result X PathFault → (X → List ℕ) → List ℕ → List ℕ → Type 0
Shows (Ok done) read text old new = shown read text old ≡ Ok new
Shows (Err fault) read text old new = Fails fault read

-- a call that appends the text of the message in bytes has appended all of it, or it tells the rule that is broken and has
-- appended nothing
abbrev pub ShowsMessage : Result (Unit {0}) MsgFault → List ℕ → List ℕ → List ℕ → Type 0
ShowsMessage (Ok done) bytes old new = (m : Message) × (message_in bytes ≡ Some m) × (new ≡ old ++ message_text m)
ShowsMessage (Err fault) bytes old new = Refuses (fault_of bytes) fault × (new ≡ old)

-- the name of a type of messages
abbrev pub type_name : ℕ → List ℕ
type_name kind =
    if kind == types.heartbeat then codes "Heartbeat"
    else (if kind == types.setup_response then codes "AssociationSetupResponse"
    else (if kind == types.teardown then codes "AssociationTeardown"
    else (if kind == types.setup then codes "AssociationSetup" else body_name (holding kind []))))

-- a message with the fields of a header and no body
abbrev pub bare : Header → Message
bare h = record { source = h.source; dest = h.dest; corr = h.corr; flags = h.flags; body = Heartbeat }
