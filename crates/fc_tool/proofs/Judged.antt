-- What spells a message is a frame.
use Rattle.std.proofs.Common.{◌≡◌, ◌≤◌, ℕ, List, length, arith, ◌∙◌}
use Rattle.fc_wire.specs.Bytes.{u16_at}
use Rattle.fc_wire.specs.Frames.{IsFrame}
use Rattle.fc_wire.proofs.Numbers.{two_of_front}
use Rattle.fc_msg.specs.Messages.{Spells}
use Rattle.fc_msg.specs.declared.message.Message.{Message}
use Rattle.fc_msg.proofs.Reading.{enough}

pub is_frame : (m : Message) (bytes : List ℕ) → Spells m bytes → IsFrame bytes
is_frame m bytes is =
    let many : 24 ≤ length bytes = enough 24 bytes is.header.size in
    let words : is.words ≡ u16_at bytes 2 = is.header.words ∙ two_of_front 24 bytes 2 (omega arith) in
    omega (arith, is.size, words)
