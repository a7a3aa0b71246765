use Rattle.std.proofs.Common.{◌≡◌, ◌++◌, ◌∷◌, [], ◌/◌, ◌%◌, slice_index}
use Rattle.fc_base.specs.Hex.{hex_digit}
use Rattle.fc_base.proofs.HexTexts.{byte_on}
use Rattle.fc_base.proofs.digits.push_each.Goals as goal

pub bytes-preserved : goal.bytes-preserved
bytes-preserved c =
    let text = c.bytes.into.items in
    let xs = c.args.bytes.now in
    let byte = slice_index xs c.bytes.byte-index in
    let is : c.extend_from_slice.new.self.items ≡ text ++ (hex_digit (byte / 16 % 16) ∷ hex_digit (byte % 16) ∷ []) =
    cc (c.in_ok-extend_from_slice.ensures.items, c.high.ensures, c.low.ensures) in
    rw is (byte_on text xs _ c.bytes.byte-index c.bytes-test.true c.bytes.invariant)
