use Rattle.std.proofs.Common.{◌≡◌, ◌++◌, length}
use Rattle.fc_base.specs.Hex.{hex_text}
use Rattle.fc_base.proofs.digits.push_hex.Given as goal

abbrev pub invariant-eights : goal.invariant-eights
invariant-eights l = l.into.items ++ hex_text l.rest ≡ l.fn.into.items ++ hex_text l.bytes

abbrev pub decreases-eights : goal.decreases-eights
decreases-eights l = length l.rest
