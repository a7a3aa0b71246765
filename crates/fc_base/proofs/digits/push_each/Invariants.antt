use Rattle.std.proofs.Common.{◌≡◌, ◌++◌, drop}
use Rattle.fc_base.specs.Hex.{hex_text}
use Rattle.fc_base.proofs.digits.push_each.Given as goal

abbrev pub invariant-bytes : goal.invariant-bytes
invariant-bytes l = l.into.items ++ hex_text (drop l.byte-index l.bytes) ≡ l.fn.into.items ++ hex_text l.bytes
