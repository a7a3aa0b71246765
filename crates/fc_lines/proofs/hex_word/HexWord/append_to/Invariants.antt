use Rattle.std.proofs.Common.{◌≡◌, ◌++◌, length}
use Rattle.fc_lines.proofs.hex_word.HexWord.append_to.Given as goal

abbrev pub invariant-fours : goal.invariant-fours
invariant-fours l = l.into.items ++ l.left ≡ l.fn.into.items ++ l.fn.self

abbrev pub decreases-fours : goal.decreases-fours
decreases-fours l = length l.left

abbrev pub invariant-bytes : goal.invariant-bytes
invariant-bytes l = l.into.items ++ l.left ≡ l.fn.into.items ++ l.fn.self

abbrev pub decreases-bytes : goal.decreases-bytes
decreases-bytes l = length l.left
