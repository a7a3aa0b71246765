use Rattle.std.proofs.Common.{Bool, length}
use Rattle.fc_lines.specs.WordValues.{Pairs}
use Rattle.fc_lines.proofs.hex_word.are_pairs.Given as goal

abbrev pub invariant-pairs : goal.invariant-pairs
invariant-pairs l = (whole : Bool) → Pairs l.rest whole → Pairs l.word whole

abbrev pub decreases-pairs : goal.decreases-pairs
decreases-pairs l = length l.rest
