use Rattle.std.proofs.Common.{Bool, length}
use Rattle.fc_lines.specs.WordValues.{Pairs}
use Rattle.fc_lines.proofs.hex_word.behind_eights.Given as goal

abbrev pub invariant-eights : goal.invariant-eights
invariant-eights l = (whole : Bool) → Pairs l.rest whole → Pairs l.word whole

abbrev pub decreases-eights : goal.decreases-eights
decreases-eights l = length l.rest
