use Rattle.std.proofs.Common.{◌≡◌, map, take}
use Rattle.fc_lfbs.specs.LiveValues.{word}
use Rattle.fc_lfbs.proofs.live.words.Given as goal

abbrev pub invariant-loop-number : goal.invariant-loop-number
invariant-loop-number l = l.values ≡ map word (take l.number-index l.numbers)
