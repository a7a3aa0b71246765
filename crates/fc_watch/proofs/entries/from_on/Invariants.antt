use Rattle.std.proofs.Common.{◌≡◌, length}
use Rattle.fc_watch.specs.Merging.{from_one_on}
use Rattle.fc_watch.proofs.entries.from_on.Given as goal

abbrev pub invariant-loop-rest : goal.invariant-loop-rest
invariant-loop-rest l = from_one_on l.subscript l.rest ≡ from_one_on l.subscript l.subscripts

abbrev pub decreases-loop-rest : goal.decreases-loop-rest
decreases-loop-rest l = length l.rest
