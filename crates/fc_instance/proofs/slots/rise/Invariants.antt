use Rattle.std.proofs.Common.{◌≡◌, length}
use Rattle.fc_instance.specs.Keeping.{is_rising}
use Rattle.fc_instance.proofs.slots.rise.Given as goal

abbrev pub invariant-loop-rest : goal.invariant-loop-rest
invariant-loop-rest l = is_rising l.rest ≡ is_rising l.entries

abbrev pub decreases-loop-rest : goal.decreases-loop-rest
decreases-loop-rest l = length l.rest
