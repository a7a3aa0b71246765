use Rattle.std.proofs.Common.{◌≡◌, take, length}
use Rattle.fc_instance.proofs.instance.forget.Given as goal

abbrev pub invariant-loop-inverse : goal.invariant-loop-inverse
invariant-loop-inverse l = take l.mark l.log.0 ≡ take l.mark l.fn.log.0

abbrev pub decreases-loop-inverse : goal.decreases-loop-inverse
decreases-loop-inverse l = length l.log.0
