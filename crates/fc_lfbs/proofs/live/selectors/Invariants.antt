use Rattle.std.proofs.Common.{◌≡◌, map, take}
use Rattle.fc_lfbs.specs.LiveValues.{selector}
use Rattle.fc_lfbs.proofs.live.selectors.Given as goal

abbrev pub invariant-loop-class : goal.invariant-loop-class
invariant-loop-class l = l.values ≡ map selector (take l.class-index l.instances)
