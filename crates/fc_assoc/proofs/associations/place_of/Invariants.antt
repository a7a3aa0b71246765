use Rattle.std.proofs.Common.{take}
use Rattle.fc_assoc.specs.Places.{AreBelow}
use Rattle.fc_assoc.proofs.associations.place_of.Given as goal

abbrev pub invariant-loop-place : goal.invariant-loop-place
invariant-loop-place l = AreBelow l.ce (take l.place l.pairs)
