use Rattle.std.proofs.Common.{◌≡◌, take}
use Rattle.std.specs.List.{fold}
use Rattle.fc_world.specs.Trails.{trodden}
use Rattle.fc_world.proofs.trailing.behind.Given as goal

abbrev pub invariant-loop-byte : goal.invariant-loop-byte
invariant-loop-byte l = l.trail ≡ fold trodden l.fn.trail (take l.byte-index l.bytes)
