use Rattle.std.proofs.Common.{◌≡◌, take}
use Rattle.fc_watch.specs.Watching.{noted}
use Rattle.fc_watch.proofs.evaluate.note.Given as goal

abbrev pub invariant-loop-hit : goal.invariant-loop-hit
invariant-loop-hit l = (l.so_far, l.told) ≡ noted l.count l.fn.satisfied (take l.hit-index l.hits)
