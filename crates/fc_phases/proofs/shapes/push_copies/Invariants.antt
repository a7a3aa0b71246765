use Rattle.std.proofs.Common.{◌≡◌, ◌++◌, take}
use Rattle.fc_phases.proofs.shapes.push_copies.Given as goal

abbrev pub invariant-loop-item : goal.invariant-loop-item
invariant-loop-item g l = l.to ≡ l.fn.to ++ take l.item-index l.items
