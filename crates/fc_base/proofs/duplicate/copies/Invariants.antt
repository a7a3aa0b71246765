use Rattle.std.proofs.Common.{◌≡◌, take}
use Rattle.fc_base.proofs.duplicate.copies.Given as goal

abbrev pub invariant-loop-item : goal.invariant-loop-item
invariant-loop-item g l = l.others.items ≡ take l.item-index l.items
