use Rattle.std.proofs.Common.{◌≡◌, take, drop, length}
use Rattle.fc_instance.specs.Histories.{Undoable, undone}
use Rattle.fc_instance.proofs.instance.undo_to.Given as goal

abbrev pub invariant-loop-inverse : goal.invariant-loop-inverse
invariant-loop-inverse l = record {
  undoable : Undoable l.log.0 l.slots.items;
  same : undone (drop l.mark l.log.0) l.slots.items ≡ undone (drop l.mark l.fn.log.0) l.fn.slots.items;
  kept : take l.mark l.log.0 ≡ take l.mark l.fn.log.0;
}

abbrev pub decreases-loop-inverse : goal.decreases-loop-inverse
decreases-loop-inverse l = length l.log.0
