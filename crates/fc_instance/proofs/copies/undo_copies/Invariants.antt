use Rattle.std.proofs.Common.{◌≤◌, length, take}
use Rattle.fc_instance.specs.Histories.{AreRoomier, Undoable, undone}
use Rattle.fc_instance.proofs.copies.undo_copies.Given as goal

abbrev pub invariant-loop-place : goal.invariant-loop-place
invariant-loop-place l = Undoable (take l.place l.inverses) l.slots.items × AreRoomier (undone l.inverses l.fn.slots.items) (undone (take l.place l.inverses) l.slots.items) × (l.place ≤ length l.inverses)

abbrev pub decreases-loop-place : goal.decreases-loop-place
decreases-loop-place l = l.place
