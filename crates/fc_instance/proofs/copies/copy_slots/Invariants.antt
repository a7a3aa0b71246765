use Rattle.std.proofs.Common.{take}
use Rattle.fc_instance.specs.Histories.{AreRoomier}
use Rattle.fc_instance.proofs.copies.copy_slots.Given as goal

abbrev pub invariant-loop-slot : goal.invariant-loop-slot
invariant-loop-slot l = AreRoomier (take l.slot-index l.slots) l.others.items
