use Rattle.std.proofs.Common.{arith}
use Rattle.fc_instance.proofs.Copied.{roomier_on}
use Rattle.fc_instance.proofs.copies.copy_slots.Goals as goal

pub loop-slot-preserved : goal.loop-slot-preserved
loop-slot-preserved c = roomier_on c.args.slots.now c.loop-slot.others.items c.push.new.self.items c.loop-slot.slot-index c.slot-item.result c.in_ok-copy_slot.field-0 (omega arith) c.slot-item.is c.loop-slot.invariant c.in_ok-copy_slot.ensures c.in_ok-push.ensures.items
