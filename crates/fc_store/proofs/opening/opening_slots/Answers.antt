use Rattle.fc_store.proofs.Kept.{slots_more}
use Rattle.fc_store.proofs.opening.opening_slots.Goals as goal

pub loop-component-preserved : goal.loop-component-preserved
loop-component-preserved c =
    slots_more c.args.class c.args.components.now c.loop-component.component-index c.component-item.result c.loop-component.slots.items c.push.new.self.items c.in_ok-opening_slot.field-0
    c.loop-component.invariant c.loop-component-test.true c.component-item.is c.in_ok-opening_slot.ensures c.in_ok-push.ensures.items
