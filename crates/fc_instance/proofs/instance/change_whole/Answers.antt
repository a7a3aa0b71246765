use Rattle.fc_instance.proofs.Changing.{held_whole, whole_values}
use Rattle.fc_instance.proofs.instance.change_whole.Goals as goal

pub returns-clause-ok : goal.returns-clause-ok
returns-clause-ok c = whole_values c.args.slots.now.items c.exchange_slot-old.new.slots.items c.args.component c.args.slot c.exchange_slot-old.ensures.after

pub returns-clause-held : goal.returns-clause-held
returns-clause-held c = held_whole c.args.slots.now.items c.exchange_slot-old.new.slots.items c.args.log.now.0 c.reserve.new.self.0 c.push.new.self.0 c.args.component c.args.slot c.exchange_slot-old.result
    c.requires.within c.requires.undoable c.reserve.ensures.same c.exchange_slot-old.ensures.given c.exchange_slot-old.ensures.after c.push.ensures.pushed
