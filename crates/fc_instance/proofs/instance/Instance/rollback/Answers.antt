use Rattle.fc_instance.proofs.Undoing.{back_kept, back_seen}
use Rattle.fc_instance.proofs.instance.Instance.rollback.Goals as goal

pub invariant_of-self : goal.invariant_of-self
invariant_of-self c = back_kept c.self.inside.slots.items c.undo_to.new.slots.items c.self.inside.log.0 c.undo_to.new.log.0 c.self.inside.marks.items c.pop.new.self.items c.in-Some.mark c.self.invariant c.in-Some.ensures.items c.undo_to.ensures.log c.undo_to.ensures.slots c.undo_to.ensures.undoable

pub returns-in-Some : goal.returns-in-Some
returns-in-Some c = back_seen c.args.self.now c.self.inside.slots.items c.undo_to.new.slots.items c.self.inside.log.0 c.undo_to.new.log.0 c.self.inside.marks.items c.pop.new.self.items c.in-Some.mark c.self.view_is c.self.invariant c.in-Some.ensures.items c.undo_to.ensures.log c.undo_to.ensures.slots
