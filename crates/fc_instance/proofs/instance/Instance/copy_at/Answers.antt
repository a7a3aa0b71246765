use Rattle.fc_instance.proofs.Copied.{copied_then, copied_undoable}
use Rattle.fc_instance.proofs.instance.Instance.copy_at.Goals as goal

pub undo_copies-requires : goal.undo_copies-requires
undo_copies-requires c = copied_undoable c.self.inside.slots.items c.deref.result.now c.in_ok-slots.slots.items c.self.inside.log.0 c.since.result.now c.self.inside.marks.items c.index-at.result.now c.self.invariant c.deref.ensures.value c.in_ok-slots.ensures c.since.ensures

pub returns : goal.returns
returns c = (
  copied_then c.args.self.now c.self.inside.slots.items c.deref.result.now c.in_ok-slots.slots.items c.undo_copies.new.slots.items c.self.inside.log.0 c.since.result.now c.self.inside.marks.items c.args.mark c.index-at.result.now _
      c.self.view_is c.deref.ensures.value c.in_ok-slots.ensures c.since.ensures c.requires c.index-at.ensures c.in_ok-undo_copies.ensures c.of.ensures.now,
  c.of.ensures.held,
)
