use Rattle.std.proofs.Common.{ap, sym, subst, ◌∙◌, drop, List}
use Rattle.fc_instance.specs.Histories.{Undoable, undone}
use Rattle.fc_instance.specs.declared.instance.Slot.{Slot}
use Rattle.fc_instance.proofs.Undoing.{can_last, kept_last, undone_last}
use Rattle.fc_instance.proofs.instance.undo_to.Goals as goal

pub undo_one-requires : goal.undo_one-requires
undo_one-requires c = (can_last _ _ _ _ c.in-Some.ensures.popped.1 c.loop-inverse.invariant.undoable).0

pub loop-inverse-preserved : goal.loop-inverse-preserved
loop-inverse-preserved c = record {
  undoable = subst (λ (slots : List Slot). Undoable c.pop_to.new.self.0 slots) (sym c.undo_one.ensures) (can_last _ _ _ _ c.in-Some.ensures.popped.1 c.loop-inverse.invariant.undoable).1;
  same = ap (undone (drop c.args.mark c.pop_to.new.self.0)) c.undo_one.ensures
      ∙ undone_last c.args.mark c.loop-inverse.log.0 c.pop_to.new.self.0 c.in-Some.inverse c.loop-inverse.slots.items c.in-Some.ensures.popped.1 c.in-Some.ensures.popped.0 ∙ c.loop-inverse.invariant.same;
  kept = kept_last c.args.mark c.loop-inverse.log.0 c.pop_to.new.self.0 c.in-Some.inverse c.in-Some.ensures.popped.1 c.in-Some.ensures.popped.0 ∙ c.loop-inverse.invariant.kept;
}
