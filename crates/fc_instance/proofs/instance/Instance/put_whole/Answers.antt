use Rattle.std.proofs.Common.{arith, ap, ◌∙◌, slice_set}
use Rattle.fc_instance.specs.Histories.{Held, slot_cell}
use Rattle.fc_instance.proofs.Changing.{whole_values}
use Rattle.fc_instance.proofs.Undoing.{changed_held, changed_kept, nonzero}
use Rattle.fc_instance.proofs.instance.Instance.put_whole.Goals as goal

pub returns-then-is_empty-clause-ok : goal.returns-then-is_empty-clause-ok
returns-then-is_empty-clause-ok c = whole_values c.self.inside.slots.items c.exchange_slot.new.slots.items c.args.component c.args.slot c.exchange_slot.ensures.after
    ∙ ap (λ (h : Held). slice_set h.now c.args.component (slot_cell c.args.slot)) c.self.view_is

pub invariant_of-self-2 : goal.invariant_of-self-2
invariant_of-self-2 c = changed_kept c.self.inside.slots.items c.change_whole.new.slots.items c.self.inside.log.0 c.change_whole.new.log.0 c.self.inside.marks.items c.self.invariant (omega (arith, nonzero _ c.if-is_empty.ensures, c.self.inside.marks.ok.0)) c.change_whole.ensures.held

pub returns-clause-held : goal.returns-clause-held
returns-clause-held c = changed_held c.args.self.now c.self.inside.slots.items c.change_whole.new.slots.items c.self.inside.log.0 c.change_whole.new.log.0 c.self.inside.marks.items c.self.view_is c.self.invariant c.change_whole.ensures.held
