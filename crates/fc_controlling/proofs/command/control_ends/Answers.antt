use Rattle.fc_controlling.proofs.Ending.{long_ends, meant_ends, unread_ends}
use Rattle.fc_controlling.proofs.command.control_ends.Goals as goal

pub returns-in-Ok-Whole-clause-ends : goal.returns-in-Ok-Whole-clause-ends
returns-in-Ok-Whole-clause-ends g c =
    meant_ends c.declared_control.result 67108864 c.args.asked.now _ _ _ _ c.look_over.new.held.items _ _ _ _ _ _ _ _
    (rw c.in-Ok-Whole.field-0-is at c.in-Ok-Whole.ensures.ends) (rw c.in-Ok-Whole.field-0-is at c.in-Ok-Whole.ensures.count) (rw c.as_slice.ensures.value at c.declared_control.ensures.ends)

pub returns-in-Ok-TooLong-clause-ends : goal.returns-in-Ok-TooLong-clause-ends
returns-in-Ok-TooLong-clause-ends g c =
    long_ends c.in-Ok-TooLong.field-0 67108864 c.args.asked.now _ _ _ _ c.look_over.new.held.items _ _ _ _ _ c.in-Ok-TooLong.ensures.ends c.in-Ok-TooLong.ensures.count c.in-Ok-TooLong.field-0-is

pub returns-in-Ok-ReadFault-clause-ends : goal.returns-in-Ok-ReadFault-clause-ends
returns-in-Ok-ReadFault-clause-ends g c =
    unread_ends c.in-Ok-ReadFault.field-0 67108864 c.args.asked.now _ _ _ _ c.look_over.new.held.items _ _ _ _ _ c.in-Ok-ReadFault.ensures.ends c.in-Ok-ReadFault.ensures.count c.in-Ok-ReadFault.field-0-is
