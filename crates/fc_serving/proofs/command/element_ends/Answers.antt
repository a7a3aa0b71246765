use Rattle.fc_serving.proofs.Ending.{document_ends, long_ends, unread_ends}
use Rattle.fc_serving.proofs.command.element_ends.Goals as goal

pub returns-in-Ok-Whole-clause-ends : goal.returns-in-Ok-Whole-clause-ends
returns-in-Ok-Whole-clause-ends g c =
    document_ends c.declared_element.result 67108864 c.args.fe c.args.ce c.args.turns _ _ _ _ c.look_over.new.held.items _ _ _ _ _ _
    (rw c.in-Ok-Whole.field-0-is at c.in-Ok-Whole.ensures.ends) (rw c.in-Ok-Whole.field-0-is at c.in-Ok-Whole.ensures.count) (rw c.as_slice.ensures.value at c.declared_element.ensures.ends)

pub returns-in-Ok-TooLong-clause-ends : goal.returns-in-Ok-TooLong-clause-ends
returns-in-Ok-TooLong-clause-ends g c =
    long_ends c.in-Ok-TooLong.field-0 67108864 c.args.fe c.args.ce c.args.turns _ _ _ c.look_over.new.held.items _ _ _ _ c.in-Ok-TooLong.ensures.ends c.in-Ok-TooLong.ensures.count c.in-Ok-TooLong.field-0-is

pub returns-in-Ok-ReadFault-clause-ends : goal.returns-in-Ok-ReadFault-clause-ends
returns-in-Ok-ReadFault-clause-ends g c =
    unread_ends c.in-Ok-ReadFault.field-0 67108864 c.args.fe c.args.ce c.args.turns _ _ _ c.look_over.new.held.items _ _ _ _ c.in-Ok-ReadFault.ensures.ends c.in-Ok-ReadFault.ensures.count c.in-Ok-ReadFault.field-0-is
