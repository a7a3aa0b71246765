use Rattle.fc_tool.proofs.Making.{whole_ends}
use Rattle.fc_tool.proofs.make.make_all.Goals as goal

pub returns-in-Ok-Whole-clause-ends : goal.returns-in-Ok-Whole-clause-ends
returns-in-Ok-Whole-clause-ends g c =
    whole_ends c.make_text.result 67108864 c.look_over.new.held.items _ _ _ _ (rw c.in-Ok-Whole.field-0-is at c.in-Ok-Whole.ensures.ends)
    (rw c.as_slice.ensures.value at c.make_text.ensures.ends)
