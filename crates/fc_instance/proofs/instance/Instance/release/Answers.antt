use Rattle.std.proofs.Common.{arith}
use Rattle.fc_instance.proofs.Undoing.{front_kept, nonzero}
use Rattle.fc_instance.proofs.instance.Instance.release.Goals as goal

pub invariant_of-self-else-is_empty : goal.invariant_of-self-else-is_empty
invariant_of-self-else-is_empty c = front_kept c.self.inside.slots.items c.self.inside.log.0 c.self.inside.marks.items c.pop.new.self.items c.in-Some.mark c.self.invariant c.in-Some.ensures.items (omega (arith, nonzero _ c.if-is_empty.ensures, c.pop.new.self.ok.0))
