use Rattle.std.proofs.Common.{◌∙◌}
use Rattle.fc_instance.proofs.Undoing.{kept_last}
use Rattle.fc_instance.proofs.instance.forget.Goals as goal

pub loop-inverse-preserved : goal.loop-inverse-preserved
loop-inverse-preserved c = kept_last c.args.mark c.loop-inverse.log.0 c.pop_to.new.self.0 c.in-Some.inverse c.in-Some.ensures.popped.1 c.in-Some.ensures.popped.0 ∙ c.loop-inverse.invariant
