use Rattle.std.proofs.Common.{length}
use Rattle.fc_plans.proofs.plan.+whole_rise_after.Given as goal

abbrev pub decreases-whole_rise_after : goal.decreases-whole_rise_after
decreases-whole_rise_after l = length l.parts.now
