use Rattle.std.proofs.Common.{length}
use Rattle.fc_plans.proofs.plan.+whole_have_changes.Given as goal

abbrev pub decreases-whole_have_changes : goal.decreases-whole_have_changes
decreases-whole_have_changes l = length l.parts.now
