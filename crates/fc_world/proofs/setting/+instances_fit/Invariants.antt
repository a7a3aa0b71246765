use Rattle.std.proofs.Common.{length}
use Rattle.fc_world.proofs.setting.+instances_fit.Given as goal

abbrev pub decreases-instances_fit : goal.decreases-instances_fit
decreases-instances_fit l = length l.scope.now
