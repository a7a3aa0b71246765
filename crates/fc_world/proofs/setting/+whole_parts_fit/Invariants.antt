use Rattle.std.proofs.Common.{length}
use Rattle.fc_world.proofs.setting.+whole_parts_fit.Given as goal

abbrev pub decreases-whole_parts_fit : goal.decreases-whole_parts_fit
decreases-whole_parts_fit l = length l.parts.now
