use Rattle.std.proofs.Common.{length}
use Rattle.fc_keys.proofs.tree.+cmp.Given as goal

abbrev pub decreases-cmp : goal.decreases-cmp
decreases-cmp l = length l.one.now
