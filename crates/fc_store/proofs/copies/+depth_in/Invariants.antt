use Rattle.std.proofs.Common.{length}
use Rattle.fc_store.proofs.copies.+depth_in.Given as goal

abbrev pub decreases-depth_in : goal.decreases-depth_in
decreases-depth_in l = length l.marks.now
