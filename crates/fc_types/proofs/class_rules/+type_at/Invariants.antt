use Rattle.std.proofs.Common.{length}
use Rattle.fc_types.proofs.class_rules.+type_at.Given as goal

abbrev pub decreases-type_at : goal.decreases-type_at
decreases-type_at l = length l.ids.now
