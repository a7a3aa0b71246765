use Rattle.std.proofs.Common.{length}
use Rattle.fc_rows.proofs.columns.+take_keys.Given as goal

abbrev pub decreases-take_keys : goal.decreases-take_keys
decreases-take_keys l = length l.keys.now
