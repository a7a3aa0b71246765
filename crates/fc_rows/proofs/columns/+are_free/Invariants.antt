use Rattle.std.proofs.Common.{length}
use Rattle.fc_rows.proofs.columns.+are_free.Given as goal

abbrev pub decreases-are_free : goal.decreases-are_free
decreases-are_free l = length l.indexes.now
