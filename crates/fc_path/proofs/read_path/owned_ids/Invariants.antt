use Rattle.std.proofs.Common.{◌≡◌, ◌++◌, length}
use Rattle.fc_path.proofs.read_path.owned_ids.Given as goal

abbrev pub invariant-ids : goal.invariant-ids
invariant-ids l = l.list ++ l.ids ≡ l.fn.ids

abbrev pub decreases-ids : goal.decreases-ids
decreases-ids l = length l.ids
