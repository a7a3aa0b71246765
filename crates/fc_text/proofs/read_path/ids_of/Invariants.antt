use Rattle.std.proofs.Common.{◌≡◌, ◌++◌, length}
use Rattle.fc_text.proofs.read_path.ids_of.Given as goal

abbrev pub invariant-ids : goal.invariant-ids
invariant-ids l = l.ids ++ l.numbers ≡ l.fn.numbers

abbrev pub decreases-ids : goal.decreases-ids
decreases-ids l = length l.numbers
