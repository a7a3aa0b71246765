use Rattle.std.proofs.Common.{◌≡◌, ◌+◌, ◌++◌, length}
use Rattle.fc_lfbs.specs.LiveValues.{numbered}
use Rattle.fc_lfbs.proofs.live.table_of.Given as goal

abbrev pub invariant-loop-value : goal.invariant-loop-value
invariant-loop-value l = (l.entries ++ numbered l.subscript l.value-iterator.rest.items ≡ numbered 1 l.fn.values) × (l.subscript + length l.value-iterator.rest.items ≡ 1 + length l.fn.values)

abbrev pub decreases-loop-value : goal.decreases-loop-value
decreases-loop-value l = length l.value-iterator.rest.items
