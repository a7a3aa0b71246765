use Rattle.std.proofs.Common.{◌≡◌, ◌++◌, length}
use Rattle.fc_asks.proofs.queries.push_leaves.Given as goal

abbrev pub invariant-loop-leaf : goal.invariant-loop-leaf
invariant-loop-leaf l = l.leaves ++ l.leaf-iterator.rest.items ≡ l.fn.leaves ++ l.fn.more

abbrev pub decreases-loop-leaf : goal.decreases-loop-leaf
decreases-loop-leaf l = length l.leaf-iterator.rest.items
