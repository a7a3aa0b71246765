use Rattle.std.proofs.Common.{length}
use Rattle.fc_value.proofs.nodes.+node.Given as goal

abbrev pub decreases-node : goal.decreases-node
decreases-node l = length l.places.now
