use Rattle.std.proofs.Common.{◌≡◌, ◌++◌, drop, flat_map}
use Rattle.fc_world.specs.Reports.{node_lines}
use Rattle.fc_world.proofs.nodes.put_nodes.Given as goal

abbrev pub invariant-loop-node : goal.invariant-loop-node
invariant-loop-node l = l.into.items ++ flat_map node_lines (drop l.node-index l.nodes) ≡ l.fn.into.items ++ flat_map node_lines l.nodes
