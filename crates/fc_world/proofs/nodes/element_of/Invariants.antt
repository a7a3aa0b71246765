use Rattle.std.proofs.Common.{◌≡◌, drop}
use Rattle.fc_world.specs.Lookups.{element_in}
use Rattle.fc_world.proofs.nodes.element_of.Given as goal

abbrev pub invariant-loop-node : goal.invariant-loop-node
invariant-loop-node l = element_in l.id (drop l.node-index l.nodes) ≡ element_in l.id l.nodes
