use Rattle.std.proofs.Common.{◌≡◌, take}
use Rattle.fc_world.specs.Lookups.{ids_of}
use Rattle.fc_world.proofs.nodes.ids_of.Given as goal

abbrev pub invariant-loop-node : goal.invariant-loop-node
invariant-loop-node l = l.ids ≡ ids_of (take l.node-index l.nodes)
