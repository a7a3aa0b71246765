use Rattle.std.proofs.Common.{◌≡◌, map, take}
use Rattle.fc_world.specs.Worlds.{first_node}
use Rattle.fc_world.proofs.nodes.first_nodes.Given as goal

abbrev pub invariant-loop-element : goal.invariant-loop-element
invariant-loop-element l = l.nodes.items ≡ map (first_node l.setting) (take l.element-index l.setting.elements)
