use Rattle.std.proofs.Common.{◌≡◌, ◌++◌, drop}
use Rattle.std.specs.List.{flat_map}
use Rattle.fc_element.specs.Configuration.{instance_changes}
use Rattle.fc_element.proofs.configured.push_instances.Given as goal

abbrev pub invariant-loop-pair : goal.invariant-loop-pair
invariant-loop-pair l =
    l.into ++ flat_map (instance_changes l.first l.store) (drop l.pair-index l.pairs) ≡ l.fn.into ++ flat_map (instance_changes l.fn.first l.fn.store) l.fn.pairs
