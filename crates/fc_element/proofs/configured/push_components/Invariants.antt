use Rattle.std.proofs.Common.{◌≡◌, ◌++◌, drop}
use Rattle.std.specs.List.{flat_map}
use Rattle.fc_element.specs.Configuration.{component_changes}
use Rattle.fc_element.proofs.configured.push_components.Given as goal

abbrev pub invariant-loop-id : goal.invariant-loop-id
invariant-loop-id l =
    l.into ++ flat_map (component_changes l.first l.store l.pair) (drop l.id-index l.ids) ≡ l.fn.into ++ flat_map (component_changes l.fn.first l.fn.store l.fn.pair) l.fn.ids
