use Rattle.std.proofs.Common.{◌≡◌, ◌++◌, take}
use Rattle.std.specs.List.{flat_map}
use Rattle.fc_path.specs.Leaves.{path_leaves}
use Rattle.fc_events.specs.Operations.{steps_along}
use Rattle.fc_events.proofs.operations.+operate.Given as goal

abbrev pub invariant-push_paths-loop-path : goal.invariant-push_paths-loop-path
invariant-push_paths-loop-path l =
    l.operations.items ≡ l.fn.operations.items ++ flat_map (λ path. path_leaves l.origin.kind l.origin.class l.origin.instance path (steps_along l.before)) (take l.path-index l.paths)
