use Rattle.std.proofs.Common.{◌≡◌, ◌++◌, take}
use Rattle.std.specs.List.{flat_map}
use Rattle.fc_path.specs.Leaves.{path_leaves}
use Rattle.fc_path.proofs.leaves.+leaves.Given as goal

abbrev pub invariant-push_paths-loop-path : goal.invariant-push_paths-loop-path
invariant-push_paths-loop-path l =
    l.leaves ≡ l.fn.leaves ++ flat_map (λ path. path_leaves l.origin.kind l.origin.class l.origin.instance path l.before) (take l.path-index l.paths)
