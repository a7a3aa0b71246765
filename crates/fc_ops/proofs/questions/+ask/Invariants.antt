use Rattle.std.proofs.Common.{◌≡◌, ◌++◌, take, map}
use Rattle.std.specs.List.{flat_map}
use Rattle.fc_path.specs.Leaves.{path_leaves}
use Rattle.fc_ops.specs.Asking.{question, steps_along}
use Rattle.fc_ops.proofs.questions.+ask.Given as goal

abbrev pub invariant-push_paths-loop-path : goal.invariant-push_paths-loop-path
invariant-push_paths-loop-path l =
    l.questions.items ≡ l.fn.questions.items ++ flat_map (λ path. map question (path_leaves l.origin.kind l.origin.class l.origin.instance path (steps_along l.before))) (take l.path-index l.paths)
