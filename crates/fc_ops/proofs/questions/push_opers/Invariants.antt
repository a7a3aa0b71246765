use Rattle.std.proofs.Common.{◌≡◌, ◌++◌, take, map}
use Rattle.std.specs.List.{flat_map}
use Rattle.fc_path.specs.Leaves.{oper_leaves}
use Rattle.fc_ops.specs.Asking.{question}
use Rattle.fc_ops.proofs.questions.push_opers.Given as goal

abbrev pub invariant-loop-oper : goal.invariant-loop-oper
invariant-loop-oper l =
    l.questions.items ≡ l.fn.questions.items ++ flat_map (λ oper. map question (oper_leaves l.class l.instance oper)) (take l.oper-index l.opers)
