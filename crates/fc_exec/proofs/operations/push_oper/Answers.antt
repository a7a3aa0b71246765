use Rattle.std.proofs.Common.{◌≡◌, ◌++◌, [], OnOk, map, sym, ap, ◌∙◌, subst}
use Rattle.std.specs.List.{flat_map}
use Rattle.fc_path.specs.Leaves.{path_leaves}
use Rattle.fc_exec.specs.Operations.{oper_operations}
use Rattle.fc_exec.specs.declared.operations.Operation.TheVariants as operation
use Rattle.fc_exec.proofs.Walked.{paths_operations}
use Rattle.fc_exec.proofs.operations.push_oper.Goals as goal

pub returns-in-Paths : goal.returns-in-Paths
returns-in-Paths c =
    let all : flat_map (λ p. map operation.Leaf (path_leaves c.in-Paths.kind c.args.class c.args.instance p [])) c.as_slice.result.now ≡ oper_operations c.args.class c.args.instance c.args.oper.now =
    ap (flat_map (λ p. map operation.Leaf (path_leaves c.in-Paths.kind c.args.class c.args.instance p []))) c.as_slice.ensures ∙ sym (paths_operations c.in-Paths.kind c.args.class c.args.instance c.in-Paths.paths)
    ∙ ap (oper_operations c.args.class c.args.instance) (sym c.in-Paths.is) in
    subst (λ l. OnOk c.push_paths.result (c.push_paths.new.operations.items ≡ c.args.operations.now.items ++ l)) all c.push_paths.ensures
