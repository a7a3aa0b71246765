use Rattle.std.proofs.Common.{◌≡◌, ◌++◌, [], OnOk, map, sym, ap, ◌∙◌, subst}
use Rattle.std.specs.List.{flat_map}
use Rattle.fc_path.specs.Leaves.{oper_leaves, path_leaves}
use Rattle.fc_ops.specs.Asking.{question}
use Rattle.fc_ops.proofs.Asks.{paths_asked}
use Rattle.fc_ops.proofs.questions.push_oper.Goals as goal

pub returns-in-Paths : goal.returns-in-Paths
returns-in-Paths c =
    let all : flat_map (λ p. map question (path_leaves c.in-Paths.kind c.args.class c.args.instance p [])) c.as_slice.result.now ≡ map question (oper_leaves c.args.class c.args.instance c.args.oper.now) =
    ap (flat_map (λ p. map question (path_leaves c.in-Paths.kind c.args.class c.args.instance p []))) c.as_slice.ensures ∙ sym (paths_asked c.in-Paths.kind c.args.class c.args.instance c.in-Paths.paths)
    ∙ ap (λ o. map question (oper_leaves c.args.class c.args.instance o)) (sym c.in-Paths.is) in
    subst (λ l. OnOk c.push_paths.result (c.push_paths.new.questions.items ≡ c.args.questions.now.items ++ l)) all c.push_paths.ensures
