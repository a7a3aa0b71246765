use Rattle.std.proofs.Common.{◌≡◌, ◌++◌, [], OnOk, sym, ap, ◌∙◌, subst}
use Rattle.std.specs.List.{flat_map}
use Rattle.fc_path.specs.Leaves.{oper_leaves, path_leaves}
use Rattle.fc_events.proofs.operations.push_oper.Goals as goal

pub returns-in-Paths : goal.returns-in-Paths
returns-in-Paths c =
    let all : flat_map (λ p. path_leaves c.in-Paths.kind c.args.class c.args.instance p []) c.as_slice.result.now ≡ oper_leaves c.args.class c.args.instance c.args.oper.now =
    ap (flat_map (λ p. path_leaves c.in-Paths.kind c.args.class c.args.instance p [])) c.as_slice.ensures ∙ ap (oper_leaves c.args.class c.args.instance) (sym c.in-Paths.is) in
    subst (λ l. OnOk c.push_paths.result (c.push_paths.new.operations.items ≡ c.args.operations.now.items ++ l)) all c.push_paths.ensures
