use Rattle.std.proofs.Common.{◌≡◌, ◌++◌, OnOk, sym, ap, ◌∙◌, subst}
use Rattle.std.specs.List.{flat_map}
use Rattle.fc_path.specs.Leaves.{body_leaves, path_leaves}
use Rattle.fc_path.proofs.Flattening.{nested_leaves}
use Rattle.fc_path.proofs.leaves.+leaves.Goals as goal

pub push_body-returns-in-Nested : goal.push_body-returns-in-Nested
push_body-returns-in-Nested t c =
    let o = c.args.origin in
    let all : flat_map (λ p. path_leaves o.kind o.class o.instance p c.args.steps) c.as_slice.result.now ≡ body_leaves o.kind o.class o.instance c.args.body.now c.args.steps =
    ap (flat_map (λ p. path_leaves o.kind o.class o.instance p c.args.steps)) c.as_slice.ensures ∙ sym (nested_leaves o.kind o.class o.instance c.in-Nested.paths c.args.steps)
    ∙ ap (λ b. body_leaves o.kind o.class o.instance b c.args.steps) (sym c.in-Nested.is) in
    subst (λ l. OnOk c.push_paths.result (c.push_paths.new.leaves ≡ c.args.leaves.now ++ l)) all c.push_paths.ensures
