use Rattle.std.proofs.Common.{◌≡◌, ◌++◌, OnOk, sym, ap, ◌∙◌, subst}
use Rattle.std.specs.List.{flat_map}
use Rattle.fc_path.proofs.Flattening.{nested_leaves}
use Rattle.fc_path.specs.Leaves.{body_leaves, path_leaves}
use Rattle.fc_events.specs.Operations.{steps_along}
use Rattle.fc_events.proofs.operations.+operate.Goals as goal

pub push_body-returns-in-Nested : goal.push_body-returns-in-Nested
push_body-returns-in-Nested t c =
    let o = c.args.origin in
    let steps = steps_along c.args.segments.items in
    let all : flat_map (λ p. path_leaves o.kind o.class o.instance p (steps_along c.deref.result.now)) c.as_slice.result.now ≡ body_leaves o.kind o.class o.instance c.args.body.now steps =
    ap (λ l. flat_map (λ p. path_leaves o.kind o.class o.instance p (steps_along l)) c.as_slice.result.now) c.deref.ensures.value
    ∙ ap (flat_map (λ p. path_leaves o.kind o.class o.instance p steps)) c.as_slice.ensures
    ∙ sym (nested_leaves o.kind o.class o.instance c.in-Nested.paths steps)
    ∙ ap (λ b. body_leaves o.kind o.class o.instance b steps) (sym c.in-Nested.is) in
    subst (λ l. OnOk c.push_paths.result (c.push_paths.new.operations.items ≡ c.args.operations.now.items ++ l)) all c.push_paths.ensures
