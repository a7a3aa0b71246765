use Rattle.std.proofs.Common.{◌≡◌, ◌++◌, OnOk, sym, ap, ◌∙◌, subst}
use Rattle.std.specs.List.{flat_map}
use Rattle.fc_text.specs.Text.{body_text, path_text}
use Rattle.fc_text.proofs.Flattening.{nested_text}
use Rattle.fc_showing.proofs.message.+show.Goals as goal

pub push_body-returns-in-Nested-clause-text : goal.push_body-returns-in-Nested-clause-text
push_body-returns-in-Nested-clause-text t c =
    let all : flat_map (λ p. path_text p c.args.level) c.as_slice-in-Nested.result.now ≡ body_text c.args.body.now c.args.level =
    ap (flat_map (λ p. path_text p c.args.level)) c.as_slice-in-Nested.ensures ∙ sym (nested_text c.in-Nested.paths c.args.level) ∙ ap (λ b. body_text b c.args.level) (sym c.in-Nested.is) in
    subst (λ l. OnOk c.push_paths.result (c.push_paths.new.into.items ≡ c.args.into.now.items ++ l)) all c.push_paths.ensures.text
