use Rattle.std.proofs.Common.{◌≡◌, ◌++◌, OnOk, sym, ap, ◌∙◌, subst}
use Rattle.std.specs.List.{flat_map}
use Rattle.fc_asks.specs.Codes.{body_codes, path_codes}
use Rattle.fc_asks.proofs.Nesting.{nested_codes}
use Rattle.fc_asks.proofs.codes.+codes.Goals as goal

pub push_body-returns-in-Nested : goal.push_body-returns-in-Nested
push_body-returns-in-Nested t c =
    let all : flat_map path_codes c.as_slice.result.now ≡ body_codes c.args.body.now =
    ap (flat_map path_codes) c.as_slice.ensures ∙ sym (nested_codes c.in-Nested.paths) ∙ ap body_codes (sym c.in-Nested.is) in
    subst (λ l. OnOk c.push_paths.result (c.push_paths.new.codes.items ≡ c.args.codes.now.items ++ l)) all c.push_paths.ensures
