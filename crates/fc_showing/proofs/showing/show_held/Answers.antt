use Rattle.std.proofs.Common.{◌≡◌, ◌++◌, Result, refl, sym, ap, ◌∙◌, subst}
use Rattle.std.specs.List.{flat_map}
use Rattle.fc_path.specs.SelectHeads.{with_paths}
use Rattle.fc_path.specs.declared.fault.PathFault.{PathFault}
use Rattle.fc_path.specs.declared.oper.Oper.{Oper}
use Rattle.fc_path.specs.declared.oper.Oper.TheVariants.{Paths}
use Rattle.fc_showing.specs.Appending.{Shows}
use Rattle.fc_text.specs.Text.{kind_name, oper_line, oper_text, path_text}
use Rattle.fc_showing.proofs.Appending.{goes_on}
use Rattle.fc_showing.proofs.showing.show_held.Goals as goal

pub returns-in_ok-push_line-in-Paths-clause-shown : goal.returns-in_ok-push_line-in-Paths-clause-shown
returns-in_ok-push_line-in-Paths-clause-shown c =
    let old = c.args.into.now.items in
    let kind = c.in-Paths.kind in
    let line : c.push_line.new.into.items ≡ old ++ oper_line (kind_name kind) = c.in_ok-push_line-in-Paths.ensures.text ∙ ap (λ l. old ++ oper_line l) (c.as_bytes.ensures.value ∙ c.operation_name.ensures) in
    subst (λ (r : Result Oper PathFault). Shows c.show_paths.result r oper_text old c.show_paths.new.into.items) (sym (ap with_paths c.in-Paths.is))
    (goes_on c.show_paths.result _ (Paths kind) (flat_map (λ path. path_text path 3)) oper_text old (oper_line (kind_name kind)) c.push_line.new.into.items c.show_paths.new.into.items line (λ paths. refl) c.show_paths.ensures.shown)
