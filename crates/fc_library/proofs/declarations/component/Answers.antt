use Rattle.std.proofs.Common.{ap, ◌∙◌}
use Rattle.std.proofs.lemmas.Result.{err_from_is_err_and}
use Rattle.toml.specs.View.{table_view}
use Rattle.fc_library.specs.Names.{type_keys}
use Rattle.fc_library.proofs.Components.{word_fails, optional_fails, type_fails}
use Rattle.fc_library.proofs.declarations.component.Goals as goal

pub returns-in_err-word : goal.returns-in_err-word
returns-in_err-word c =
    let (fault, is, same) = err_from_is_err_and c.from_residual-in_err-word.result c.from_residual-in_err-word.ensures.1 in
    rw (is, same) (word_fails _ (table_view c.args.table.now) _ _ _ _ (c.type_keys.ensures ∙ ap type_keys c.named.ensures) c.in_ok-only.ensures c.in_ok-id.ensures.exact c.in_ok-name.ensures c.in_err-word.ensures)

pub returns-in_err-optional : goal.returns-in_err-optional
returns-in_err-optional c =
    let (fault, is, same) = err_from_is_err_and c.from_residual-in_err-optional.result c.from_residual-in_err-optional.ensures.1 in
    rw (is, same)
    (optional_fails _ (table_view c.args.table.now) _ _ _ _ (c.type_keys.ensures ∙ ap type_keys c.named.ensures) c.in_ok-only.ensures c.in_ok-id.ensures.exact c.in_ok-name.ensures _ _ c.in_ok-word.ensures c.in_ok-access.ensures.exact c.in_err-optional.ensures)

pub returns-in_err-ty : goal.returns-in_err-ty
returns-in_err-ty c =
    let (fault, is, same) = err_from_is_err_and c.from_residual-in_err-ty.result c.from_residual-in_err-ty.ensures.1 in
    rw (is, same)
    (type_fails _ (table_view c.args.table.now) _ _ _ _ (c.type_keys.ensures ∙ ap type_keys c.named.ensures) c.in_ok-only.ensures c.in_ok-id.ensures.exact c.in_ok-name.ensures _ _ c.in_ok-word.ensures c.in_ok-access.ensures.exact _ c.in_ok-optional.ensures c.in_err-ty.ensures)
