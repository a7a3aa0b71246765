use Rattle.std.proofs.Common.{subst, ◌<◌, ◌≤◌, length, arith, ◌∙◌, sym, ap, Ok}
use Rattle.std.proofs.lemmas.Str.{is_utf8-from_IsUtf8, IsUtf8-from_is_utf8}
use Rattle.fc_value.specs.declared.value.Value.TheVariants as value
use Rattle.fc_value.proofs.Conditions.{then_is, else_is, below, not_below, not_true}
use Rattle.fc_value.proofs.parts.read_text.Goals as goal

pub returns-then-text-limit : goal.returns-then-text-limit
returns-then-text-limit c = then_is _ _ _ (is_utf8-from_IsUtf8 c.args.bytes.now c.in-Ok.ensures.cases.1) ∙ then_is _ _ _ (below _ _ (subst (λ l. c.args.limit < length l) c.in-Ok.ensures.cases.0 c.if-text-limit.true))

pub returns-in_ok-from_str-in-Ok : goal.returns-in_ok-from_str-in-Ok
returns-in_ok-from_str-in-Ok c =
    then_is _ _ _ (is_utf8-from_IsUtf8 c.args.bytes.now c.in-Ok.ensures.cases.1) ∙ else_is _ _ _ (not_below _ _ (subst (λ l. length l ≤ c.args.limit) c.in-Ok.ensures.cases.0 (omega (arith, c.if-text-limit.false))))
    ∙ ap (λ t. Ok (value.Text t)) (sym (c.in_ok-from_str-in-Ok.ensures ∙ c.in-Ok.ensures.cases.0))

pub returns-in-Err : goal.returns-in-Err
returns-in-Err c = else_is _ _ _ (not_true _ (λ e. c.in-Err.ensures.cases.0 (IsUtf8-from_is_utf8 c.args.bytes.now e)))
