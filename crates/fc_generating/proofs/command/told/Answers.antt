use Rattle.std.proofs.Common.{◌≡◌, ◌∙◌, ap, subst}
use Rattle.std.specs.Prelude.{IfOk}
use Rattle.fc_generating.specs.Summaries.{summary}
use Rattle.fc_generating.specs.Trying.{last_world}
use Rattle.fc_generating.proofs.command.told.Goals as goal

pub returns : goal.returns
returns c =
    subst (λ w. IfOk c.text_of.result (λ text. text.items ≡ summary c.args.count w)) (c.in_ok-run.ensures ∙ ap last_world c.in_ok-script.ensures) c.text_of.ensures
