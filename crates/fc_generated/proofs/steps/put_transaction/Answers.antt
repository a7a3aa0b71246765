use Rattle.std.proofs.Common.{◌≡◌, ◌++◌, OnOk, subst}
use Rattle.fc_generated.proofs.Appending.{whole_is}
use Rattle.fc_generated.proofs.steps.put_transaction.Goals as goal

pub returns-else-number-eq0 : goal.returns-else-number-eq0
returns-else-number-eq0 c =
    subst (λ steps. OnOk c.put_whole.result (c.put_whole.new.steps.items ≡ c.args.steps.now.items ++ steps))
    (whole_is c.args.number c.texts_before-texts.result c.delivered_before-behind.result c.if-number-eq0.false c.texts_before-texts.ensures.exact c.delivered_before-behind.ensures.exact)
    c.put_whole.ensures
