use Rattle.std.proofs.Common.{◌≡◌, OnOk, subst}
use Rattle.fc_generated.proofs.Appending.{given_up_is}
use Rattle.fc_generated.proofs.steps.put_given_up.Goals as goal

pub returns : goal.returns
returns c =
    subst (λ steps. OnOk c.put_next-2.result (c.put_next-2.new.steps.items ≡ steps))
    (given_up_is c.args.texts c.args.behind c.args.number c.args.steps.now.items c.push.new.self.items c.put_next.new.steps.items c.push-2.new.self.items c.in_ok-begun.begun c.name.result
    c.in_ok-begun.ensures c.name.ensures c.in_ok-push.ensures.items c.in_ok-put_next.ensures c.in_ok-push-2.ensures.items)
    c.put_next-2.ensures
