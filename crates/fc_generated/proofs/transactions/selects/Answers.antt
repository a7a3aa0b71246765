use Rattle.fc_generated.proofs.Appending.{change_is}
use Rattle.fc_generated.proofs.transactions.selects.Goals as goal

pub returns : goal.returns
returns c =
    change_is c.args.number c.args.element c.in_ok-set.field-0 c.new-opers.result c.push.new.self c.new-selects.result c.push-2.new.self
    c.in_ok-set.ensures c.new-opers.ensures c.in_ok-push.ensures.ok c.new-selects.ensures c.in_ok-push-2.ensures.ok
