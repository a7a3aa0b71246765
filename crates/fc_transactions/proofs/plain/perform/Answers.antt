use Rattle.std.proofs.Common.{◌∙◌}
use Rattle.fc_transactions.proofs.Done.{if_performed, on_performed, on_stays}
use Rattle.fc_transactions.proofs.plain.perform.Goals as goal

pub returns-clause-done : goal.returns-clause-done
returns-clause-done c =
    if_performed c.args.id c.args.peer c.args.request.now c.args.selects.now c.args.ledger.now c.deref.result.now c.pairs-all.result.now c.route_back-route.result (c.deref.ensures.value ∙ c.in_ok-held.ensures)
    (c.pairs-all.ensures.same ∙ c.instances.ensures.same) c.route_back-route.ensures c.execute.result
    c.execute.ensures.outs c.execute.ensures.said c.execute.ensures.reply c.execute.ensures.proper

pub returns-clause-ok : goal.returns-clause-ok
returns-clause-ok c =
    on_performed c.args.id c.args.peer c.args.request.now c.args.selects.now c.args.ledger.now c.deref.result.now c.pairs-all.result.now c.route_back-route.result (c.deref.ensures.value ∙ c.in_ok-held.ensures)
    (c.pairs-all.ensures.same ∙ c.instances.ensures.same) c.route_back-route.ensures c.execute.result
    c.execute.new.store c.execute.new.subscriptions c.execute.ensures.store c.execute.ensures.ok

pub returns-clause-err : goal.returns-clause-err
returns-clause-err c =
    on_stays c.args.id c.args.peer c.args.request.now c.args.selects.now c.args.ledger.now c.execute.result c.execute.new.store c.execute.new.subscriptions c.execute.ensures.stays c.execute.ensures.err
