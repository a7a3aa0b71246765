use Rattle.std.proofs.Common.{◌∙◌}
use Rattle.fc_transactions.proofs.Endings.{settled_done, settled_ledger}
use Rattle.fc_transactions.proofs.ending.settle_prepared.Goals as goal

pub returns-clause-done : goal.returns-clause-done
returns-clause-done c =
    settled_done c.args.id c.args.peer c.args.request.now c.args.selects.now c.args.ledger.now c.args.txn c.requires.named c.requires.prepared c.deref.result.now c.pairs-all.result.now c.route_back-route.result c.in_ok-others.others (c.deref.ensures.value ∙ c.in_ok-held.ensures)
    (c.pairs-all.ensures.same ∙ c.instances.ensures.same) c.route_back-route.ensures c.in_ok-others.ensures
    c.in_ok-answered.answered c.in_ok-answered.ensures.outs c.in_ok-answered.ensures.said c.in_ok-answered.ensures.reply c.in_ok-answered.ensures.proper

pub returns-clause-ok : goal.returns-clause-ok
returns-clause-ok c =
    settled_ledger c.args.id c.args.peer c.args.request.now c.args.selects.now c.args.ledger.now c.args.txn c.requires.named c.requires.prepared c.deref.result.now c.pairs-all.result.now c.route_back-route.result c.in_ok-others.others (c.deref.ensures.value ∙ c.in_ok-held.ensures)
    (c.pairs-all.ensures.same ∙ c.instances.ensures.same) c.route_back-route.ensures c.in_ok-others.ensures
    c.settle-2.new.self c.settle.new.holdings c.settle.new.store c.tell.new.subscriptions c.settle-2.ensures.after c.settle.ensures.left c.settle.ensures.settled c.in_ok-answered.ensures.ok
