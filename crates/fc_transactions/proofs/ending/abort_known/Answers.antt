use Rattle.fc_transactions.proofs.Endings.{aborted_done, aborted_ledger}
use Rattle.fc_transactions.proofs.ending.abort_known.Goals as goal

pub returns-clause-done : goal.returns-clause-done
returns-clause-done c = aborted_done c.args.id c.args.peer c.args.request.now c.args.selects.now c.args.ledger.now c.args.txn c.requires.named c.args.state c.requires.known c.settle_code-code.result c.in_ok-answered.answered c.settle_code-code.ensures c.in_ok-answered.ensures

pub returns-clause-ok : goal.returns-clause-ok
returns-clause-ok c = aborted_ledger c.args.id c.args.peer c.args.request.now c.args.selects.now c.args.ledger.now c.args.txn c.requires.named c.args.state c.requires.known c.let_go.new.ledger c.settle.new.self c.let_go.ensures c.settle.ensures.after
