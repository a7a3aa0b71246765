use Rattle.fc_transactions.proofs.Endings.{prepared_done, prepared_ledger}
use Rattle.fc_transactions.proofs.ending.prepare.Goals as goal

pub returns-clause-done : goal.returns-clause-done
returns-clause-done c = prepared_done c.args.id c.args.peer c.args.request.now c.args.selects.now c.args.ledger.now c.args.txn c.requires.named c.prepare_code-code.result c.in_ok-answered.answered c.prepare_code-code.ensures c.in_ok-answered.ensures

pub returns-clause-ok : goal.returns-clause-ok
returns-clause-ok c = prepared_ledger c.args.id c.args.peer c.args.request.now c.args.selects.now c.args.ledger.now c.args.txn c.requires.named c.prepare.new.self c.prepare.ensures.after
