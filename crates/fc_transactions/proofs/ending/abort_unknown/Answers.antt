use Rattle.std.proofs.Common.{◌∙◌, sym}
use Rattle.fc_transactions.proofs.Endings.{entered_done, entered_ledger, not_entered_ledger}
use Rattle.fc_transactions.proofs.ending.abort_unknown.Goals as goal

pub returns-in-Ok-clause-done : goal.returns-in-Ok-clause-done
returns-in-Ok-clause-done c = entered_done c.args.id c.args.peer c.args.request.now c.args.selects.now c.args.ledger.now c.args.txn c.requires.named c.requires.unknown c.abort_unknown_code-code.result c.in_ok-answered.answered c.abort_unknown_code-code.ensures c.in_ok-answered.ensures

pub returns-in-Ok-clause-ok : goal.returns-in-Ok-clause-ok
returns-in-Ok-clause-ok c = entered_ledger c.args.id c.args.peer c.args.request.now c.args.selects.now c.args.ledger.now c.args.txn c.requires.named c.requires.unknown c.abort_unknown.new.self c.in-Ok.ensures.ok

pub returns-else-is_success-clause-done : goal.returns-else-is_success-clause-done
returns-else-is_success-clause-done c = entered_done c.args.id c.args.peer c.args.request.now c.args.selects.now c.args.ledger.now c.args.txn c.requires.named c.requires.unknown c.abort_unknown_code-code.result c.in_ok-answered.answered c.abort_unknown_code-code.ensures c.in_ok-answered.ensures

pub returns-else-is_success-clause-ok : goal.returns-else-is_success-clause-ok
returns-else-is_success-clause-ok c =
    not_entered_ledger c.args.id c.args.peer c.args.request.now c.args.selects.now c.args.ledger.now c.args.txn c.requires.named c.requires.unknown c.abort_unknown_code-code.result c.abort_unknown_code-code.ensures (sym c.is_success.ensures ∙ c.if-is_success.false)
