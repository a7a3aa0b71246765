use Rattle.fc_phases.specs.Asking.{txn_of}
use Rattle.fc_transactions.proofs.Done.{if_of, on_idle, on_of}
use Rattle.fc_transactions.proofs.Endings.{unaborted_done, unaborted_ledger}
use Rattle.fc_transactions.specs.Phases.{aborts}
use Rattle.fc_transactions.proofs.ending.abort.Goals as goal

pub returns-in-Some-state_of-clause-done : goal.returns-in-Some-state_of-clause-done
returns-in-Some-state_of-clause-done c = if_of c.args.id c.args.peer c.args.request.now c.args.selects.now (aborts c.args.id c.args.ledger.now) c.in-Some.txn (txn_of c.args.subject) c.abort_known.result c.in-Some.ensures.same c.abort_known.ensures.done

pub returns-in-Some-state_of-clause-ok : goal.returns-in-Some-state_of-clause-ok
returns-in-Some-state_of-clause-ok c = on_of c.args.id c.args.peer c.args.request.now c.args.selects.now (aborts c.args.id c.args.ledger.now) c.in-Some.txn (txn_of c.args.subject) c.abort_known.new.ledger c.abort_known.result c.in-Some.ensures.same c.abort_known.ensures.ok

pub returns-in-None-state_of-clause-done : goal.returns-in-None-state_of-clause-done
returns-in-None-state_of-clause-done c = if_of c.args.id c.args.peer c.args.request.now c.args.selects.now (aborts c.args.id c.args.ledger.now) c.in-Some.txn (txn_of c.args.subject) c.abort_unknown.result c.in-Some.ensures.same c.abort_unknown.ensures.done

pub returns-in-None-state_of-clause-ok : goal.returns-in-None-state_of-clause-ok
returns-in-None-state_of-clause-ok c = on_of c.args.id c.args.peer c.args.request.now c.args.selects.now (aborts c.args.id c.args.ledger.now) c.in-Some.txn (txn_of c.args.subject) c.abort_unknown.new.ledger c.abort_unknown.result c.in-Some.ensures.same c.abort_unknown.ensures.ok

pub returns-in-None-clause-done : goal.returns-in-None-clause-done
returns-in-None-clause-done c = unaborted_done c.args.id c.args.peer c.args.request.now c.args.selects.now c.args.ledger.now (txn_of c.args.subject) c.in-None.ensures.none c.answer.result c.answer.ensures

pub returns-in-None-clause-ok : goal.returns-in-None-clause-ok
returns-in-None-clause-ok c =
    on_idle c.args.id c.args.peer c.args.request.now c.args.selects.now (aborts c.args.id c.args.ledger.now (txn_of c.args.subject)) c.args.ledger.now c.answer.result (unaborted_ledger c.args.id c.args.peer c.args.request.now c.args.selects.now c.args.ledger.now (txn_of c.args.subject) c.in-None.ensures.none)
