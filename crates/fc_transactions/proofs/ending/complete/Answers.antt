use Rattle.fc_phases.specs.Asking.{txn_of}
use Rattle.fc_transactions.proofs.Done.{if_of, on_idle, on_of}
use Rattle.fc_transactions.proofs.Endings.{uncompleted_done, uncompleted_ledger}
use Rattle.fc_transactions.specs.Phases.{completes}
use Rattle.fc_transactions.proofs.ending.complete.Goals as goal

pub returns-then-settles-clause-done : goal.returns-then-settles-clause-done
returns-then-settles-clause-done c = if_of c.args.id c.args.peer c.args.request.now c.args.selects.now (completes c.args.id c.args.ledger.now) c.in-Some.txn (txn_of c.args.subject) c.settle_prepared.result c.in-Some.ensures.same c.settle_prepared.ensures.done

pub returns-then-settles-clause-ok : goal.returns-then-settles-clause-ok
returns-then-settles-clause-ok c =
    on_of c.args.id c.args.peer c.args.request.now c.args.selects.now (completes c.args.id c.args.ledger.now) c.in-Some.txn (txn_of c.args.subject) c.settle_prepared.new.ledger c.settle_prepared.result c.in-Some.ensures.same c.settle_prepared.ensures.ok

pub returns-else-settles-clause-done : goal.returns-else-settles-clause-done
returns-else-settles-clause-done c = if_of c.args.id c.args.peer c.args.request.now c.args.selects.now (completes c.args.id c.args.ledger.now) c.in-Some.txn (txn_of c.args.subject) c.settle_nothing.result c.in-Some.ensures.same c.settle_nothing.ensures.done

pub returns-else-settles-clause-ok : goal.returns-else-settles-clause-ok
returns-else-settles-clause-ok c =
    on_of c.args.id c.args.peer c.args.request.now c.args.selects.now (completes c.args.id c.args.ledger.now) c.in-Some.txn (txn_of c.args.subject) c.args.ledger.now c.settle_nothing.result c.in-Some.ensures.same
    (on_idle c.args.id c.args.peer c.args.request.now c.args.selects.now (completes c.args.id c.args.ledger.now c.in-Some.txn) c.args.ledger.now c.settle_nothing.result c.settle_nothing.ensures.same)

pub returns-in-None-clause-done : goal.returns-in-None-clause-done
returns-in-None-clause-done c = uncompleted_done c.args.id c.args.peer c.args.request.now c.args.selects.now c.args.ledger.now (txn_of c.args.subject) c.in-None.ensures.none c.answer.result c.answer.ensures

pub returns-in-None-clause-ok : goal.returns-in-None-clause-ok
returns-in-None-clause-ok c =
    on_idle c.args.id c.args.peer c.args.request.now c.args.selects.now (completes c.args.id c.args.ledger.now (txn_of c.args.subject)) c.args.ledger.now c.answer.result (uncompleted_ledger c.args.id c.args.peer c.args.request.now c.args.selects.now c.args.ledger.now (txn_of c.args.subject) c.in-None.ensures.none)
