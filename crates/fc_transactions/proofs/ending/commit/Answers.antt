use Rattle.fc_phases.specs.Asking.{txn_of}
use Rattle.fc_transactions.proofs.Done.{if_of, on_idle, on_of}
use Rattle.fc_transactions.proofs.Endings.{unprepared_done, unprepared_ledger}
use Rattle.fc_transactions.specs.Phases.{prepares}
use Rattle.fc_transactions.proofs.ending.commit.Goals as goal

pub returns-in-Some-clause-done : goal.returns-in-Some-clause-done
returns-in-Some-clause-done c =
    if_of c.args.id c.args.peer c.args.request.now c.args.selects.now (prepares c.args.id c.args.ledger.now) c.in-Some.txn (txn_of c.args.subject) c.prepare.result c.in-Some.ensures.same c.prepare.ensures.done

pub returns-in-Some-clause-ok : goal.returns-in-Some-clause-ok
returns-in-Some-clause-ok c =
    on_of c.args.id c.args.peer c.args.request.now c.args.selects.now (prepares c.args.id c.args.ledger.now) c.in-Some.txn (txn_of c.args.subject) c.prepare.new.ledger c.prepare.result c.in-Some.ensures.same c.prepare.ensures.ok

pub returns-in-None-clause-done : goal.returns-in-None-clause-done
returns-in-None-clause-done c = unprepared_done c.args.id c.args.peer c.args.request.now c.args.selects.now c.args.ledger.now (txn_of c.args.subject) c.in-None.ensures.none c.answer.result c.answer.ensures

pub returns-in-None-clause-ok : goal.returns-in-None-clause-ok
returns-in-None-clause-ok c =
    on_idle c.args.id c.args.peer c.args.request.now c.args.selects.now (prepares c.args.id c.args.ledger.now (txn_of c.args.subject)) c.args.ledger.now c.answer.result (unprepared_ledger c.args.id c.args.peer c.args.request.now c.args.selects.now c.args.ledger.now (txn_of c.args.subject) c.in-None.ensures.none)
