use Rattle.fc_phases.specs.Asking.{txn_of}
use Rattle.std.proofs.Common.{◌∙◌, sym}
use Rattle.fc_transactions.proofs.Done.{on_idle}
use Rattle.fc_transactions.proofs.Floors.{floor_done, floor_ledger, no_floor_done, no_floor_ledger}
use Rattle.fc_transactions.specs.Phases.{floors}
use Rattle.fc_transactions.proofs.plain.set_floor.Goals as goal

pub returns-in-None-clause-done : goal.returns-in-None-clause-done
returns-in-None-clause-done c =
    no_floor_done c.args.id c.args.peer c.args.request.now c.args.selects.now c.args.epoch c.args.ledger.now (txn_of c.args.subject) (sym c.in-None.is ∙ c.own_floor.ensures) c.all_get.result c.all_get.ensures

pub returns-in-None-clause-ok : goal.returns-in-None-clause-ok
returns-in-None-clause-ok c =
    on_idle c.args.id c.args.peer c.args.request.now c.args.selects.now (floors c.args.epoch c.args.ledger.now c.args.selects.now (txn_of c.args.subject)) c.args.ledger.now c.all_get.result
    (no_floor_ledger c.args.id c.args.peer c.args.request.now c.args.selects.now c.args.epoch c.args.ledger.now (txn_of c.args.subject) (sym c.in-None.is ∙ c.own_floor.ensures))

pub returns-clause-done : goal.returns-clause-done
returns-clause-done c =
    floor_done c.args.id c.args.peer c.args.request.now c.args.selects.now c.args.epoch c.args.ledger.now (txn_of c.args.subject) c.in-Some.floor (sym c.in-Some.is ∙ c.own_floor.ensures) c.forget_code-code.result c.forget_code-code.ensures
    c.in_ok-answered.answered c.in_ok-answered.ensures

pub returns-clause-ok : goal.returns-clause-ok
returns-clause-ok c =
    floor_ledger c.args.id c.args.peer c.args.request.now c.args.selects.now c.args.epoch c.args.ledger.now (txn_of c.args.subject) c.in-Some.floor (sym c.in-Some.is ∙ c.own_floor.ensures) c.forget_code-code.result c.forget_code-code.ensures
    c.forget.new.self c.forget.ensures.after
