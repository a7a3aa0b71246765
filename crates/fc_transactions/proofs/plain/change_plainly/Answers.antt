use Rattle.std.proofs.Common.{◌∙◌, ap, refl, sym}
use Rattle.fc_reply.specs.Counting.{each_gets}
use Rattle.fc_transactions.proofs.Done.{if_done, if_same, on_idle, on_same, plain_goes, plain_waits}
use Rattle.fc_transactions.specs.Phases.{Did, all_get, plain}
use Rattle.fc_transactions.proofs.plain.change_plainly.Goals as goal

pub returns-then-waits-clause-done : goal.returns-then-waits-clause-done
returns-then-waits-clause-done c =
    let is = plain_waits c.args.id c.args.peer c.args.request.now c.args.selects.now c.args.ledger.now (sym c.waits.ensures ∙ c.if-waits.true) in
    if_same c.args.id c.args.peer c.args.request.now c.args.selects.now _ _ c.all_get.result is
    (if_done c.args.id c.args.peer c.args.request.now c.args.selects.now (each_gets 18 c.args.selects.now) c.all_get.result c.all_get.ensures (all_get c.args.ledger.now c.args.selects.now 18) refl refl)

pub returns-then-waits-clause-ok : goal.returns-then-waits-clause-ok
returns-then-waits-clause-ok c =
    let is = plain_waits c.args.id c.args.peer c.args.request.now c.args.selects.now c.args.ledger.now (sym c.waits.ensures ∙ c.if-waits.true) in
    on_idle c.args.id c.args.peer c.args.request.now c.args.selects.now (plain c.args.id c.args.ledger.now c.args.request.now c.args.selects.now) c.args.ledger.now c.all_get.result (ap (λ (d : Did). d.ledger) is)

pub returns-else-waits-clause-done : goal.returns-else-waits-clause-done
returns-else-waits-clause-done c =
    let is = plain_goes c.args.id c.args.peer c.args.request.now c.args.selects.now c.args.ledger.now (sym c.waits.ensures ∙ c.if-waits.false) in
    if_same c.args.id c.args.peer c.args.request.now c.args.selects.now _ _ c.perform.result is c.perform.ensures.done

pub returns-else-waits-clause-ok : goal.returns-else-waits-clause-ok
returns-else-waits-clause-ok c =
    let is = plain_goes c.args.id c.args.peer c.args.request.now c.args.selects.now c.args.ledger.now (sym c.waits.ensures ∙ c.if-waits.false) in
    on_same c.args.id c.args.peer c.args.request.now c.args.selects.now _ _ c.perform.new.ledger c.perform.result is c.perform.ensures.ok
