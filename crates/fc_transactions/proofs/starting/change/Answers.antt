use Rattle.std.proofs.Common.{◌∙◌, ◌∷◌, ap, refl, sym}
use Rattle.fc_phases.specs.Asking.{txn_of}
use Rattle.fc_reply.specs.Counting.{each_gets}
use Rattle.fc_transactions.proofs.Done.{if_codes, if_of, if_same, on_idle, on_of, on_same}
use Rattle.fc_transactions.proofs.Openings.{continues_is, named_code, named_started, unchanged_done, unchanged_ledger, unnamed_code}
use Rattle.fc_transactions.specs.Phases.{continued, continues}
use Rattle.fc_transactions.proofs.starting.change.Goals as goal

pub returns-in-None-clause-done : goal.returns-in-None-clause-done
returns-in-None-clause-done c =
    unchanged_done c.args.id c.args.peer c.args.request.now c.args.selects.now c.args.ledger.now c.args.rest (txn_of c.args.subject) 11 c.refuse.result (unnamed_code c.args.id c.args.peer c.args.request.now c.args.selects.now c.args.ledger.now c.args.rest (txn_of c.args.subject) c.in-None.ensures.none) refl
    (if_codes c.args.peer c.args.request.now c.args.selects.now (11 ∷ each_gets 255 c.as_slice.result.now) (11 ∷ each_gets 255 c.args.rest) c.refuse.result (ap (λ them. 11 ∷ each_gets 255 them) c.as_slice.ensures) c.refuse.ensures)

pub returns-in-None-clause-ok : goal.returns-in-None-clause-ok
returns-in-None-clause-ok c =
    on_idle c.args.id c.args.peer c.args.request.now c.args.selects.now (continues c.args.id c.args.ledger.now (txn_of c.args.subject) c.args.rest) c.args.ledger.now c.refuse.result (unchanged_ledger c.args.id c.args.peer c.args.request.now c.args.selects.now c.args.ledger.now c.args.rest (txn_of c.args.subject) 11 (unnamed_code c.args.id c.args.peer c.args.request.now c.args.selects.now c.args.ledger.now c.args.rest (txn_of c.args.subject) c.in-None.ensures.none) refl)

pub add-requires-clause-started : goal.add-requires-clause-started
add-requires-clause-started c = named_started c.args.id c.args.peer c.args.request.now c.args.selects.now c.args.ledger.now c.args.rest c.in-Some.txn c.change_code-code.result c.state_of.result c.in-Some.ensures.named c.state_of.ensures c.change_code-code.ensures (sym c.is_success.ensures ∙ c.if-is_success.true)

pub returns-then-is_success-clause-done : goal.returns-then-is_success-clause-done
returns-then-is_success-clause-done c =
    if_of c.args.id c.args.peer c.args.request.now c.args.selects.now (λ x. continues c.args.id c.args.ledger.now x c.args.rest) c.in-Some.txn (txn_of c.args.subject) c.add.result c.in-Some.ensures.same
    (if_same c.args.id c.args.peer c.args.request.now c.args.selects.now (continued c.args.id c.args.ledger.now c.in-Some.txn c.args.rest) (continues c.args.id c.args.ledger.now c.in-Some.txn c.args.rest) c.add.result
    (continues_is c.args.id c.args.peer c.args.request.now c.args.selects.now c.args.ledger.now c.args.rest c.in-Some.txn c.change_code-code.result (named_code c.args.id c.args.peer c.args.request.now c.args.selects.now c.args.ledger.now c.args.rest c.in-Some.txn c.change_code-code.result c.state_of.result c.in-Some.ensures.named c.state_of.ensures c.change_code-code.ensures) (sym c.is_success.ensures ∙ c.if-is_success.true)) c.add.ensures.done)

pub returns-then-is_success-clause-ok : goal.returns-then-is_success-clause-ok
returns-then-is_success-clause-ok c =
    on_of c.args.id c.args.peer c.args.request.now c.args.selects.now (λ x. continues c.args.id c.args.ledger.now x c.args.rest) c.in-Some.txn (txn_of c.args.subject) c.add.new.ledger c.add.result c.in-Some.ensures.same
    (on_same c.args.id c.args.peer c.args.request.now c.args.selects.now (continued c.args.id c.args.ledger.now c.in-Some.txn c.args.rest) (continues c.args.id c.args.ledger.now c.in-Some.txn c.args.rest) c.add.new.ledger c.add.result
    (continues_is c.args.id c.args.peer c.args.request.now c.args.selects.now c.args.ledger.now c.args.rest c.in-Some.txn c.change_code-code.result (named_code c.args.id c.args.peer c.args.request.now c.args.selects.now c.args.ledger.now c.args.rest c.in-Some.txn c.change_code-code.result c.state_of.result c.in-Some.ensures.named c.state_of.ensures c.change_code-code.ensures) (sym c.is_success.ensures ∙ c.if-is_success.true)) c.add.ensures.ok)

pub returns-else-is_success-clause-done : goal.returns-else-is_success-clause-done
returns-else-is_success-clause-done c =
    if_of c.args.id c.args.peer c.args.request.now c.args.selects.now (λ x. continues c.args.id c.args.ledger.now x c.args.rest) c.in-Some.txn (txn_of c.args.subject) c.refuse-else-is_success.result c.in-Some.ensures.same
    (unchanged_done c.args.id c.args.peer c.args.request.now c.args.selects.now c.args.ledger.now c.args.rest c.in-Some.txn c.change_code-code.result c.refuse-else-is_success.result (named_code c.args.id c.args.peer c.args.request.now c.args.selects.now c.args.ledger.now c.args.rest c.in-Some.txn c.change_code-code.result c.state_of.result c.in-Some.ensures.named c.state_of.ensures c.change_code-code.ensures) (sym c.is_success.ensures ∙ c.if-is_success.false)
    (if_codes c.args.peer c.args.request.now c.args.selects.now (c.change_code-code.result ∷ each_gets 255 c.as_slice-else-is_success.result.now) (c.change_code-code.result ∷ each_gets 255 c.args.rest) c.refuse-else-is_success.result
    (ap (λ them. c.change_code-code.result ∷ each_gets 255 them) c.as_slice-else-is_success.ensures) c.refuse-else-is_success.ensures))

pub returns-else-is_success-clause-ok : goal.returns-else-is_success-clause-ok
returns-else-is_success-clause-ok c =
    on_of c.args.id c.args.peer c.args.request.now c.args.selects.now (λ x. continues c.args.id c.args.ledger.now x c.args.rest) c.in-Some.txn (txn_of c.args.subject) c.args.ledger.now c.refuse-else-is_success.result c.in-Some.ensures.same
    (on_idle c.args.id c.args.peer c.args.request.now c.args.selects.now (continues c.args.id c.args.ledger.now c.in-Some.txn c.args.rest) c.args.ledger.now c.refuse-else-is_success.result (unchanged_ledger c.args.id c.args.peer c.args.request.now c.args.selects.now c.args.ledger.now c.args.rest c.in-Some.txn c.change_code-code.result (named_code c.args.id c.args.peer c.args.request.now c.args.selects.now c.args.ledger.now c.args.rest c.in-Some.txn c.change_code-code.result c.state_of.result c.in-Some.ensures.named c.state_of.ensures c.change_code-code.ensures) (sym c.is_success.ensures ∙ c.if-is_success.false)))
