use Rattle.std.proofs.Common.{◌∙◌, ◌≤◌, length, ap, refl, subst, sym}
use Rattle.fc_protocol.specs.Scopes.{is_rising}
use Rattle.fc_store.specs.Stores.{mark_of}
use Rattle.fc_transactions.proofs.Openings.{accepted_scope, back, failed_done, failed_ledger, opened_done, opened_ledger, same_answered, same_code, same_state, same_try, on_want}
use Rattle.fc_transactions.specs.Phases.{marked, rest_outcome}
use Rattle.fc_transactions.specs.declared.starting.Admission.{Admission}
use Rattle.fc_transactions.proofs.starting.open.Goals as goal

pub hold-requires-clause-accepted : goal.hold-requires-clause-accepted
hold-requires-clause-accepted c =
    accepted_scope c.args.id c.args.peer c.args.request.now c.args.selects.now c.args.ledger.now c.args.opening.now c.args.rest c.args.admitted c.in_ok-scope.scope c.in_ok-trial.trial.mark c.in_ok-trial.trial.code c.requires.named c.requires.accepted (c.in_ok-scope.ensures ∙ c.as_slice.ensures)
    (same_code c.in_ok-trial.trial.code (rest_outcome c.as_slice-2.result.now (marked c.as_slice-2.result.now c.args.ledger.now.store) c.as_slice-3.result.now) (rest_outcome c.args.opening.now.instances (marked c.args.opening.now.instances c.args.ledger.now.store) c.args.rest) c.in_ok-trial.ensures.code (same_try c.as_slice-2.result.now c.args.opening.now.instances c.as_slice-3.result.now c.args.rest c.args.ledger.now.store c.as_slice-2.ensures c.as_slice-3.ensures))

pub hold-requires-clause-scope : goal.hold-requires-clause-scope
hold-requires-clause-scope c = ap is_rising (c.in_ok-scope.ensures ∙ c.as_slice.ensures) ∙ c.requires.scope

pub hold-requires-clause-few : goal.hold-requires-clause-few
hold-requires-clause-few c = subst (λ (x : Admission). length x.participants ≤ 64) (sym c.requires.named) c.requires.few

pub enter_failed-requires-clause-accepted : goal.enter_failed-requires-clause-accepted
enter_failed-requires-clause-accepted c =
    accepted_scope c.args.id c.args.peer c.args.request.now c.args.selects.now c.args.ledger.now c.args.opening.now c.args.rest c.args.admitted c.in_ok-scope.scope c.in_ok-trial.trial.mark c.in_ok-trial.trial.code c.requires.named c.requires.accepted (c.in_ok-scope.ensures ∙ c.as_slice.ensures)
    (same_code c.in_ok-trial.trial.code (rest_outcome c.as_slice-2.result.now (marked c.as_slice-2.result.now c.args.ledger.now.store) c.as_slice-3.result.now) (rest_outcome c.args.opening.now.instances (marked c.args.opening.now.instances c.args.ledger.now.store) c.args.rest) c.in_ok-trial.ensures.code (same_try c.as_slice-2.result.now c.args.opening.now.instances c.as_slice-3.result.now c.args.rest c.args.ledger.now.store c.as_slice-2.ensures c.as_slice-3.ensures))

pub enter_failed-requires-clause-scope : goal.enter_failed-requires-clause-scope
enter_failed-requires-clause-scope c = ap is_rising (c.in_ok-scope.ensures ∙ c.as_slice.ensures) ∙ c.requires.scope

pub enter_failed-requires-clause-few : goal.enter_failed-requires-clause-few
enter_failed-requires-clause-few c = subst (λ (x : Admission). length x.participants ≤ 64) (sym c.requires.named) c.requires.few

pub returns-in_ok-hold-clause-done : goal.returns-in_ok-hold-clause-done
returns-in_ok-hold-clause-done c =
    opened_done c.args.id c.args.peer c.args.request.now c.args.selects.now c.args.ledger.now c.args.opening.now c.args.rest c.args.admitted c.in_ok-scope.scope c.in_ok-trial.trial.mark c.in_ok-trial.trial.code c.requires.named c.requires.accepted (c.in_ok-scope.ensures ∙ c.as_slice.ensures)
    (same_code c.in_ok-trial.trial.code (rest_outcome c.as_slice-2.result.now (marked c.as_slice-2.result.now c.args.ledger.now.store) c.as_slice-3.result.now) (rest_outcome c.args.opening.now.instances (marked c.args.opening.now.instances c.args.ledger.now.store) c.args.rest) c.in_ok-trial.ensures.code (same_try c.as_slice-2.result.now c.args.opening.now.instances c.as_slice-3.result.now c.args.rest c.args.ledger.now.store c.as_slice-2.ensures c.as_slice-3.ensures))
    (sym c.is_success.ensures ∙ c.if-is_success.true) (c.in_ok-trial.ensures.mark ∙ ap (λ sc. mark_of sc c.args.ledger.now.store) c.as_slice-2.ensures) c.in_ok-trial.trial.answered (same_answered c.args.peer c.args.request.now c.args.selects.now (rest_outcome c.as_slice-2.result.now (marked c.as_slice-2.result.now c.args.ledger.now.store) c.as_slice-3.result.now) (rest_outcome c.args.opening.now.instances (marked c.args.opening.now.instances c.args.ledger.now.store) c.args.rest) c.in_ok-trial.trial.answered c.in_ok-trial.ensures.answered (same_try c.as_slice-2.result.now c.args.opening.now.instances c.as_slice-3.result.now c.args.rest c.args.ledger.now.store c.as_slice-2.ensures c.as_slice-3.ensures))

pub returns-in_ok-hold-clause-ok : goal.returns-in_ok-hold-clause-ok
returns-in_ok-hold-clause-ok c =
    opened_ledger c.args.id c.args.peer c.args.request.now c.args.selects.now c.args.ledger.now c.args.opening.now c.args.rest c.args.admitted c.in_ok-scope.scope c.in_ok-trial.trial.mark c.in_ok-trial.trial.code c.requires.named c.requires.accepted (c.in_ok-scope.ensures ∙ c.as_slice.ensures)
    (same_code c.in_ok-trial.trial.code (rest_outcome c.as_slice-2.result.now (marked c.as_slice-2.result.now c.args.ledger.now.store) c.as_slice-3.result.now) (rest_outcome c.args.opening.now.instances (marked c.args.opening.now.instances c.args.ledger.now.store) c.args.rest) c.in_ok-trial.ensures.code (same_try c.as_slice-2.result.now c.args.opening.now.instances c.as_slice-3.result.now c.args.rest c.args.ledger.now.store c.as_slice-2.ensures c.as_slice-3.ensures))
    (sym c.is_success.ensures ∙ c.if-is_success.true) (c.in_ok-trial.ensures.mark ∙ ap (λ sc. mark_of sc c.args.ledger.now.store) c.as_slice-2.ensures) c.hold.new.records c.hold.new.holdings c.hold.new.store c.in_ok-hold.ensures.records c.in_ok-hold.ensures.holdings
    (c.in_ok-hold.ensures.store ∙ same_state c.attempt.new.store (rest_outcome c.as_slice-2.result.now (marked c.as_slice-2.result.now c.args.ledger.now.store) c.as_slice-3.result.now) (rest_outcome c.args.opening.now.instances (marked c.args.opening.now.instances c.args.ledger.now.store) c.args.rest) c.in_ok-trial.ensures.ok (same_try c.as_slice-2.result.now c.args.opening.now.instances c.as_slice-3.result.now c.args.rest c.args.ledger.now.store c.as_slice-2.ensures c.as_slice-3.ensures))

pub returns-in_err-hold-clause-err : goal.returns-in_err-hold-clause-err
returns-in_err-hold-clause-err c =
    on_want c.args.ledger.now c.from_residual-in_err-hold.result c.hold.new.records c.hold.new.holdings c.hold.new.store c.in_err-hold.ensures.err c.in_err-hold.ensures.same
    (c.in_err-hold.ensures.undone ∙ back c.as_slice-2.result.now c.in_ok-trial.trial.mark c.args.ledger.now.store c.attempt.new.store c.as_slice-3.result.now c.in_ok-trial.ensures.mark c.in_ok-trial.ensures.ok c.in_ok-trial.ensures.whole)

pub returns-in_ok-enter_failed-clause-done : goal.returns-in_ok-enter_failed-clause-done
returns-in_ok-enter_failed-clause-done c =
    failed_done c.args.id c.args.peer c.args.request.now c.args.selects.now c.args.ledger.now c.args.opening.now c.args.rest c.args.admitted c.in_ok-scope.scope c.in_ok-trial.trial.mark c.in_ok-trial.trial.code c.requires.named c.requires.accepted (c.in_ok-scope.ensures ∙ c.as_slice.ensures)
    (same_code c.in_ok-trial.trial.code (rest_outcome c.as_slice-2.result.now (marked c.as_slice-2.result.now c.args.ledger.now.store) c.as_slice-3.result.now) (rest_outcome c.args.opening.now.instances (marked c.args.opening.now.instances c.args.ledger.now.store) c.args.rest) c.in_ok-trial.ensures.code (same_try c.as_slice-2.result.now c.args.opening.now.instances c.as_slice-3.result.now c.args.rest c.args.ledger.now.store c.as_slice-2.ensures c.as_slice-3.ensures))
    (sym c.is_success.ensures ∙ c.if-is_success.false) c.in_ok-trial.trial.answered (same_answered c.args.peer c.args.request.now c.args.selects.now (rest_outcome c.as_slice-2.result.now (marked c.as_slice-2.result.now c.args.ledger.now.store) c.as_slice-3.result.now) (rest_outcome c.args.opening.now.instances (marked c.args.opening.now.instances c.args.ledger.now.store) c.args.rest) c.in_ok-trial.trial.answered c.in_ok-trial.ensures.answered (same_try c.as_slice-2.result.now c.args.opening.now.instances c.as_slice-3.result.now c.args.rest c.args.ledger.now.store c.as_slice-2.ensures c.as_slice-3.ensures))

pub returns-in_ok-enter_failed-clause-ok : goal.returns-in_ok-enter_failed-clause-ok
returns-in_ok-enter_failed-clause-ok c =
    failed_ledger c.args.id c.args.peer c.args.request.now c.args.selects.now c.args.ledger.now c.args.opening.now c.args.rest c.args.admitted c.in_ok-scope.scope c.in_ok-trial.trial.mark c.in_ok-trial.trial.code c.requires.named c.requires.accepted (c.in_ok-scope.ensures ∙ c.as_slice.ensures)
    (same_code c.in_ok-trial.trial.code (rest_outcome c.as_slice-2.result.now (marked c.as_slice-2.result.now c.args.ledger.now.store) c.as_slice-3.result.now) (rest_outcome c.args.opening.now.instances (marked c.args.opening.now.instances c.args.ledger.now.store) c.args.rest) c.in_ok-trial.ensures.code (same_try c.as_slice-2.result.now c.args.opening.now.instances c.as_slice-3.result.now c.args.rest c.args.ledger.now.store c.as_slice-2.ensures c.as_slice-3.ensures))
    (sym c.is_success.ensures ∙ c.if-is_success.false) c.enter_failed.new.records c.rollback.new.self c.in_ok-enter_failed.ensures.ok
    (c.rollback.ensures ∙ back c.as_slice-2.result.now c.in_ok-trial.trial.mark c.args.ledger.now.store c.attempt.new.store c.as_slice-3.result.now c.in_ok-trial.ensures.mark c.in_ok-trial.ensures.ok c.in_ok-trial.ensures.whole)

pub returns-in_err-enter_failed-clause-err : goal.returns-in_err-enter_failed-clause-err
returns-in_err-enter_failed-clause-err c =
    on_want c.args.ledger.now c.from_residual-in_err-enter_failed.result c.enter_failed.new.records c.args.ledger.now.holdings c.rollback.new.self c.in_err-enter_failed.ensures.err refl
    (c.rollback.ensures ∙ back c.as_slice-2.result.now c.in_ok-trial.trial.mark c.args.ledger.now.store c.attempt.new.store c.as_slice-3.result.now c.in_ok-trial.ensures.mark c.in_ok-trial.ensures.ok c.in_ok-trial.ensures.whole)
