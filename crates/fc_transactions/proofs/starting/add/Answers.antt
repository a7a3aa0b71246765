use Rattle.std.proofs.Common.{◌∙◌, ap, refl, sym}
use Rattle.fc_holding.specs.Holdings.{undone}
use Rattle.fc_transactions.proofs.Openings.{back, dropped_done, dropped_ledger, extended_done, extended_ledger, kept_state, same_answered, same_code, same_state, same_try, unchanged}
use Rattle.fc_transactions.specs.Phases.{marked, rest_outcome}
use Rattle.fc_transactions.proofs.starting.add.Goals as goal

pub returns-then-not-is_success-clause-done : goal.returns-then-not-is_success-clause-done
returns-then-not-is_success-clause-done c =
    dropped_done c.args.id c.args.peer c.args.request.now c.args.selects.now c.args.ledger.now c.args.txn c.args.rest c.scope_of.result.now c.in_ok-trial.trial.code c.requires.named c.requires.started c.scope_of.ensures
    (same_code c.in_ok-trial.trial.code (rest_outcome c.scope_of.result.now (marked c.scope_of.result.now c.args.ledger.now.store) c.as_slice.result.now) (rest_outcome c.scope_of.result.now (marked c.scope_of.result.now c.args.ledger.now.store) c.args.rest) c.in_ok-trial.ensures.code (same_try c.scope_of.result.now c.scope_of.result.now c.as_slice.result.now c.args.rest c.args.ledger.now.store refl c.as_slice.ensures))
    (sym c.is_success.ensures ∙ c.if-not-is_success.true) c.in_ok-trial.trial.answered (same_answered c.args.peer c.args.request.now c.args.selects.now (rest_outcome c.scope_of.result.now (marked c.scope_of.result.now c.args.ledger.now.store) c.as_slice.result.now) (rest_outcome c.scope_of.result.now (marked c.scope_of.result.now c.args.ledger.now.store) c.args.rest) c.in_ok-trial.trial.answered c.in_ok-trial.ensures.answered (same_try c.scope_of.result.now c.scope_of.result.now c.as_slice.result.now c.args.rest c.args.ledger.now.store refl c.as_slice.ensures))

pub returns-then-not-is_success-clause-ok : goal.returns-then-not-is_success-clause-ok
returns-then-not-is_success-clause-ok c =
    dropped_ledger c.args.id c.args.peer c.args.request.now c.args.selects.now c.args.ledger.now c.args.txn c.args.rest c.scope_of.result.now c.in_ok-trial.trial.code c.requires.named c.requires.started c.scope_of.ensures
    (same_code c.in_ok-trial.trial.code (rest_outcome c.scope_of.result.now (marked c.scope_of.result.now c.args.ledger.now.store) c.as_slice.result.now) (rest_outcome c.scope_of.result.now (marked c.scope_of.result.now c.args.ledger.now.store) c.args.rest) c.in_ok-trial.ensures.code (same_try c.scope_of.result.now c.scope_of.result.now c.as_slice.result.now c.args.rest c.args.ledger.now.store refl c.as_slice.ensures))
    (sym c.is_success.ensures ∙ c.if-not-is_success.true) c.settle.new.self c.undo.new.holdings c.undo.new.store c.settle.ensures.after c.undo.ensures.left
    (c.undo.ensures.undone ∙ ap (λ s. undone c.args.txn c.args.ledger.now.holdings s) (c.rollback.ensures ∙ back c.scope_of.result.now c.in_ok-trial.trial.mark c.args.ledger.now.store c.attempt.new.store c.as_slice.result.now c.in_ok-trial.ensures.mark c.in_ok-trial.ensures.ok c.in_ok-trial.ensures.whole))

pub returns-in-Ok-clause-done : goal.returns-in-Ok-clause-done
returns-in-Ok-clause-done c =
    extended_done c.args.id c.args.peer c.args.request.now c.args.selects.now c.args.ledger.now c.args.txn c.args.rest c.scope_of.result.now c.in_ok-trial.trial.code c.requires.named c.requires.started c.scope_of.ensures
    (same_code c.in_ok-trial.trial.code (rest_outcome c.scope_of.result.now (marked c.scope_of.result.now c.args.ledger.now.store) c.as_slice.result.now) (rest_outcome c.scope_of.result.now (marked c.scope_of.result.now c.args.ledger.now.store) c.args.rest) c.in_ok-trial.ensures.code (same_try c.scope_of.result.now c.scope_of.result.now c.as_slice.result.now c.args.rest c.args.ledger.now.store refl c.as_slice.ensures))
    (sym c.is_success.ensures ∙ c.if-not-is_success.false) c.in_ok-trial.trial.answered (same_answered c.args.peer c.args.request.now c.args.selects.now (rest_outcome c.scope_of.result.now (marked c.scope_of.result.now c.args.ledger.now.store) c.as_slice.result.now) (rest_outcome c.scope_of.result.now (marked c.scope_of.result.now c.args.ledger.now.store) c.args.rest) c.in_ok-trial.trial.answered c.in_ok-trial.ensures.answered (same_try c.scope_of.result.now c.scope_of.result.now c.as_slice.result.now c.args.rest c.args.ledger.now.store refl c.as_slice.ensures))

pub returns-in-Ok-clause-ok : goal.returns-in-Ok-clause-ok
returns-in-Ok-clause-ok c =
    extended_ledger c.args.id c.args.peer c.args.request.now c.args.selects.now c.args.ledger.now c.args.txn c.args.rest c.scope_of.result.now c.in_ok-trial.trial.code c.requires.named c.requires.started c.scope_of.ensures
    (same_code c.in_ok-trial.trial.code (rest_outcome c.scope_of.result.now (marked c.scope_of.result.now c.args.ledger.now.store) c.as_slice.result.now) (rest_outcome c.scope_of.result.now (marked c.scope_of.result.now c.args.ledger.now.store) c.args.rest) c.in_ok-trial.ensures.code (same_try c.scope_of.result.now c.scope_of.result.now c.as_slice.result.now c.args.rest c.args.ledger.now.store refl c.as_slice.ensures))
    (sym c.is_success.ensures ∙ c.if-not-is_success.false) c.extend.new.holdings c.release.new.self c.in-Ok.ensures.ok
    (c.release.ensures
    ∙ kept_state c.args.id c.args.peer c.args.request.now c.args.selects.now c.args.ledger.now c.args.txn c.args.rest c.scope_of.result.now c.in_ok-trial.trial.code c.requires.named c.requires.started c.scope_of.ensures
    (same_code c.in_ok-trial.trial.code (rest_outcome c.scope_of.result.now (marked c.scope_of.result.now c.args.ledger.now.store) c.as_slice.result.now) (rest_outcome c.scope_of.result.now (marked c.scope_of.result.now c.args.ledger.now.store) c.args.rest) c.in_ok-trial.ensures.code (same_try c.scope_of.result.now c.scope_of.result.now c.as_slice.result.now c.args.rest c.args.ledger.now.store refl c.as_slice.ensures))
    c.in_ok-trial.trial.mark c.attempt.new.store c.in_ok-trial.ensures.mark (same_state c.attempt.new.store (rest_outcome c.scope_of.result.now (marked c.scope_of.result.now c.args.ledger.now.store) c.as_slice.result.now) (rest_outcome c.scope_of.result.now (marked c.scope_of.result.now c.args.ledger.now.store) c.args.rest) c.in_ok-trial.ensures.ok (same_try c.scope_of.result.now c.scope_of.result.now c.as_slice.result.now c.args.rest c.args.ledger.now.store refl c.as_slice.ensures)))

pub returns-in-Err-clause-err : goal.returns-in-Err-clause-err
returns-in-Err-clause-err c =
    unchanged c.args.ledger.now c.args.ledger.now.records c.extend.new.holdings c.rollback-in-Err.new.self refl c.in-Err.ensures.err
    (c.rollback-in-Err.ensures ∙ back c.scope_of.result.now c.in_ok-trial.trial.mark c.args.ledger.now.store c.attempt.new.store c.as_slice.result.now c.in_ok-trial.ensures.mark c.in_ok-trial.ensures.ok c.in_ok-trial.ensures.whole)
