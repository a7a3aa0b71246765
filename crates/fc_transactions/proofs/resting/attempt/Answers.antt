use Rattle.std.proofs.Common.{◌∙◌, ◌∷◌, ap, subst}
use Rattle.fc_machine.specs.ElementState.{first_code}
use Rattle.fc_transactions.proofs.Openings.{back}
use Rattle.fc_transactions.proofs.Rests.{set_undone}
use Rattle.fc_transactions.specs.Done.{IsAnswered}
use Rattle.fc_transactions.specs.Phases.{rest_outcome}
use Rattle.fc_transactions.proofs.resting.attempt.Goals as goal

pub returns-in-Err-clause-err : goal.returns-in-Err-clause-err
returns-in-Err-clause-err c =
    c.rollback.ensures ∙ set_undone c.args.scope.now c.in_ok-mark.mark c.args.store.now c.exec_within.new.store c.in_ok-mark.ensures.ok (c.in-Err.ensures.err ∙ c.in_ok-mark.ensures.marked)

pub returns-in-Ok-answered-clause-code : goal.returns-in-Ok-answered-clause-code
returns-in-Ok-answered-clause-code c = c.first_code.ensures ∙ ap first_code (c.as_slice-in-Ok-answered.ensures ∙ c.in-Ok.ensures.codes ∙ ap (λ s. (rest_outcome c.args.scope.now s c.args.rest.now).codes) c.in_ok-mark.ensures.marked)

pub returns-in-Ok-answered-clause-answered : goal.returns-in-Ok-answered-clause-answered
returns-in-Ok-answered-clause-answered c =
    subst (λ codes. IsAnswered c.args.peer c.args.request.now c.args.selects.now (0 ∷ codes) c.in-Ok-answered.answered) (c.as_slice.ensures ∙ c.in-Ok.ensures.codes ∙ ap (λ s. (rest_outcome c.args.scope.now s c.args.rest.now).codes) c.in_ok-mark.ensures.marked) c.in-Ok-answered.ensures

pub returns-in-Ok-answered-clause-ok : goal.returns-in-Ok-answered-clause-ok
returns-in-Ok-answered-clause-ok c = c.in-Ok.ensures.state ∙ ap (λ s. (rest_outcome c.args.scope.now s c.args.rest.now).state) c.in_ok-mark.ensures.marked

pub returns-clause-err : goal.returns-clause-err
returns-clause-err c =
    c.rollback-in-Err-answered.ensures ∙ back c.args.scope.now c.in_ok-mark.mark c.args.store.now c.exec_within.new.store c.args.rest.now c.in_ok-mark.ensures.ok (c.in-Ok.ensures.state ∙ ap (λ s. (rest_outcome c.args.scope.now s c.args.rest.now).state) c.in_ok-mark.ensures.marked) c.in_ok-mark.ensures.whole
