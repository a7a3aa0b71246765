use Rattle.std.proofs.Common.{◌∙◌, ◌∷◌, ap, refl, sym}
use Rattle.fc_protocol.specs.Scopes.{is_rising}
use Rattle.fc_reply.specs.Counting.{each_gets}
use Rattle.fc_transactions.proofs.Done.{if_codes, if_same, on_idle, on_same}
use Rattle.fc_transactions.proofs.Openings.{accepted_here, admission_is, code_is_here, few_take_part, not_admitted, refused_done, refused_ledger, scope_rises, starts_is}
use Rattle.fc_transactions.specs.Phases.{started, starts}
use Rattle.fc_transactions.proofs.starting.start.Goals as goal

pub returns-in-None-clause-done : goal.returns-in-None-clause-done
returns-in-None-clause-done c =
    refused_done c.args.id c.args.peer c.args.request.now c.args.selects.now c.args.epoch c.args.ledger.now c.args.opening.now c.args.rest 16 c.refuse.result (not_admitted c.args.id c.args.peer c.args.request.now c.args.selects.now c.args.epoch c.args.ledger.now c.args.opening.now c.args.rest c.instances.result.now c.instances.ensures.same (sym c.in-None.is ∙ c.in_ok-admitted.ensures)) refl
    (if_codes c.args.peer c.args.request.now c.args.selects.now (16 ∷ each_gets 255 c.as_slice.result.now) (16 ∷ each_gets 255 c.args.rest) c.refuse.result (ap (λ them. 16 ∷ each_gets 255 them) c.as_slice.ensures) c.refuse.ensures)

pub returns-in-None-clause-ok : goal.returns-in-None-clause-ok
returns-in-None-clause-ok c =
    on_idle c.args.id c.args.peer c.args.request.now c.args.selects.now (starts c.args.id c.args.epoch c.args.ledger.now c.args.opening.now c.args.rest) c.args.ledger.now c.refuse.result
    (refused_ledger c.args.id c.args.peer c.args.request.now c.args.selects.now c.args.epoch c.args.ledger.now c.args.opening.now c.args.rest 16 (not_admitted c.args.id c.args.peer c.args.request.now c.args.selects.now c.args.epoch c.args.ledger.now c.args.opening.now c.args.rest c.instances.result.now c.instances.ensures.same (sym c.in-None.is ∙ c.in_ok-admitted.ensures)) refl)

pub start_code-code-requires : goal.start_code-code-requires
start_code-code-requires c = ap is_rising c.as_slice-2.ensures ∙ scope_rises c.args.id c.args.peer c.args.request.now c.args.selects.now c.args.epoch c.args.ledger.now c.args.opening.now c.args.rest c.instances.result.now c.instances.ensures.same c.in-Some.admitted (sym c.in-Some.is ∙ c.in_ok-admitted.ensures)

pub open-requires-clause-named : goal.open-requires-clause-named
open-requires-clause-named c = admission_is c.args.id c.args.peer c.args.request.now c.args.selects.now c.args.epoch c.args.ledger.now c.args.opening.now c.args.rest c.instances.result.now c.instances.ensures.same c.in-Some.admitted (sym c.in-Some.is ∙ c.in_ok-admitted.ensures)

pub open-requires-clause-accepted : goal.open-requires-clause-accepted
open-requires-clause-accepted c = accepted_here c.args.id c.args.peer c.args.request.now c.args.selects.now c.args.epoch c.args.ledger.now c.args.opening.now c.args.rest c.instances.result.now c.instances.ensures.same c.in-Some.admitted (sym c.in-Some.is ∙ c.in_ok-admitted.ensures) c.start_code-code.result c.as_slice-2.result.now c.as_slice-2.ensures c.start_code-code.ensures (sym c.is_success.ensures ∙ c.if-is_success.true)

pub open-requires-clause-scope : goal.open-requires-clause-scope
open-requires-clause-scope c = scope_rises c.args.id c.args.peer c.args.request.now c.args.selects.now c.args.epoch c.args.ledger.now c.args.opening.now c.args.rest c.instances.result.now c.instances.ensures.same c.in-Some.admitted (sym c.in-Some.is ∙ c.in_ok-admitted.ensures)

pub open-requires-clause-few : goal.open-requires-clause-few
open-requires-clause-few c = few_take_part c.args.id c.args.peer c.args.request.now c.args.selects.now c.args.epoch c.args.ledger.now c.args.opening.now c.args.rest c.instances.result.now c.instances.ensures.same c.in-Some.admitted (sym c.in-Some.is ∙ c.in_ok-admitted.ensures)

pub returns-then-is_success-clause-done : goal.returns-then-is_success-clause-done
returns-then-is_success-clause-done c =
    if_same c.args.id c.args.peer c.args.request.now c.args.selects.now (started c.args.id c.args.ledger.now c.args.opening.now c.args.rest) (starts c.args.id c.args.epoch c.args.ledger.now c.args.opening.now c.args.rest) c.open.result
    (starts_is c.args.id c.args.peer c.args.request.now c.args.selects.now c.args.epoch c.args.ledger.now c.args.opening.now c.args.rest c.start_code-code.result (code_is_here c.args.id c.args.peer c.args.request.now c.args.selects.now c.args.epoch c.args.ledger.now c.args.opening.now c.args.rest c.instances.result.now c.instances.ensures.same c.in-Some.admitted (sym c.in-Some.is ∙ c.in_ok-admitted.ensures) c.start_code-code.result c.as_slice-2.result.now c.as_slice-2.ensures c.start_code-code.ensures) (sym c.is_success.ensures ∙ c.if-is_success.true)) c.open.ensures.done

pub returns-then-is_success-clause-ok : goal.returns-then-is_success-clause-ok
returns-then-is_success-clause-ok c =
    on_same c.args.id c.args.peer c.args.request.now c.args.selects.now (started c.args.id c.args.ledger.now c.args.opening.now c.args.rest) (starts c.args.id c.args.epoch c.args.ledger.now c.args.opening.now c.args.rest) c.open.new.ledger c.open.result
    (starts_is c.args.id c.args.peer c.args.request.now c.args.selects.now c.args.epoch c.args.ledger.now c.args.opening.now c.args.rest c.start_code-code.result (code_is_here c.args.id c.args.peer c.args.request.now c.args.selects.now c.args.epoch c.args.ledger.now c.args.opening.now c.args.rest c.instances.result.now c.instances.ensures.same c.in-Some.admitted (sym c.in-Some.is ∙ c.in_ok-admitted.ensures) c.start_code-code.result c.as_slice-2.result.now c.as_slice-2.ensures c.start_code-code.ensures) (sym c.is_success.ensures ∙ c.if-is_success.true)) c.open.ensures.ok

pub returns-else-is_success-clause-done : goal.returns-else-is_success-clause-done
returns-else-is_success-clause-done c =
    refused_done c.args.id c.args.peer c.args.request.now c.args.selects.now c.args.epoch c.args.ledger.now c.args.opening.now c.args.rest c.start_code-code.result c.refuse-else-is_success.result (code_is_here c.args.id c.args.peer c.args.request.now c.args.selects.now c.args.epoch c.args.ledger.now c.args.opening.now c.args.rest c.instances.result.now c.instances.ensures.same c.in-Some.admitted (sym c.in-Some.is ∙ c.in_ok-admitted.ensures) c.start_code-code.result c.as_slice-2.result.now c.as_slice-2.ensures c.start_code-code.ensures) (sym c.is_success.ensures ∙ c.if-is_success.false)
    (if_codes c.args.peer c.args.request.now c.args.selects.now (c.start_code-code.result ∷ each_gets 255 c.as_slice-else-is_success.result.now) (c.start_code-code.result ∷ each_gets 255 c.args.rest) c.refuse-else-is_success.result
    (ap (λ them. c.start_code-code.result ∷ each_gets 255 them) c.as_slice-else-is_success.ensures) c.refuse-else-is_success.ensures)

pub returns-else-is_success-clause-ok : goal.returns-else-is_success-clause-ok
returns-else-is_success-clause-ok c =
    on_idle c.args.id c.args.peer c.args.request.now c.args.selects.now (starts c.args.id c.args.epoch c.args.ledger.now c.args.opening.now c.args.rest) c.args.ledger.now c.refuse-else-is_success.result (refused_ledger c.args.id c.args.peer c.args.request.now c.args.selects.now c.args.epoch c.args.ledger.now c.args.opening.now c.args.rest c.start_code-code.result (code_is_here c.args.id c.args.peer c.args.request.now c.args.selects.now c.args.epoch c.args.ledger.now c.args.opening.now c.args.rest c.instances.result.now c.instances.ensures.same c.in-Some.admitted (sym c.in-Some.is ∙ c.in_ok-admitted.ensures) c.start_code-code.result c.as_slice-2.result.now c.as_slice-2.ensures c.start_code-code.ensures) (sym c.is_success.ensures ∙ c.if-is_success.false))
