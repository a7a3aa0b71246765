use Rattle.std.proofs.Common.{◌≡◌, ◌<◌, ◌++◌, ℕ, true, false, cond, is_some, List, [], ◌∷◌, length, get_or, sym, ap, ◌∙◌, arith}
use Rattle.fc_protocol.specs.Collections.{among}
use Rattle.fc_protocol.specs.Messages.{Setup}
use Rattle.fc_protocol.specs.MasterMachine.{Master as Core, again, at_put, decide_all, finish, heard}
use Rattle.fc_jobs.specs.declared.seat.Seat.{Seat}
use Rattle.fc_jobs.specs.declared.sending.CeOut.{CeOut}
use Rattle.fc_jobs.specs.Seats.{elements_of}
use Rattle.fc_jobs.specs.Sending.{core_by, spelled}
use Rattle.fc_jobs.proofs.Dues.{if_ok_on}
use Rattle.fc_jobs.proofs.Laws.{on_ok_by}
use Rattle.fc_master.specs.Masters.{begun_of, core_of}
use Rattle.fc_master.specs.Resting.{with_tail}
use Rattle.fc_master.proofs.Rested.{rested_done, same_behind}
use Rattle.fc_master.specs.Steps.{setup_response}
use Rattle.fc_master.proofs.Changing.{as_it_is, elements_after, greeting_is, setup_is}
use Rattle.fc_master.proofs.master.Master.hear_setup.Goals as goal

pub finish-requires-clause-done : goal.finish-requires-clause-done
finish-requires-clause-done c = rested_done c.args.self.now.jobs

pub finish-requires-in-Some-clause-done : goal.finish-requires-in-Some-clause-done
finish-requires-in-Some-clause-done c = rested_done c.args.self.now.jobs

pub returns-in_ok-push-in-None-clause-core : goal.returns-in_ok-push-in-None-clause-core
returns-in_ok-push-in-None-clause-core c =
    let me = c.args.self.now in
    let h = c.in_ok-heard.heard in
    let p = c.args.element in
    let t : among p (elements_of me.seats) ≡ false = sym (ap is_some (sym c.in-None.is) ∙ c.place_of.ensures.listed ∙ ap (λ xs. among p (elements_of xs)) c.as_slice.ensures) in
    on_ok_by c.finish.result c.finish.ensures.core (λ f k. f (core_of me) k
    (as_it_is me h.seats (with_tail me.jobs.rested me.jobs.all h.jobs) h.deposed c.in_ok-heard.ensures.seats (same_behind me.life.epoch me.jobs.rested me.jobs.all h.jobs (rested_done me.jobs) c.in_ok-heard.ensures.jobs) c.in_ok-heard.ensures.deposed)
    ∙ ap (λ b. (finish k (cond b (at_put (core_of me) p (record ((core_of me).at p) { met = true })) (core_of me))).master) (sym t))

pub returns-in_ok-push-in-None-clause-outs : goal.returns-in_ok-push-in-None-clause-outs
returns-in_ok-push-in-None-clause-outs c =
    let me = c.args.self.now in
    let h = c.in_ok-heard.heard in
    let p = c.args.element in
    let t : among p (elements_of me.seats) ≡ false = sym (ap is_some (sym c.in-None.is) ∙ c.place_of.ensures.listed ∙ ap (λ xs. among p (elements_of xs)) c.as_slice.ensures) in
    let said = λ (k : ℕ) (m : Core). spelled me.life (finish k m).says in
    if_ok_on (λ (outs : List CeOut). (m : Core) (k : ℕ) → core_by me.life.epoch h.seats (with_tail me.jobs.rested me.jobs.all h.jobs) (begun_of me) h.deposed ≡ decide_all m → outs ≡ c.push.new.self ++ spelled me.life (finish k m).says) _ c.finish.result
    (λ outs f k. f (core_of me) k
    (as_it_is me h.seats (with_tail me.jobs.rested me.jobs.all h.jobs) h.deposed c.in_ok-heard.ensures.seats (same_behind me.life.epoch me.jobs.rested me.jobs.all h.jobs (rested_done me.jobs) c.in_ok-heard.ensures.jobs) c.in_ok-heard.ensures.deposed)
    ∙ ap (λ b. c.push.new.self ++ said k (cond b (at_put (core_of me) p (record ((core_of me).at p) { met = true })) (core_of me))) (sym t)
    ∙ ap (λ (fs : List CeOut). fs ++ said k (heard (core_of me) p Setup))
    (c.in_ok-push-in-None.ensures.ok ∙ ap (λ (os : List CeOut). os ++ c.setup_response.result ∷ []) c.new-first.ensures ∙ ap (λ (o : CeOut). o ∷ []) c.setup_response.ensures
    ∙ ap (λ b. cond b (setup_response me.life p c.args.corr 0 ∷ spelled me.life (again 0 p ((core_of me).at p).waits)) (setup_response me.life p c.args.corr 1 ∷ [])) (sym t))) c.finish.ensures.outs

pub finish-requires-in-Some-clause-elements : goal.finish-requires-in-Some-clause-elements
finish-requires-in-Some-clause-elements c =
    let me = c.args.self.now in
    let i = c.in-Some.at in
    let s = c.index-as_slice-at.result in
    let l : i < length me.seats = omega (arith, c.in-Some.ensures.some.0, ap length c.as_slice.ensures) in
    let g : s ≡ get_or me.seats i s = c.index-as_slice-at.is ∙ ap (λ xs. get_or xs i s) c.as_slice-in-Some.ensures in
    let q : s.element ≡ c.args.element = ap (λ (u : Seat). u.element) (g ∙ ap (λ xs. get_or xs i s) (sym c.as_slice.ensures)) ∙ c.in-Some.ensures.some.1 s in
    let t : among c.args.element (elements_of me.seats) ≡ true = sym (ap is_some (sym c.in-Some.is) ∙ c.place_of.ensures.listed ∙ ap (λ xs. among c.args.element (elements_of xs)) c.as_slice.ensures) in
    elements_after me i s c.in_ok-after_setup-in-Some.field-0 c.args.element l g q t c.set.new.self c.in_ok-heard.heard.seats c.in_ok-after_setup-in-Some.ensures.element c.in_ok-heard.ensures.seats c.set.ensures

pub returns-in_ok-after_setup-in-Some-clause-core : goal.returns-in_ok-after_setup-in-Some-clause-core
returns-in_ok-after_setup-in-Some-clause-core c =
    let me = c.args.self.now in
    let h = c.in_ok-heard.heard in
    let i = c.in-Some.at in
    let s = c.index-as_slice-at.result in
    let l : i < length me.seats = omega (arith, c.in-Some.ensures.some.0, ap length c.as_slice.ensures) in
    let g : s ≡ get_or me.seats i s = c.index-as_slice-at.is ∙ ap (λ xs. get_or xs i s) c.as_slice-in-Some.ensures in
    let q : s.element ≡ c.args.element = ap (λ (u : Seat). u.element) (g ∙ ap (λ xs. get_or xs i s) (sym c.as_slice.ensures)) ∙ c.in-Some.ensures.some.1 s in
    let t : among c.args.element (elements_of me.seats) ≡ true = sym (ap is_some (sym c.in-Some.is) ∙ c.place_of.ensures.listed ∙ ap (λ xs. among c.args.element (elements_of xs)) c.as_slice.ensures) in
    on_ok_by c.finish-in-Some.result c.finish-in-Some.ensures.core (λ f k. f (heard (core_of me) c.args.element Setup) k
    (setup_is me i s c.in_ok-after_setup-in-Some.field-0 c.args.element l g q t c.set.new.self h.seats (with_tail me.jobs.rested me.jobs.all h.jobs) h.deposed c.in_ok-after_setup-in-Some.ensures.element c.in_ok-after_setup-in-Some.ensures.peer c.in_ok-heard.ensures.seats c.set.ensures (same_behind me.life.epoch me.jobs.rested me.jobs.all h.jobs (rested_done me.jobs) c.in_ok-heard.ensures.jobs) c.in_ok-heard.ensures.deposed))

pub returns-in_ok-after_setup-in-Some-clause-outs : goal.returns-in_ok-after_setup-in-Some-clause-outs
returns-in_ok-after_setup-in-Some-clause-outs c =
    let me = c.args.self.now in
    let h = c.in_ok-heard.heard in
    let first = c.in_ok-first-in-Some.first in
    let i = c.in-Some.at in
    let s = c.index-as_slice-at.result in
    let l : i < length me.seats = omega (arith, c.in-Some.ensures.some.0, ap length c.as_slice.ensures) in
    let g : s ≡ get_or me.seats i s = c.index-as_slice-at.is ∙ ap (λ xs. get_or xs i s) c.as_slice-in-Some.ensures in
    let q : s.element ≡ c.args.element = ap (λ (u : Seat). u.element) (g ∙ ap (λ xs. get_or xs i s) (sym c.as_slice.ensures)) ∙ c.in-Some.ensures.some.1 s in
    let t : among c.args.element (elements_of me.seats) ≡ true = sym (ap is_some (sym c.in-Some.is) ∙ c.place_of.ensures.listed ∙ ap (λ xs. among c.args.element (elements_of xs)) c.as_slice.ensures) in
    let said = λ (k : ℕ). spelled me.life (finish k (heard (core_of me) c.args.element Setup)).says in
    if_ok_on (λ (outs : List CeOut). (m : Core) (k : ℕ) → core_by me.life.epoch c.set.new.self (with_tail me.jobs.rested me.jobs.all h.jobs) (begun_of me) h.deposed ≡ decide_all m → outs ≡ first ++ spelled me.life (finish k m).says) _ c.finish-in-Some.result
    (λ outs f k. f (heard (core_of me) c.args.element Setup) k
    (setup_is me i s c.in_ok-after_setup-in-Some.field-0 c.args.element l g q t c.set.new.self h.seats (with_tail me.jobs.rested me.jobs.all h.jobs) h.deposed c.in_ok-after_setup-in-Some.ensures.element c.in_ok-after_setup-in-Some.ensures.peer c.in_ok-heard.ensures.seats c.set.ensures (same_behind me.life.epoch me.jobs.rested me.jobs.all h.jobs (rested_done me.jobs) c.in_ok-heard.ensures.jobs) c.in_ok-heard.ensures.deposed)
    ∙ ap (λ (fs : List CeOut). fs ++ said k) (greeting_is me i s c.in_ok-after_setup-in-Some.field-0 c.args.element l g q t c.args.corr first (c.in_ok-first-in-Some.ensures 0))) c.finish-in-Some.ensures.outs
