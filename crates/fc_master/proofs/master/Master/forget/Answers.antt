use Rattle.std.proofs.Common.{◌+◌, List, Some, map, refl, sym, ap, ◌∙◌}
use Rattle.fc_base.specs.Ids.{Txn}
use Rattle.fc_protocol.specs.MasterMachine.{forgets, sends_all}
use Rattle.fc_jobs.specs.declared.job.Job.{Job}
use Rattle.fc_jobs.specs.declared.seat.Seat.{Seat}
use Rattle.fc_jobs.specs.JobViews.{jobs_of}
use Rattle.fc_jobs.specs.Seats.{elements_of}
use Rattle.fc_jobs.specs.Sending.{Begun, are_apart, core_by, spelled}
use Rattle.fc_master.proofs.Changing.{all_decided}
use Rattle.fc_master.proofs.Forgetful.{forgets_is, same_elements_owe}
use Rattle.fc_master.proofs.Rested.{rested_done, same_behind, sent_core, sent_says}
use Rattle.fc_master.specs.Masters.{core_of}
use Rattle.fc_master.specs.Resting.{with_tail}
use Rattle.fc_master.specs.Refusals.{seat_owing}
use Rattle.fc_master.proofs.master.Master.forget.Goals as goal

pub send_due-requires : goal.send_due-requires
send_due-requires c =
    let me = c.args.self.now in
    let x : Txn = record { epoch = me.life.epoch; number = me.begun + 1 } in
    ap (λ (ss : List Seat). are_apart (elements_of ss)) (c.in_ok-seats.ensures ∙ ap (λ (ss : List Seat). map (seat_owing (Some x)) ss) c.as_slice.ensures)
    ∙ ap are_apart (same_elements_owe (Some x) me.seats) ∙ me.apart

pub invariant_of-self-2 : goal.invariant_of-self-2
invariant_of-self-2 c =
    let me = c.args.self.now in
    let x : Txn = record { epoch = me.life.epoch; number = me.begun + 1 } in
    record {
      apart =
          ap are_apart (c.in_ok-outs.ensures.elements ∙ ap elements_of (c.in_ok-seats.ensures ∙ ap (λ (ss : List Seat). map (seat_owing (Some x)) ss) c.as_slice.ensures) ∙ same_elements_owe (Some x) me.seats) ∙ me.apart;
    }

pub returns-clause-core : goal.returns-clause-core
returns-clause-core c = λ k.
    let me = c.args.self.now in
    let x : Txn = record { epoch = me.life.epoch; number = me.begun + 1 } in
    let e = me.life.epoch in
    let b : Begun = record { count = me.begun; wanted = Some x } in
    let js = c.in_ok-jobs.jobs in
    let ss = c.in_ok-seats.seats in
    ap (λ (us : List Job). core_by e c.send_due.new.seats us b me.deposed) c.in_ok-replace.ensures.ok
    ∙ sent_core k e me.jobs.rested ss c.send_due.new.seats me.jobs.all js b me.deposed (forgets (core_of me)) (rested_done me.jobs)
    (forgets_is me x ss (with_tail me.jobs.rested me.jobs.all js) refl (c.in_ok-seats.ensures ∙ ap (λ (us : List Seat). map (seat_owing (Some x)) us) c.as_slice.ensures)
    (same_behind e me.jobs.rested me.jobs.all js (rested_done me.jobs) (c.in_ok-jobs.ensures ∙ ap (λ (us : List Job). all_decided e (jobs_of us)) c.open.ensures)))
    (ap (λ (us : List Job). core_by e c.send_due.new.seats us b me.deposed) (sym c.as_slice-2.ensures)
    ∙ c.in_ok-outs.ensures.core k b
    ∙ ap (λ (us : List Job). (sends_all k (elements_of ss) (core_by e ss us b me.deposed)).master) c.as_slice-2.ensures)

pub returns-clause-outs : goal.returns-clause-outs
returns-clause-outs c = λ k.
    let me = c.args.self.now in
    let x : Txn = record { epoch = me.life.epoch; number = me.begun + 1 } in
    let e = me.life.epoch in
    let b : Begun = record { count = me.begun; wanted = Some x } in
    let js = c.in_ok-jobs.jobs in
    let ss = c.in_ok-seats.seats in
    c.in_ok-outs.ensures.outs k b
    ∙ ap (λ (us : List Job). spelled me.life (sends_all k (elements_of ss) (core_by e ss us b me.deposed)).says) c.as_slice-2.ensures
    ∙ ap (spelled me.life)
    (sent_says k e me.jobs.rested ss c.send_due.new.seats me.jobs.all js b me.deposed (forgets (core_of me)) (rested_done me.jobs)
    (forgets_is me x ss (with_tail me.jobs.rested me.jobs.all js) refl (c.in_ok-seats.ensures ∙ ap (λ (us : List Seat). map (seat_owing (Some x)) us) c.as_slice.ensures)
    (same_behind e me.jobs.rested me.jobs.all js (rested_done me.jobs) (c.in_ok-jobs.ensures ∙ ap (λ (us : List Job). all_decided e (jobs_of us)) c.open.ensures))))
