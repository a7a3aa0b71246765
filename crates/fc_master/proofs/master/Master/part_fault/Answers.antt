use Rattle.std.proofs.Common.{List, is_some, sym, ap, ◌∙◌}
use Rattle.fc_protocol.specs.Collections.{among}
use Rattle.fc_jobs.specs.declared.job.Job.{Job}
use Rattle.fc_jobs.specs.declared.seat.Seat.{Seat}
use Rattle.fc_jobs.specs.JobViews.{jobs_of}
use Rattle.fc_jobs.specs.Seats.{elements_of, peer_at, peer_of}
use Rattle.fc_master.proofs.Refusing.{part_is}
use Rattle.fc_master.proofs.Rested.{peer_refusal_open}
use Rattle.fc_master.specs.Masters.{core_of}
use Rattle.fc_master.specs.Refusals.{peer_refusal}
use Rattle.fc_master.proofs.master.Master.part_fault.Goals as goal

pub returns-in-Some-clause-told : goal.returns-in-Some-clause-told
returns-in-Some-clause-told c =
    let me = c.args.self.now in
    let e = me.life.epoch in
    let p = c.args.element in
    let sc = c.args.scope.now in
    let s = c.in-Some.seat.now in
    c.seat_fault.ensures.told e
    ∙ ap (λ q. peer_refusal (peer_of e s) q sc (jobs_of c.open.result.now)) c.in-Some.ensures.some.0
    ∙ ap (λ (js : List Job). peer_refusal (peer_of e s) p sc (jobs_of js)) c.open.ensures
    ∙ peer_refusal_open (peer_of e s) p sc me.jobs
    ∙ part_is (core_of me) p sc (peer_of e s) (is_some c.seat_of.result) (ap is_some c.in-Some.is) (c.seat_of.ensures.listed ∙ ap (λ (ss : List Seat). among p (elements_of ss)) c.as_slice.ensures)
    (ap (λ (ss : List Seat). peer_at e me.wanted ss p) (sym c.as_slice.ensures) ∙ c.in-Some.ensures.some.1 e me.wanted)
