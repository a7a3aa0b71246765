use Rattle.std.proofs.Common.{◌≡◌, ◌<◌, length, get_or, Some, refl, ap, ◌∙◌}
use Rattle.fc_protocol.specs.Jobs.{answer, answered_by, on_job}
use Rattle.fc_protocol.specs.MasterMachine.{dropped}
use Rattle.fc_jobs.specs.Seats.{peer_of}
use Rattle.fc_jobs.specs.declared.effects.Effect.TheVariants as effect
use Rattle.fc_jobs.specs.declared.seat.Seat.{Seat}
use Rattle.fc_jobs.specs.JobViews.{jobs_of}
use Rattle.fc_jobs.specs.Sending.{nothing_begun}
use Rattle.fc_jobs.proofs.Asking.{changed, elements_same}
use Rattle.fc_jobs.proofs.Replying.{jobs_decided}
use Rattle.fc_jobs.proofs.answers.after_state.Goals as goal

pub returns-clause-core : goal.returns-clause-core
returns-clause-core c = λ begun.
    let e = c.args.life.now.epoch in
    let ss = c.args.seats.now in
    let js = c.args.jobs.now in
    let p = c.args.element in
    let i = c.args.at in
    let s = c.index-as_slice-at.result in
    let n = c.without_waits-seat.result in
    let l : i < length ss = c.requires.place.0 in
    let g : s ≡ get_or ss i s = c.index-as_slice-at.is ∙ ap (λ xs. get_or xs i s) c.as_slice.ensures in
    let q : s.element ≡ p = ap (λ (u : Seat). u.element) g ∙ c.requires.place.1 s in
    changed e ss js c.in_ok-jobs.jobs begun c.args.deposed p i s n c.in_ok-next.next l g c.requires.apart q (ap (λ (u : Seat). u.element) c.without_waits-seat.ensures) c.in_ok-next.ensures dropped (on_job c.args.told.0 (answered_by p (answer e c.args.told.1)) (jobs_of js)) (ap (peer_of e) c.without_waits-seat.ensures)
    (jobs_decided e p js c.in_ok-jobs.jobs (Some (c.args.told.0, effect.Answers (answer e c.args.told.1))) (on_job c.args.told.0 (answered_by p (answer e c.args.told.1)) (jobs_of js)) c.in_ok-jobs.ensures refl)

pub returns-clause-elements : goal.returns-clause-elements
returns-clause-elements c =
    let e = c.args.life.now.epoch in
    let ss = c.args.seats.now in
    let js = c.args.jobs.now in
    let p = c.args.element in
    let i = c.args.at in
    let s = c.index-as_slice-at.result in
    let n = c.without_waits-seat.result in
    let l : i < length ss = c.requires.place.0 in
    let g : s ≡ get_or ss i s = c.index-as_slice-at.is ∙ ap (λ xs. get_or xs i s) c.as_slice.ensures in
    let q : s.element ≡ p = ap (λ (u : Seat). u.element) g ∙ c.requires.place.1 s in
    elements_same e ss js c.in_ok-jobs.jobs nothing_begun c.args.deposed p i s n c.in_ok-next.next l g c.requires.apart q (ap (λ (u : Seat). u.element) c.without_waits-seat.ensures) c.in_ok-next.ensures
