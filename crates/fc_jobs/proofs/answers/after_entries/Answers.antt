use Rattle.std.proofs.Common.{◌≡◌, ◌<◌, length, get_or, ap, ◌∙◌}
use Rattle.fc_protocol.specs.Jobs.{discover}
use Rattle.fc_protocol.specs.MasterMachine.{after_ask}
use Rattle.fc_jobs.specs.declared.seat.Seat.{Seat}
use Rattle.fc_jobs.specs.JobViews.{jobs_of}
use Rattle.fc_jobs.specs.Sending.{nothing_begun}
use Rattle.fc_jobs.proofs.Asking.{changed, elements_same, found_decided}
use Rattle.fc_jobs.proofs.answers.after_entries.Goals as goal

pub returns-clause-core : goal.returns-clause-core
returns-clause-core c = λ begun.
    let e = c.args.life.now.epoch in
    let ss = c.args.seats.now in
    let js = c.args.jobs.now in
    let p = c.args.element in
    let i = c.args.at in
    let s = c.index-as_slice-at.result in
    let n = c.after_ask-seat.result in
    let l : i < length ss = c.requires.place.0 in
    let g : s ≡ get_or ss i s = c.index-as_slice-at.is ∙ ap (λ xs. get_or xs i s) c.as_slice.ensures in
    let q : s.element ≡ p = ap (λ (u : Seat). u.element) g ∙ c.requires.place.1 s in
    changed e ss js c.in_ok-jobs.jobs begun c.args.deposed p i s n c.in_ok-next.next l g c.requires.apart q (c.after_ask-seat.ensures.element) c.in_ok-next.ensures after_ask (discover c.args.entries.now (jobs_of js)) (c.after_ask-seat.ensures.peer e)
    (found_decided e p (discover c.args.entries.now (jobs_of js)) c.in_ok-jobs.jobs c.in_ok-jobs.ensures)

pub returns-clause-elements : goal.returns-clause-elements
returns-clause-elements c =
    let e = c.args.life.now.epoch in
    let ss = c.args.seats.now in
    let js = c.args.jobs.now in
    let p = c.args.element in
    let i = c.args.at in
    let s = c.index-as_slice-at.result in
    let n = c.after_ask-seat.result in
    let l : i < length ss = c.requires.place.0 in
    let g : s ≡ get_or ss i s = c.index-as_slice-at.is ∙ ap (λ xs. get_or xs i s) c.as_slice.ensures in
    let q : s.element ≡ p = ap (λ (u : Seat). u.element) g ∙ c.requires.place.1 s in
    elements_same e ss js c.in_ok-jobs.jobs nothing_begun c.args.deposed p i s n c.in_ok-next.next l g c.requires.apart q (c.after_ask-seat.ensures.element) c.in_ok-next.ensures
