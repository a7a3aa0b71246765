use Rattle.std.proofs.Common.{◌≡◌, ◌<◌, ℕ, length, get_or, sym, ap, ◌∙◌}
use Rattle.fc_protocol.specs.Collections.{put}
use Rattle.fc_protocol.specs.Jobs.{answer, answered_by, on_job}
use Rattle.fc_protocol.specs.MasterMachine.{Master, dropped}
use Rattle.fc_jobs.specs.declared.answers.Standing.{Standing}
use Rattle.fc_jobs.specs.declared.seat.Seat.{Seat}
use Rattle.fc_jobs.specs.Answers.{after_record, by_standing}
use Rattle.fc_jobs.specs.Sending.{Begun, core_by}
use Rattle.fc_jobs.proofs.Asking.{heard_as, standing_here}
use Rattle.fc_jobs.proofs.answers.after_record.Goals as goal

pub returns-in-Greater-clause-core : goal.returns-in-Greater-clause-core
returns-in-Greater-clause-core c =
    let e = c.args.life.now.epoch in
    let ss = c.args.seats.now in
    let js = c.args.jobs.now in
    let d = c.args.deposed in
    let p = c.args.element in
    let i = c.args.at in
    let s = c.index-as_slice-at.result in
    let m : Begun → Master = λ begun. core_by e ss js begun d in
    let l : i < length ss = c.requires.place.0 in
    let g : s ≡ get_or ss i s = c.index-as_slice-at.is ∙ ap (λ xs. get_or xs i s) c.as_slice.ensures in
    let q : s.element ≡ p = ap (λ (u : Seat). u.element) g ∙ c.requires.place.1 s in
    let state : Begun → ℕ → Master = λ begun n. record { epoch = e; elements = (m begun).elements; at = put (m begun).at p (dropped ((m begun).at p)); jobs = on_job c.args.answer.0 (answered_by p (answer n c.in-Record.seen)) (m begun).jobs; begun = begun.count; deposed = d } in
    let good : Begun → Master = λ begun. state begun c.in-Record.told in
    heard_as c.after_greater.result e _ (λ begun. after_record (m begun) p c.args.answer.0 c.args.answer.1)
    (λ begun. sym (standing_here e ss js js begun d p i s l g c.requires.apart q c.in-Record.told c.weigh.result (good begun) c.weigh.ensures.exact
    ∙ ap (λ (t : Standing). by_standing t (m begun) p c.in-Record.told (good begun)) c.in-Greater.is) ∙ ap (after_record (m begun) p c.args.answer.0) (sym c.in-Record.is)) c.after_greater.ensures.core

pub returns-in-Lower-clause-core : goal.returns-in-Lower-clause-core
returns-in-Lower-clause-core c =
    let e = c.args.life.now.epoch in
    let ss = c.args.seats.now in
    let js = c.args.jobs.now in
    let d = c.args.deposed in
    let p = c.args.element in
    let i = c.args.at in
    let s = c.index-as_slice-at.result in
    let m : Begun → Master = λ begun. core_by e ss js begun d in
    let l : i < length ss = c.requires.place.0 in
    let g : s ≡ get_or ss i s = c.index-as_slice-at.is ∙ ap (λ xs. get_or xs i s) c.as_slice.ensures in
    let q : s.element ≡ p = ap (λ (u : Seat). u.element) g ∙ c.requires.place.1 s in
    let state : Begun → ℕ → Master = λ begun n. record { epoch = e; elements = (m begun).elements; at = put (m begun).at p (dropped ((m begun).at p)); jobs = on_job c.args.answer.0 (answered_by p (answer n c.in-Record.seen)) (m begun).jobs; begun = begun.count; deposed = d } in
    let good : Begun → Master = λ begun. state begun c.in-Record.told in
    heard_as c.lose.result e _ (λ begun. after_record (m begun) p c.args.answer.0 c.args.answer.1)
    (λ begun. sym (standing_here e ss js js begun d p i s l g c.requires.apart q c.in-Record.told c.weigh.result (good begun) c.weigh.ensures.exact
    ∙ ap (λ (t : Standing). by_standing t (m begun) p c.in-Record.told (good begun)) c.in-Lower.is) ∙ ap (after_record (m begun) p c.args.answer.0) (sym c.in-Record.is)) c.lose.ensures.core

pub returns-in-Own-clause-core : goal.returns-in-Own-clause-core
returns-in-Own-clause-core c =
    let e = c.args.life.now.epoch in
    let ss = c.args.seats.now in
    let js = c.args.jobs.now in
    let d = c.args.deposed in
    let p = c.args.element in
    let i = c.args.at in
    let s = c.index-as_slice-at.result in
    let m : Begun → Master = λ begun. core_by e ss js begun d in
    let l : i < length ss = c.requires.place.0 in
    let g : s ≡ get_or ss i s = c.index-as_slice-at.is ∙ ap (λ xs. get_or xs i s) c.as_slice.ensures in
    let q : s.element ≡ p = ap (λ (u : Seat). u.element) g ∙ c.requires.place.1 s in
    let state : Begun → ℕ → Master = λ begun n. record { epoch = e; elements = (m begun).elements; at = put (m begun).at p (dropped ((m begun).at p)); jobs = on_job c.args.answer.0 (answered_by p (answer n c.in-Record.seen)) (m begun).jobs; begun = begun.count; deposed = d } in
    let good : Begun → Master = λ begun. state begun c.in-Record.told in
    heard_as c.after_state.result e _ (λ begun. after_record (m begun) p c.args.answer.0 c.args.answer.1)
    (λ begun. ap (state begun) (sym (c.weigh.ensures.own c.in-Own.is)) ∙ sym (standing_here e ss js js begun d p i s l g c.requires.apart q c.in-Record.told c.weigh.result (good begun) c.weigh.ensures.exact
    ∙ ap (λ (t : Standing). by_standing t (m begun) p c.in-Record.told (good begun)) c.in-Own.is) ∙ ap (after_record (m begun) p c.args.answer.0) (sym c.in-Record.is)) c.after_state.ensures.core

pub returns-in-Unread-clause-core : goal.returns-in-Unread-clause-core
returns-in-Unread-clause-core c =
    let m : Begun → Master = λ begun. core_by c.args.life.now.epoch c.args.seats.now c.args.jobs.now begun c.args.deposed in
    heard_as c.after_unread.result c.args.life.now.epoch _ (λ begun. after_record (m begun) c.args.element c.args.answer.0 c.args.answer.1)
    (λ begun. ap (after_record (m begun) c.args.element c.args.answer.0) (sym c.in-Unread.is)) c.after_unread.ensures.core
