use Rattle.std.proofs.Common.{◌≡◌, ◌<◌, ℕ, length, get_or, sym, ap, ◌∙◌}
use Rattle.fc_protocol.specs.Collections.{put}
use Rattle.fc_protocol.specs.Jobs.{discover}
use Rattle.fc_protocol.specs.MasterMachine.{Master, after_ask}
use Rattle.fc_jobs.specs.declared.answers.Standing.{Standing}
use Rattle.fc_jobs.specs.declared.seat.Seat.{Seat}
use Rattle.fc_jobs.specs.Answers.{after_held, by_standing}
use Rattle.fc_jobs.specs.Sending.{Begun, core_by}
use Rattle.fc_jobs.proofs.Asking.{heard_as, standing_here}
use Rattle.fc_jobs.proofs.answers.after_held.Goals as goal

pub returns-in-Greater-clause-core : goal.returns-in-Greater-clause-core
returns-in-Greater-clause-core c =
    let e = c.args.life.now.epoch in
    let ss = c.args.seats.now in
    let js = c.args.jobs.now in
    let d = c.args.deposed in
    let p = c.args.element in
    let i = c.args.at in
    let s = c.index-as_slice-at.result in
    let m : Begun → Master = λ begun. core_by e ss js begun d in
    let l : i < length ss = c.requires.place.0 in
    let g : s ≡ get_or ss i s = c.index-as_slice-at.is ∙ ap (λ xs. get_or xs i s) c.as_slice.ensures in
    let q : s.element ≡ p = ap (λ (u : Seat). u.element) g ∙ c.requires.place.1 s in
    let good : Begun → Master = λ begun. record { epoch = e; elements = (m begun).elements; at = put (m begun).at p (after_ask ((m begun).at p)); jobs = discover c.in-Held.entries (m begun).jobs; begun = begun.count; deposed = d } in
    heard_as c.after_greater.result e _ (λ begun. after_held (m begun) p c.args.answer.now)
    (λ begun. sym (standing_here e ss js js begun d p i s l g c.requires.apart q c.in-Held.told c.weigh.result (good begun) c.weigh.ensures.exact
    ∙ ap (λ (t : Standing). by_standing t (m begun) p c.in-Held.told (good begun)) c.in-Greater.is) ∙ ap (after_held (m begun) p) (sym c.in-Held.is)) c.after_greater.ensures.core

pub returns-in-Lower-clause-core : goal.returns-in-Lower-clause-core
returns-in-Lower-clause-core c =
    let e = c.args.life.now.epoch in
    let ss = c.args.seats.now in
    let js = c.args.jobs.now in
    let d = c.args.deposed in
    let p = c.args.element in
    let i = c.args.at in
    let s = c.index-as_slice-at.result in
    let m : Begun → Master = λ begun. core_by e ss js begun d in
    let l : i < length ss = c.requires.place.0 in
    let g : s ≡ get_or ss i s = c.index-as_slice-at.is ∙ ap (λ xs. get_or xs i s) c.as_slice.ensures in
    let q : s.element ≡ p = ap (λ (u : Seat). u.element) g ∙ c.requires.place.1 s in
    let good : Begun → Master = λ begun. record { epoch = e; elements = (m begun).elements; at = put (m begun).at p (after_ask ((m begun).at p)); jobs = discover c.in-Held.entries (m begun).jobs; begun = begun.count; deposed = d } in
    heard_as c.lose.result e _ (λ begun. after_held (m begun) p c.args.answer.now)
    (λ begun. sym (standing_here e ss js js begun d p i s l g c.requires.apart q c.in-Held.told c.weigh.result (good begun) c.weigh.ensures.exact
    ∙ ap (λ (t : Standing). by_standing t (m begun) p c.in-Held.told (good begun)) c.in-Lower.is) ∙ ap (after_held (m begun) p) (sym c.in-Held.is)) c.lose.ensures.core

pub returns-in-Own-clause-core : goal.returns-in-Own-clause-core
returns-in-Own-clause-core c =
    let e = c.args.life.now.epoch in
    let ss = c.args.seats.now in
    let js = c.args.jobs.now in
    let d = c.args.deposed in
    let p = c.args.element in
    let i = c.args.at in
    let s = c.index-as_slice-at.result in
    let m : Begun → Master = λ begun. core_by e ss js begun d in
    let l : i < length ss = c.requires.place.0 in
    let g : s ≡ get_or ss i s = c.index-as_slice-at.is ∙ ap (λ xs. get_or xs i s) c.as_slice.ensures in
    let q : s.element ≡ p = ap (λ (u : Seat). u.element) g ∙ c.requires.place.1 s in
    let good : Begun → Master = λ begun. record { epoch = e; elements = (m begun).elements; at = put (m begun).at p (after_ask ((m begun).at p)); jobs = discover c.in-Held.entries (m begun).jobs; begun = begun.count; deposed = d } in
    heard_as c.after_entries.result e _ (λ begun. after_held (m begun) p c.args.answer.now)
    (λ begun. sym (standing_here e ss js js begun d p i s l g c.requires.apart q c.in-Held.told c.weigh.result (good begun) c.weigh.ensures.exact
    ∙ ap (λ (t : Standing). by_standing t (m begun) p c.in-Held.told (good begun)) c.in-Own.is) ∙ ap (after_held (m begun) p) (sym c.in-Held.is)) c.after_entries.ensures.core

pub returns-in-Unread-clause-core : goal.returns-in-Unread-clause-core
returns-in-Unread-clause-core c =
    let m : Begun → Master = λ begun. core_by c.args.life.now.epoch c.args.seats.now c.args.jobs.now begun c.args.deposed in
    heard_as c.after_unread.result c.args.life.now.epoch _ (λ begun. after_held (m begun) c.args.element c.args.answer.now)
    (λ begun. ap (after_held (m begun) c.args.element) (sym c.in-Unread.is)) c.after_unread.ensures.core
