use Rattle.std.proofs.Common.{◌≡◌, ◌<◌, ℕ, length, get_or, true, sym, ap, ◌∙◌, arith, Some}
use Rattle.fc_asks.specs.Bodies.{question_body}
use Rattle.fc_asks.specs.declared.asks.Question.{Question}
use Rattle.fc_protocol.specs.Messages.{stamp}
use Rattle.fc_protocol.specs.MasterMachine.{Peer, matches}
use Rattle.fc_jobs.specs.declared.seat.Seat.{Seat}
use Rattle.fc_jobs.specs.Answers.{answered, asked_of}
use Rattle.fc_jobs.specs.Seats.{peer_at, peer_of}
use Rattle.fc_jobs.specs.Sending.{Begun, core_by}
use Rattle.fc_jobs.proofs.Asking.{found_here, heard_as, held_answered, record_answered, unasked_is}
use Rattle.fc_jobs.proofs.answers.after_answer.Goals as goal

pub returns-in-None-clause-core : goal.returns-in-None-clause-core
returns-in-None-clause-core c =
    let e = c.args.life.now.epoch in
    let ss = c.args.seats.now in
    let p = c.args.element in
    let m = λ (begun : Begun). core_by e ss c.args.jobs.now begun c.args.deposed in
    heard_as c.ignored.result e _ (λ begun. answered (m begun) p c.args.corr c.args.selects.now)
    (λ begun. unasked_is (m begun) p c.args.corr c.args.selects.now
    (ap (λ (y : Peer). matches (stamp c.args.corr) true y.waits) (ap (λ ts. peer_at e begun.wanted ts p) (sym c.as_slice.ensures) ∙ c.in-None.ensures.none e begun.wanted))) c.ignored.ensures.core

pub returns-in-None-asked-clause-core : goal.returns-in-None-asked-clause-core
returns-in-None-asked-clause-core c =
    let e = c.args.life.now.epoch in
    let ss = c.args.seats.now in
    let js = c.args.jobs.now in
    let p = c.args.element in
    let i = c.in-Some.at in
    let s = c.index-as_slice-at.result in
    let m = λ (begun : Begun). core_by e ss js begun c.args.deposed in
    let l : i < length ss = omega (arith, c.in-Some.ensures.some.0, ap length c.as_slice.ensures) in
    let g : s ≡ get_or ss i s = c.index-as_slice-at.is ∙ ap (λ xs. get_or xs i s) c.as_slice-2.ensures in
    let q : s.element ≡ p = ap (λ (u : Seat). u.element) (g ∙ ap (λ xs. get_or xs i s) (sym c.as_slice.ensures)) ∙ c.in-Some.ensures.some.1 s in
    heard_as c.ignored-in-None-asked.result e _ (λ begun. answered (m begun) p c.args.corr c.args.selects.now)
    (λ begun. unasked_is (m begun) p c.args.corr c.args.selects.now
    (ap (λ (y : Peer). matches (stamp c.args.corr) true y.waits) (found_here e ss js js begun c.args.deposed p i s l g c.requires q) ∙ c.in-None-asked.ensures.none)) c.ignored-in-None-asked.ensures.core

pub returns-in_ok-held-in-Held-clause-core : goal.returns-in_ok-held-in-Held-clause-core
returns-in_ok-held-in-Held-clause-core c =
    let e = c.args.life.now.epoch in
    let ss = c.args.seats.now in
    let js = c.args.jobs.now in
    let p = c.args.element in
    let i = c.in-Some.at in
    let s = c.index-as_slice-at.result in
    let m = λ (begun : Begun). core_by e ss js begun c.args.deposed in
    let l : i < length ss = omega (arith, c.in-Some.ensures.some.0, ap length c.as_slice.ensures) in
    let g : s ≡ get_or ss i s = c.index-as_slice-at.is ∙ ap (λ xs. get_or xs i s) c.as_slice-2.ensures in
    let q : s.element ≡ p = ap (λ (u : Seat). u.element) (g ∙ ap (λ xs. get_or xs i s) (sym c.as_slice.ensures)) ∙ c.in-Some.ensures.some.1 s in
    let found : (begun : Begun) → peer_at e begun.wanted ss p ≡ peer_of e s = λ begun. found_here e ss js js begun c.args.deposed p i s l g c.requires q in
    let here : (begun : Begun) → matches (stamp c.args.corr) true (peer_at e begun.wanted ss p).waits ≡ true = λ begun. ap (λ (y : Peer). matches (stamp c.args.corr) true y.waits) (found begun) ∙ c.in-Some-asked.ensures.some.0 in
    heard_as c.after_held.result e _ (λ begun. answered (m begun) p c.args.corr c.args.selects.now)
    (λ begun. held_answered (m begun) p c.args.corr c.args.selects.now (here begun)
    (ap (λ (y : Peer). asked_of y.waits) (found begun) ∙ (c.in-Some-asked.ensures.some.1 ∙ ap (λ (x : Question). Some (question_body x)) c.in-Held.is)) c.in_ok-held-in-Held.held (c.in_ok-held-in-Held.ensures (stamp c.args.corr))) c.after_held.ensures.core

pub returns-in_ok-told-in-Record-clause-core : goal.returns-in_ok-told-in-Record-clause-core
returns-in_ok-told-in-Record-clause-core c =
    let e = c.args.life.now.epoch in
    let ss = c.args.seats.now in
    let js = c.args.jobs.now in
    let p = c.args.element in
    let i = c.in-Some.at in
    let s = c.index-as_slice-at.result in
    let m = λ (begun : Begun). core_by e ss js begun c.args.deposed in
    let l : i < length ss = omega (arith, c.in-Some.ensures.some.0, ap length c.as_slice.ensures) in
    let g : s ≡ get_or ss i s = c.index-as_slice-at.is ∙ ap (λ xs. get_or xs i s) c.as_slice-2.ensures in
    let q : s.element ≡ p = ap (λ (u : Seat). u.element) (g ∙ ap (λ xs. get_or xs i s) (sym c.as_slice.ensures)) ∙ c.in-Some.ensures.some.1 s in
    let found : (begun : Begun) → peer_at e begun.wanted ss p ≡ peer_of e s = λ begun. found_here e ss js js begun c.args.deposed p i s l g c.requires q in
    let here : (begun : Begun) → matches (stamp c.args.corr) true (peer_at e begun.wanted ss p).waits ≡ true = λ begun. ap (λ (y : Peer). matches (stamp c.args.corr) true y.waits) (found begun) ∙ c.in-Some-asked.ensures.some.0 in
    heard_as c.after_record.result e _ (λ begun. answered (m begun) p c.args.corr c.args.selects.now)
    (λ begun. record_answered (m begun) p c.args.corr c.args.selects.now c.in-Record.txn (here begun)
    (ap (λ (y : Peer). asked_of y.waits) (found begun) ∙ (c.in-Some-asked.ensures.some.1 ∙ ap (λ (x : Question). Some (question_body x)) c.in-Record.is)) c.in_ok-told-in-Record.told (c.in_ok-told-in-Record.ensures (stamp c.args.corr))) c.after_record.ensures.core
