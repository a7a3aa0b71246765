use Rattle.std.proofs.Common.{◌≡◌, ◌<◌, false, length, get_or, map, None, sym, ap, ◌∙◌, arith}
use Rattle.std.proofs.Math.ListN.{set}
use Rattle.fc_asks.specs.Bodies.{body_of}
use Rattle.fc_protocol.specs.Jobs.{by_code}
use Rattle.fc_protocol.specs.Messages.{stamp}
use Rattle.fc_protocol.specs.MasterMachine.{Peer, matches}
use Rattle.fc_jobs.specs.declared.replies.Next.{Next}
use Rattle.fc_jobs.specs.declared.seat.Seat.{Seat}
use Rattle.fc_jobs.specs.Effects.{carried}
use Rattle.fc_jobs.specs.JobViews.{jobs_of}
use Rattle.fc_jobs.specs.Seats.{elements_of, peer_at, peer_of, waiting_of}
use Rattle.fc_jobs.specs.Sending.{Begun, core_by}
use Rattle.fc_jobs.proofs.Dues.{if_ok_on}
use Rattle.fc_jobs.proofs.Replying.{replied, unheard}
use Rattle.fc_jobs.proofs.Seating.{peer_found, elements_set}
use Rattle.fc_jobs.proofs.replies.after_reply.Goals as goal

pub returns-in-None-answered-clause-core : goal.returns-in-None-answered-clause-core
returns-in-None-answered-clause-core c =
    let e = c.args.life.now.epoch in
    let ss = c.args.seats.now in
    let js = c.args.jobs.now in
    let p = c.args.element in
    let i = c.in-Some.at in
    let s = c.index-as_slice-at.result in
    let l : i < length ss = omega (arith, c.in-Some.ensures.some.0, ap length c.as_slice.ensures) in
    let g : s ≡ get_or ss i s = c.index-as_slice-at.is ∙ ap (λ xs. get_or xs i s) c.as_slice-2.ensures in
    let q : s.element ≡ p = ap (λ (u : Seat). u.element) (g ∙ ap (λ xs. get_or xs i s) (sym c.as_slice.ensures)) ∙ c.in-Some.ensures.some.1 s in
    let found : (begun : Begun) → peer_at e begun.wanted ss p ≡ peer_of e s = λ begun. ap (peer_at e begun.wanted ss) (sym q) ∙ peer_found e begun.wanted ss i s l g c.requires in
    let n : (begun : Begun) → matches (stamp c.args.corr) false (peer_at e begun.wanted ss p).waits ≡ false = λ begun. ap (λ (y : Peer). matches (stamp c.args.corr) false y.waits) (found begun) ∙ c.in-None-answered.ensures.none in
    if_ok_on (λ (x : Next). (x.seats ≡ c.in_ok-next.next) × (jobs_of x.jobs ≡ map (carried e p None) (jobs_of js))) _ c.unheard-in-None-answered.result
    (λ x h begun d. ap (λ ns. core_by e ns x.jobs begun d) (h.0 ∙ c.in_ok-next.ensures) ∙ unheard e ss js x.jobs begun d p (stamp c.args.corr) c.args.code (n begun) h.1) c.unheard-in-None-answered.ensures

pub returns-clause-core : goal.returns-clause-core
returns-clause-core c = λ begun d.
    let e = c.args.life.now.epoch in
    let ss = c.args.seats.now in
    let js = c.args.jobs.now in
    let p = c.args.element in
    let i = c.in-Some.at in
    let s = c.index-as_slice-at.result in
    let l : i < length ss = omega (arith, c.in-Some.ensures.some.0, ap length c.as_slice.ensures) in
    let g : s ≡ get_or ss i s = c.index-as_slice-at.is ∙ ap (λ xs. get_or xs i s) c.as_slice-2.ensures in
    let q : s.element ≡ p = ap (λ (u : Seat). u.element) (g ∙ ap (λ xs. get_or xs i s) (sym c.as_slice.ensures)) ∙ c.in-Some.ensures.some.1 s in
    let w = c.in-Some-answered.waits.now in
    ap (λ ns. core_by e ns c.in_ok-jobs.jobs begun d) (c.set.ensures ∙ ap (λ xs. set xs i c.after_code.result) c.in_ok-next.ensures)
    ∙ replied e ss js c.in_ok-jobs.jobs begun d p (stamp c.args.corr) c.args.code i s c.after_code.result (waiting_of e w) c.effect_of-effect.result l g c.requires q
    c.in-Some-answered.ensures.some.1 c.in-Some-answered.ensures.some.0 c.after_code.ensures.element (c.after_code.ensures.peer e) c.in_ok-jobs.ensures
    (c.effect_of-effect.ensures p (jobs_of js) ∙ ap (λ b. by_code e p (body_of e w.asks) b (jobs_of js)) c.eq.ensures)

pub returns-clause-elements : goal.returns-clause-elements
returns-clause-elements c =
    let ss = c.args.seats.now in
    let i = c.in-Some.at in
    let s = c.index-as_slice-at.result in
    let l : i < length ss = omega (arith, c.in-Some.ensures.some.0, ap length c.as_slice.ensures) in
    let g : s ≡ get_or ss i s = c.index-as_slice-at.is ∙ ap (λ xs. get_or xs i s) c.as_slice-2.ensures in
    ap elements_of (c.set.ensures ∙ ap (λ xs. set xs i c.after_code.result) c.in_ok-next.ensures) ∙ elements_set ss i s c.after_code.result l g c.after_code.ensures.element
