use Rattle.std.proofs.Common.{◌≡◌, ◌+◌, ◌<◌, ◌++◌, ◌∷◌, [], List, length, get_or, refl, sym, ap, ◌∙◌, arith}
use Rattle.fc_protocol.specs.MasterMachine.{last_count}
use Rattle.fc_jobs.specs.declared.seat.Seat.{Seat}
use Rattle.fc_jobs.specs.declared.sending.CeOut.{CeOut}
use Rattle.fc_jobs.specs.Seats.{elements_of}
use Rattle.fc_jobs.specs.Sending.{are_apart, out}
use Rattle.fc_jobs.proofs.Seating.{elements_set}
use Rattle.fc_master.proofs.Entering.{last_is, plain_early, plain_is, plain_out}
use Rattle.fc_master.specs.Masters.{core_of}
use Rattle.fc_master.specs.Refusals.{begin_told_by}
use Rattle.fc_master.proofs.master.Master.plain.Goals as goal

pub overflow_add-count : goal.overflow_add-count
overflow_add-count c =
    let me = c.args.self.now in
    let p = c.args.element in
    let i = c.in-Some-place_of.at in
    let s = c.index-as_slice-at.result in
    let l : i < length me.seats = omega (arith, c.in-Some-place_of.ensures.some.0, ap length c.as_slice.ensures) in
    let g : s ≡ get_or me.seats i s = c.index-as_slice-at.is ∙ ap (λ xs. get_or xs i s) c.as_slice-2.ensures in
    let q : s.element ≡ p = ap (λ (u : Seat). u.element) (g ∙ ap (λ xs. get_or xs i s) (sym c.as_slice.ensures)) ∙ c.in-Some-place_of.ensures.some.1 s in
    let few : ((core_of me).at p).last < last_count = plain_early (core_of me) p (sym c.plain_fault.ensures ∙ ap begin_told_by c.in_default.is) in
    let same : s.last ≡ ((core_of me).at p).last = last_is me i s p l g q in
    omega (arith, few, same)

pub invariant_of-self-2 : goal.invariant_of-self-2
invariant_of-self-2 c =
    let me = c.args.self.now in
    let i = c.in-Some-place_of.at in
    let s = c.index-as_slice-at.result in
    let l : i < length me.seats = omega (arith, c.in-Some-place_of.ensures.some.0, ap length c.as_slice.ensures) in
    let g : s ≡ get_or me.seats i s = c.index-as_slice-at.is ∙ ap (λ xs. get_or xs i s) c.as_slice-2.ensures in
    record { apart = ap are_apart (ap elements_of c.set.ensures ∙ elements_set me.seats i s c.after_sending-next.result l g c.after_sending-next.ensures.element) ∙ me.apart }

pub returns-clause-core : goal.returns-clause-core
returns-clause-core c = λ k.
    let me = c.args.self.now in
    let p = c.args.element in
    let i = c.in-Some-place_of.at in
    let s = c.index-as_slice-at.result in
    let l : i < length me.seats = omega (arith, c.in-Some-place_of.ensures.some.0, ap length c.as_slice.ensures) in
    let g : s ≡ get_or me.seats i s = c.index-as_slice-at.is ∙ ap (λ xs. get_or xs i s) c.as_slice-2.ensures in
    let q : s.element ≡ p = ap (λ (u : Seat). u.element) (g ∙ ap (λ xs. get_or xs i s) (sym c.as_slice.ensures)) ∙ c.in-Some-place_of.ensures.some.1 s in
    plain_is me i s p l g q k (s.last + 1) c.after_sending-next.result c.set.new.self c.set.ensures refl c.after_sending-next.ensures.element (c.after_sending-next.ensures.peer me.life.epoch)

pub returns-clause-outs : goal.returns-clause-outs
returns-clause-outs c = λ k.
    let me = c.args.self.now in
    let p = c.args.element in
    let i = c.in-Some-place_of.at in
    let s = c.index-as_slice-at.result in
    let l : i < length me.seats = omega (arith, c.in-Some-place_of.ensures.some.0, ap length c.as_slice.ensures) in
    let g : s ≡ get_or me.seats i s = c.index-as_slice-at.is ∙ ap (λ xs. get_or xs i s) c.as_slice-2.ensures in
    let q : s.element ≡ p = ap (λ (u : Seat). u.element) (g ∙ ap (λ xs. get_or xs i s) (sym c.as_slice.ensures)) ∙ c.in-Some-place_of.ensures.some.1 s in
    c.in_ok-push.ensures.ok ∙ ap (λ (os : List CeOut). os ++ out p c.in_ok-message.message ∷ []) c.new-outs.ensures
    ∙ plain_out me i s p l g q k c.place.new.entries c.in_ok-message.message c.args.change c.in_ok-place.ensures.ok c.in_ok-message.ensures
