use Rattle.std.proofs.Common.{◌≡◌, refl, sym, ap, ◌∙◌, nat_lt, false, None, []}
use Rattle.fc_protocol.specs.MasterMachine.{Master, is_lower}
use Rattle.fc_jobs.specs.Seats.{alone, peer_of}
use Rattle.fc_jobs.proofs.Asking.{stands_greater, stands_lower, stands_own, own_epoch}
use Rattle.fc_jobs.proofs.answers.weigh.Goals as goal

pub returns-then-is_greater-clause-exact : goal.returns-then-is_greater-clause-exact
returns-then-is_greater-clause-exact c = λ m good e y.
    stands_greater m good c.args.seat.now.element c.args.told (ap (λ n. nat_lt n c.args.told) e ∙ sym c.is_greater.ensures ∙ c.if-is_greater.true)

pub returns-then-is_lower-clause-exact : goal.returns-then-is_lower-clause-exact
returns-then-is_lower-clause-exact c = λ m good e y.
    stands_lower m good c.args.seat.now.element c.args.told (ap (λ n. nat_lt n c.args.told) e ∙ sym c.is_greater.ensures ∙ c.if-is_greater.false) (sym (c.is_lower.ensures m e y) ∙ c.if-is_lower.true)

pub returns-clause-exact : goal.returns-clause-exact
returns-clause-exact c = λ m good e y.
    stands_own m good c.args.seat.now.element c.args.told (ap (λ n. nat_lt n c.args.told) e ∙ sym c.is_greater.ensures ∙ c.if-is_greater.false) (sym (c.is_lower.ensures m e y) ∙ c.if-is_lower.false)

pub returns-clause-own : goal.returns-clause-own
returns-clause-own c = λ _.
    let e = c.args.epoch in
    let m = alone e (peer_of e c.args.seat.now) [] None in
    own_epoch e c.args.told _ (sym c.is_greater.ensures ∙ c.if-is_greater.false) (sym (c.is_lower.ensures m refl refl) ∙ c.if-is_lower.false)
