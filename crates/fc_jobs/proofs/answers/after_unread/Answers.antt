use Rattle.std.proofs.Common.{ℕ, Option, sym, ap, ◌∙◌}
use Rattle.fc_protocol.specs.MasterMachine.{Master, unread_told}
use Rattle.fc_jobs.specs.Sending.{Begun, core_by}
use Rattle.fc_jobs.proofs.Asking.{heard_as, unread_greater, unread_lost}
use Rattle.fc_jobs.proofs.answers.after_unread.Goals as goal

pub returns-in-None-clause-core : goal.returns-in-None-clause-core
returns-in-None-clause-core c =
    let m = λ (begun : Begun). core_by c.args.life.now.epoch c.args.seats.now c.args.jobs.now begun c.args.deposed in
    heard_as c.lose.result c.args.life.now.epoch _ (λ begun. unread_told (m begun) c.args.element c.args.told)
    (λ begun. ap (λ (o : Option ℕ). unread_told (m begun) c.args.element o) (sym c.in-None.is)) c.lose.ensures.core

pub returns-then-is_greater-clause-core : goal.returns-then-is_greater-clause-core
returns-then-is_greater-clause-core c =
    let m = λ (begun : Begun). core_by c.args.life.now.epoch c.args.seats.now c.args.jobs.now begun c.args.deposed in
    heard_as c.after_greater.result c.args.life.now.epoch _ (λ begun. unread_told (m begun) c.args.element c.args.told)
    (λ begun. unread_greater (m begun) c.args.element c.in-Some.told (sym c.is_greater.ensures ∙ c.if-is_greater.true) ∙ ap (λ (o : Option ℕ). unread_told (m begun) c.args.element o) (sym c.in-Some.is)) c.after_greater.ensures.core

pub returns-clause-core : goal.returns-clause-core
returns-clause-core c =
    let m = λ (begun : Begun). core_by c.args.life.now.epoch c.args.seats.now c.args.jobs.now begun c.args.deposed in
    heard_as c.lose-2.result c.args.life.now.epoch _ (λ begun. unread_told (m begun) c.args.element c.args.told)
    (λ begun. unread_lost (m begun) c.args.element c.in-Some.told (sym c.is_greater.ensures ∙ c.if-is_greater.false) ∙ ap (λ (o : Option ℕ). unread_told (m begun) c.args.element o) (sym c.in-Some.is)) c.lose-2.ensures.core
