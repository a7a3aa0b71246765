use Rattle.std.proofs.Common.{◌≡◌, ◌∙◌, subst, sym}
use Rattle.std.specs.Prelude.{IfOk, OnOk}
use Rattle.fc_transactions.proofs.Unclaimed.{unclaimed_done, unclaimed_goes}
use Rattle.fc_transactions.specs.Done.{IsDone}
use Rattle.fc_transactions.specs.Order.{unclaimed, with_ledger}
use Rattle.fc_transactions.specs.State.{TransactionState}
use Rattle.fc_transactions.specs.contracts.transactions.Transactions.{the_view}
use Rattle.fc_transactions.proofs.transactions.Transactions.unclaimed.Goals as goal

pub returns-in-None-clause-done : goal.returns-in-None-clause-done
returns-in-None-clause-done c =
    subst (λ (s : TransactionState). IfOk c.perform.result (λ a. IsDone s.id c.args.peer c.args.request.now c.args.selects.now (unclaimed s c.args.request.now c.args.selects.now) a)) c.self.view_is
    (unclaimed_done (the_view c.self.inside) c.args.peer c.args.request.now c.args.selects.now (sym c.in-None.is ∙ c.unclaimed_refusal.ensures) c.perform.result c.perform.ensures.done)

pub returns-in-None-clause-ok : goal.returns-in-None-clause-ok
returns-in-None-clause-ok c =
    subst (λ (s : TransactionState). OnOk c.perform.result (with_ledger (the_view c.self.inside) c.perform.new.ledger ≡ with_ledger s (unclaimed s c.args.request.now c.args.selects.now).ledger)) c.self.view_is
    (unclaimed_goes (the_view c.self.inside) c.args.peer c.args.request.now c.args.selects.now (sym c.in-None.is ∙ c.unclaimed_refusal.ensures) c.perform.new.ledger c.perform.result c.perform.ensures.ok)
