use Rattle.std.proofs.Common.{◌≡◌, subst}
use Rattle.fc_transactions.specs.Order.{says}
use Rattle.fc_transactions.specs.Phases.{acts}
use Rattle.fc_transactions.specs.State.{TransactionState}
use Rattle.fc_transactions.proofs.transactions.Transactions.take.Goals as goal

pub returns-clause-outs : goal.returns-clause-outs
returns-clause-outs c =
    subst (λ (s : TransactionState). c.in_ok-done.done.outs ≡ says s.id c.args.peer c.args.request.now c.args.selects.now (acts s.id s.epoch s.ledger c.args.request.now c.args.selects.now c.args.asked.now)) c.self.view_is
    c.in_ok-done.ensures.done.outs
