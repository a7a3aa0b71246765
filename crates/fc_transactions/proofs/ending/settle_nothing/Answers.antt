use Rattle.std.proofs.Common.{◌∷◌, [], ap}
use Rattle.fc_transactions.proofs.Done.{if_codes}
use Rattle.fc_transactions.proofs.Endings.{nothing_done, nothing_ledger}
use Rattle.fc_transactions.specs.Phases.{second_code}
use Rattle.fc_transactions.proofs.ending.settle_nothing.Goals as goal

pub returns-clause-done : goal.returns-clause-done
returns-clause-done c =
    nothing_done c.args.id c.args.peer c.args.request.now c.args.selects.now c.args.ledger.now c.args.txn c.requires.named c.requires.ended c.settle_code-code.result c.answer.result c.settle_code-code.ensures
    (if_codes c.args.peer c.args.request.now c.args.selects.now (c.settle_code-code.result ∷ c.second_code.result ∷ []) (c.settle_code-code.result ∷ second_code c.settle_code-code.result ∷ []) c.answer.result
    (ap (λ k. c.settle_code-code.result ∷ k ∷ []) c.second_code.ensures) c.answer.ensures)

pub returns-clause-same : goal.returns-clause-same
returns-clause-same c = nothing_ledger c.args.id c.args.peer c.args.request.now c.args.selects.now c.args.ledger.now c.args.txn c.requires.named c.requires.ended
