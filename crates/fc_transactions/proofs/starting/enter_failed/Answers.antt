use Rattle.std.proofs.Common.{◌∙◌, [], ap}
use Rattle.fc_protocol.specs.declared.states.Decision.TheVariants.{Abort}
use Rattle.fc_tx.proofs.Twice.{aborted_again}
use Rattle.fc_tx.specs.Records.{settle_turn, turned}
use Rattle.fc_transactions.proofs.starting.enter_failed.Goals as goal

pub returns-in-Ok-clause-ok : goal.returns-in-Ok-clause-ok
returns-in-Ok-clause-ok c =
    c.settle.ensures.after ∙ ap (λ r. turned c.args.admitted.txn [] [] (settle_turn Abort c.args.admitted.txn r) r) c.in-Ok.ensures.ok
    ∙ aborted_again c.args.admitted.txn c.args.admitted.participants c.args.scope c.args.records.now c.requires.accepted
