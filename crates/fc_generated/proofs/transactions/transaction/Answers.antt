use Rattle.fc_generated.proofs.Appending.{transaction_is}
use Rattle.fc_generated.proofs.transactions.transaction.Goals as goal

pub returns : goal.returns
returns c = transaction_is c.args.number c.in_ok-decimal.field-0 c.in_ok-parts.field-0 c.in_ok-decimal.ensures c.in_ok-parts.ensures
