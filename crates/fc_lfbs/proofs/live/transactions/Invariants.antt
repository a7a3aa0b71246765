use Rattle.std.proofs.Common.{◌≡◌, map, take}
use Rattle.fc_lfbs.specs.LiveValues.{transaction}
use Rattle.fc_lfbs.proofs.live.transactions.Given as goal

abbrev pub invariant-loop-txn : goal.invariant-loop-txn
invariant-loop-txn l = l.values ≡ map transaction (take l.txn-index l.txns)
