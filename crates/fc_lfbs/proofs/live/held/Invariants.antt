use Rattle.std.proofs.Common.{◌≡◌, map, take}
use Rattle.std.specs.List.{filter}
use Rattle.fc_lfbs.specs.LiveValues.{is_held, transaction}
use Rattle.fc_lfbs.proofs.live.held.Given as goal

abbrev pub invariant-loop-txn : goal.invariant-loop-txn
invariant-loop-txn l = l.values ≡ map transaction (filter is_held (take l.txn-index l.txns))
