use Rattle.std.proofs.Common.{◌≡◌, ◌++◌, drop, map}
use Rattle.std.specs.List.{flat_map}
use Rattle.fc_element.specs.ElementState.{told_one, told_txn}
use Rattle.fc_element.proofs.live.told_txns.Given as goal

abbrev pub invariant-loop-place : goal.invariant-loop-place
invariant-loop-place l = l.txns ++ flat_map told_one (drop l.place l.records.entries) ≡ map told_txn l.records.entries
