use Rattle.std.proofs.Common.{◌≡◌, take}
use Rattle.fc_world.proofs.setting.copy_all.Given as goal

abbrev pub invariant-loop-transaction : goal.invariant-loop-transaction
invariant-loop-transaction l = l.others ≡ take l.transaction-index l.transactions
