use Rattle.std.proofs.Common.{take}
use Rattle.fc_world.specs.Lookups.{IsIndex}
use Rattle.fc_world.proofs.naming.index_of.Given as goal

abbrev pub invariant-loop-place : goal.invariant-loop-place
invariant-loop-place l = IsIndex l.names.0 (take l.place l.transactions)
