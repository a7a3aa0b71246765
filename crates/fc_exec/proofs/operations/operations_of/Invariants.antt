use Rattle.std.proofs.Common.{◌≡◌, take}
use Rattle.fc_exec.specs.Operations.{operations}
use Rattle.fc_exec.proofs.operations.operations_of.Given as goal

abbrev pub invariant-loop-select : goal.invariant-loop-select
invariant-loop-select l = l.operations.items ≡ operations (take l.select-index l.selects)
