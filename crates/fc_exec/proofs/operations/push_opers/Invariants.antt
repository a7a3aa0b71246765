use Rattle.std.proofs.Common.{◌≡◌, ◌++◌, take}
use Rattle.std.specs.List.{flat_map}
use Rattle.fc_exec.specs.Operations.{oper_operations}
use Rattle.fc_exec.proofs.operations.push_opers.Given as goal

abbrev pub invariant-loop-oper : goal.invariant-loop-oper
invariant-loop-oper l = l.operations.items ≡ l.fn.operations.items ++ flat_map (oper_operations l.class l.instance) (take l.oper-index l.opers)
