use Rattle.std.proofs.Common.{◌≡◌, ◌++◌, take}
use Rattle.std.specs.List.{flat_map}
use Rattle.fc_path.specs.Leaves.{oper_leaves}
use Rattle.fc_events.proofs.operations.push_opers.Given as goal

abbrev pub invariant-loop-oper : goal.invariant-loop-oper
invariant-loop-oper l = l.operations.items ≡ l.fn.operations.items ++ flat_map (oper_leaves l.class l.instance) (take l.oper-index l.opers)
