use Rattle.std.proofs.Common.{◌≡◌, take}
use Rattle.std.specs.List.{flat_map}
use Rattle.fc_path.specs.Leaves.{select_leaves}
use Rattle.fc_events.proofs.operations.operations_of.Given as goal

abbrev pub invariant-loop-select : goal.invariant-loop-select
invariant-loop-select l = l.operations.items ≡ flat_map select_leaves (take l.select-index l.selects)
