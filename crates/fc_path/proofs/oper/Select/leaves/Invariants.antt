use Rattle.std.proofs.Common.{◌≡◌, take}
use Rattle.std.specs.List.{flat_map}
use Rattle.fc_path.specs.Leaves.{oper_leaves}
use Rattle.fc_path.proofs.oper.Select.leaves.Given as goal

abbrev pub invariant-loop-oper : goal.invariant-loop-oper
invariant-loop-oper l = l.leaves ≡ flat_map (oper_leaves l.self.class l.self.instance) (take l.oper-index l.self.opers)
