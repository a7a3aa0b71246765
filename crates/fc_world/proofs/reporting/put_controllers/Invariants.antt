use Rattle.std.proofs.Common.{◌≡◌, ◌++◌, map, take}
use Rattle.std.specs.List.{flat_map}
use Rattle.fc_world.specs.Reports.{controller_lines}
use Rattle.fc_world.specs.Stages.{standing_of}
use Rattle.fc_world.proofs.reporting.put_controllers.Given as goal

abbrev pub invariant-loop-controller : goal.invariant-loop-controller
invariant-loop-controller l = l.into.items ≡ l.fn.into.items ++ flat_map controller_lines (map standing_of (take l.controller-index l.controllers))
