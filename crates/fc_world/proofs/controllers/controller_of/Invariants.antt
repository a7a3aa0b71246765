use Rattle.std.proofs.Common.{◌≡◌, drop, map}
use Rattle.fc_world.specs.Lookups.{controller_in}
use Rattle.fc_world.specs.Stages.{standing_of}
use Rattle.fc_world.proofs.controllers.controller_of.Given as goal

abbrev pub invariant-loop-controller : goal.invariant-loop-controller
invariant-loop-controller l = controller_in l.number (map standing_of (drop l.controller-index l.controllers)) ≡ controller_in l.number (map standing_of l.controllers)
