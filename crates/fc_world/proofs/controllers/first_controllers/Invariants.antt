use Rattle.std.proofs.Common.{◌≡◌, map, take}
use Rattle.fc_world.specs.Stages.{standing_of}
use Rattle.fc_world.specs.Worlds.{first_controller}
use Rattle.fc_world.proofs.controllers.first_controllers.Given as goal

abbrev pub invariant-loop-id : goal.invariant-loop-id
invariant-loop-id l = map standing_of l.controllers.items ≡ map first_controller (take l.id-index l.ids)
