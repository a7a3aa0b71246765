use Rattle.std.proofs.Common.{◌≡◌, drop, length}
use Rattle.fc_world.specs.Played.{world_of}
use Rattle.fc_world.specs.Trails.{gone_on}
use Rattle.fc_world.proofs.trail.Trail.go_on.Given as goal

abbrev pub invariant-loop : goal.invariant-loop
invariant-loop l = gone_on (world_of l.world).sent l.self ≡ gone_on (world_of l.world).sent l.fn.self

abbrev pub decreases-loop : goal.decreases-loop
decreases-loop l = length (drop l.self.count (world_of l.world).sent)
