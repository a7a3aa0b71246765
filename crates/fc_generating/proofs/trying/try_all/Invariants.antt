use Rattle.std.proofs.Common.{◌≡◌, length}
use Rattle.std.specs.List.{AllByRecursion}
use Rattle.fc_scripts.specs.Kept.{CanBeSaid}
use Rattle.fc_world.specs.Played.{world_of}
use Rattle.fc_generating.specs.Trying.{Follows, tried}
use Rattle.fc_generating.proofs.trying.try_all.Given as goal

abbrev pub invariant-loop-place : goal.invariant-loop-place
invariant-loop-place l = record {
  come : tried l.world.setting.transactions (world_of l.world) l.place-iterator.rest.items ≡ tried l.fn.world.setting.transactions (world_of l.fn.world) l.fn.steps.items;
  said : AllByRecursion CanBeSaid l.place-iterator.rest.items;
  follows : Follows l.trail (world_of l.world);
}

abbrev pub decreases-loop-place : goal.decreases-loop-place
decreases-loop-place l = length l.place-iterator.rest.items
