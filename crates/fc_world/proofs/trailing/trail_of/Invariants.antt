use Rattle.std.proofs.Common.{◌≡◌, drop}
use Rattle.std.specs.List.{fold}
use Rattle.fc_world.specs.Stages.{all_parcels}
use Rattle.fc_world.specs.Trails.{past, trail_of}
use Rattle.fc_world.proofs.trailing.trail_of.Given as goal

abbrev pub invariant-loop-batch : goal.invariant-loop-batch
invariant-loop-batch l = fold past l.walk.trail (all_parcels (drop l.batch-index l.batches)) ≡ trail_of (all_parcels l.batches)
