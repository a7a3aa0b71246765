use Rattle.std.proofs.Common.{◌≡◌, drop}
use Rattle.std.specs.List.{AllByRecursion}
use Rattle.fc_scripts.specs.Kept.{CanBeSaid}
use Rattle.fc_world.specs.Played.{world_of}
use Rattle.fc_playing.specs.Playing.{played}
use Rattle.fc_playing.proofs.playing.play.Given as goal

abbrev pub invariant-loop-step : goal.invariant-loop-step
invariant-loop-step l = record {
  come : played l.world.setting.transactions (world_of l.world) (drop l.step-index l.steps) ≡ played l.fn.world.setting.transactions (world_of l.fn.world) l.steps;
  said : AllByRecursion CanBeSaid (drop l.step-index l.steps);
}
