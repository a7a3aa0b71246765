use Rattle.std.proofs.Common.{◌≡◌, take}
use Rattle.std.specs.List.{fold}
use Rattle.fc_world.specs.Trails.{past_out}
use Rattle.fc_world.proofs.trailing.Walk.pass_outs.Given as goal

abbrev pub invariant-loop-out : goal.invariant-loop-out
invariant-loop-out l = l.self.trail ≡ fold past_out l.fn.self.trail (take l.out-index l.outs)
