use Rattle.std.proofs.Common.{◌≡◌, ◌++◌, take}
use Rattle.fc_events.specs.Operations.{steps_along}
use Rattle.fc_events.proofs.operations.push_segments.Given as goal

abbrev pub invariant-loop-segment : goal.invariant-loop-segment
invariant-loop-segment l = l.steps ≡ l.fn.steps ++ steps_along (take l.segment-index l.segments)
