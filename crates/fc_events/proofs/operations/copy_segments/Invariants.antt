use Rattle.std.proofs.Common.{◌≡◌, take}
use Rattle.fc_events.proofs.operations.copy_segments.Given as goal

abbrev pub invariant-loop-segment : goal.invariant-loop-segment
invariant-loop-segment l = l.others.items ≡ take l.segment-index l.segments
