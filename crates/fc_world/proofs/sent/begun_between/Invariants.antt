use Rattle.std.proofs.Common.{◌-◌, ◌<◌, ◌≤◌, length}
use Rattle.std.specs.List.{HoldsAt}
use Rattle.fc_world.specs.declared.sent.Batch.{Batch}
use Rattle.fc_world.proofs.sent.begun_between.Given as goal

abbrev pub invariant-loop-low : goal.invariant-loop-low
invariant-loop-low l = record {
  ordered : l.low ≤ l.high;
  within : l.high ≤ length l.batches;
  begun : 0 < l.low → HoldsAt (λ (b : Batch). b.before ≤ l.place) l.batches (l.low - 1);
  later : l.high < length l.batches → HoldsAt (λ (b : Batch). l.place < b.before) l.batches l.high;
}

abbrev pub decreases-loop-low : goal.decreases-loop-low
decreases-loop-low l = l.high - l.low
