use Rattle.std.proofs.Common.{◌≡◌, ◌≤◌, ◌+◌, ◌*◌, ◌-◌, map, sum}
use Rattle.fc_generating.specs.Summaries.{entries, rows_at}
use Rattle.fc_scripts.specs.Steps.{numbers_from}
use Rattle.fc_world.specs.Played.{world_of}
use Rattle.fc_generating.proofs.counting.entries.Given as goal

abbrev pub invariant-loop-number : goal.invariant-loop-number
invariant-loop-number l = record {
  same : l.entries + sum (map (rows_at (world_of l.world)) (numbers_from l.number (9 - l.number))) ≡ entries (world_of l.world);
  few : l.entries ≤ (l.number - 1) * 1537228672809129301;
  some : 1 ≤ l.number;
}
