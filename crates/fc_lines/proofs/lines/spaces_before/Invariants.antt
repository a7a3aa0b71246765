use Rattle.std.proofs.Common.{◌≡◌, ◌≤◌, ◌-◌, ◌+◌, length, drop}
use Rattle.fc_lines.specs.LineWords.{spaces_before}
use Rattle.fc_lines.proofs.lines.spaces_before.Given as goal

abbrev pub invariant-bytes : goal.invariant-bytes
invariant-bytes l = record {
  within : l.count ≤ length l.bytes;
  so_far : l.count + spaces_before (drop l.count l.bytes) ≡ spaces_before l.bytes;
}

abbrev pub decreases-bytes : goal.decreases-bytes
decreases-bytes l = length l.bytes - l.count
