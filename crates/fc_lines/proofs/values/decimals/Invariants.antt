use Rattle.std.proofs.Common.{◌≡◌, ◌<◌, ◌^◌, drop}
use Rattle.fc_lines.specs.WordValues.{decimals}
use Rattle.fc_lines.proofs.values.decimals.Given as goal

abbrev pub invariant-loop-byte : goal.invariant-loop-byte
invariant-loop-byte l = record {
  so_far : decimals l.number (drop l.byte-index l.word) ≡ decimals 0 l.word;
  small : l.number < 2 ^ 32;
}
