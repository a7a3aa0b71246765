use Rattle.std.proofs.Common.{◌≡◌, ◌<◌, ◌*◌, ◌^◌, take}
use Rattle.fc_value.specs.Numbers.{unsigned}
use Rattle.fc_value.proofs.number.unsigned.Given as goal

abbrev pub invariant-loop-byte : goal.invariant-loop-byte
invariant-loop-byte l = record {
  value : l.number ≡ unsigned (take l.byte-index l.bytes);
  bound : l.number < 2 ^ (8 * l.byte-index);
}
