use Rattle.std.proofs.Common.{◌-◌, length}
use Rattle.fc_lines.specs.LineWords.{Digits}
use Rattle.fc_lines.proofs.front.digits_in_front.Given as goal

abbrev pub invariant-digits : goal.invariant-digits
invariant-digits l = Digits l.bytes l.number l.len

abbrev pub decreases-digits : goal.decreases-digits
decreases-digits l = length l.bytes - l.len
