use Rattle.std.proofs.Common.{◌≤◌, length}
use Rattle.fc_text.specs.TextReading.{oper_at, some_at}
use Rattle.fc_text.proofs.Loops.{Going}
use Rattle.fc_text.proofs.read_select.read_opers.Given as goal

abbrev pub invariant-lines : goal.invariant-lines
invariant-lines l = record {
  going : Going l.level (oper_at l.message l.level) l.opers l.lines (some_at l.level (oper_at l.message l.level) l.fn.lines);
  less : length l.lines.lines ≤ length l.fn.lines.lines;
}

abbrev pub decreases-lines : goal.decreases-lines
decreases-lines l = length l.lines.lines
