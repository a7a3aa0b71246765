use Rattle.std.proofs.Common.{◌≤◌, length}
use Rattle.fc_path.specs.Canon.{oper_written}
use Rattle.fc_text.specs.TextReading.{oper_at, some_at}
use Rattle.fc_making.proofs.WrittenParts.{Going_on}
use Rattle.fc_making.proofs.write_select.write_opers.Given as goal

abbrev pub invariant-lines : goal.invariant-lines
invariant-lines l = record {
  going : Going_on l.level (oper_at l.message l.level) oper_written l.lines (some_at l.level (oper_at l.message l.level) l.fn.lines) l.fn.to l.to;
  less : length l.lines.lines ≤ length l.fn.lines.lines;
}

abbrev pub decreases-lines : goal.decreases-lines
decreases-lines l = length l.lines.lines
