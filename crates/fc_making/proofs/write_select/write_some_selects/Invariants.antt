use Rattle.std.proofs.Common.{◌≤◌, length}
use Rattle.fc_path.specs.Canon.{select_written}
use Rattle.fc_text.specs.TextReading.{select_at, some_at}
use Rattle.fc_making.proofs.WrittenParts.{Going_on}
use Rattle.fc_making.proofs.write_select.write_some_selects.Given as goal

abbrev pub invariant-lines : goal.invariant-lines
invariant-lines l = record {
  going : Going_on l.level (select_at l.message l.level) select_written l.lines (some_at l.level (select_at l.message l.level) l.fn.lines) l.fn.to l.to;
  less : length l.lines.lines ≤ length l.fn.lines.lines;
}

abbrev pub decreases-lines : goal.decreases-lines
decreases-lines l = length l.lines.lines
