use Rattle.std.proofs.Common.{◌≤◌, length}
use Rattle.fc_path.specs.Canon.{ilv_written}
use Rattle.fc_lines.specs.LineReading.{ilv_at}
use Rattle.fc_text.specs.TextReading.{many_at}
use Rattle.fc_making.proofs.WrittenParts.{Going_on}
use Rattle.fc_making.proofs.write_path.write_ilvs.Given as goal

abbrev pub invariant-lines : goal.invariant-lines
invariant-lines l = record {
  going : Going_on l.level (ilv_at l.level) ilv_written l.lines (many_at l.level (ilv_at l.level) l.fn.lines) l.fn.to l.to;
  less : length l.lines.lines ≤ length l.fn.lines.lines;
}

abbrev pub decreases-lines : goal.decreases-lines
decreases-lines l = length l.lines.lines
