use Rattle.std.proofs.Common.{◌≤◌, length}
use Rattle.fc_lines.specs.LineReading.{ilv_at}
use Rattle.fc_text.specs.TextReading.{many_at}
use Rattle.fc_text.proofs.Loops.{Going}
use Rattle.fc_text.proofs.read_path.read_ilvs.Given as goal

abbrev pub invariant-lines : goal.invariant-lines
invariant-lines l = record {
  going : Going l.level (ilv_at l.level) l.ilvs l.lines (many_at l.level (ilv_at l.level) l.fn.lines);
  less : length l.lines.lines ≤ length l.fn.lines.lines;
}

abbrev pub decreases-lines : goal.decreases-lines
decreases-lines l = length l.lines.lines
