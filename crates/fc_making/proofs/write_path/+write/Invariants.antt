use Rattle.std.proofs.Common.{◌≤◌, ◌+◌, ◌*◌, length}
use Rattle.fc_path.specs.Canon.{path_written}
use Rattle.fc_lines.specs.LineReading.{steps_said}
use Rattle.fc_text.specs.HeadedReading.{paths_of}
use Rattle.fc_text.specs.TextReading.{body_at, path_line}
use Rattle.fc_making.proofs.WrittenParts.{Going_on}
use Rattle.fc_making.proofs.write_path.+write.Given as goal

abbrev pub decreases-write_body : goal.decreases-write_body
decreases-write_body l = 6 * l.depth

abbrev pub decreases-write_open_body : goal.decreases-write_open_body
decreases-write_open_body l = 6 * l.depth + 5

abbrev pub decreases-write_headed_body : goal.decreases-write_headed_body
decreases-write_headed_body l = 6 * l.depth + 4

abbrev pub decreases-write_path : goal.decreases-write_path
decreases-write_path l = 6 * l.depth + 1

abbrev pub decreases-write_path_line : goal.decreases-write_path_line
decreases-write_path_line l = 6 * l.depth + 2

abbrev pub decreases-write_paths : goal.decreases-write_paths
decreases-write_paths l = 6 * l.depth + 3

abbrev pub invariant-write_paths-lines : goal.invariant-write_paths-lines
invariant-write_paths-lines l = record {
  going : Going_on l.level (path_line (body_at l.kind l.depth) l.level) path_written l.lines (paths_of (body_at l.kind l.depth) l.level (steps_said l.fn.said) l.fn.lines) l.fn.to l.to;
  less : length l.lines.lines ≤ length l.fn.lines.lines;
}

abbrev pub decreases-write_paths-lines : goal.decreases-write_paths-lines
decreases-write_paths-lines l = length l.lines.lines
