use Rattle.std.proofs.Common.{◌≤◌, ◌+◌, ◌*◌, length}
use Rattle.fc_lines.specs.LineReading.{steps_said}
use Rattle.fc_text.specs.HeadedReading.{paths_of}
use Rattle.fc_text.specs.TextReading.{body_at, path_line}
use Rattle.fc_text.proofs.Loops.{Going}
use Rattle.fc_text.proofs.read_path.+read.Given as goal

abbrev pub decreases-read_body : goal.decreases-read_body
decreases-read_body l = 6 * l.depth

abbrev pub decreases-read_open_body : goal.decreases-read_open_body
decreases-read_open_body l = 6 * l.depth + 5

abbrev pub decreases-read_headed_body : goal.decreases-read_headed_body
decreases-read_headed_body l = 6 * l.depth + 4

abbrev pub decreases-read_path : goal.decreases-read_path
decreases-read_path l = 6 * l.depth + 1

abbrev pub decreases-read_path_line : goal.decreases-read_path_line
decreases-read_path_line l = 6 * l.depth + 2

abbrev pub decreases-read_paths : goal.decreases-read_paths
decreases-read_paths l = 6 * l.depth + 3

abbrev pub invariant-read_paths-lines : goal.invariant-read_paths-lines
invariant-read_paths-lines l = record {
  going : Going l.level (path_line (body_at l.kind l.depth) l.level) l.paths l.lines (paths_of (body_at l.kind l.depth) l.level (steps_said l.fn.said) l.fn.lines);
  less : length l.lines.lines ≤ length l.fn.lines.lines;
}

abbrev pub decreases-read_paths-lines : goal.decreases-read_paths-lines
decreases-read_paths-lines l = length l.lines.lines
