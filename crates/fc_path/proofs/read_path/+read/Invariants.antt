use Rattle.std.proofs.Common.{◌≡◌, ◌+◌, ◌*◌, ◌++◌, length, Ok}
use Rattle.fc_base.specs.Answers.{◌>>=◌}
use Rattle.fc_path.specs.Stray.{beside}
use Rattle.fc_path.specs.Reading.{each_in, path_or, path_at, nested_in}
use Rattle.fc_path.proofs.read_path.+read.Given as goal

abbrev pub decreases-read_path : goal.decreases-read_path
decreases-read_path l = 4 * l.depth

abbrev pub decreases-read_nested : goal.decreases-read_nested
decreases-read_nested l = 4 * l.depth + 1

abbrev pub decreases-owned_body : goal.decreases-owned_body
decreases-owned_body l = 4 * l.depth + 2

abbrev pub decreases-read_body : goal.decreases-read_body
decreases-read_body l = 4 * l.depth + 3

abbrev pub invariant-read_nested-items : goal.invariant-read_nested-items
invariant-read_nested-items l =
    (each_in (path_or beside (path_at l.kind l.depth)) l.tlvs.items l.tlvs.fault >>= λ more. Ok (l.paths ++ more))
    ≡ nested_in (path_at l.kind l.depth) l.first l.fn.tlvs.items l.fn.tlvs.fault

abbrev pub decreases-read_nested-items : goal.decreases-read_nested-items
decreases-read_nested-items l = length l.tlvs.items
