use Rattle.std.proofs.Common.{◌≡◌, ◌++◌, length, Ok}
use Rattle.fc_base.specs.Answers.{◌>>=◌}
use Rattle.fc_path.specs.Stray.{misplaced}
use Rattle.fc_path.specs.Reading.{each_in, path_or, path_at}
use Rattle.fc_path.proofs.read_select.read_paths.Given as goal

abbrev pub invariant-items : goal.invariant-items
invariant-items l =
    (each_in (path_or misplaced (path_at l.kind 16)) l.tlvs.items l.tlvs.fault >>= λ more. Ok (l.paths ++ more))
    ≡ each_in (path_or misplaced (path_at l.kind 16)) l.fn.tlvs.items l.fn.tlvs.fault

abbrev pub decreases-items : goal.decreases-items
decreases-items l = length l.tlvs.items
