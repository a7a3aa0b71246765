use Rattle.std.proofs.Common.{take, map, Some}
use Rattle.fc_path.specs.Canon.{joined, path_written}
use Rattle.fc_path.specs.Results.{Held}
use Rattle.fc_path.proofs.measuring.+measure.Given as goal

abbrev pub invariant-written_paths-loop-path : goal.invariant-written_paths-loop-path
invariant-written_paths-loop-path l = Held 65532 (Some l.sum) (joined (map path_written (take l.path-index l.paths)))
