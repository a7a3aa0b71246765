use Rattle.std.proofs.Common.{take, map, Some}
use Rattle.fc_path.specs.Canon.{joined, path_written}
use Rattle.fc_path.specs.Results.{Held, path_results}
use Rattle.fc_path.proofs.results.+size.Given as goal

abbrev pub invariant-paths_size-loop-path : goal.invariant-paths_size-loop-path
invariant-paths_size-loop-path l = Held 65532 (Some l.sum) (joined (map (λ p. path_written (path_results p)) (take l.path-index l.paths)))
