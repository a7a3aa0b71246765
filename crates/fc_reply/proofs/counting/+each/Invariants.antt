use Rattle.std.proofs.Common.{◌≡◌, ◌++◌, drop}
use Rattle.fc_reply.specs.Counting.{paths_get}
use Rattle.fc_reply.proofs.counting.+each.Given as goal

abbrev pub invariant-push_paths-loop-path : goal.invariant-push_paths-loop-path
invariant-push_paths-loop-path l = l.to ++ paths_get l.code (drop l.path-index l.paths) ≡ l.fn.to ++ paths_get l.code l.paths
