use Rattle.std.proofs.Common.{take, map, Ok}
use Rattle.fc_path.specs.Canon.{Pushed, joined, path_written}
use Rattle.fc_path.proofs.write.+write.Given as goal

abbrev pub invariant-write_paths-loop-path : goal.invariant-write_paths-loop-path
invariant-write_paths-loop-path l = Pushed (Ok tt) l.fn.to l.to (joined (map path_written (take l.path-index l.paths)))
