use Rattle.std.proofs.Common.{◌≡◌, take}
use Rattle.fc_path.proofs.path.+copy.Given as goal

abbrev pub invariant-copy_paths-loop-path : goal.invariant-copy_paths-loop-path
invariant-copy_paths-loop-path l = l.others.items ≡ take l.path-index l.path-items
