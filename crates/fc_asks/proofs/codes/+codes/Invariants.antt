use Rattle.std.proofs.Common.{◌≡◌, ◌++◌, take}
use Rattle.std.specs.List.{flat_map}
use Rattle.fc_asks.specs.Codes.{path_codes}
use Rattle.fc_asks.proofs.codes.+codes.Given as goal

abbrev pub invariant-push_paths-loop-path : goal.invariant-push_paths-loop-path
invariant-push_paths-loop-path l = l.codes.items ≡ l.fn.codes.items ++ flat_map path_codes (take l.path-index l.paths)
