use Rattle.std.proofs.Common.{◌≡◌, ◌++◌}
use Rattle.fc_types.proofs.library.Library.with.Given as goal

abbrev pub invariant-loop-class : goal.invariant-loop-class
invariant-loop-class l = l.classes ≡ l.fn.self ++ l.yielded
