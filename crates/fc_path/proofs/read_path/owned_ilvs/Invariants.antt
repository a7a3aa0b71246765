use Rattle.std.proofs.Common.{◌≡◌, ◌++◌, length, Ok}
use Rattle.fc_base.specs.Answers.{◌>>=◌}
use Rattle.fc_path.specs.Reading.{sparse_in}
use Rattle.fc_path.proofs.read_path.owned_ilvs.Given as goal

abbrev pub invariant-items : goal.invariant-items
invariant-items l = (sparse_in l.ilvs.items l.ilvs.fault >>= λ more. Ok (l.list ++ more)) ≡ sparse_in l.fn.ilvs.items l.fn.ilvs.fault

abbrev pub decreases-items : goal.decreases-items
decreases-items l = length l.ilvs.items
