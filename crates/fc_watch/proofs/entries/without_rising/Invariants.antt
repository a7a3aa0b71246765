use Rattle.std.proofs.Common.{◌≡◌, ◌++◌, drop, map}
use Rattle.fc_watch.proofs.Along.{along}
use Rattle.fc_watch.specs.declared.watch.Told.TheVariants.{Entry}
use Rattle.fc_watch.proofs.entries.without_rising.Given as goal

abbrev pub invariant-loop-subscript : goal.invariant-loop-subscript
invariant-loop-subscript l = l.hits ++ map Entry (along (drop l.subscript-index l.these) l.rest) ≡ map Entry (along l.these l.those)
