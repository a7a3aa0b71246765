use Rattle.std.proofs.Common.{◌≡◌, take, map}
use Rattle.fc_watch.specs.Watching.{without}
use Rattle.fc_watch.specs.declared.watch.Told.TheVariants.{Entry}
use Rattle.fc_watch.proofs.entries.without_any.Given as goal

abbrev pub invariant-loop-subscript : goal.invariant-loop-subscript
invariant-loop-subscript l = l.hits ≡ map Entry (without (take l.subscript-index l.these) l.those)
