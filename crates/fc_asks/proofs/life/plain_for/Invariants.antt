use Rattle.std.proofs.Common.{◌≡◌, drop}
use Rattle.fc_asks.specs.Tables.{found}
use Rattle.fc_asks.proofs.life.plain_for.Given as goal

abbrev pub invariant-loop-plain : goal.invariant-loop-plain
invariant-loop-plain l = found l.element (drop l.plain-index l.plains) ≡ found l.element l.plains
