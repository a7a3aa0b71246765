use Rattle.std.proofs.Common.{◌≡◌, ◌++◌, take, drop}
use Rattle.fc_asks.specs.Tables.{placed}
use Rattle.fc_jobs.proofs.table.place_of.Given as goal

abbrev pub invariant-loop-at : goal.invariant-loop-at
invariant-loop-at g l = (v : g.row.V.Denot) → placed l.element v l.entries ≡ take l.at l.entries ++ placed l.element v (drop l.at l.entries)
