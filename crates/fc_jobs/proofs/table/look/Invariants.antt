use Rattle.std.proofs.Common.{◌≡◌, drop}
use Rattle.fc_asks.specs.Tables.{found}
use Rattle.fc_jobs.proofs.table.look.Given as goal

abbrev pub invariant-loop-entry : goal.invariant-loop-entry
invariant-loop-entry g l = found l.element (drop l.entry-index l.entries) ≡ found l.element l.entries
