use Rattle.std.proofs.Common.{◌≡◌, drop}
use Rattle.fc_protocol.specs.Collections.{among as stands}
use Rattle.fc_jobs.proofs.table.among.Given as goal

abbrev pub invariant-loop-other : goal.invariant-loop-other
invariant-loop-other l = stands l.element (drop l.other-index l.elements) ≡ stands l.element l.elements
