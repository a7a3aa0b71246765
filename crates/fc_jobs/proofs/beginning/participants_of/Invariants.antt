use Rattle.std.proofs.Common.{◌≡◌, map, take}
use Rattle.fc_jobs.specs.Plans.{participants_of}
use Rattle.fc_jobs.proofs.beginning.participants_of.Given as goal

abbrev pub invariant-loop-part : goal.invariant-loop-part
invariant-loop-part l = l.elements ≡ participants_of (take l.part-index l.parts)
