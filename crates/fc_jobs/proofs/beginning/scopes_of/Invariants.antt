use Rattle.std.proofs.Common.{◌≡◌, map, take}
use Rattle.fc_jobs.specs.Plans.{scoped}
use Rattle.fc_jobs.proofs.beginning.scopes_of.Given as goal

abbrev pub invariant-loop-part : goal.invariant-loop-part
invariant-loop-part l = l.scopes ≡ map scoped (take l.part-index l.parts)
