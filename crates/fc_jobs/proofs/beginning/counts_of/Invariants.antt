use Rattle.std.proofs.Common.{◌≡◌, true, map, take, drop}
use Rattle.std.specs.List.{list_all}
use Rattle.fc_plans.specs.Plans.{has_changes}
use Rattle.fc_jobs.specs.Plans.{counted}
use Rattle.fc_jobs.proofs.beginning.counts_of.Given as goal

abbrev pub invariant-loop-part : goal.invariant-loop-part
invariant-loop-part l = record {
  counts : l.counts ≡ map counted (take l.part-index l.parts);
  rest : list_all has_changes (drop l.part-index l.parts) ≡ true;
}
