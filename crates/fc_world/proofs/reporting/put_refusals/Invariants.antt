use Rattle.std.proofs.Common.{◌≡◌, ◌++◌, map, take}
use Rattle.std.specs.List.{flat_map}
use Rattle.fc_world.specs.Reports.{refusal_line}
use Rattle.fc_world.specs.Stages.{placed_refusal}
use Rattle.fc_world.proofs.reporting.put_refusals.Given as goal

abbrev pub invariant-loop-entry : goal.invariant-loop-entry
invariant-loop-entry l = l.into.items ≡ l.fn.into.items ++ flat_map refusal_line (map placed_refusal (take l.entry-index l.refused))
