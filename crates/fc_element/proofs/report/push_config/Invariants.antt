use Rattle.std.proofs.Common.{◌≡◌, ◌++◌, drop}
use Rattle.std.specs.List.{flat_map}
use Rattle.fc_element.specs.Reports.{config_line}
use Rattle.fc_element.proofs.report.push_config.Given as goal

abbrev pub invariant-loop-change : goal.invariant-loop-change
invariant-loop-change l = l.into.items ++ flat_map config_line (drop l.change-index l.changes) ≡ l.fn.into.items ++ flat_map config_line l.fn.changes
