use Rattle.std.proofs.Common.{◌≡◌, ◌++◌, drop}
use Rattle.std.specs.List.{flat_map}
use Rattle.fc_element.specs.Reports.{record_line}
use Rattle.fc_element.proofs.report.push_records.Given as goal

abbrev pub invariant-loop-place : goal.invariant-loop-place
invariant-loop-place l = l.into.items ++ flat_map record_line (drop l.place l.records.entries) ≡ l.fn.into.items ++ flat_map record_line l.records.entries
