use Rattle.std.proofs.Common.{◌++◌}
use Rattle.std.specs.List.{flat_map}
use Rattle.fc_element.specs.Reports.{record_line}
use Rattle.fc_element.proofs.Recorded.{further, whole}
use Rattle.fc_element.proofs.report.push_records.Goals as goal

pub loop-place-preserved : goal.loop-place-preserved
loop-place-preserved c =
    further record_line (c.args.into.now.items ++ flat_map record_line c.args.records.now.entries) c.args.records.now.entries c.loop-place.place c.loop-place.into.items c.push_record_at.new.into.items
    c.in_ok-push_record_at.ensures c.loop-place.invariant

pub returns : goal.returns
returns c =
    whole record_line (c.args.into.now.items ++ flat_map record_line c.args.records.now.entries) c.args.records.now.entries c.loop-place.place c.len-place-end.result c.loop-place.into.items
    c.len-place-end.ensures.same c.loop-place-test.false c.loop-place.invariant
