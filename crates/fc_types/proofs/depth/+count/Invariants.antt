use Rattle.std.proofs.Common.{◌≡◌, take, map, min, sum}
use Rattle.fc_types.specs.Types.{fields_at}
use Rattle.fc_types.proofs.depth.+count.Given as goal

abbrev pub invariant-fields_counted_in-loop-field : goal.invariant-fields_counted_in-loop-field
invariant-fields_counted_in-loop-field l = l.count ≡ min 1025 (sum (map fields_at (take l.field-index l.field-items)))
