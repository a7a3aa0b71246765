use Rattle.std.proofs.Common.{◌≡◌, take, map, min, sum}
use Rattle.fc_types.specs.Types.{full_size_at}
use Rattle.fc_types.proofs.size.+size.Given as goal

abbrev pub invariant-fields_size_capped-loop-field : goal.invariant-fields_size_capped-loop-field
invariant-fields_size_capped-loop-field l = l.size ≡ min 1048576 (sum (map full_size_at (take l.field-index l.field-items)))
