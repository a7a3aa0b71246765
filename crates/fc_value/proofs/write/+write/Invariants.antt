use Rattle.std.proofs.Common.{◌≡◌, ◌++◌, map, take, drop}
use Rattle.std.specs.List.{flat_map}
use Rattle.fc_value.specs.Writing.{each_bytes, entry_bytes, inside_bytes, inside_bytes_at}
use Rattle.fc_value.proofs.write.+write.Given as goal

abbrev pub invariant-write_fields-loop-field : goal.invariant-write_fields-loop-field
invariant-write_fields-loop-field l =
    l.into.items ++ each_bytes (map inside_bytes_at (drop l.field-index l.field-items)) l.rest
    ≡ l.fn.into.items ++ each_bytes (map inside_bytes_at l.field-items) l.values

abbrev pub invariant-write_entries-loop-subscript : goal.invariant-write_entries-loop-subscript
invariant-write_entries-loop-subscript l =
    l.into.items ≡ l.fn.into.items ++ flat_map (entry_bytes (inside_bytes l.entry)) (take l.subscript-index l.entries)
