use Rattle.std.proofs.Common.{◌≡◌, take}
use Rattle.fc_types.proofs.copies.+copy.Given as goal

abbrev pub invariant-copy_fields-loop-field : goal.invariant-copy_fields-loop-field
invariant-copy_fields-loop-field l = l.others ≡ take l.field-index l.field-items
