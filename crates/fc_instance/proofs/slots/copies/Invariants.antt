use Rattle.std.proofs.Common.{◌≡◌, take}
use Rattle.fc_instance.proofs.slots.copies.Given as goal

abbrev pub invariant-loop-field : goal.invariant-loop-field
invariant-loop-field l = l.others ≡ take l.field-index l.fields
