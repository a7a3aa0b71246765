use Rattle.std.proofs.Common.{◌≡◌, take}
use Rattle.fc_value.proofs.value.+copy.Given as goal

abbrev pub invariant-copy_values-loop-value : goal.invariant-copy_values-loop-value
invariant-copy_values-loop-value l = l.others ≡ take l.value-index l.value-items

abbrev pub invariant-copy_entries-loop-subscript : goal.invariant-copy_entries-loop-subscript
invariant-copy_entries-loop-subscript l = l.others ≡ take l.subscript-index l.subscript-items
