use Rattle.std.proofs.Common.{◌≡◌, length}
use Rattle.fc_tree.specs.Merging.{merged_fields}
use Rattle.fc_tree.proofs.merging.merge_fields.Given as goal

abbrev pub invariant-loop-id : goal.invariant-loop-id
invariant-loop-id l = merged_fields l.fields l.changes.items l.value ≡ merged_fields l.fields l.fn.changes l.fn.value

abbrev pub decreases-loop-id : goal.decreases-loop-id
decreases-loop-id l = length l.changes.items
