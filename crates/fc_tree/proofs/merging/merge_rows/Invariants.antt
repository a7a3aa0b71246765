use Rattle.std.proofs.Common.{◌≡◌, length}
use Rattle.fc_tree.specs.Merging.{merged_rows}
use Rattle.fc_tree.proofs.merging.merge_rows.Given as goal

abbrev pub invariant-loop-subscript : goal.invariant-loop-subscript
invariant-loop-subscript l = merged_rows l.changes.items l.entries ≡ merged_rows l.fn.changes l.fn.entries

abbrev pub decreases-loop-subscript : goal.decreases-loop-subscript
decreases-loop-subscript l = length l.changes.items
