use Rattle.fc_tree.specs.Merging.{merged_rows}
use Rattle.fc_tree.proofs.Merges.{rows_popped}
use Rattle.fc_tree.proofs.merging.merge_rows.Goals as goal

pub loop-subscript-preserved : goal.loop-subscript-preserved
loop-subscript-preserved c = rows_popped c.loop-subscript.changes.items c.pop.new.self.items c.loop-subscript.entries (merged_rows c.args.changes c.args.entries) c.in-Some.subscript c.in-Some.value c.in_ok-entries.entries c.in-Some.ensures.items c.in_ok-entries.ensures c.loop-subscript.invariant
