use Rattle.std.proofs.Common.{◌∙◌}
use Rattle.fc_tree.proofs.Merges.{row_new, row_set}
use Rattle.fc_tree.proofs.merging.set_row.Goals as goal

pub returns-in-Ok : goal.returns-in-Ok
returns-in-Ok c = c.from_vec.ensures ∙ row_set c.args.subscript c.in-Ok.place c.args.entries c.as_slice.result.now c.into_vec-entries.result.items c.index_mut.result.now c.args.value c.replace.new.dest c.as_slice.ensures c.into_vec-entries.ensures c.in-Ok.ensures.place c.index_mut.ensures.value c.replace.ensures.after

pub returns-in_ok-insert-in-Err : goal.returns-in_ok-insert-in-Err
returns-in_ok-insert-in-Err c = c.from_vec-in-Err.ensures ∙ row_new c.args.subscript c.in-Err.place c.args.entries c.as_slice.result.now c.into_vec-entries-in-Err.result.items c.insert.new.self.items c.args.value c.as_slice.ensures c.into_vec-entries-in-Err.ensures c.in-Err.ensures.place c.in_ok-insert-in-Err.ensures.items
