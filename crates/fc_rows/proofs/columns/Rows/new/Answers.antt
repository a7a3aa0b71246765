use Rattle.fc_rows.proofs.ColumnLaws.{new_kept}
use Rattle.fc_rows.proofs.columns.Rows.new.Goals as goal

pub invariant_of-result : goal.invariant_of-result
invariant_of-result c = new_kept c.new.result (c.args.fields, c.args.keys) c.in_ok-indexes.indexes.items _ c.new.ensures c.in_ok-indexes.ensures c.len.ensures
