use Rattle.std.proofs.Common.{arith, sym}
use Rattle.fc_rows.specs.Columns.{more_key}
use Rattle.fc_rows.proofs.ColumnLaws.{column_past, column_set}
use Rattle.fc_rows.proofs.columns.put_key.Goals as goal

pub returns-then-place-len : goal.returns-then-place-len
returns-then-place-len c = column_set (more_key c.args.subscript c.args.key) c.args.place c.args.indexes.now.items c.index_mut.result.now c.enter.new.index (omega arith) c.index_mut.ensures.value c.enter.ensures

pub returns-else-place-len : goal.returns-else-place-len
returns-else-place-len c = sym (column_past (more_key c.args.subscript c.args.key) c.args.place c.args.indexes.now.items (omega arith))
