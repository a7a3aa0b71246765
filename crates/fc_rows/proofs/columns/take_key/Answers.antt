use Rattle.std.proofs.Common.{arith, sym}
use Rattle.fc_rows.specs.Columns.{less_key}
use Rattle.fc_rows.proofs.ColumnLaws.{column_past, column_set, key_taken}
use Rattle.fc_rows.proofs.columns.take_key.Goals as goal

pub returns-then-place-len : goal.returns-then-place-len
returns-then-place-len c = column_set (less_key c.args.key.now) c.args.place c.args.indexes.now.items c.index_mut.result.now c.remove.new.self (omega arith) c.index_mut.ensures.value (key_taken c.args.key.now c.index_mut.result.now c.remove.new.self c.remove.ensures.pairs c.remove.ensures.room)

pub returns-else-place-len : goal.returns-else-place-len
returns-else-place-len c = sym (column_past (less_key c.args.key.now) c.args.place c.args.indexes.now.items (omega arith))
