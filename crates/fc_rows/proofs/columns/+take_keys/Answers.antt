use Rattle.fc_rows.specs.Columns.{less_key}
use Rattle.fc_rows.proofs.ColumnLaws.{taken_last}
use Rattle.fc_rows.proofs.columns.+take_keys.Goals as goal

pub returns-in-len1-up : goal.returns-in-len1-up
returns-in-len1-up t c = taken_last less_key c.args.keys.now c.key-item.result c.as_slice.result.now c.args.indexes.now.items c.take_key.new.indexes.items c.take_keys.new.indexes.items
    c.in-len1-up.len_at_least c.key-item.is c.as_slice.ensures c.take_key.ensures c.take_keys.ensures
