use Rattle.std.proofs.Common.{arith}
use Rattle.fc_rows.proofs.ColumnLaws.{one_empty}
use Rattle.fc_rows.proofs.columns.+no_pairs.Goals as goal

pub returns : goal.returns
returns t c = one_empty c.args.count c.in_ok-indexes.indexes.items c.push.new.self.items c.new-2.result (omega arith) c.in_ok-indexes.ensures c.new-2.ensures.pairs c.in_ok-push.ensures.items
